-- `nutation::rows::RowAt::argument` meets its contract. Assumes nothing.
use Rattle.nutation.proofs.Products.{products_fit, sums_fit, sum_is}
use Rattle.nutation.proofs.rows.RowAt.argument.Goals as goal

pub overflow_mul-result : goal.overflow_mul-result
overflow_mul-result c = let s = c.args.self in (products_fit s.t s.row s.arguments s.small s.at).0

pub overflow_mul-result-2 : goal.overflow_mul-result-2
overflow_mul-result-2 c = let s = c.args.self in (products_fit s.t s.row s.arguments s.small s.at).1

pub overflow_mul-result-3 : goal.overflow_mul-result-3
overflow_mul-result-3 c = let s = c.args.self in (products_fit s.t s.row s.arguments s.small s.at).2

pub overflow_mul-result-4 : goal.overflow_mul-result-4
overflow_mul-result-4 c = let s = c.args.self in (products_fit s.t s.row s.arguments s.small s.at).3

pub overflow_mul-result-5 : goal.overflow_mul-result-5
overflow_mul-result-5 c = let s = c.args.self in (products_fit s.t s.row s.arguments s.small s.at).4

pub overflow_add-result : goal.overflow_add-result
overflow_add-result c = let s = c.args.self in (sums_fit s.t s.row s.arguments s.small s.at).0

pub overflow_add-result-2 : goal.overflow_add-result-2
overflow_add-result-2 c = let s = c.args.self in (sums_fit s.t s.row s.arguments s.small s.at).1

pub overflow_add-result-3 : goal.overflow_add-result-3
overflow_add-result-3 c = let s = c.args.self in (sums_fit s.t s.row s.arguments s.small s.at).2

pub overflow_add-result-4 : goal.overflow_add-result-4
overflow_add-result-4 c = let s = c.args.self in (sums_fit s.t s.row s.arguments s.small s.at).3

pub returns : goal.returns
returns c = let s = c.args.self in sum_is s.t s.row s.arguments s.small s.at
