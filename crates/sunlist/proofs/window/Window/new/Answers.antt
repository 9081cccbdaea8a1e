-- `sunlist::window::Window::new` meets its contract. Assumes nothing.
use Rattle.std.proofs.Common.{rules, ◌≡◌, ◌-◌, nat_abs, true, false, sym, ap, ◌∙◌, arith, ℕ}
use Rattle.units.specs.Units.{t_limit, in_limit}
use Rattle.units.proofs.Limit.{size_within}
use Rattle.sunlist.specs.SunList.{minute, window_fits}
use Rattle.sunlist.proofs.Limits.{fits_is}
use Rattle.sunlist.proofs.Calling.{bad_window, first_refused, last_refused, minutes_in, left_to_series}
use Rattle.sunlist.proofs.window.Window.new.Goals as goal

pub returns-then-not-fits : goal.returns-then-not-fits
returns-then-not-fits c =
    let f : window_fits c.args.minutes c.args.keep_out ≡ false = search rules in
    bad_window c.args.t0 _ _ f

pub returns-then-not-in_limit : goal.returns-then-not-in_limit
returns-then-not-in_limit c =
    let f : window_fits c.args.minutes c.args.keep_out ≡ true = search rules in
    first_refused c.args.t0 _ _ f (sym c.in_limit.ensures ∙ c.if-not-in_limit.true)

pub overflow_sub-n : goal.overflow_sub-n
overflow_sub-n c =
    let f : window_fits c.args.minutes c.args.keep_out ≡ true = search rules in
    let n : c.unsigned_abs-n.result ≡ nat_abs c.args.minutes = search rules in
    let l = (fits_is _ _ f).minutes_in.least in
    omega arith

pub minute-last-requires : goal.minute-last-requires
minute-last-requires c =
    let f : window_fits c.args.minutes c.args.keep_out ≡ true = search rules in
    let n : c.unsigned_abs-n.result ≡ nat_abs c.args.minutes = search rules in
    let l = (fits_is _ _ f).minutes_in.least in
    let m = (fits_is _ _ f).minutes_in.most in
    (size_within t_limit _ (sym c.in_limit.ensures ∙ c.if-not-in_limit.false), omega arith)

pub returns-then-not-in_limit-2 : goal.returns-then-not-in_limit-2
returns-then-not-in_limit-2 c =
    let f : window_fits c.args.minutes c.args.keep_out ≡ true = search rules in
    let n : c.unsigned_abs-n.result ≡ nat_abs c.args.minutes = search rules in
    last_refused c.args.t0 _ _ f (sym c.in_limit.ensures ∙ c.if-not-in_limit.false) c.minute-last.result
    (c.minute-last.ensures ∙ ap (λ (m : ℕ). minute c.args.t0 (m - 1)) n) (sym c.in_limit-2.ensures ∙ c.if-not-in_limit-2.true)

pub invariant_of-result : goal.invariant_of-result
invariant_of-result c =
    let f : window_fits c.args.minutes c.args.keep_out ≡ true = search rules in
    let n : c.unsigned_abs-n.result ≡ nat_abs c.args.minutes = search rules in
    let k : c.unsigned_abs.result ≡ nat_abs c.args.keep_out = search rules in
    let fits = fits_is _ _ f in
    let h : in_limit c.args.t0.ms ≡ true = sym c.in_limit.ensures ∙ c.if-not-in_limit.false in
    record {
      few = rw n fits.minutes_in.most;
      angle = rw k fits.keep_out_in.most;
      start = size_within t_limit _ h;
      within = rw n (minutes_in c.args.t0 _ _ f h c.minute-last.result (c.minute-last.ensures ∙ ap (λ (m : ℕ). minute c.args.t0 (m - 1)) n)
          (sym c.in_limit-2.ensures ∙ c.if-not-in_limit-2.false));
    }

pub returns : goal.returns
returns c =
    let f : window_fits c.args.minutes c.args.keep_out ≡ true = search rules in
    let n : c.unsigned_abs-n.result ≡ nat_abs c.args.minutes = search rules in
    let k : c.unsigned_abs.result ≡ nat_abs c.args.keep_out = search rules in
    rw (n, k) (left_to_series c.args.t0 _ _ f (sym c.in_limit.ensures ∙ c.if-not-in_limit.false) c.minute-last.result
    (c.minute-last.ensures ∙ ap (λ (m : ℕ). minute c.args.t0 (m - 1)) n) (sym c.in_limit-2.ensures ∙ c.if-not-in_limit-2.false))
