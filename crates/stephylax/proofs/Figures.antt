-- RULES, "Marked cases": every case of the table is right, by the theorems of the crates that it is about. Assumes nothing.
use mathlib.Core.Path.{◌≡◌, refl, sym, ap, ◌∙◌}
use mathlib.Core.List.{List, [], ◌∷◌}
use Prim.Native.Nat.{ℕ, zero, suc}
use lib.IntN.{ℤ, pos}
use Rattle.units.specs.Units.{within}
use Rattle.calendar.proofs.Theorems.{figures as calendar_figures}
use Rattle.cosine.proofs.Figures.{figures as cosine_figures}
use Rattle.packed_numbers.specs.Numbers.{number, groups_from, closed, next, unfolded}
use Rattle.limits.specs.Limits.{count_fits, opened, added, summed, after_block, factor, weight, constant, a_fits, b_fits, c_fits, total_fits}
use Rattle.limits.specs.Limits.{coarse_fits}
use Rattle.packed.specs.Series.{accepted, parse, judged, read_a, read_b, read_c, read_term, read_terms, read_block, read_blocks, read_series, ended}
use Rattle.packed_promises.proofs.Theorems.{padded}
use Rattle.limits.specs.Wide.{reaches}
use Rattle.series.specs.Sums.{of_parsed, coordinates_answer}
use Rattle.std.specs.Prelude.{Ok}
use Rattle.series.proofs.Answering.{answers_parsed}
use Rattle.series.proofs.Figures.{constant_rate, figures as rate_figures}
use Rattle.place.proofs.Light.{light_times}
use Rattle.stephylax.specs.Marked.{AllRight, rate_bytes, rate_instant, rate_coordinates, marked}

-- The three cosines one by one.
nth_of : ℕ → List ℤ → ℤ
nth_of n [] = pos 0
nth_of zero (x ∷ xs) = x
nth_of (suc n) (x ∷ xs) = nth_of n xs

rate_parsed : parse rate_bytes ≡ accepted constant_rate
unfolding constant_rate parse read_series read_blocks read_block number groups_from closed next ended judged count_fits read_terms read_term
    read_a read_b read_c unfolded after_block summed opened added factor weight constant a_fits b_fits c_fits total_fits coarse_fits
rate_parsed = refl

rate_answer : coordinates_answer rate_bytes rate_instant ≡ rate_coordinates
unfolding of_parsed within reaches
rate_answer = sym (answers_parsed rate_bytes rate_instant (accepted constant_rate) refl rate_parsed) ∙ ap Ok rate_figures

-- A case and the cases after it.
infixr 5 ◌&◌
◌&◌ : {A B : Type 0} → A → B → A × B
a & b = (a, b)

pub figures : AllRight marked
unfolding nth_of
figures =
    let dates = calendar_figures in
    dates.0
    & dates.1.0
    & dates.1.1.0
    & dates.1.1.1.0
    & dates.1.1.1.1.0
    & dates.1.1.1.1.1.0
    & dates.1.1.1.1.1.1.0
    & dates.1.1.1.1.1.1.1.0
    & dates.1.1.1.1.1.1.1.1.0
    & ap (nth_of 0) cosine_figures
    & ap (nth_of 1) cosine_figures
    & ap (nth_of 2) cosine_figures
    & light_times.0
    & rate_answer
    & padded
    & tt
