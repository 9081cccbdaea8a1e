-- Every line of the first table is right, by computation.
-- Assumes nothing.
use mathlib.Core.Path.{◌≡◌, refl}
use mathlib.Core.Bool.{Bool, true, false}
use Rattle.integers.specs.Division.{floor, rounded, modulo}
use Rattle.integers.specs.Fractions.{◌*ᶠ◌, ◌+ᶠ◌, negᶠ, powerᶠ}
use Rattle.cosine.specs.Cosine.{cosine_by, sine_by}
use Rattle.reference_cosine.specs.Reference.{power, factorial, sum, alternate, even_series, odd_series, ref_q, ref_r, reference_cosine, reference_sine}
use Rattle.reference_cosine.specs.Terms.{term_reference}
use Rattle.series.specs.Sums.{longitude_blocks, latitude_blocks, radius_blocks}
use Rattle.series.specs.Exact.{exact_term, exact_block, exact_sum, exact_longitude, exact_latitude, exact_radius}
use Rattle.separation.specs.Exact.{cosᶠ, sinᶠ, dotᶠ, cosine_of_arcminutes}
use Rattle.sunlist.specs.Demand.{exact_coordinates}
use Rattle.exact_lines.specs.Lines.{Line, Says, Right, AllRight, lines}
use Rattle.exact_lines.specs.Lines.{line_95, line_97, line_99, line_100, line_103, line_104}
use Rattle.exact_lines.specs.Lines.{line_107, line_108, line_109, line_110, line_112, line_113}
use Rattle.exact_lines.proofs.Decided.{natural_first, whole_first, forced, tested, decided, within, not_within}

said : (b a : Bool) (P : Type 0) → (a ≡ true → P) → (a ≡ false → P → ⊥) → a ≡ b → Says b P
said true a P h g e = h e
said false a P h g e = g e

abbrev decided_line : Line → Bool
decided_line l = decided l.k (exact_coordinates (record { ms = l.t }) l.planet) (exact_coordinates (record { ms = l.t }) l.earth)

right : (l : Line) → decided_line l ≡ l.within → Right l
right l e =
    let c = exact_coordinates (record { ms = l.t }) l.planet in
    let d = exact_coordinates (record { ms = l.t }) l.earth in
    said l.within (decided l.k c d) _ (within l.k c d) (not_within l.k c d) e

decided_95 : decided_line line_95 ≡ true
unfolding floor rounded modulo ◌*ᶠ◌ ◌+ᶠ◌ negᶠ powerᶠ cosine_by sine_by power factorial sum alternate even_series odd_series ref_q ref_r
    reference_cosine reference_sine term_reference longitude_blocks latitude_blocks radius_blocks exact_term exact_block exact_sum exact_longitude
    exact_latitude exact_radius exact_coordinates cosᶠ sinᶠ dotᶠ cosine_of_arcminutes natural_first whole_first forced tested decided
decided_95 = refl

decided_97 : decided_line line_97 ≡ true
unfolding floor rounded modulo ◌*ᶠ◌ ◌+ᶠ◌ negᶠ powerᶠ cosine_by sine_by power factorial sum alternate even_series odd_series ref_q ref_r
    reference_cosine reference_sine term_reference longitude_blocks latitude_blocks radius_blocks exact_term exact_block exact_sum exact_longitude
    exact_latitude exact_radius exact_coordinates cosᶠ sinᶠ dotᶠ cosine_of_arcminutes natural_first whole_first forced tested decided
decided_97 = refl

decided_99 : decided_line line_99 ≡ true
unfolding floor rounded modulo ◌*ᶠ◌ ◌+ᶠ◌ negᶠ powerᶠ cosine_by sine_by power factorial sum alternate even_series odd_series ref_q ref_r
    reference_cosine reference_sine term_reference longitude_blocks latitude_blocks radius_blocks exact_term exact_block exact_sum exact_longitude
    exact_latitude exact_radius exact_coordinates cosᶠ sinᶠ dotᶠ cosine_of_arcminutes natural_first whole_first forced tested decided
decided_99 = refl

decided_100 : decided_line line_100 ≡ false
unfolding floor rounded modulo ◌*ᶠ◌ ◌+ᶠ◌ negᶠ powerᶠ cosine_by sine_by power factorial sum alternate even_series odd_series ref_q ref_r
    reference_cosine reference_sine term_reference longitude_blocks latitude_blocks radius_blocks exact_term exact_block exact_sum exact_longitude
    exact_latitude exact_radius exact_coordinates cosᶠ sinᶠ dotᶠ cosine_of_arcminutes natural_first whole_first forced tested decided
decided_100 = refl

decided_103 : decided_line line_103 ≡ false
unfolding floor rounded modulo ◌*ᶠ◌ ◌+ᶠ◌ negᶠ powerᶠ cosine_by sine_by power factorial sum alternate even_series odd_series ref_q ref_r
    reference_cosine reference_sine term_reference longitude_blocks latitude_blocks radius_blocks exact_term exact_block exact_sum exact_longitude
    exact_latitude exact_radius exact_coordinates cosᶠ sinᶠ dotᶠ cosine_of_arcminutes natural_first whole_first forced tested decided
decided_103 = refl

decided_104 : decided_line line_104 ≡ false
unfolding floor rounded modulo ◌*ᶠ◌ ◌+ᶠ◌ negᶠ powerᶠ cosine_by sine_by power factorial sum alternate even_series odd_series ref_q ref_r
    reference_cosine reference_sine term_reference longitude_blocks latitude_blocks radius_blocks exact_term exact_block exact_sum exact_longitude
    exact_latitude exact_radius exact_coordinates cosᶠ sinᶠ dotᶠ cosine_of_arcminutes natural_first whole_first forced tested decided
decided_104 = refl

decided_107 : decided_line line_107 ≡ false
unfolding floor rounded modulo ◌*ᶠ◌ ◌+ᶠ◌ negᶠ powerᶠ cosine_by sine_by power factorial sum alternate even_series odd_series ref_q ref_r
    reference_cosine reference_sine term_reference longitude_blocks latitude_blocks radius_blocks exact_term exact_block exact_sum exact_longitude
    exact_latitude exact_radius exact_coordinates cosᶠ sinᶠ dotᶠ cosine_of_arcminutes natural_first whole_first forced tested decided
decided_107 = refl

decided_108 : decided_line line_108 ≡ true
unfolding floor rounded modulo ◌*ᶠ◌ ◌+ᶠ◌ negᶠ powerᶠ cosine_by sine_by power factorial sum alternate even_series odd_series ref_q ref_r
    reference_cosine reference_sine term_reference longitude_blocks latitude_blocks radius_blocks exact_term exact_block exact_sum exact_longitude
    exact_latitude exact_radius exact_coordinates cosᶠ sinᶠ dotᶠ cosine_of_arcminutes natural_first whole_first forced tested decided
decided_108 = refl

decided_109 : decided_line line_109 ≡ true
unfolding floor rounded modulo ◌*ᶠ◌ ◌+ᶠ◌ negᶠ powerᶠ cosine_by sine_by power factorial sum alternate even_series odd_series ref_q ref_r
    reference_cosine reference_sine term_reference longitude_blocks latitude_blocks radius_blocks exact_term exact_block exact_sum exact_longitude
    exact_latitude exact_radius exact_coordinates cosᶠ sinᶠ dotᶠ cosine_of_arcminutes natural_first whole_first forced tested decided
decided_109 = refl

decided_110 : decided_line line_110 ≡ false
unfolding floor rounded modulo ◌*ᶠ◌ ◌+ᶠ◌ negᶠ powerᶠ cosine_by sine_by power factorial sum alternate even_series odd_series ref_q ref_r
    reference_cosine reference_sine term_reference longitude_blocks latitude_blocks radius_blocks exact_term exact_block exact_sum exact_longitude
    exact_latitude exact_radius exact_coordinates cosᶠ sinᶠ dotᶠ cosine_of_arcminutes natural_first whole_first forced tested decided
decided_110 = refl

decided_112 : decided_line line_112 ≡ true
unfolding floor rounded modulo ◌*ᶠ◌ ◌+ᶠ◌ negᶠ powerᶠ cosine_by sine_by power factorial sum alternate even_series odd_series ref_q ref_r
    reference_cosine reference_sine term_reference longitude_blocks latitude_blocks radius_blocks exact_term exact_block exact_sum exact_longitude
    exact_latitude exact_radius exact_coordinates cosᶠ sinᶠ dotᶠ cosine_of_arcminutes natural_first whole_first forced tested decided
decided_112 = refl

decided_113 : decided_line line_113 ≡ true
unfolding floor rounded modulo ◌*ᶠ◌ ◌+ᶠ◌ negᶠ powerᶠ cosine_by sine_by power factorial sum alternate even_series odd_series ref_q ref_r
    reference_cosine reference_sine term_reference longitude_blocks latitude_blocks radius_blocks exact_term exact_block exact_sum exact_longitude
    exact_latitude exact_radius exact_coordinates cosᶠ sinᶠ dotᶠ cosine_of_arcminutes natural_first whole_first forced tested decided
decided_113 = refl

-- The table is right.
pub lines_right : AllRight lines
lines_right = (
  right line_95 decided_95,
  (
    right line_97 decided_97,
    (
      right line_99 decided_99,
      (
        right line_100 decided_100,
        (
          right line_103 decided_103,
          (
            right line_104 decided_104,
            (
              right line_107 decided_107,
              (
                right line_108 decided_108,
                (
                  right line_109 decided_109,
                  (
                    right line_110 decided_110,
                    (
                      right line_112 decided_112,
                      (
                        right line_113 decided_113,
                        tt,
                      ),
                    ),
                  ),
                ),
              ),
            ),
          ),
        ),
      ),
    ),
  ),
)
