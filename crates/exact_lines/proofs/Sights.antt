-- What is worked at the sights of the lines at an angle, and what the working test says there. Assumes nothing.
use mathlib.Core.Path.{refl}
use mathlib.Core.Bool.{true}
use Prim.Native.Nat.{ℕ}
use lib.Dec.{lit<, lit≤}
use lib.IntN.{ℤ, pos, neg_ℤ}
use Rattle.integers.specs.Division.{floor, rounded, modulo}
use Rattle.packed_numbers.specs.Numbers.{next, closed, groups_from, number, groups, encode, folded, unfolded}
use Rattle.units.specs.Units.{within}
use Rattle.limits.specs.Allowed.{total_of, moving_total, moving_count, coarseness_by}
use Rattle.limits.specs.Wide.{totals_within, fine_enough, good_for_wide, reaches}
use Rattle.limits.specs.Limits.{constant, weight, opened, added, summed, after_block, factor, count_fits, a_fits, b_fits, c_fits, total_fits, coarse_fits}
use Rattle.packed.specs.Series.{judged, read_a, read_b, read_c, read_term, read_terms, read_block, read_blocks, read_series, ended, parse}
use Rattle.packed.specs.Series.{pack_term, pack_terms, pack_block, pack}
use Rattle.cosine.specs.Cosine.{q_of, r_of, w_of, y_of, horner, even_part, odd_part, cosine_by, sine_by, working_cosine, working_sine, cosine, sine}
use Rattle.cosine.specs.Terms.{term_angle, term_cosine, term_value}
use Rattle.pieces.specs.Sums.{block_sum}
use Rattle.series.specs.Sums.{running_sum, longitude_blocks, latitude_blocks, radius_blocks, coordinates}
use Rattle.rectangular.specs.Rectangular.{rectangular, place}
use Rattle.rectangular.specs.Vectors.{geocentric, sun, squared}
use Rattle.rectangular.specs.Sight.{radius_usable, usable}
use Rattle.separation.specs.Listed.{squared_separation, threshold}
use Rattle.exact_lines.specs.Lines.{Line, AllRight, at_an_angle, late, between, early, first_minute, next_minute}
use Rattle.exact_lines.specs.Lines.{beyond, long_before, wide_minute, minute_after}
use Rattle.exact_lines.specs.Lines.{line_123, line_126, line_135, line_138, line_158, line_161}
use Rattle.exact_lines.specs.Lines.{line_336, line_337, line_340, line_344, line_347, line_348}
use Rattle.exact_lines.specs.Lines.{line_416, line_419, line_420, line_461, line_463, line_464}
use Rattle.exact_lines.proofs.Angled.{Worked, outside, inside}

abbrev minus : ℕ → ℤ
minus n = neg_ℤ (pos n)

abbrev WorkedLine : Line → Type 0
WorkedLine l = Worked l.t l.planet l.earth

-- Neither k nor what a line says of it changes what is worked.
unfoldable worked : WorkedLine (late 0 true) × WorkedLine (between 0 true) × WorkedLine (early 0 true) × WorkedLine (first_minute 0 true)
    × WorkedLine (next_minute 0 true) × WorkedLine (beyond 0 true) × WorkedLine (long_before 0 true) × WorkedLine (wide_minute 0 true)
    × WorkedLine (minute_after 0 true)
unfolding floor rounded modulo next closed groups_from number groups encode folded unfolded constant weight opened added summed after_block factor
    count_fits a_fits b_fits c_fits total_fits coarse_fits judged read_a read_b read_c read_term read_terms read_block read_blocks read_series ended parse
    pack_term pack_terms pack_block pack q_of r_of w_of y_of horner even_part odd_part cosine_by sine_by working_cosine working_sine cosine sine term_angle
    term_cosine term_value block_sum running_sum longitude_blocks latitude_blocks radius_blocks coordinates rectangular place geocentric sun squared
    radius_usable usable within total_of moving_total moving_count coarseness_by totals_within fine_enough good_for_wide reaches
worked = (
  record {
    p = record { longitude = pos 507209511301; latitude = minus 6707974031; radius = pos 68435804865 };
    e = record { longitude = pos 444630146067; latitude = pos 0; radius = pos 189478458001 };
    s = record { x = pos 49825003499; y = pos 182810161387; z = pos 0 };
    g = record { x = pos 73860174319; y = pos 118898289085; z = minus 4587214018 };
    s_length = 189478458089;
    g_length = 140047031493;
    planet_in = refl;
    earth_in = refl;
    time_in = lit≤ tt;
    planet_asked = refl;
    earth_asked = refl;
    p_is = refl;
    e_is = refl;
    s_is = refl;
    g_is = refl;
    s_root = record { low = lit≤ tt; high = lit< tt };
    g_root = record { low = lit≤ tt; high = lit< tt };
    usable_is = refl;
  },
  record {
    p = record { longitude = pos 395433127974; latitude = pos 2416989090; radius = pos 60544433775 };
    e = record { longitude = pos 71665802132; latitude = pos 0; radius = pos 146120021771 };
    s = record { x = minus 110175252733; y = minus 95981636014; z = pos 0 };
    g = record { x = minus 151788137770; y = minus 139934511598; z = pos 1463209904 };
    s_length = 146120021785;
    g_length = 206454467830;
    planet_in = refl;
    earth_in = refl;
    time_in = lit≤ tt;
    planet_asked = refl;
    earth_asked = refl;
    p_is = refl;
    e_is = refl;
    s_is = refl;
    g_is = refl;
    s_root = record { low = lit≤ tt; high = lit< tt };
    g_root = record { low = lit≤ tt; high = lit< tt };
    usable_is = refl;
  },
  record {
    p = record { longitude = pos 283753724344; latitude = minus 6347607688; radius = pos 49119090154 };
    e = record { longitude = pos 477989645706; latitude = pos 0; radius = pos 54303004643 };
    s = record { x = minus 3663075102; y = pos 54179315214; z = pos 0 };
    g = record { x = minus 50434696625; y = pos 68855563579; z = minus 3115793791 };
    s_length = 54303004670;
    g_length = 85407584150;
    planet_in = refl;
    earth_in = refl;
    time_in = lit≤ tt;
    planet_asked = refl;
    earth_asked = refl;
    p_is = refl;
    e_is = refl;
    s_is = refl;
    g_is = refl;
    s_root = record { low = lit≤ tt; high = lit< tt };
    g_root = record { low = lit≤ tt; high = lit< tt };
    usable_is = refl;
  },
  record {
    p = record { longitude = minus 220001349603938502; latitude = pos 0; radius = pos 60000000000 };
    e = record { longitude = pos 220001349603938502; latitude = pos 0; radius = pos 100000000000 };
    s = record { x = minus 98978897700; y = minus 14254045100; z = pos 0 };
    g = record { x = minus 39591559080; y = minus 22806472160; z = pos 0 };
    s_length = 99999999958;
    g_length = 45690553977;
    planet_in = refl;
    earth_in = refl;
    time_in = lit≤ tt;
    planet_asked = refl;
    earth_asked = refl;
    p_is = refl;
    e_is = refl;
    s_is = refl;
    g_is = refl;
    s_root = record { low = lit≤ tt; high = lit< tt };
    g_root = record { low = lit≤ tt; high = lit< tt };
    usable_is = refl;
  },
  record {
    p = record { longitude = minus 220001321651278507; latitude = pos 0; radius = pos 60000000000 };
    e = record { longitude = pos 220001321651278507; latitude = pos 0; radius = pos 100000000000 };
    s = record { x = minus 99069846800; y = pos 13607551700; z = pos 0 };
    g = record { x = minus 39627938720; y = pos 21772082720; z = pos 0 };
    s_length = 100000000041;
    g_length = 45215009821;
    planet_in = refl;
    earth_in = refl;
    time_in = lit≤ tt;
    planet_asked = refl;
    earth_asked = refl;
    p_is = refl;
    e_is = refl;
    s_is = refl;
    g_is = refl;
    s_root = record { low = lit≤ tt; high = lit< tt };
    g_root = record { low = lit≤ tt; high = lit< tt };
    usable_is = refl;
  },
  record {
    p = record { longitude = pos 443424073057; latitude = minus 10529972384; radius = pos 150685076991 };
    e = record { longitude = pos 87808588885; latitude = pos 0; radius = pos 60255767985 };
    s = record { x = minus 38480855255; y = minus 46367891440; z = pos 0 };
    g = record { x = minus 79626123131; y = minus 190458917356; z = minus 15837790730 };
    s_length = 60255768003;
    g_length = 207040465369;
    planet_in = refl;
    earth_in = refl;
    time_in = lit≤ tt;
    planet_asked = refl;
    earth_asked = refl;
    p_is = refl;
    e_is = refl;
    s_is = refl;
    g_is = refl;
    s_root = record { low = lit≤ tt; high = lit< tt };
    g_root = record { low = lit≤ tt; high = lit< tt };
    usable_is = refl;
  },
  record {
    p = record { longitude = pos 54494851568; latitude = minus 4654020793; radius = pos 146219417657 };
    e = record { longitude = pos 285025327955; latitude = pos 0; radius = pos 85768547788 };
    s = record { x = pos 82154262814; y = minus 24635764418; z = pos 0 };
    g = record { x = pos 207058986338; y = pos 51078517203; z = minus 6802625771 };
    s_length = 85768547772;
    g_length = 213374587194;
    planet_in = refl;
    earth_in = refl;
    time_in = lit≤ tt;
    planet_asked = refl;
    earth_asked = refl;
    p_is = refl;
    e_is = refl;
    s_is = refl;
    g_is = refl;
    s_root = record { low = lit≤ tt; high = lit< tt };
    g_root = record { low = lit≤ tt; high = lit< tt };
    usable_is = refl;
  },
  record {
    p = record { longitude = minus 4099997083811713035; latitude = pos 0; radius = pos 60000000000 };
    e = record { longitude = pos 4099997083811713035; latitude = pos 0; radius = pos 100000000000 };
    s = record { x = minus 98718208800; y = minus 15959801100; z = pos 0 };
    g = record { x = minus 39487283520; y = minus 25535681760; z = pos 0 };
    s_length = 99999999999;
    g_length = 47024638252;
    planet_in = refl;
    earth_in = refl;
    time_in = lit≤ tt;
    planet_asked = refl;
    earth_asked = refl;
    p_is = refl;
    e_is = refl;
    s_is = refl;
    g_is = refl;
    s_root = record { low = lit≤ tt; high = lit< tt };
    g_root = record { low = lit≤ tt; high = lit< tt };
    usable_is = refl;
  },
  record {
    p = record { longitude = minus 4099997010644820906; latitude = pos 0; radius = pos 60000000000 };
    e = record { longitude = pos 4099997010644820906; latitude = pos 0; radius = pos 100000000000 };
    s = record { x = minus 84115251200; y = pos 54079797700; z = pos 0 };
    g = record { x = minus 33646100480; y = pos 86527676320; z = pos 0 };
    s_length = 100000000018;
    g_length = 92839101928;
    planet_in = refl;
    earth_in = refl;
    time_in = lit≤ tt;
    planet_asked = refl;
    earth_asked = refl;
    p_is = refl;
    e_is = refl;
    s_is = refl;
    g_is = refl;
    s_root = record { low = lit≤ tt; high = lit< tt };
    g_root = record { low = lit≤ tt; high = lit< tt };
    usable_is = refl;
  },
)

-- The lines at an angle are right.
pub at_an_angle_right : AllRight at_an_angle
unfolding worked floor rounded modulo q_of r_of w_of y_of horner even_part odd_part cosine_by sine_by working_cosine working_sine cosine sine geocentric
    squared squared_separation threshold
at_an_angle_right = (
  outside worked.5 line_123.k (lit≤ tt) (lit≤ tt) refl,
  (
    inside worked.5 line_126.k (lit≤ tt) (lit≤ tt) refl,
    (
      outside worked.6 line_135.k (lit≤ tt) (lit≤ tt) refl,
      (
        inside worked.6 line_138.k (lit≤ tt) (lit≤ tt) refl,
        (
          inside worked.7 line_158.k (lit≤ tt) (lit≤ tt) refl,
          (
            outside worked.8 line_161.k (lit≤ tt) (lit≤ tt) refl,
            (
              outside worked.0 line_336.k (lit≤ tt) (lit≤ tt) refl,
              (
                outside worked.0 line_337.k (lit≤ tt) (lit≤ tt) refl,
                (
                  inside worked.0 line_340.k (lit≤ tt) (lit≤ tt) refl,
                  (
                    outside worked.1 line_344.k (lit≤ tt) (lit≤ tt) refl,
                    (
                      inside worked.1 line_347.k (lit≤ tt) (lit≤ tt) refl,
                      (
                        inside worked.1 line_348.k (lit≤ tt) (lit≤ tt) refl,
                        (
                          outside worked.2 line_416.k (lit≤ tt) (lit≤ tt) refl,
                          (
                            inside worked.2 line_419.k (lit≤ tt) (lit≤ tt) refl,
                            (
                              inside worked.2 line_420.k (lit≤ tt) (lit≤ tt) refl,
                              (
                                outside worked.3 line_461.k (lit≤ tt) (lit≤ tt) refl,
                                (
                                  outside worked.3 line_463.k (lit≤ tt) (lit≤ tt) refl,
                                  (
                                    inside worked.4 line_464.k (lit≤ tt) (lit≤ tt) refl,
                                    tt,
                                  ),
                                ),
                              ),
                            ),
                          ),
                        ),
                      ),
                    ),
                  ),
                ),
              ),
            ),
          ),
        ),
      ),
    ),
  ),
)
