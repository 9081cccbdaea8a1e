-- `nutation::moon::arguments_at` meets its contract. Assumes nothing.
use mathlib.Core.Path.{◌∙◌, ap}
use Rattle.arith.proofs.Signs.{back}
use Rattle.nutation.specs.Machine.Reduced.{less_turns}
use Rattle.nutation.specs.Nutation.{mean_elongation, sun_anomaly, moon_anomaly, latitude_argument, moon_node}
use Rattle.nutation.proofs.moon.arguments_at.Goals as goal

pub returns : goal.returns
returns c =
    let t = back c.args.t c.ranges.t in
    let a = c.arguments_with_turns.ensures in
    let r = c.each_less_turns.ensures in
    record {
      elongation_at = r.0 ∙ ap less_turns (a.0 ∙ ap mean_elongation t);
      sun_at = r.1 ∙ ap less_turns (a.1 ∙ ap sun_anomaly t);
      moon_at = r.2 ∙ ap less_turns (a.2 ∙ ap moon_anomaly t);
      latitude_at = r.3 ∙ ap less_turns (a.3 ∙ ap latitude_argument t);
      node_at = r.4 ∙ ap less_turns (a.4 ∙ ap moon_node t);
    }
