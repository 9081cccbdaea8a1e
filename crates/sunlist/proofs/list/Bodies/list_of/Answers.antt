-- `sunlist::list::Bodies::list_of` meets its contract. Assumes nothing.
use Rattle.std.proofs.Common.{◌≡◌, false, length, take, replicate, ◌∙◌}
use Rattle.std.proofs.lemmas.Result.{err_from_is_err_and}
use Rattle.packed.specs.Machine.Table.{table_blocks}
use Rattle.std.proofs.Math.Seq.{length-take-le}
use Rattle.std.proofs.lemmas.List.{length-replicate}
use Rattle.sunlist.specs.Machine.Answers.{decided_at}
use Rattle.sunlist.proofs.Listing.{answers_as, far_told, all_asked, minutes_told, bad_told, numbers_are}
use Rattle.sunlist.proofs.list.Bodies.list_of.Goals as goal

pub returns-in-Some : goal.returns-in-Some
returns-in-Some c =
    let f = c.in-Some.ensures in
    far_told (table_blocks c.args.self.planet.now) (table_blocks c.args.self.earth.now) c.args.window.t0 c.args.window.minutes c.args.window.keep_out
    c.args.self.wide c.args.self.good c.in-Some.far c.args.out.now f.0 f.1

pub flag_minutes-requires : goal.flag_minutes-requires
flag_minutes-requires c =
    let l : length (take c.args.window.minutes (replicate 1440 false)) ≡ c.args.window.minutes =
    let few = c.args.window.few in length-take-le c.args.window.minutes (replicate 1440 false) (rw (length-replicate 1440 false) few) in (
      l,
      record {
        planet_table = c.requires.0;
        earth_table = c.requires.1;
        asked =
            all_asked (table_blocks c.args.self.planet.now) (table_blocks c.args.self.earth.now) c.args.window.t0 c.args.window.minutes c.args.window.keep_out
            c.args.self.wide c.args.self.good c.in_default.ensures;
      },
    )

pub returns-in_err-flag_minutes : goal.returns-in_err-flag_minutes
returns-in_err-flag_minutes c =
    let p = err_from_is_err_and c.from_residual.result c.from_residual.ensures.1 in
    let f = c.in_err-flag_minutes.ensures in
    rw (p.1, p.2)
    (answers_as _ _ _ _ _
    (minutes_told (table_blocks c.args.self.planet.now) (table_blocks c.args.self.earth.now) c.args.window.t0 c.args.window.minutes c.args.window.keep_out
    c.args.self.wide c.args.self.good c.in_default.ensures)
    (bad_told (decided_at c.args.self.planet.now c.args.self.earth.now c.args.window.t0 c.args.window.keep_out) _ _ _ f.0 f.1))

pub returns : goal.returns
returns c =
    let f = c.in_ok-flag_minutes.ensures in
    answers_as _ _ _ _ _
    (numbers_are (decided_at c.args.self.planet.now c.args.self.earth.now c.args.window.t0 c.args.window.keep_out) _ _ f.0 f.1
    ∙ minutes_told (table_blocks c.args.self.planet.now) (table_blocks c.args.self.earth.now) c.args.window.t0 c.args.window.minutes c.args.window.keep_out
    c.args.self.wide c.args.self.good c.in_default.ensures)
    c.write_runs.ensures
