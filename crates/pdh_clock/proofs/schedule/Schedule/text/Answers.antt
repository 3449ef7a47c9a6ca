use Rattle.std.proofs.Common.{subst}
use Rattle.std.proofs.lemmas.Result.{IfOk-weaker}
use Rattle.pdh_clock.specs.Contents.{Contents}
use Rattle.pdh_clock.specs.Stored.{rows_in}
use Rattle.pdh_clock.specs.Written.{ReadsBack}
use Rattle.pdh_clock.proofs.Served.{tree_sound}
use Rattle.pdh_clock.proofs.ReadBack.{reads_back}
use Rattle.pdh_clock.proofs.schedule.Schedule.text.Goals as goal

pub returns-clause-read_back : goal.returns-clause-read_back
returns-clause-read_back c =
    let tree = c.self.inside.tree in
    IfOk-weaker c.write_rows.result _ _
    (λ text e. subst (λ (s : Contents). ReadsBack s text.items) c.self.view_is
    (reads_back tree.levels.items (rows_in tree) text.items c.self.invariant.levels_are (tree_sound tree c.self.invariant) e)) c.write_rows.ensures
