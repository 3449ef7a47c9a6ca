use Rattle.std.proofs.Common.{sym, subst}
use Rattle.pdh_script.specs.RowsLeft.{HasAdded}
use Rattle.pdh_script.proofs.RowsLeft.{has_added}
use Rattle.pdh_script.proofs.BitsAppended.{appending_room, appending_next, appending_done}
use Rattle.pdh_script.proofs.rows_left.RowsLeft.append_added.Goals as goal

pub append_bytes-requires : goal.append_bytes-requires
append_bytes-requires c =
    appending_room c.args.place c.args.self.now c.loop-bytes.self c.pass_first.new.self c.in-Some.bytes.now c.args.into.now c.loop-bytes.into c.loop-bytes.invariant c.in-Some.ensures.passed c.requires.room

pub loop-bytes-preserved : goal.loop-bytes-preserved
loop-bytes-preserved c =
    appending_next c.args.place c.args.self.now c.loop-bytes.self c.pass_first.new.self c.in-Some.bytes.now c.args.into.now c.loop-bytes.into c.loop-bytes.invariant c.in-Some.ensures.passed c.append_bytes.new.self c.append_bytes.ensures

pub returns-clause-grown : goal.returns-clause-grown
returns-clause-grown c = appending_done c.args.place c.args.self.now c.loop-bytes.self c.args.into.now c.loop-bytes.into c.loop-bytes.invariant c.in_default.ensures.ahead

pub returns-clause-added : goal.returns-clause-added
returns-clause-added c =
    subst (HasAdded c.args.place c.args.self.now) (sym c.in_default.ensures.same) (has_added c.args.place c.args.self.now c.loop-bytes.self c.loop-bytes.invariant.done c.loop-bytes.invariant.passed c.in_default.ensures.ahead)
