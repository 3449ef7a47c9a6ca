use Rattle.std.proofs.Common.{sym, subst}
use Rattle.std.proofs.lemmas.Result.{err_from_is_err_and}
use Rattle.pdh_bits.specs.Bits.{bits_of}
use Rattle.pdh_script.specs.RowsLeft.{HasAdded}
use Rattle.pdh_script.proofs.RowsLeft.{has_added}
use Rattle.pdh_script.proofs.BitsPut.{adding_next, adding_fails, adding_done}
use Rattle.pdh_script.proofs.rows_left.RowsLeft.put_added.Goals as goal

pub loop-bytes-preserved : goal.loop-bytes-preserved
loop-bytes-preserved g c =
    adding_next g.D.Drain c.args.place c.args.self.now c.loop-bytes.self c.pass_first.new.self (bits_of c.in-Some.bytes.now) c.args.drain.now c.loop-bytes.drain c.put_bytes.new.drain (g.met.D.Drain.drained_join _ _ _)
    c.loop-bytes.invariant c.in-Some.ensures.passed c.in_ok-put_bytes.ensures

pub returns-in_err-put_bytes-clause-put : goal.returns-in_err-put_bytes-clause-put
returns-in_err-put_bytes-clause-put g c =
    let p = err_from_is_err_and c.from_residual.result c.from_residual.ensures.1 in
    rw p.1
    (adding_fails g.D.Drain c.args.place c.args.self.now c.loop-bytes.self c.pass_first.new.self (bits_of c.in-Some.bytes.now) c.args.drain.now c.loop-bytes.drain c.put_bytes.new.drain (g.met.D.Drain.drained_join _ _ _)
    c.loop-bytes.invariant c.in-Some.ensures.passed c.in_err-put_bytes.ensures)

pub returns-clause-put : goal.returns-clause-put
returns-clause-put g c = adding_done g.D.Drain c.args.place c.args.self.now c.loop-bytes.self c.args.drain.now c.loop-bytes.drain c.loop-bytes.invariant c.in_default.ensures.ahead

pub returns-clause-added : goal.returns-clause-added
returns-clause-added g c =
    subst (HasAdded c.args.place c.args.self.now) (sym c.in_default.ensures.same) (has_added c.args.place c.args.self.now c.loop-bytes.self c.loop-bytes.invariant.done c.loop-bytes.invariant.passed c.in_default.ensures.ahead)
