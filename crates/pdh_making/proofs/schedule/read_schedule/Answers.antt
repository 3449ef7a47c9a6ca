use Rattle.std.proofs.Common.{sym, subst, arith}
use Rattle.std.proofs.lemmas.Result.{err_from_is_err_and}
use Rattle.pdh_edge.specs.Files.{Holds}
use Rattle.pdh_answers.specs.Names.{schedule_name}
use Rattle.pdh_making.proofs.ScheduleComes.{long_stops, read_stops, fault_stops, rows_read}
use Rattle.pdh_making.proofs.schedule.read_schedule.Goals as goal

pub returns-then-bytes-clause-err : goal.returns-then-bytes-clause-err
returns-then-bytes-clause-err g c = long_stops c.args.chain _ c.args.bytes c.requires c.if-bytes.true

pub returns-in_err-text-clause-err : goal.returns-in_err-text-clause-err
returns-in_err-text-clause-err g c =
    let p = err_from_is_err_and c.from_residual.result c.from_residual.ensures.1 in
    rw (p.1, p.2) (read_stops c.args.chain _ _ c.args.bytes _ c.requires (omega (arith, c.if-bytes.false)) c.in_err-text.ensures.err)

pub returns-in_err-read-clause-err : goal.returns-in_err-read-clause-err
returns-in_err-read-clause-err g c =
    let p = err_from_is_err_and c.from_residual-in_err-read.result c.from_residual-in_err-read.ensures.1 in
    let said = rw c.levels.ensures.value at c.in_err-read.ensures.rows in
    rw (p.1, p.2) (fault_stops c.args.chain _ _ c.deref.result.now c.in_err-read.field-0.0 (subst (Holds ((g.S.Shelf.state c.args.shelf.now).told schedule_name)) (sym c.deref.ensures.value) c.in_ok-text.ensures.ok) said)

pub returns-clause-rows : goal.returns-clause-rows
returns-clause-rows g c =
    rows_read c.args.chain (g.S.Shelf.state c.args.shelf.now) c.deref.result.now c.in_ok-read.field-0.rows (subst (Holds ((g.S.Shelf.state c.args.shelf.now).told schedule_name)) (sym c.deref.ensures.value) c.in_ok-text.ensures.ok) (rw c.levels.ensures.value at c.in_ok-read.ensures.rows)
