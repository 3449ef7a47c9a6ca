use Rattle.std.proofs.Common.{sym, subst, arith}
use Rattle.std.proofs.lemmas.Result.{err_from_is_err_and}
use Rattle.pdh_edge.specs.Files.{Holds}
use Rattle.pdh_answers.specs.Names.{script_name}
use Rattle.pdh_recorded.proofs.DisturbComes.{long_refused, text_unread, fault_refuses, rows_read}
use Rattle.pdh_recorded.proofs.disturbing.read_script.Goals as goal

pub returns-then-sizes-clause-err : goal.returns-then-sizes-clause-err
returns-then-sizes-clause-err g c = long_refused c.args.chain _ c.args.sizes c.requires (omega arith)

pub returns-in_err-text-clause-err : goal.returns-in_err-text-clause-err
returns-in_err-text-clause-err g c =
    let p = err_from_is_err_and c.from_residual.result c.from_residual.ensures.1 in
    rw (p.1, p.2) (text_unread c.args.chain _ _ c.args.sizes _ c.requires (omega arith) c.in_err-text.ensures.err)

pub returns-in_err-read-clause-err : goal.returns-in_err-read-clause-err
returns-in_err-read-clause-err g c =
    let p = err_from_is_err_and c.from_residual-in_err-read.result c.from_residual-in_err-read.ensures.1 in
    rw (p.1, p.2) (fault_refuses c.args.chain _ _ c.args.sizes c.deref.result.now c.in_err-read.field-0.0 c.requires (subst (Holds ((g.S.Shelf.state c.args.shelf.now).told script_name)) (sym c.deref.ensures.value) c.in_ok-text.ensures.ok) c.in_err-read.ensures.rows)

pub returns-clause-rows : goal.returns-clause-rows
returns-clause-rows g c =
    rows_read (g.S.Shelf.state c.args.shelf.now) c.args.sizes.line c.deref.result.now _ (subst (Holds ((g.S.Shelf.state c.args.shelf.now).told script_name)) (sym c.deref.ensures.value) c.in_ok-text.ensures.ok) c.in_ok-read.ensures.rows
