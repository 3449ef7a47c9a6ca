use Rattle.std.proofs.Common.{refl, sym, subst, inl, inr, arith}
use Rattle.std.proofs.lemmas.Result.{err_from_is_err_and}
use Rattle.pdh_edge.specs.Files.{Holds}
use Rattle.pdh_answers.specs.Names.{name_of}
use Rattle.pdh_script.specs.declared.fault.ScriptFault.TheVariants.{TooLong}
use Rattle.pdh_linking.proofs.SessionComes.{long_is, read_is, fault_stops}
use Rattle.pdh_linking.proofs.duplexing.read_script.Goals as goal

pub returns-then-bytes-clause-err : goal.returns-then-bytes-clause-err
returns-then-bytes-clause-err g c = inr (TooLong c.args.bytes, (refl, long_is c.args.file c.args.bits c.args.bytes _ c.requires (omega arith)))

pub returns-in_err-text-clause-err : goal.returns-in_err-text-clause-err
returns-in_err-text-clause-err g c =
    let p = err_from_is_err_and c.from_residual.result c.from_residual.ensures.1 in
    rw (p.1, p.2) (inl (omega arith, c.in_err-text.ensures.err))

pub returns-in_err-read-clause-err : goal.returns-in_err-read-clause-err
returns-in_err-read-clause-err g c =
    let p = err_from_is_err_and c.from_residual-in_err-read.result c.from_residual-in_err-read.ensures.1 in
    rw (p.1, p.2) (fault_stops c.args.file c.args.bits c.args.bytes _ _ c.deref.result.now c.in_err-read.field-0.0 (omega arith) (subst (Holds ((g.S.Shelf.state c.args.shelf.now).told (name_of c.args.file))) (sym c.deref.ensures.value) c.in_ok-text.ensures.ok) c.in_err-read.ensures.rows)

pub returns-clause-rows : goal.returns-clause-rows
returns-clause-rows g c =
    read_is c.args.file c.args.bits (g.S.Shelf.state c.args.shelf.now) c.deref.result.now _ (subst (Holds ((g.S.Shelf.state c.args.shelf.now).told (name_of c.args.file))) (sym c.deref.ensures.value) c.in_ok-text.ensures.ok) c.in_ok-read.ensures.rows
