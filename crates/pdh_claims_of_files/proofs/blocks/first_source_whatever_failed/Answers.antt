use Rattle.std.proofs.Common.{Bool, sym, ◌∙◌, subst}
use Rattle.pdh_edge.specs.declared.shelf.Call.TheVariants.{Read}
use Rattle.pdh_edge.specs.Files.{FailedCall, TellsFailed}
use Rattle.pdh_claims_of_files.proofs.blocks.first_source_whatever_failed.Goals as goal

pub returns : goal.returns
returns g c i name is source at tells =
    let shelf = g.S.Shelf.state c.args.port.now.shelf in
    let failed : FailedCall = record { call = Read; name = name } in
    let last = (c.failed_name.ensures.named.named i (sym c.failed_name.ensures.value ∙ is)).source source name at in
    subst (λ (told : Bool). TellsFailed told failed shelf.last_failed) tells last
