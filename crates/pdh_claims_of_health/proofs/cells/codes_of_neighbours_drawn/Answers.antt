use Rattle.std.proofs.Common.{List, IfSome, slice_get, ◌≤◌, sym, subst}
use Rattle.std.proofs.lemmas.Result.{IfOk-weaker}
use Rattle.pdh_cells.specs.declared.rows.DrawnCode.{DrawnCode}
use Rattle.pdh_claims_of_health.proofs.Apart.{behind_first}
use Rattle.pdh_claims_of_health.proofs.cells.codes_of_neighbours_drawn.Goals as goal

pub returns : goal.returns
returns c =
    IfOk-weaker c.code_cells.result _ _
    (λ codes is. subst (λ (drawn : List DrawnCode). IfSome (slice_get drawn 1) (λ one. 5 ≤ one.cell)) (sym is) (behind_first c.args.cells.now c.args.code c.requires)) c.code_cells.ensures
