use Rattle.std.proofs.Common.{[], ◌∷◌, arith}
use Rattle.pdh_claims_of_health.specs.declared.health.TheConstants.{PLAN, NUMBERS}
use Rattle.pdh_claims_of_health.proofs.Found.{some, first}
use Rattle.pdh_claims_of_health.proofs.health.found_after.Goals as goal

pub index-requires : goal.index-requires
index-requires c =
    let nodes = c.in_ok-found.found.nodes in
    let a = c.args in
    omega (arith, nodes.ok.0, some 1000 a.bits PLAN (NUMBERS ∷ []) (a.one ∷ a.two ∷ []) nodes.items c.in_ok-found.ensures.nodes_are)

pub returns : goal.returns
returns c =
    let a = c.args in
    first 1000 a.bits PLAN (NUMBERS ∷ []) (a.one ∷ a.two ∷ []) _ _ c.in_ok-found.ensures.nodes_are c.index.ensures
