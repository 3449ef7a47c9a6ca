use Rattle.std.proofs.Common.{sym, ◌∙◌}
use Rattle.std.proofs.lemmas.Bool.{leb-true, and_parts}
use Rattle.std.proofs.lemmas.Result.{IfOk-weaker}
use Rattle.pdh_claims_of_looking.proofs.looking.given_chain_in_a_sixty_fourth_of_the_line.Goals as goal

pub returns : goal.returns
returns c =
    IfOk-weaker c.top_stands.result _ _ (λ stands is yes. leb-true _ _ (and_parts _ _ (sym is ∙ yes)).1) c.top_stands.ensures
