use Rattle.std.proofs.Common.{◌≡◌, [], ◌∷◌, ◌++◌, ◌∙◌, subst}
use Rattle.std.proofs.lemmas.Result.{on_ok_weaker}
use Rattle.pdh_rx.specs.Meaning.{Meaning}
use Rattle.pdh_claims_of_receivers.proofs.rx.frames_not_judged.Goals as goal

pub returns : goal.returns
returns g c = on_ok_weaker c.count_nodes.result (λ counted path ms line is stands.
    let now = line ++ c.args.bit ∷ [] in
    let P : Meaning → Type 0 = λ m. c.count_nodes.new.counts.items ≡ c.args.counts.now.items ++ m.counted now in
    subst P (c.in_ok-push.ensures.same ∙ is) (counted now (c.in_ok-push.ensures.stands line stands))) c.count_nodes.ensures
