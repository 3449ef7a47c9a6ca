use Rattle.std.proofs.Common.{◌≡◌, ◌++◌, Some, None, Option, ℕ, ap, sym, ◌∙◌, subst}
use Rattle.std.proofs.lemmas.List.{append-nil}
use Rattle.pdh_spans.specs.Times.{ended, begun_after, time_up_to}
use Rattle.pdh_spans.specs.Sums.{sum_of, Fits}
use Rattle.pdh_spans.proofs.spans.Spans.sum.Goals as goal

pub returns-in-Some : goal.returns-in-Some
returns-in-Some c turns stands fits =
    let begun : begun_after turns ≡ Some c.in-Some.from = sym stands.begun_is ∙ c.in-Some.is in
    c.plus.ensures (ended turns) stands.ended_are (subst (λ (b : Option ℕ). Fits (ended turns ++ time_up_to b c.args.end)) begun fits)
    ∙ ap (λ (b : Option ℕ). sum_of (ended turns ++ time_up_to b c.args.end)) (sym begun)

pub returns-in-None : goal.returns-in-None
returns-in-None c turns stands fits =
    let begun : begun_after turns ≡ None = sym stands.begun_is ∙ c.in-None.is in
    stands.ended_are ∙ sym (ap (λ (b : Option ℕ). sum_of (ended turns ++ time_up_to b c.args.end)) begun ∙ ap sum_of (append-nil (ended turns)))
