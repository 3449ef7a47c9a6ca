use Rattle.std.proofs.Common.{◌≡◌, ◌<◌, Some, eqb, sym, ap, ◌∙◌, subst, arith, refl}
use Rattle.std.specs.Prelude.{IsSome}
use Rattle.pdh_align.specs.Searching.{sought_of, Searches}
use Rattle.pdh_align.proofs.SearchLaws.{confirmed_by_phase}
use Rattle.pdh_align.proofs.search.Search.is_confirmed.Goals as goal

pub returns-in-Some : goal.returns-in-Some
returns-in-Some g c since h =
    let s = g.S.Shape.shape in
    let held = c.args.held.now.bits in
    let kept = c.in-Some.phases in
    let seen : sought_of (Some kept) c.self.inside.oldest ≡ c.args.self.now = ap (λ p. sought_of p c.self.inside.oldest) (sym c.in-Some.is) ∙ c.self.view_is in
    let here : Searches s (sought_of (Some kept) c.self.inside.oldest) held since = subst (λ x. Searches s x held since) (sym seen) h in
    let some : 0 < s.signal = omega (arith, g.met.S.Shape.signal_is, c.self.invariant.1.0 (subst IsSome (sym c.in-Some.is) refl)) in
    ap (λ n. eqb n 3) (c.run_at.ensures since here.phases)
    ∙ confirmed_by_phase s kept c.self.inside.oldest held since g.met.S.Shape.is_frame g.met.S.Shape.has_signal some here.phases here (omega (arith, c.requires.whole, g.met.S.Shape.len_is))
