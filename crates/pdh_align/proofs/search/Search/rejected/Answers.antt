use Rattle.std.proofs.Common.{◌≡◌, ◌<◌, Some, sym, ap, ◌∙◌, subst, arith, refl}
use Rattle.std.specs.Prelude.{IsSome}
use Rattle.pdh_align.specs.Searching.{sought_of, Searches}
use Rattle.pdh_align.proofs.SearchLaws.{rejected_by_phase, rejected_by_slots}
use Rattle.pdh_align.proofs.search.Search.rejected.Goals as goal

pub returns-in-Some-clause-rejected : goal.returns-in-Some-clause-rejected
returns-in-Some-clause-rejected g c since h i lt =
    let s = g.S.Shape.shape in
    let held = c.args.held.now.bits in
    let kept = c.in-Some.phases in
    let oldest = c.self.inside.oldest in
    let seen : sought_of (Some kept) oldest ≡ c.args.self.now = ap (λ p. sought_of p oldest) (sym c.in-Some.is) ∙ c.self.view_is in
    let here : Searches s (sought_of (Some kept) oldest) held since = subst (λ x. Searches s x held since) (sym seen) h in
    let some : 0 < s.signal = omega (arith, g.met.S.Shape.signal_is, c.self.invariant.1.0 (subst IsSome (sym c.in-Some.is) refl)) in
    let most = c.below_three.ensures.count in
    rejected_by_phase s kept oldest i held since g.met.S.Shape.is_frame g.met.S.Shape.has_signal some here (omega (arith, c.requires.full, g.met.S.Shape.len_is))
    (omega (arith, lt, most, c.min-most.ensures, c.min.ensures, c.LEN-in-Some.ensures, g.met.S.Shape.len_is, c.self.invariant.0))
    (omega (arith, lt, most, c.min-most.ensures, c.LEN.ensures, c.SIGNAL.ensures, g.met.S.Shape.len_is, g.met.S.Shape.signal_is))
    (c.below_three.ensures.below since here.phases i lt)

pub returns-in-None-clause-rejected : goal.returns-in-None-clause-rejected
returns-in-None-clause-rejected g c since h i lt = rejected_by_slots g.S.Shape.shape c.args.held.now.bits i (omega (arith, lt, c.wrong_starts.ensures.count, c.requires.full, g.met.S.Shape.len_is)) (c.wrong_starts.ensures.wrong i lt)
