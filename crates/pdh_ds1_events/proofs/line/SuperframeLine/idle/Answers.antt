use Rattle.std.proofs.Common.{◌≡◌, ◌≤◌, ◌+◌, ◌-◌, ◌^◌, min, Bool, List, length, take, drop, inl, inr, arith, length-drop}
use Rattle.std.proofs.lemmas.List.{length-take-le}
use Rattle.pdh_events.specs.laws.QuietLaws.{IsCalm}
use Rattle.pdh_rx.proofs.QuietNode.{calm_fewer}
use Rattle.pdh_ds1.specs.declared.plan.SuperframePlan.{SuperframePlan}
use Rattle.pdh_ds1_events.proofs.LineLaws.{waits_stands, waits_quiet, passes_stands, passes_quiet}
use Rattle.pdh_ds1_events.proofs.line.SuperframeLine.idle.Goals as goal

pub returns-clause-stands : goal.returns-clause-stands
returns-clause-stands g c line told =
    let plan : SuperframePlan = g.P.InSuperframe.PLAN in
    let fits = g.met.P.InSuperframe.is_plan in
    let k = c.go_on-count.result in
    let rest : List Bool = drop c.args.from c.args.bits.now.bits in
    let few : k ≤ c.calm-calm.result = c.go_on-count.ensures.most in
    let size : length (take k rest) ≡ k = length-take-le k rest (omega (arith, length-drop c.args.from c.args.bits.now.bits, few, c.calm-calm.ensures.most, c.len.ensures.count, c.requires)) in
    let calm : IsCalm c.args.self.now.ais.long line (take k rest) = calm_fewer _ c.calm-calm.result k line rest few (c.calm-calm.ensures.calm line told.ones_are) in
    let counts : c.saturating_add-self.result ≡ min (c.args.self.now.bits + length (take k rest)) (2 ^ 64 - 1) = omega (arith, size, c.saturating_add-self.ensures) in
    elim (c.go_on-count.ensures.idles line told.aligner_is) [
      | inl waits ↦ waits_stands g.P.InSuperframe.f_bits plan fits line (take k rest) told calm waits counts c.skip.ensures.long (c.skip.ensures.counts line told.ones_are calm)
      | inr passes ↦ passes_stands g.P.InSuperframe.f_bits plan fits line (take k rest) told calm passes counts c.skip.ensures.long (c.skip.ensures.counts line told.ones_are calm)
    ]

pub returns-clause-quiet : goal.returns-clause-quiet
returns-clause-quiet g c line told =
    let plan : SuperframePlan = g.P.InSuperframe.PLAN in
    let fits = g.met.P.InSuperframe.is_plan in
    let k = c.go_on-count.result in
    let rest : List Bool = drop c.args.from c.args.bits.now.bits in
    let calm : IsCalm c.args.self.now.ais.long line (take k rest) = calm_fewer _ c.calm-calm.result k line rest c.go_on-count.ensures.most (c.calm-calm.ensures.calm line told.ones_are) in
    elim (c.go_on-count.ensures.idles line told.aligner_is) [
      | inl waits ↦ waits_quiet g.P.InSuperframe.f_bits plan fits line (take k rest) told calm waits
      | inr passes ↦ passes_quiet g.P.InSuperframe.f_bits plan fits line (take k rest) told calm passes
    ]
