use Rattle.std.proofs.Common.{◌≡◌, ◌-◌, ◌≤◌, ◌<◌, length, take, drop, length-drop, ap, subst, ℕ, arith}
use Rattle.std.proofs.lemmas.List.{length-take-le}
use Rattle.pdh_events.specs.Telling.{ones_at_end}
use Rattle.pdh_events.specs.Keeping.{OnesRun}
use Rattle.pdh_events.specs.laws.QuietLaws.{AreOnes}
use Rattle.pdh_events.proofs.CalmLaws.{calm_stays, all_ones, some_ones}
use Rattle.pdh_events.proofs.ais.AisRun.skip.Goals as goal

pub returns-then-self-clause-counts : goal.returns-then-self-clause-counts
returns-then-self-clause-counts c line is calm =
    let long : c.args.self.now.long ≤ ones_at_end line = omega (arith, is, c.if-self.true, ap (λ (r : OnesRun). r.run) c.self.view_is, ap (λ (r : OnesRun). r.long) c.self.view_is) in
    omega (arith, is, c.if-self.true, ap (λ (r : OnesRun). r.run) c.self.view_is, ap (λ (r : OnesRun). r.long) c.self.view_is, calm_stays c.args.self.now.long line (take c.args.count (drop c.args.from c.args.bits.now.bits)) long calm)

pub returns-then-ones-count-clause-counts : goal.returns-then-ones-count-clause-counts
returns-then-ones-count-clause-counts c line is calm =
    let count = c.args.count in
    let rest = drop c.args.from c.args.bits.now.bits in
    let whole : length (take count rest) ≡ count = length-take-le count rest (omega (arith, length-drop c.args.from c.args.bits.now.bits, c.requires)) in
    let P : ℕ → Type 0 = λ n. AreOnes (drop (count - n) (take count rest)) in
    let ones : AreOnes (drop (count - count) (take count rest)) = subst P c.if-ones-count.true c.trailing_ones-ones.ensures.ones in
    omega (arith, is, c.if-self.false, ap (λ (r : OnesRun). r.run) c.self.view_is, ap (λ (r : OnesRun). r.long) c.self.view_is, c.self.invariant, c.min.ensures, c.if-ones-count.true, all_ones line (take count rest) count whole ones)

pub returns-clause-counts : goal.returns-clause-counts
returns-clause-counts c line is calm =
    let count = c.args.count in
    let rest = drop c.args.from c.args.bits.now.bits in
    let whole : length (take count rest) ≡ count = length-take-le count rest (omega (arith, length-drop c.args.from c.args.bits.now.bits, c.requires)) in
    let fewer : c.trailing_ones-ones.result < count = omega (arith, c.trailing_ones-ones.ensures.most, c.if-ones-count.false) in
    omega (arith, c.min-2.ensures, some_ones line (take count rest) count c.trailing_ones-ones.result whole fewer c.trailing_ones-ones.ensures.ones (c.trailing_ones-ones.ensures.zero fewer))
