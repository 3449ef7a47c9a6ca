use Rattle.std.proofs.Common.{◌≡◌, ◌+◌, ◌-◌, ◌^◌, ◌<◌, ◌≤◌, ℕ, min, Bool, List, ◌++◌, length, take, drop, length-drop, ap, ◌∙◌, subst, arith}
use Rattle.std.proofs.lemmas.List.{length-take-le}
use Rattle.pdh_align.specs.Aligning.{Held, StandsFor}
use Rattle.pdh_events.specs.Keeping.{OnesRun, CountsOnes}
use Rattle.pdh_events.specs.laws.QuietLaws.{IsCalm}
use Rattle.pdh_rx.specs.Node.{NodeStands}
use Rattle.pdh_rx.proofs.QuietNode.{quietly_none, calm_fewer, wait_quiet, wait_same, wait_stands, pass_quiet, pass_same, pass_stands}
use Rattle.pdh_rx.proofs.node.RxNode.idle.Goals.{then-count-eq0, else-count-eq0}
use Rattle.pdh_rx.proofs.node.RxNode.idle.Goals as goal

pub returns-then-most-eq0-clause-taken : goal.returns-then-most-eq0-clause-taken
returns-then-most-eq0-clause-taken g c = quietly_none _ _

pub returns-clause-taken : goal.returns-clause-taken
returns-clause-taken g c =
    let s = g.S.Shape.shape in
    let old = c.args.self.now in
    let rest = drop c.args.from c.args.bits.now.bits in
    let ais = c.skip.new.self in
    let bits = c.saturating_add-self.result in
    let Skips : OnesRun → ℕ → Type 0 = λ a k. (line : List Bool) → CountsOnes a line → IsCalm a.long line (take k rest) → CountsOnes ais (line ++ take k rest) in
    elim c.if-count-eq0.branch [
      | then-count-eq0 w ↦
          let k = w.take-count.result in
          let none : c.pass-count.result ≡ 0 = omega (arith, w.if-count-eq0.true) in
          let few : k ≤ c.calm-calm.result = w.take-count.ensures.most in
          let count : length (take k rest) ≡ k = length-take-le k rest (omega (arith, length-drop c.args.from c.args.bits.now.bits, few, c.calm-calm.ensures.most, c.min-most.ensures, c.len.ensures.count, c.requires.begun)) in
          let long : ais.long ≡ old.ais.long = c.skip.ensures.long ∙ ap (λ m. m.ais.long) w.self-is in
          let skips : Skips old.ais k = subst (λ j. Skips old.ais j) w.count-is (subst (λ a. Skips a c.if-count-eq0.count) (ap (λ m. m.ais) w.self-is) c.skip.ensures.counts) in
          let counts : bits ≡ min (old.bits + length (take k rest)) (2 ^ 64 - 1) = omega (arith, count, c.saturating_add-self.ensures, ap (λ m. m.bits) w.self-is, w.count-is) in
          let calm_of : (line : List Bool) → CountsOnes old.ais line → IsCalm old.ais.long line (take k rest) = λ line ones. calm_fewer _ c.calm-calm.result k line rest few (c.calm-calm.ensures.calm line ones) in
          let Was : Held → Type 0 = λ held. (line : List Bool) → StandsFor s held line → StandsFor s c.pass-count.new.self line in
          let was : Was old.aligner = subst Was (c.pass-count.ensures.none none) (λ line h. h) in
          let Gap : ℕ → Type 0 = λ gap. (line : List Bool) → NodeStands g.C.Rx.stands g.C.Rx.meaning s old.children w.take-count.new.self old.gap old.frames old.judged bits ais old.teller line → NodeStands g.C.Rx.stands g.C.Rx.meaning s old.children w.take-count.new.self gap old.frames old.judged bits ais old.teller line in
          let gap_is : old.gap ≡ old.gap + c.pass-count.result = omega (arith, none) in
          let gap : Gap (old.gap + c.pass-count.result) = subst Gap gap_is (λ line h. h) in
          rw (w.self-is, w.count-is)
          (record {
            stands = λ line told. gap (line ++ take k rest) (wait_stands g.C.Rx.stands g.C.Rx.meaning s old.path g.met.S.Shape.is_frame _ _ _ _ _ _ _ _ _ (take k rest) line told (w.take-count.ensures.waits line (was line told.node.aligner)) (calm_of line told.ones_are) bits ais counts long (skips line told.ones_are (calm_of line told.ones_are)));
            same = λ line told. wait_same g.C.Rx.stands g.C.Rx.meaning s old.path g.met.S.Shape.is_frame _ _ _ _ _ _ _ _ _ (take k rest) line told (w.take-count.ensures.waits line (was line told.node.aligner)) (calm_of line told.ones_are);
            quiet = λ line told. wait_quiet g.C.Rx.stands g.C.Rx.meaning s old.path g.met.S.Shape.is_frame _ _ _ _ _ _ _ _ _ (take k rest) line told (w.take-count.ensures.waits line (was line told.node.aligner)) (calm_of line told.ones_are);
          })
      | else-count-eq0 w ↦
          let k = c.pass-count.result in
          let some : 0 < k = omega (arith, w.if-count-eq0.false) in
          let few : k ≤ c.calm-calm.result = omega (arith, c.pass-count.ensures.most, c.min-short.ensures) in
          let count : length (take k rest) ≡ k = length-take-le k rest (omega (arith, length-drop c.args.from c.args.bits.now.bits, few, c.calm-calm.ensures.most, c.min-most.ensures, c.len.ensures.count, c.requires.begun)) in
          let short : old.gap + length (take k rest) < s.len = omega (arith, count, c.pass-count.ensures.most, c.min-short.ensures, c.requires.stands.1.node.inside, g.met.S.Shape.len_is, c.LEN.ensures) in
          let long : ais.long ≡ old.ais.long = c.skip.ensures.long ∙ ap (λ m. m.ais.long) w.self-is in
          let skips : Skips old.ais k = subst (λ j. Skips old.ais j) w.count-is (subst (λ a. Skips a c.if-count-eq0.count) (ap (λ m. m.ais) w.self-is) c.skip.ensures.counts) in
          let counts : bits ≡ min (old.bits + length (take k rest)) (2 ^ 64 - 1) = omega (arith, count, c.saturating_add-self.ensures, ap (λ m. m.bits) w.self-is, w.count-is) in
          let calm_of : (line : List Bool) → CountsOnes old.ais line → IsCalm old.ais.long line (take k rest) = λ line ones. calm_fewer _ c.calm-calm.result k line rest few (c.calm-calm.ensures.calm line ones) in
          rw (w.self-is, w.count-is)
          (record {
            stands = λ line told. pass_stands g.C.Rx.stands g.C.Rx.meaning s old.path g.met.S.Shape.is_frame _ _ _ _ _ _ _ _ _ (take k rest) line told (c.pass-count.ensures.passes some line told.node.aligner) short (calm_of line told.ones_are) _ bits ais (omega (arith, count)) counts long (skips line told.ones_are (calm_of line told.ones_are));
            same = λ line told. pass_same g.C.Rx.stands g.C.Rx.meaning s old.path g.met.S.Shape.is_frame _ _ _ _ _ _ _ _ _ (take k rest) line told (c.pass-count.ensures.passes some line told.node.aligner) short (calm_of line told.ones_are);
            quiet = λ line told. pass_quiet g.C.Rx.stands g.C.Rx.meaning s old.path g.met.S.Shape.is_frame _ _ _ _ _ _ _ _ _ (take k rest) line told (c.pass-count.ensures.passes some line told.node.aligner) short (calm_of line told.ones_are);
          })
    ]
