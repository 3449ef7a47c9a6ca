use Rattle.std.proofs.Common.{◌≡◌, ◌<◌, ◌≤◌, suc, Bool, cond, length, sym, ap, ◌∙◌, arith}
use Rattle.pdh_shape.specs.Tributary.{carries_more}
use Rattle.std.proofs.lemmas.Bool.{lt-ltb}
use Rattle.pdh_runs.proofs.TakingLaws.{length-stripped, few_bits, both_same, later_turn}
use Rattle.pdh_runs.proofs.parts.Parts.turn.Goals as goal

pub overflow_sub-result : goal.overflow_sub-result
overflow_sub-result g c =
    let s = g.S.Shape.shape in
    let j = c.args.trib in
    let known : j < s.tribs = omega (arith, c.requires.known, g.met.S.Shape.tribs_is) in
    let long : length c.bits.result.now.bits ≡ cond (carries_more s j c.args.self.now.frame) (suc s.low) s.low = ap length (c.bits.ensures ∙ c.requires.read) ∙ length-stripped s j c.args.self.now.frame g.met.S.Shape.has_tributaries known in
    let few : length c.bits.result.now.bits ≤ suc s.low = few_bits (carries_more s j c.args.self.now.frame) (length c.bits.result.now.bits) s.low long in
    omega (arith, few, c.len.ensures.count, c.LOW.ensures, g.met.S.Shape.low_is)

pub returns-then-place-just : goal.returns-then-place-just
returns-then-place-just g c =
    let s = g.S.Shape.shape in
    let j = c.args.trib in
    let more : Bool = carries_more s j c.args.self.now.frame in
    let before : c.args.place < c.tributary.result.now.just = omega (arith, c.if-place-just.true, c.from-just.ensures) in
    record {
      just = c.tributary.result.now.just;
      just_is = c.tributary.ensures.just_is;
      turn_is = sym (ap (λ b. cond more c.args.place (cond b c.args.place (suc c.args.place))) (lt-ltb c.args.place c.tributary.result.now.just before) ∙ both_same more c.args.place);
    }

pub returns : goal.returns
returns g c =
    let s = g.S.Shape.shape in
    let j = c.args.trib in
    let more : Bool = carries_more s j c.args.self.now.frame in
    let known : j < s.tribs = omega (arith, c.requires.known, g.met.S.Shape.tribs_is) in
    let long : length c.bits.result.now.bits ≡ cond more (suc s.low) s.low = ap length (c.bits.ensures ∙ c.requires.read) ∙ length-stripped s j c.args.self.now.frame g.met.S.Shape.has_tributaries known in
    let past : c.tributary.result.now.just ≤ c.args.place = omega (arith, c.if-place-just.false, c.from-just.ensures) in
    record {
      just = c.tributary.result.now.just;
      just_is = c.tributary.ensures.just_is;
      turn_is = later_turn more c.args.place c.tributary.result.now.just s.low c.LOW.result (length c.bits.result.now.bits) c.len.result long past (c.LOW.ensures ∙ sym g.met.S.Shape.low_is) c.len.ensures.count;
    }
