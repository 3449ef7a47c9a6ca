use Rattle.std.proofs.Common.{ℕ, length, ap, refl, arith, length-append}
use Rattle.circular_buffer.specs.Buffer.{Buffer}
use Rattle.pdh_packed.proofs.PackedLaws.{filled, length-filled, not_filled}
use Rattle.pdh_packed.proofs.RingLaws.{length-ring, word_pushed, ring_grows}
use Rattle.pdh_packed.proofs.ring.BitRing.append.Goals as goal

pub append_whole-requires : goal.append_whole-requires
append_whole-requires c =
    let long = length-ring c.self.inside c.args.self.now c.self.view_is in
    let whole = length-filled c.self.inside.tail c.fill.new.self c.args.word c.in-Some.full c.in-Some.ensures.bits in
    omega (arith, long.0, long.1, whole, c.requires, c.self.invariant)

pub invariant_of-self : goal.invariant_of-self
invariant_of-self c =
    let long = length-ring c.self.inside c.args.self.now c.self.view_is in
    let whole = length-filled c.self.inside.tail c.fill.new.self c.args.word c.in-Some.full c.in-Some.ensures.bits in
    let pushed = word_pushed c.self.inside.words c.append_whole.new.words c.in-Some.full c.append_whole.ensures in
    omega (arith, long.0, long.1, whole, pushed.0, pushed.1, c.requires, c.self.invariant, c.fill.ensures.few)

pub invariant_of-self-in_default : goal.invariant_of-self-in_default
invariant_of-self-in_default c =
    let long = length-ring c.self.inside c.args.self.now c.self.view_is in
    omega (arith, long.0, long.1, c.requires, c.self.invariant, c.fill.ensures.few, ap length c.in_default.ensures.bits, length-append c.self.inside.tail c.args.word)

pub returns-in-Some : goal.returns-in-Some
returns-in-Some c =
    let ring = c.self.inside in
    let pushed = word_pushed ring.words c.append_whole.new.words c.in-Some.full c.append_whole.ensures in
    ring_grows ring c.args.self.now _ _ c.args.word c.self.view_is c.self.invariant.4 pushed.1
    (filled ring.words.items _ ring.tail _ _ c.in-Some.full (ap (λ (b : Buffer ℕ). b.items) c.append_whole.ensures) c.in-Some.ensures.bits)

pub returns-in_default : goal.returns-in_default
returns-in_default c =
    let ring = c.self.inside in
    ring_grows ring c.args.self.now _ _ c.args.word c.self.view_is c.self.invariant.4 refl (not_filled ring.words.items ring.tail _ _ c.in_default.ensures.bits)
