use Rattle.std.proofs.Common.{◌≡◌, ℕ, ◌+◌, ◌++◌, [], ◌∷◌, Bool, List, length, ap, refl, ◌∙◌, arith}
use Rattle.std.proofs.lemmas.List.{length_push, append-nil}
use Rattle.circular_buffer.specs.Buffer.{Buffer}
use Rattle.pdh_packed.specs.Words.{low_bits}
use Rattle.pdh_packed.proofs.PackedLaws.{filled, not_filled}
use Rattle.pdh_packed.proofs.RingLaws.{length-ring, word_pushed, ring_grows}
use Rattle.pdh_packed.proofs.ring.BitRing.append_bit.Goals as goal

one_more : (old new : List Bool) (bit : Bool) → new ≡ old ++ bit ∷ [] → length new ≡ length old + 1
one_more old new bit is = ap length is ∙ length_push old bit

pub end_word-requires : goal.end_word-requires
end_word-requires c =
    let long = length-ring c.self.inside c.args.self.now c.self.view_is in
    let last = one_more c.self.inside.tail c.push.new.self c.args.bit c.push.ensures in
    omega (arith, long.0, long.1, last, c.len.ensures.count, c.if-len-eq64.true, c.requires, c.self.invariant)

pub invariant_of-self : goal.invariant_of-self
invariant_of-self c =
    let long = length-ring c.self.inside c.args.self.now c.self.view_is in
    let last = one_more c.self.inside.tail c.push.new.self c.args.bit c.push.ensures in
    let pushed = word_pushed c.self.inside.words c.end_word.new.words c.number.result c.end_word.ensures in
    omega (arith, long.0, long.1, last, pushed.0, pushed.1, ap length c.empty-self-inside.ensures, c.len.ensures.count, c.if-len-eq64.true, c.requires, c.self.invariant)

pub invariant_of-self-else-len-eq64 : goal.invariant_of-self-else-len-eq64
invariant_of-self-else-len-eq64 c =
    let long = length-ring c.self.inside c.args.self.now c.self.view_is in
    let last = one_more c.self.inside.tail c.push.new.self c.args.bit c.push.ensures in
    omega (arith, long.0, long.1, last, c.len.ensures.count, c.if-len-eq64.false, c.requires, c.self.invariant)

pub returns-then-len-eq64 : goal.returns-then-len-eq64
returns-then-len-eq64 c =
    let ring = c.self.inside in
    let bit : List Bool = c.args.bit ∷ [] in
    let long : length c.push.new.self ≡ 64 = omega (arith, c.len.ensures.count, c.if-len-eq64.true) in
    let number : low_bits 64 c.number.result ≡ ring.tail ++ bit = ap (λ (n : ℕ). low_bits n c.number.result) (omega (arith, long)) ∙ c.number.ensures.bits ∙ c.push.ensures in
    let full : low_bits 64 c.number.result ++ c.empty-self-inside.result ≡ ring.tail ++ bit =
    ap (λ (bits : List Bool). low_bits 64 c.number.result ++ bits) c.empty-self-inside.ensures ∙ append-nil (low_bits 64 c.number.result) ∙ number in
    let pushed = word_pushed ring.words c.end_word.new.words c.number.result c.end_word.ensures in
    ring_grows ring c.args.self.now _ _ bit c.self.view_is c.self.invariant.4 pushed.1
    (filled ring.words.items _ ring.tail _ bit c.number.result (ap (λ (b : Buffer ℕ). b.items) c.end_word.ensures) full)

pub returns-else-len-eq64 : goal.returns-else-len-eq64
returns-else-len-eq64 c =
    let ring = c.self.inside in
    ring_grows ring c.args.self.now _ _ (c.args.bit ∷ []) c.self.view_is c.self.invariant.4 refl (not_filled ring.words.items ring.tail _ _ c.push.ensures)
