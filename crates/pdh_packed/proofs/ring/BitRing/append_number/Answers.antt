use Rattle.std.proofs.Common.{ℕ, ap, arith}
use Rattle.circular_buffer.specs.Buffer.{Buffer}
use Rattle.pdh_packed.specs.Words.{low_bits}
use Rattle.pdh_packed.proofs.PackedLaws.{filled}
use Rattle.pdh_packed.proofs.RingLaws.{length-ring, word_pushed, ring_grows}
use Rattle.pdh_packed.proofs.ring.BitRing.append_number.Goals as goal

pub append_whole-requires : goal.append_whole-requires
append_whole-requires c =
    let long = length-ring c.self.inside c.args.self.now c.self.view_is in
    omega (arith, long.0, long.1, c.requires, c.self.invariant)

pub invariant_of-self : goal.invariant_of-self
invariant_of-self c =
    let long = length-ring c.self.inside c.args.self.now c.self.view_is in
    let pushed = word_pushed c.self.inside.words c.append_whole.new.words c.fill_whole-full.result c.append_whole.ensures in
    omega (arith, long.0, long.1, pushed.0, pushed.1, c.requires, c.self.invariant, c.fill_whole-full.ensures.count)

pub returns : goal.returns
returns c =
    let ring = c.self.inside in
    let pushed = word_pushed ring.words c.append_whole.new.words c.fill_whole-full.result c.append_whole.ensures in
    ring_grows ring c.args.self.now _ _ (low_bits 64 c.args.number) c.self.view_is c.self.invariant.4 pushed.1
    (filled ring.words.items _ ring.tail _ _ c.fill_whole-full.result (ap (λ (b : Buffer ℕ). b.items) c.append_whole.ensures) c.fill_whole-full.ensures.bits)
