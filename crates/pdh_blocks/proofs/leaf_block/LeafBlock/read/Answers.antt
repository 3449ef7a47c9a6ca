use Rattle.std.proofs.Common.{◌≡◌, ◌%◌, ◌++◌, length, ap, ◌∙◌, arith}
use Rattle.std.proofs.lemmas.List.{length-take}
use Rattle.pdh_bits.specs.BitOut.{BoundedBits}
use Rattle.pdh_bits.specs.Bits.{bits_of}
use Rattle.pdh_bits.proofs.BitsLemmas.{length-bits_of}
use Rattle.pdh_blocks.specs.Leaves.{Leaf}
use Rattle.pdh_blocks.proofs.Waiting.{block_read}
use Rattle.pdh_blocks.proofs.leaf_block.LeafBlock.read.Goals as goal

pub invariant_of-self : goal.invariant_of-self
invariant_of-self g c =
    let buffer = c.read_at.new.into in
    let block : c.append_bytes.new.self.bits ≡ bits_of buffer = ap (λ (list : BoundedBits). list.bits) c.append_bytes.ensures ∙ ap (λ (list : BoundedBits). list.bits ++ bits_of buffer) c.clear.ensures in
    let room : c.append_bytes.new.self.capacity ≡ 32768 = ap (λ (list : BoundedBits). list.capacity) c.append_bytes.ensures ∙ ap (λ (list : BoundedBits). list.capacity) c.clear.ensures ∙ c.self.invariant.2 in
    let long : length buffer ≡ c.div_ceil.result = omega (arith, c.read_at.auto.into, length-take c.div_ceil.result c.args.buffer.now, c.requires.block, c.div_ceil.ensures, c.min-count.ensures) in
    (omega arith, omega (arith, ap length block, length-bits_of buffer, long, c.div_ceil.ensures), room)

pub returns-clause-ok : goal.returns-clause-ok
returns-clause-ok g c =
    let leaf = c.self.inside in
    let buffer = c.read_at.new.into in
    let block : c.append_bytes.new.self.bits ≡ bits_of buffer = ap (λ (list : BoundedBits). list.bits) c.append_bytes.ensures ∙ ap (λ (list : BoundedBits). list.bits ++ bits_of buffer) c.clear.ensures in
    let long : length buffer ≡ c.div_ceil.result = omega (arith, c.read_at.auto.into, length-take c.div_ceil.result c.args.buffer.now, c.requires.block, c.div_ceil.ensures, c.min-count.ensures) in
    let given_is : leaf.given ≡ c.args.self.now.given = ap (λ (leaf : Leaf). leaf.given) c.self.view_is in
    let whole : leaf.given % 32768 ≡ 0 = omega (arith, given_is, c.requires.whole) in
    block_read (g.S.Shelf.state c.args.shelf.now) c.args.self.now _ c.as_str.result.now leaf.bits leaf.given c.min-count.result _ c.append_bytes.new.self.bits buffer c.self.view_is block (omega (arith, long, c.div_ceil.ensures)) (omega (arith, c.min-count.ensures)) whole c.as_str.ensures.value c.in_ok-read_at.ensures.ok.told
