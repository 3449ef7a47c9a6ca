use Rattle.std.proofs.Common.{◌≡◌, ℕ, ◌++◌, ◌/◌, ◌-◌, ◌*◌, List, Bool, length, take, drop, sym, ap, ◌∙◌, subst, arith}
use Rattle.std.specs.String.{string_bytes}
use Rattle.pdh_bits.specs.Bits.{bytes_of}
use Rattle.pdh_edge.specs.Files.{Appends}
use Rattle.pdh_bits.specs.BitOut.{BoundedBits}
use Rattle.pdh_blocks.specs.Leaves.{IsAppended}
use Rattle.pdh_blocks.proofs.Waiting.{block_appended, output_with}
use Rattle.pdh_blocks.proofs.output_block.OutputBlock.append.Goals as goal

pub returns-clause-ok : goal.returns-clause-ok
returns-clause-ok g c =
    let output = c.self.inside in
    let bits = output.block.bits in
    let rest = c.read-rest.result in
    let n = c.write_bytes-bytes.result in
    let count : n ≡ length bits / 8 = omega (arith, c.write_bytes-bytes.ensures.count, c.requires.block, c.len.ensures.bounded, c.self.invariant) in
    let left : rest ≡ take (length bits - 8 * n) (drop (8 * n) bits) = c.read-rest.ensures ∙ ap (λ (len : ℕ). take (len - 8 * n) (drop (8 * n) bits)) c.len.ensures.count in
    let now : c.append-2.new.self.bits ≡ rest = ap (λ (list : BoundedBits). list.bits) c.append-2.ensures ∙ ap (λ (list : BoundedBits). list.bits ++ rest) c.clear.ensures in
    let a = g.S.Shelf.state c.args.shelf.now in
    let b = g.S.Shelf.state c.append.new.self in
    let written : take n c.write_bytes-bytes.new.into ≡ take n (take n (bytes_of bits) ++ drop n c.args.buffer.now) = ap (take n) c.write_bytes-bytes.ensures.written in
    let done = subst (λ (bytes : List ℕ). Appends c.as_str.result.now bytes a b) written c.in_ok-append.ensures.ok in
    subst (λ (bits : List Bool). IsAppended c.args.self.now (output_with (string_bytes output.name) bits) a b) (sym now)
    (block_appended a b c.args.self.now (string_bytes output.name) c.as_str.result.now bits rest n c.args.buffer.now c.self.view_is count c.as_str.ensures.value left done)
