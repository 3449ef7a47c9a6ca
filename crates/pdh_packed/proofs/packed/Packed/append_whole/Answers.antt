use Rattle.std.proofs.Common.{◌≡◌, ◌+◌, ◌++◌, Bool, List, length, arith}
use Rattle.pdh_packed.specs.Words.{low_bits, bits_of_words}
use Rattle.pdh_packed.proofs.PackedLaws.{filled}
use Rattle.pdh_packed.proofs.BoundedLaws.{length-packed, bits_become}
use Rattle.pdh_packed.proofs.packed.Packed.append_whole.Goals as goal

pub push_reserved-requires : goal.push_reserved-requires
push_reserved-requires c =
    let long = length-packed c.self.inside.capacity c.self.inside.words.items c.self.inside.tail c.args.self.now c.self.view_is in
    omega (arith, long.0, long.1, c.requires, c.self.invariant, c.self.inside.words.ok)

pub invariant_of-self : goal.invariant_of-self
invariant_of-self c =
    let long = length-packed c.self.inside.capacity c.self.inside.words.items c.self.inside.tail c.args.self.now c.self.view_is in
    let pushed : length c.push_reserved.new.self.items ≡ length c.self.inside.words.items + 1 = search (arith, c.push_reserved.ensures.items) in
    omega (arith, long.0, long.1, pushed, c.requires, c.self.invariant, c.push_reserved.ensures.capacity, c.fill_whole-full.ensures.count)

pub returns : goal.returns
returns c =
    let words = c.self.inside.words.items in
    let tail = c.self.inside.tail in
    let word : List Bool = low_bits 64 c.args.number in
    bits_become (λ (bits : List Bool). bits ++ word) c.self.inside.capacity (bits_of_words words ++ tail) _ c.args.self.now c.self.view_is
    (filled words c.push_reserved.new.self.items tail c.fill_whole-full.new.self word c.fill_whole-full.result c.push_reserved.ensures.items c.fill_whole-full.ensures.bits)
