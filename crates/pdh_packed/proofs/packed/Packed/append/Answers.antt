use Rattle.std.proofs.Common.{◌≡◌, ◌+◌, ◌++◌, Bool, List, length, ap, arith, length-append}
use Rattle.pdh_packed.specs.Words.{bits_of_words}
use Rattle.pdh_packed.proofs.PackedLaws.{filled, length-filled}
use Rattle.pdh_packed.proofs.BoundedLaws.{length-packed, bits_become}
use Rattle.pdh_packed.proofs.packed.Packed.append.Goals as goal

pub push_reserved-requires : goal.push_reserved-requires
push_reserved-requires c =
    let tail = c.self.inside.tail in
    let long = length-packed c.self.inside.capacity c.self.inside.words.items tail c.args.self.now c.self.view_is in
    let whole = length-filled tail c.fill.new.self c.args.word c.in-Some.full c.in-Some.ensures.bits in
    omega (arith, long.0, long.1, whole, c.requires.room, c.self.invariant, c.self.inside.words.ok)

pub invariant_of-self : goal.invariant_of-self
invariant_of-self c =
    let tail = c.self.inside.tail in
    let long = length-packed c.self.inside.capacity c.self.inside.words.items tail c.args.self.now c.self.view_is in
    let whole = length-filled tail c.fill.new.self c.args.word c.in-Some.full c.in-Some.ensures.bits in
    let pushed : length c.push_reserved.new.self.items ≡ length c.self.inside.words.items + 1 = search (arith, c.push_reserved.ensures.items) in
    omega (arith, long.0, long.1, whole, pushed, c.requires.room, c.self.invariant, c.push_reserved.ensures.capacity, c.fill.ensures.few)

pub invariant_of-self-in_default : goal.invariant_of-self-in_default
invariant_of-self-in_default c =
    let tail = c.self.inside.tail in
    let long = length-packed c.self.inside.capacity c.self.inside.words.items tail c.args.self.now c.self.view_is in
    omega (arith, long.0, long.1, ap length c.in_default.ensures.bits, length-append tail c.args.word, c.requires.room, c.self.invariant, c.fill.ensures.few)

pub returns-in-Some : goal.returns-in-Some
returns-in-Some c =
    let words = c.self.inside.words.items in
    let tail = c.self.inside.tail in
    bits_become (λ (bits : List Bool). bits ++ c.args.word) c.self.inside.capacity (bits_of_words words ++ tail) _ c.args.self.now c.self.view_is
    (filled words c.push_reserved.new.self.items tail c.fill.new.self c.args.word c.in-Some.full c.push_reserved.ensures.items c.in-Some.ensures.bits)
