use Rattle.std.proofs.Common.{◌≡◌, ℕ, ◌+◌, ◌*◌, ◌/◌, ◌<◌, ◌^◌, rules, ◌++◌, Bool, List, length, take, drop, get_or, ap, sym, ◌∙◌, arith}
use Rattle.std.proofs.lemmas.List.{get_or_read}
use Rattle.pdh_packed.specs.Words.{low_bits, bits_of_words}
use Rattle.pdh_packed.proofs.PackedLaws.{word_among, whole_read}
use Rattle.pdh_packed.proofs.BoundedLaws.{bits_inside, length-packed}
use Rattle.pdh_packed.proofs.packed.Packed.read_whole.Goals as goal

pub index-requires : goal.index-requires
index-requires c =
    let long = length-packed c.self.inside.capacity c.self.inside.words.items c.self.inside.tail c.args.self.now c.self.view_is in
    omega (arith, long.0, long.1, c.self.invariant, c.requires, c.if-offset-eq0.true)

pub returns-then-offset-eq0 : goal.returns-then-offset-eq0
returns-then-offset-eq0 c =
    let place = c.args.place in
    let i = place / 64 in
    let words = c.self.inside.words.items in
    let tail = c.self.inside.tail in
    let view : bits_of_words words ++ tail ≡ c.args.self.now.bits = bits_inside c.self.inside.capacity _ c.args.self.now c.self.view_is in
    let at : 64 * i ≡ place = omega (arith, c.if-offset-eq0.true) in
    let long = length-packed c.self.inside.capacity words tail c.args.self.now c.self.view_is in
    let within : i < length words = omega (arith, long.0, long.1, c.self.invariant, c.requires) in
    let x : c.index.result.now ≡ get_or words i 0 = get_or_read words i c.index.result.now within c.index.ensures 0 in
    ap (low_bits 64) x ∙ sym (word_among words tail i within) ∙ ap (λ (bits : List Bool). take 64 (drop (64 * i) bits)) view ∙ ap (λ (k : ℕ). take 64 (drop k c.args.self.now.bits)) at

pub returns : goal.returns
returns c =
    let i = c.args.place / 64 in
    let words = c.self.inside.words.items in
    let tail = c.self.inside.tail in
    let view : bits_of_words words ++ tail ≡ c.args.self.now.bits = bits_inside c.self.inside.capacity _ c.args.self.now c.self.view_is in
    let within : i + 1 < length words = omega (arith, c.self.inside.words.ok) in
    let x : c.index-2.result.now ≡ get_or words i 0 = get_or_read words i c.index-2.result.now (omega arith) c.index-2.ensures 0 in
    let y : c.index-3.result.now ≡ get_or words (i + 1) 0 = get_or_read words (i + 1) c.index-3.result.now within c.index-3.ensures 0 in
    let small : c.index-3.result.now < 2 ^ 64 = search rules in
    let first : take 64 (drop (64 * i) c.args.self.now.bits) ≡ low_bits 64 c.index-2.result.now =
    ap (λ (bits : List Bool). take 64 (drop (64 * i) bits)) (sym view) ∙ word_among words tail i (omega arith) ∙ ap (low_bits 64) (sym x) in
    let second : take 64 (drop (64 * (i + 1)) c.args.self.now.bits) ≡ low_bits 64 c.index-3.result.now =
    ap (λ (bits : List Bool). take 64 (drop (64 * (i + 1)) bits)) (sym view) ∙ word_among words tail (i + 1) within ∙ ap (low_bits 64) (sym y) in
    whole_read c.args.self.now.bits c.index-2.result.now c.index-3.result.now c.args.place (omega (arith, c.if-offset-eq0.false)) first second small
