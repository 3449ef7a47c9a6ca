use Rattle.std.proofs.Common.{◌≡◌, ℕ, ◌+◌, ◌*◌, ◌/◌, ◌<◌, ◌^◌, rules, Bool, List, length, take, drop, ap, sym, ◌∙◌, arith, length-take, length-drop}
use Rattle.pdh_packed.specs.Words.{low_bits}
use Rattle.pdh_packed.proofs.PackedLaws.{word_among, whole_read}
use Rattle.pdh_packed.proofs.RingLaws.{bits_in, stands_inside, ring_read}
use Rattle.pdh_packed.proofs.ring.BitRing.read_whole.Goals as goal

pub overflow_add-from : goal.overflow_add-from
overflow_add-from c = omega (arith, stands_inside c.self.inside c.args.self.now c.args.place 64 c.self.view_is c.self.invariant.4 c.requires, c.self.invariant)

pub whole_at-requires : goal.whole_at-requires
whole_at-requires c = omega (arith, stands_inside c.self.inside c.args.self.now c.args.place 64 c.self.view_is c.self.invariant.4 c.requires, c.self.invariant, c.if-offset-eq0.true)

pub returns-then-offset-eq0 : goal.returns-then-offset-eq0
returns-then-offset-eq0 c =
    let words = c.self.inside.words in
    let from : ℕ = c.self.inside.dropped + c.args.place in
    let whole : 64 * (from / 64) ≡ from = omega (arith, c.if-offset-eq0.true) in
    let within : from / 64 < length words.items = omega (arith, stands_inside c.self.inside c.args.self.now c.args.place 64 c.self.view_is c.self.invariant.4 c.requires, c.self.invariant, whole) in
    ap (low_bits 64) c.whole_at.ensures ∙ sym (word_among words.items c.self.inside.tail (from / 64) within) ∙ ap (λ (n : ℕ). take 64 (drop n (bits_in c.self.inside))) whole
    ∙ ring_read c.self.inside c.args.self.now c.args.place 64 c.self.view_is

pub returns-then-index-len : goal.returns-then-index-len
returns-then-index-len c =
    let bits = c.args.self.now.bits in
    let place = c.args.place in
    let long : length c.read.result ≡ 64 = omega (arith, c.requires, ap length c.read.ensures, length-take 64 (drop place bits), length-drop place bits) in
    ap (λ (n : ℕ). low_bits n c.number.result) (sym long) ∙ c.number.ensures.bits ∙ c.read.ensures

pub returns : goal.returns
returns c =
    let words = c.self.inside.words in
    let tail = c.self.inside.tail in
    let inside : List Bool = bits_in c.self.inside in
    let from : ℕ = c.self.inside.dropped + c.args.place in
    let i : ℕ = from / 64 in
    let within : i + 1 < length words.items = omega (arith, c.len.ensures.len, c.if-index-len.false) in
    let small : c.whole_at-3.result < 2 ^ 64 = search rules in
    let first : take 64 (drop (64 * i) inside) ≡ low_bits 64 c.whole_at-2.result = word_among words.items tail i (omega arith) ∙ ap (low_bits 64) (sym c.whole_at-2.ensures) in
    let second : take 64 (drop (64 * (i + 1)) inside) ≡ low_bits 64 c.whole_at-3.result = word_among words.items tail (i + 1) within ∙ ap (low_bits 64) (sym c.whole_at-3.ensures) in
    whole_read inside c.whole_at-2.result c.whole_at-3.result from (omega (arith, c.if-offset-eq0.false)) first second small
    ∙ ring_read c.self.inside c.args.self.now c.args.place 64 c.self.view_is
