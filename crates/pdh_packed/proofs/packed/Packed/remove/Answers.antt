use Rattle.std.proofs.Common.{◌≡◌, ℕ, ◌+◌, ◌*◌, ◌%◌, ◌<◌, ◌++◌, [], ◌∷◌, false, Bool, List, get_or, length, take, drop, ap, ◌∙◌, arith, length-append, length-take, length-drop}
use Rattle.std.proofs.lemmas.List.{with_items_is}
use Rattle.std.specs.Vec.{with_items}
use Rattle.pdh_packed.specs.Words.{bits_of_words}
use Rattle.pdh_packed.proofs.PackedLaws.{length-bits_of_words}
use Rattle.pdh_packed.proofs.BoundedLaws.{length-packed, bits_become}
use Rattle.pdh_packed.proofs.RemovingLaws.{but_behind, but_among}
use Rattle.pdh_packed.proofs.packed.Packed.remove.Goals as goal

-- the bits of words and those behind them are as many as those of others
same_size : (words words' : List ℕ) (tail tail' : List Bool) → bits_of_words words' ++ tail' ≡ bits_of_words words ++ tail → 64 * length words' + length tail' ≡ 64 * length words + length tail
same_size words words' tail tail' same =
    omega (arith, ap length same, length-append (bits_of_words words') tail', length-append (bits_of_words words) tail, length-bits_of_words words', length-bits_of_words words)

pub take_last-last-requires : goal.take_last-last-requires
take_last-last-requires c =
    let long = length-packed c.self.inside.capacity c.self.inside.words.items c.self.inside.tail c.args.self.now c.self.view_is in
    omega (arith, long.0, c.requires)

pub without-self-inside-requires : goal.without-self-inside-requires
without-self-inside-requires c =
    let long = length-packed c.self.inside.capacity c.self.inside.words.items c.self.inside.tail c.args.self.now c.self.view_is in
    let size = same_size c.self.inside.words.items c.take_last-last.new.words.items c.self.inside.tail c.take_last-last.result c.take_last-last.ensures.bits in
    omega (arith, long.0, size, c.requires, c.if-place-len.true, c.len.ensures, c.take_last-last.new.words.ok)

pub get-requires : goal.get-requires
get-requires c = omega (arith, c.take_last-last.ensures.size)

pub after-self-inside-requires : goal.after-self-inside-requires
after-self-inside-requires c = omega (arith, c.take_last-last.ensures.size)

pub remove_bit-requires : goal.remove_bit-requires
remove_bit-requires c =
    let long = length-packed c.self.inside.capacity c.self.inside.words.items c.self.inside.tail c.args.self.now c.self.view_is in
    let size = same_size c.self.inside.words.items c.take_last-last.new.words.items c.self.inside.tail c.take_last-last.result c.take_last-last.ensures.bits in
    omega (arith, long.0, size, c.requires, c.if-place-len.false, c.len.ensures, c.take_last-last.new.words.ok, c.take_last-last.ensures.size, ap length c.deref_mut.ensures.value)

pub invariant_of-self : goal.invariant_of-self
invariant_of-self c =
    let last = c.take_last-last.result in
    let at : ℕ = c.args.place % 64 in
    let long = length-packed c.self.inside.capacity c.self.inside.words.items c.self.inside.tail c.args.self.now c.self.view_is in
    let size = same_size c.self.inside.words.items c.take_last-last.new.words.items c.self.inside.tail last c.take_last-last.ensures.bits in
    let less : length c.without-self-inside.result + 1 ≡ length last =
    omega (
      arith,
      ap length c.without-self-inside.ensures,
      length-append (take at last) (drop (at + 1) last),
      length-take at last,
      length-drop (at + 1) last,
      long.0,
      size,
      c.requires,
      c.if-place-len.true,
      c.len.ensures,
      c.take_last-last.new.words.ok,
    ) in
    omega (arith, long.0, long.1, size, less, c.take_last-last.ensures.size, c.take_last-last.ensures.capacity, c.self.invariant)

pub returns-then-place-len : goal.returns-then-place-len
returns-then-place-len c =
    let words = c.take_last-last.new.words.items in
    let last = c.take_last-last.result in
    let place = c.args.place in
    let at : ℕ = place % 64 in
    let is : place ≡ length (bits_of_words words) + at = omega (arith, length-bits_of_words words, c.if-place-len.true, c.len.ensures, c.take_last-last.new.words.ok) in
    bits_become (λ (bits : List Bool). take place bits ++ drop (place + 1) bits) c.self.inside.capacity (bits_of_words c.self.inside.words.items ++ c.self.inside.tail) _ c.args.self.now c.self.view_is
    (ap (λ (bits : List Bool). bits_of_words words ++ bits) c.without-self-inside.ensures ∙ but_behind (bits_of_words words) last place at is
    ∙ ap (λ (bits : List Bool). take place bits ++ drop (place + 1) bits) c.take_last-last.ensures.bits)

pub invariant_of-self-2 : goal.invariant_of-self-2
invariant_of-self-2 c =
    let last = c.take_last-last.result in
    let words = c.take_last-last.new.words in
    let long = length-packed c.self.inside.capacity c.self.inside.words.items c.self.inside.tail c.args.self.now c.self.view_is in
    let size = same_size c.self.inside.words.items words.items c.self.inside.tail last c.take_last-last.ensures.bits in
    let same : length c.remove_bit.new.words ≡ length words.items = c.remove_bit.auto.words ∙ ap length c.deref_mut.ensures.value in
    let kept : length (with_items words c.remove_bit.new.words).items ≡ length words.items =
    ap length (with_items_is words c.remove_bit.new.words (c.remove_bit.auto.words ∙ c.deref_mut.ensures.len)) ∙ same in
    let less : length c.after-self-inside.result + 1 ≡ length last = omega (arith, ap length c.after-self-inside.ensures, length-drop 1 last, c.take_last-last.ensures.size) in
    omega (arith, long.0, long.1, size, kept, less, c.take_last-last.ensures.size, c.take_last-last.ensures.capacity, c.self.invariant)

pub returns : goal.returns
returns c =
    let words = c.take_last-last.new.words in
    let last = c.take_last-last.result in
    let place = c.args.place in
    let new = c.remove_bit.new.words in
    let long = length-packed c.self.inside.capacity c.self.inside.words.items c.self.inside.tail c.args.self.now c.self.view_is in
    let size = same_size c.self.inside.words.items words.items c.self.inside.tail last c.take_last-last.ensures.bits in
    let within : place < length (bits_of_words words.items) =
    omega (arith, long.0, size, c.requires, c.if-place-len.false, c.len.ensures, words.ok, c.take_last-last.ensures.size, length-bits_of_words words.items) in
    let kept : (with_items words new).items ≡ new = with_items_is words new (c.remove_bit.auto.words ∙ c.deref_mut.ensures.len) in
    let removed : bits_of_words new ≡ take place (bits_of_words words.items) ++ (drop (place + 1) (bits_of_words words.items) ++ get_or last 0 false ∷ []) =
    c.remove_bit.ensures
    ∙ ap (λ (w : List ℕ). take place (bits_of_words w) ++ (drop (place + 1) (bits_of_words w) ++ c.get.result ∷ [])) c.deref_mut.ensures.value
    ∙ ap (λ (b : Bool). take place (bits_of_words words.items) ++ (drop (place + 1) (bits_of_words words.items) ++ b ∷ [])) c.get.ensures in
    bits_become (λ (bits : List Bool). take place bits ++ drop (place + 1) bits) c.self.inside.capacity (bits_of_words c.self.inside.words.items ++ c.self.inside.tail) _ c.args.self.now c.self.view_is
    (ap (λ (w : List ℕ). bits_of_words w ++ c.after-self-inside.result) kept ∙ ap (λ (bits : List Bool). bits_of_words new ++ bits) c.after-self-inside.ensures
    ∙ but_among (bits_of_words words.items) last (bits_of_words new) place within (omega (arith, c.take_last-last.ensures.size)) removed
    ∙ ap (λ (bits : List Bool). take place bits ++ drop (place + 1) bits) c.take_last-last.ensures.bits)
