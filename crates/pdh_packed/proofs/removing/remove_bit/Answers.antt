use Rattle.std.proofs.Common.{◌≡◌, ℕ, ◌+◌, ◌*◌, ◌/◌, ◌%◌, ◌<◌, ◌++◌, [], ◌∷◌, List, Bool, set, get_or, length, take, drop, refl, sym, ap, ◌∙◌, arith, length-append, length-take, length-drop}
use Rattle.std.proofs.lemmas.List.{get_or-set_other, length-set}
use Rattle.std.proofs.lemmas.Grind.{get_or-set_at}
use Rattle.pdh_packed.specs.Words.{low_bits, bits_of_words}
use Rattle.pdh_packed.proofs.PackedLaws.{length-bits_of_words, word_among}
use Rattle.pdh_packed.proofs.RemovingLaws.{words_without, but_before}
use Rattle.pdh_packed.proofs.removing.remove_bit.Goals as goal

pub join-requires : goal.join-requires
join-requires c =
    let at : ℕ = c.args.place % 64 in
    omega (
      arith,
      c.of.ensures.count,
      c.of-2.ensures.count,
      ap length c.first-kept.ensures,
      ap length c.after.ensures,
      length-take at c.of.result,
      length-drop at c.of-2.result,
    )

pub returns : goal.returns
returns c =
    let old = c.args.words.now in
    let moved = c.move_bits.new.words in
    let place = c.args.place in
    let last = c.args.last in
    let index : ℕ = place / 64 in
    let at : ℕ = place % 64 in
    let n = c.number.result in
    let bits : List Bool = bits_of_words old ++ last ∷ [] in
    let within : index < length old = omega (arith, c.requires) in
    let long : length moved ≡ length old = c.move_bits.auto.words in
    let size : length bits ≡ 64 * length old + 1 = omega (arith, length-append (bits_of_words old) (last ∷ []), length-bits_of_words old) in
    let read : c.join.result ≡ take at (low_bits 64 (get_or old index 0)) ++ drop at (low_bits 64 (get_or moved index 0)) =
    c.join.ensures ∙ ap (λ (front : List Bool). front ++ c.after.result) (c.first-kept.ensures ∙ ap (take at) c.of.ensures.bits)
    ∙ ap (λ (rest : List Bool). take at (low_bits 64 (get_or old index 0)) ++ rest) (c.after.ensures ∙ ap (drop at) c.of-2.ensures.bits) in
    let whole : length c.join.result ≡ 64 =
    omega (
      arith,
      ap length c.join.ensures,
      length-append c.first-kept.result c.after.result,
      c.of.ensures.count,
      c.of-2.ensures.count,
      ap length c.first-kept.ensures,
      ap length c.after.ensures,
      length-take at c.of.result,
      length-drop at c.of-2.result,
    ) in
    let word : low_bits 64 n ≡ take at (low_bits 64 (get_or old index 0)) ++ drop at (low_bits 64 (get_or moved index 0)) =
    ap (λ (k : ℕ). low_bits k n) (sym whole) ∙ c.number.ensures.bits ∙ read in
    words_without old moved (set moved index n) place bits c.requires long (length-set moved index n ∙ long) size (word_among old (last ∷ []) index within)
    (c.move_bits.ensures ∙ but_before (64 * index) (bits_of_words old) last (omega (arith, length-bits_of_words old, within)))
    (λ k early. get_or-set_other moved index k n 0 (omega (arith, early)))
    (λ k late. get_or-set_other moved index k n 0 (omega (arith, late)))
    (ap (low_bits 64) (get_or-set_at moved index index n 0 refl (omega (arith, within, long))) ∙ word)
    ∙ sym (but_before place (bits_of_words old) last (omega (arith, length-bits_of_words old, c.requires)))
