use Rattle.std.proofs.Common.{◌≡◌, ◌++◌, Bool, List, map, ap, ◌∙◌, sym}
use Rattle.std.proofs.lemmas.List.{map-append, with_items_is}
use Rattle.std.proofs.lemmas.Simd.{splat_is_map}
use Rattle.std.specs.Vec.{with_items}
use Rattle.pdh_packed.specs.Words.{bits_of_words}
use Rattle.pdh_packed.proofs.BoundedLaws.{bits_become}
use Rattle.pdh_packed.proofs.packed.Packed.fill.Goals as goal

pub returns : goal.returns
returns c =
    let words = c.self.inside.words.items in
    let tail = c.self.inside.tail in
    let bit = c.args.bit in
    let set = λ (bits : List Bool). map (λ old. bit) bits in
    let kept : (with_items c.self.inside.words c.fill_words.new.words).items ≡ c.fill_words.new.words =
    with_items_is c.self.inside.words c.fill_words.new.words (c.fill_words.ensures.lens ∙ c.deref_mut.ensures.len) in
    let whole : bits_of_words (with_items c.self.inside.words c.fill_words.new.words).items ≡ set (bits_of_words words) =
    ap bits_of_words kept ∙ c.fill_words.ensures.bits ∙ ap (λ words. set (bits_of_words words)) c.deref_mut.ensures.value in
    let rest : c.copies-self-inside.result ≡ set tail = c.copies-self-inside.ensures ∙ splat_is_map tail c.len.result bit (sym c.len.ensures.count) in
    bits_become set c.self.inside.capacity (bits_of_words words ++ tail) _ c.args.self.now c.self.view_is
    (ap (λ bits. bits ++ c.copies-self-inside.result) whole ∙ ap (λ bits. set (bits_of_words words) ++ bits) rest ∙ sym (map-append (λ old. bit) (bits_of_words words) tail))
