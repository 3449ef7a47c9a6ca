use Rattle.std.proofs.Common.{◌≡◌, ℕ, ◌+◌, ◌-◌, ◌*◌, ◌/◌, ◌%◌, ◌<◌, ◌≤◌, Bool, List, length, take, drop, get_or, refl, sym, ap, ◌∙◌, arith, length-take, length-drop}
use Rattle.std.specs.Vec.{with_items}
use Rattle.std.proofs.lemmas.List.{with_items_is, get_or_read}
use Rattle.pdh_packed.specs.Words.{low_bits, bits_of_words}
use Rattle.pdh_packed.specs.Places.{both, overwritten}
use Rattle.pdh_packed.proofs.PackedLaws.{length-bits_of_words}
use Rattle.pdh_packed.proofs.PlacesLaws.{length-both}
use Rattle.pdh_packed.proofs.ArrayLaws.{length-seen, write_seen, let_through, two_masks, overwritten_twice}
use Rattle.pdh_packed.proofs.bit_array.BitArray.write_masked.Goals as goal

-- what is written over one word is what the mask lets through
segment : (len place i : ℕ) (words : List ℕ) (seen mask : List Bool) (number : ℕ) → len < 64 * length words → take len (bits_of_words words) ≡ seen → i ≡ place / 64 → place % 64 + length mask ≤ 64 → place + length mask ≤ length seen
    → number ≡ get_or words i number → both (take (length mask) (drop (place % 64) (low_bits 64 number))) mask ≡ both (take (length mask) (drop place seen)) mask
segment len place i words seen mask number whole is at within room read =
    let long : length seen ≡ len = sym (ap length is) ∙ length-seen len words whole in
    let among : i < length words = omega (arith, at, room, long, whole) in
    ap (λ (n : ℕ). both (take (length mask) (drop (place % 64) (low_bits 64 n))) mask) (get_or_read words i number among read 0)
    ∙ let_through len place i (place % 64) words seen mask among within (omega (arith, at)) (omega (arith, room, long)) is

pub returns-then-len-room : goal.returns-then-len-room
returns-then-len-room c =
    let words = c.self.inside.words in
    let place = c.args.place in
    let mask = c.args.mask in
    let part : List Bool = both (take (length mask) (drop place c.args.other.now)) mask in
    let ws : List ℕ = c.overwrite_word.new.words in
    let items : (with_items words ws).items ≡ ws = with_items_is words ws (c.overwrite_word.auto.words ∙ c.deref_mut.ensures.len) in
    let through = segment c.other.inside.len place (place / 64) c.other.inside.words.items c.args.other.now mask c.index.result.now c.other.invariant.0 c.other.view_is refl
    (omega (arith, c.if-len-room.true, c.len.ensures.count)) c.requires.among c.index.ensures in
    let written : bits_of_words (with_items words ws).items ≡ overwritten place part (bits_of_words words.items) =
    ap bits_of_words items ∙ c.overwrite_word.ensures ∙ ap (λ (x : List Bool). overwritten place x (bits_of_words c.deref_mut.result.now)) through
    ∙ ap (λ (x : List ℕ). overwritten place part (bits_of_words x)) c.deref_mut.ensures.value in
    let long : length part ≡ length mask = omega (arith, length-both (take (length mask) (drop place c.args.other.now)) mask, length-take (length mask) (drop place c.args.other.now), length-drop place c.args.other.now, c.requires.among) in
    write_seen c.self.inside.len place part c.args.self.now words.items _ c.self.invariant.0 (omega (arith, long, c.requires.within)) c.self.view_is written

pub returns : goal.returns
returns c =
    let words = c.self.inside.words in
    let place = c.args.place in
    let mask = c.args.mask in
    let room : ℕ = 64 - place % 64 in
    let seen = c.args.other.now in
    let part : List Bool = both (take (length mask) (drop place seen)) mask in
    let front : List Bool = c.first.result in
    let rest : List Bool = c.after.result in
    let ws : List ℕ = c.overwrite_word-2.new.words in
    let last : List ℕ = c.overwrite_word-3.new.words in
    let items : (with_items words ws).items ≡ ws = with_items_is words ws (c.overwrite_word-2.auto.words ∙ c.deref_mut-2.ensures.len) in
    let all : (with_items (with_items words ws) last).items ≡ last = with_items_is (with_items words ws) last (c.overwrite_word-3.auto.words ∙ c.deref_mut-3.ensures.len) in
    let past : room ≤ length mask = omega (arith, c.if-len-room.false, c.len.ensures.count) in
    let long_front : length front ≡ room = ap length c.first.ensures ∙ omega (arith, length-take room mask, past) in
    let long_rest : length rest ≡ length mask - room = ap length c.after.ensures ∙ length-drop room mask in
    let first : List Bool = both (take room (drop place seen)) (take room mask) in
    let second : List Bool = both (take (length mask - room) (drop (place + room) seen)) (drop room mask) in
    let through = segment c.other.inside.len place (place / 64) c.other.inside.words.items seen front c.index-2.result.now c.other.invariant.0 c.other.view_is refl (omega (arith, long_front)) (omega (arith, long_front, past, c.requires.among)) c.index-2.ensures
    ∙ ap (λ (n : ℕ). both (take n (drop place seen)) front) long_front ∙ ap (both (take room (drop place seen))) c.first.ensures in
    let next : (place + room) / 64 ≡ place / 64 + 1 = omega arith in
    let through_next = segment c.other.inside.len (place + room) (place / 64 + 1) c.other.inside.words.items seen rest c.index-3.result.now c.other.invariant.0 c.other.view_is (sym next)
    (omega (arith, long_rest, c.len.ensures.bounded)) (omega (arith, long_rest, past, c.requires.among)) c.index-3.ensures
    ∙ ap (λ (n : ℕ). both (take n (drop (place + room) seen)) rest) long_rest ∙ ap (both (take (length mask - room) (drop (place + room) seen))) c.after.ensures in
    let within : place + room ≤ length (bits_of_words words.items) =
    omega (arith, c.requires.within, past, length-bits_of_words words.items, c.self.invariant.0, ap length c.self.view_is, length-seen c.self.inside.len words.items c.self.invariant.0) in
    let long_first : length first ≡ room = omega (arith, length-both (take room (drop place seen)) (take room mask), length-take room (drop place seen), length-drop place seen, length-take room mask, past, c.requires.among) in
    let begun : bits_of_words ws ≡ overwritten place first (bits_of_words words.items) =
    c.overwrite_word-2.ensures ∙ ap (λ (x : List Bool). overwritten place x (bits_of_words c.deref_mut-2.result.now)) through ∙ ap (λ (x : List ℕ). overwritten place first (bits_of_words x)) c.deref_mut-2.ensures.value in
    let written : bits_of_words (with_items (with_items words ws) last).items ≡ overwritten place part (bits_of_words words.items) =
    ap bits_of_words all ∙ c.overwrite_word-3.ensures ∙ ap (λ (x : List Bool). overwritten (place + room) x (bits_of_words c.deref_mut-3.result.now)) through_next
    ∙ ap (overwritten (place + room) second) (ap bits_of_words (c.deref_mut-3.ensures.value ∙ items) ∙ begun)
    ∙ overwritten_twice place room first second (bits_of_words words.items) long_first within
    ∙ ap (λ (x : List Bool). overwritten place x (bits_of_words words.items)) (two_masks place room seen mask past c.requires.among) in
    let long : length part ≡ length mask = omega (arith, length-both (take (length mask) (drop place seen)) mask, length-take (length mask) (drop place seen), length-drop place seen, c.requires.among) in
    write_seen c.self.inside.len place part c.args.self.now words.items _ c.self.invariant.0 (omega (arith, long, c.requires.within)) c.self.view_is written
