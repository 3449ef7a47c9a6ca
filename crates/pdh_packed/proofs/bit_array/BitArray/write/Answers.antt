use Rattle.std.proofs.Common.{◌≡◌, ℕ, ◌+◌, ◌-◌, ◌%◌, ◌≤◌, ◌++◌, Bool, List, length, take, ap, ◌∙◌, arith, length-take, length-drop}
use Rattle.std.specs.Vec.{with_items}
use Rattle.std.proofs.lemmas.List.{with_items_is, take-append-drop}
use Rattle.pdh_packed.specs.Words.{bits_of_words}
use Rattle.pdh_packed.specs.Places.{overwritten}
use Rattle.pdh_packed.proofs.PackedLaws.{length-bits_of_words}
use Rattle.pdh_packed.proofs.ArrayLaws.{length-seen, write_seen, written_whole, overwritten_twice}
use Rattle.pdh_packed.proofs.bit_array.BitArray.write.Goals as goal

pub returns-then-len-room : goal.returns-then-len-room
returns-then-len-room c =
    let words = c.self.inside.words in
    let place = c.args.place in
    let word = c.args.word in
    let ws : List ℕ = c.overwrite_word.new.words in
    let items : (with_items words ws).items ≡ ws = with_items_is words ws (c.overwrite_word.auto.words ∙ c.deref_mut.ensures.len) in
    let written : bits_of_words (with_items words ws).items ≡ overwritten place word (bits_of_words words.items) =
    ap bits_of_words items ∙ c.overwrite_word.ensures ∙ written_whole place (place % 64) word _ (omega (arith, c.if-len-room.true, c.len.ensures.count)) ∙ ap (λ (x : List ℕ). overwritten place word (bits_of_words x)) c.deref_mut.ensures.value in
    write_seen c.self.inside.len place word c.args.self.now words.items _ c.self.invariant.0 c.requires c.self.view_is written

pub returns : goal.returns
returns c =
    let place = c.args.place in
    let word = c.args.word in
    let room : ℕ = 64 - place % 64 in
    let words = c.self.inside.words in
    let ws : List ℕ = c.overwrite_word-2.new.words in
    let last : List ℕ = c.overwrite_word-3.new.words in
    let items : (with_items words ws).items ≡ ws = with_items_is words ws (c.overwrite_word-2.auto.words ∙ c.deref_mut-2.ensures.len) in
    let all : (with_items (with_items words ws) last).items ≡ last = with_items_is (with_items words ws) last (c.overwrite_word-3.auto.words ∙ c.deref_mut-3.ensures.len) in
    let front : length c.first.result ≡ room = ap length c.first.ensures ∙ omega (arith, length-take room word, c.if-len-room.false, c.len.ensures.count) in
    let behind : length c.after.result ≡ length word - room = ap length c.after.ensures ∙ length-drop room word in
    let within : place + room ≤ length (bits_of_words words.items) =
    omega (arith, c.requires, c.if-len-room.false, c.len.ensures.count, length-bits_of_words words.items, c.self.invariant.0, ap length c.self.view_is, length-seen c.self.inside.len words.items c.self.invariant.0) in
    let whole : c.first.result ++ c.after.result ≡ word = ap (λ (x : List Bool). x ++ c.after.result) c.first.ensures ∙ ap (λ (x : List Bool). take room word ++ x) c.after.ensures ∙ take-append-drop room word in
    let begun : bits_of_words ws ≡ overwritten place c.first.result (bits_of_words words.items) =
    c.overwrite_word-2.ensures ∙ written_whole place (place % 64) c.first.result _ (omega (arith, front)) ∙ ap (λ (x : List ℕ). overwritten place c.first.result (bits_of_words x)) c.deref_mut-2.ensures.value in
    let written : bits_of_words (with_items (with_items words ws) last).items ≡ overwritten place word (bits_of_words words.items) =
    ap bits_of_words all ∙ c.overwrite_word-3.ensures ∙ written_whole (place + room) _ c.after.result _ (omega (arith, behind, c.len.ensures.bounded))
    ∙ ap (overwritten (place + room) c.after.result) (ap bits_of_words (c.deref_mut-3.ensures.value ∙ items) ∙ begun)
    ∙ overwritten_twice place room c.first.result c.after.result (bits_of_words words.items) front within
    ∙ ap (λ (x : List Bool). overwritten place x (bits_of_words words.items)) whole in
    write_seen c.self.inside.len place word c.args.self.now words.items _ c.self.invariant.0 c.requires c.self.view_is written
