use Rattle.std.proofs.Common.{◌≡◌, ℕ, ◌+◌, ◌-◌, ◌*◌, ◌/◌, ◌%◌, ◌≤◌, ◌++◌, Bool, List, length, drop, ap, sym, ◌∙◌, arith}
use Rattle.std.proofs.lemmas.List.{drop-drop}
use Rattle.circular_buffer.specs.Buffer.{Buffer}
use Rattle.pdh_packed.specs.Words.{bits_of_words}
use Rattle.pdh_packed.proofs.PackedLaws.{bits_of_words_none, dropped_all, dropped_some}
use Rattle.pdh_packed.proofs.BoundedLaws.{bits_become}
use Rattle.pdh_packed.proofs.RingLaws.{length-ring}
use Rattle.pdh_packed.proofs.ring.BitRing.drop_oldest.Goals as goal

pub overflow_add-past : goal.overflow_add-past
overflow_add-past c =
    let long = length-ring c.self.inside c.args.self.now c.self.view_is in
    omega (arith, long.0, long.1, c.requires, c.self.invariant)

pub after-self-inside-requires : goal.after-self-inside-requires
after-self-inside-requires c =
    let long = length-ring c.self.inside c.args.self.now c.self.view_is in
    omega (arith, long.0, long.1, c.requires, c.self.invariant, c.len-words.ensures.len)

pub returns-then-past-words : goal.returns-then-past-words
returns-then-past-words c =
    let words = c.self.inside.words in
    let tail = c.self.inside.tail in
    let d = c.self.inside.dropped in
    let count = c.args.count in
    let left = c.after-self-inside.result in
    let inside : List Bool = bits_of_words words.items ++ tail in
    let past : ℕ = d + count in
    let none : bits_of_words c.clear.new.self.items ++ left ≡ left =
    ap (λ (b : Buffer ℕ). bits_of_words b.items ++ left) c.clear.ensures ∙ ap (λ (bits : List Bool). bits ++ left) bits_of_words_none in
    let cut : left ≡ drop (past - 64 * length words.items) tail = c.after-self-inside.ensures ∙ ap (λ (n : ℕ). drop (past - 64 * n) tail) c.len-words.ensures.len in
    let all = dropped_all words.items tail past (omega (arith, c.len-words.ensures.len)) in
    let room : c.clear.new.self.capacity ≡ words.capacity = ap (λ (b : Buffer ℕ). b.capacity) c.clear.ensures in
    rw room (bits_become (drop count) (64 * words.capacity) (drop d inside) _ c.args.self.now c.self.view_is
    (none ∙ cut ∙ sym all ∙ sym (drop-drop count d inside)))

pub returns : goal.returns
returns c =
    let words = c.self.inside.words in
    let tail = c.self.inside.tail in
    let d = c.self.inside.dropped in
    let count = c.args.count in
    let inside : List Bool = bits_of_words words.items ++ tail in
    let past : ℕ = d + count in
    let within : past ≤ 64 * length words.items = omega (arith, c.len-words.ensures.len) in
    let whole : length words.items - (c.len-words.result - past / 64) ≡ past / 64 = omega (arith, c.len-words.ensures.len) in
    let kept : c.truncate_front.new.self.items ≡ drop (past / 64) words.items =
    ap (λ (b : Buffer ℕ). b.items) c.truncate_front.ensures ∙ ap (λ (n : ℕ). drop n words.items) whole in
    let room : c.truncate_front.new.self.capacity ≡ words.capacity = ap (λ (b : Buffer ℕ). b.capacity) c.truncate_front.ensures in
    rw room (bits_become (drop count) (64 * words.capacity) (drop d inside) _ c.args.self.now c.self.view_is
    (ap (λ (ws : List ℕ). drop (past % 64) (bits_of_words ws ++ tail)) kept ∙ dropped_some words.items tail past within ∙ sym (drop-drop count d inside)))
