use Rattle.std.proofs.Common.{◌≡◌, ℕ, ◌+◌, ◌-◌, ◌*◌, ◌/◌, ◌%◌, ◌≤◌, ◌++◌, Bool, List, length, take, drop, ap, ◌∙◌, arith, length-append, length-take, length-drop}
use Rattle.pdh_packed.specs.Words.{bits_of_words}
use Rattle.pdh_packed.proofs.PackedLaws.{bits_of_words-append}
use Rattle.pdh_packed.proofs.BoundedLaws.{length-packed, bits_inside, bits_become}
use Rattle.pdh_packed.proofs.RunLaws.{behind_whole, run_read, moved_read}
use Rattle.pdh_packed.proofs.packed.Packed.append_aligned.Goals as goal

pub append_words-requires : goal.append_words-requires
append_words-requires c =
    let mine = length-packed c.self.inside.capacity c.self.inside.words.items c.self.inside.tail c.args.self.now c.self.view_is in
    let index : ℕ = c.args.place / 64 in
    let n : ℕ = index + c.min-whole.result + c.min-more.result - index in
    let long = length-take n (drop index c.deref.result.now) in
    let left = length-drop index c.deref.result.now in
    omega (arith, mine.0, mine.1, c.requires.room, c.self.invariant, c.self.inside.words.ok, c.if-offset-eq0.true, long, left, c.min-whole.ensures, c.min-more.ensures, c.saturating_sub.ensures, c.len.ensures, c.deref.ensures.len, c.if-whole-eq0.false)

pub append_moved-requires : goal.append_moved-requires
append_moved-requires c =
    let mine = length-packed c.self.inside.capacity c.self.inside.words.items c.self.inside.tail c.args.self.now c.self.view_is in
    let index : ℕ = c.args.place / 64 in
    let n : ℕ = index + c.min-whole.result + c.min-more.result - index in
    let long = length-take n (drop index c.deref.result.now) in
    let left = length-drop index c.deref.result.now in
    record {
      place = (omega (arith, c.if-offset-eq0.false), omega arith);
      some = omega (arith, long, left, c.min-whole.ensures, c.min-more.ensures, c.saturating_sub.ensures, c.len.ensures, c.deref.ensures.len, c.if-whole-eq0.false);
      room = omega (arith, mine.0, mine.1, c.requires.room, c.self.invariant, c.self.inside.words.ok, long, left, c.min-whole.ensures, c.min-more.ensures, c.saturating_sub.ensures, c.len.ensures, c.deref.ensures.len, c.if-whole-eq0.false);
    }

pub invariant_of-self : goal.invariant_of-self
invariant_of-self c =
    let mine = length-packed c.self.inside.capacity c.self.inside.words.items c.self.inside.tail c.args.self.now c.self.view_is in
    let index : ℕ = c.args.place / 64 in
    let n : ℕ = index + c.min-whole.result + c.min-more.result - index in
    let long = length-take n (drop index c.deref.result.now) in
    let left = length-drop index c.deref.result.now in
    let all : length c.append_words.new.words.items ≡ length c.self.inside.words.items + length (take n (drop index c.deref.result.now)) =
    ap length c.append_words.ensures.items ∙ length-append c.self.inside.words.items (take n (drop index c.deref.result.now)) in (
      c.self.invariant.0,
      omega (arith, c.append_words.ensures.capacity, c.self.invariant.1),
      omega (arith, all, mine.0, mine.1, c.requires.room, c.if-offset-eq0.true, long, left, c.min-whole.ensures, c.min-more.ensures, c.saturating_sub.ensures, c.len.ensures, c.deref.ensures.len, c.if-whole-eq0.false),
      c.self.invariant.3,
    )

pub returns-then-offset-eq0-clause-bits : goal.returns-then-offset-eq0-clause-bits
returns-then-offset-eq0-clause-bits c =
    let mine = length-packed c.self.inside.capacity c.self.inside.words.items c.self.inside.tail c.args.self.now c.self.view_is in
    let theirs = length-packed c.other.inside.capacity c.other.inside.words.items c.other.inside.tail c.args.other.now c.other.view_is in
    let index : ℕ = c.args.place / 64 in
    let n : ℕ = index + c.min-whole.result + c.min-more.result - index in
    let long = length-take n (drop index c.deref.result.now) in
    let left = length-drop index c.deref.result.now in
    let words = c.self.inside.words.items in
    let tail = c.self.inside.tail in
    let others = c.other.inside.words.items in
    let seen = c.args.other.now.bits in
    let place = c.args.place in
    let whole : ℕ = c.min-whole.result in
    let word : List Bool = take (64 * whole) (drop place seen) in
    let run : List ℕ = take n (drop index c.deref.result.now) in
    let few : n ≡ whole = omega (arith, c.min-more.ensures, c.if-offset-eq0.true) in
    let at : 64 * index ≡ place = omega (arith, c.if-offset-eq0.true) in
    let within : index + whole ≤ length others = omega (arith, ap length c.deref.ensures.value, long, left, c.min-whole.ensures, c.min-more.ensures, c.saturating_sub.ensures, c.len.ensures, c.deref.ensures.len, c.if-whole-eq0.false) in
    let is : run ≡ take whole (drop index others) =
    ap (λ (k : ℕ). take k (drop index c.deref.result.now)) few ∙ ap (λ (ws : List ℕ). take whole (drop index ws)) c.deref.ensures.value in
    let read : bits_of_words run ≡ word =
    ap bits_of_words is ∙ run_read others c.other.inside.tail index whole within
    ∙ ap (λ (bits : List Bool). take (64 * whole) (drop (64 * index) bits)) (bits_inside c.other.inside.capacity (bits_of_words others ++ c.other.inside.tail) c.args.other.now c.other.view_is)
    ∙ ap (λ (k : ℕ). take (64 * whole) (drop k seen)) at in
    let none : length tail ≡ 0 = omega (arith, mine.0, c.requires.whole, c.self.invariant.0) in
    bits_become (λ (bits : List Bool). bits ++ word) c.self.inside.capacity (bits_of_words words ++ tail) _ c.args.self.now c.self.view_is
    (behind_whole words c.append_words.new.words.items tail word none
    (ap bits_of_words c.append_words.ensures.items ∙ bits_of_words-append words run ∙ ap (λ (bits : List Bool). bits_of_words words ++ bits) read))

pub returns-then-offset-eq0-clause-most : goal.returns-then-offset-eq0-clause-most
returns-then-offset-eq0-clause-most c =
    let theirs = length-packed c.other.inside.capacity c.other.inside.words.items c.other.inside.tail c.args.other.now c.other.view_is in
    (omega (arith, c.min-whole.ensures), omega (arith, theirs.0, c.other.invariant.0, c.requires.within, c.other.inside.words.ok, c.min-whole.ensures, c.min-more.ensures, c.saturating_sub.ensures, c.len.ensures, c.if-offset-eq0.true))

pub returns-then-whole-eq0-clause-most : goal.returns-then-whole-eq0-clause-most
returns-then-whole-eq0-clause-most c =
    let theirs = length-packed c.other.inside.capacity c.other.inside.words.items c.other.inside.tail c.args.other.now c.other.view_is in
    (omega arith, omega (arith, theirs.0, c.other.invariant.0, c.requires.within, c.other.inside.words.ok, c.min-whole.ensures, c.min-more.ensures, c.saturating_sub.ensures, c.len.ensures, c.if-whole-eq0.true))

pub invariant_of-self-2 : goal.invariant_of-self-2
invariant_of-self-2 c =
    let mine = length-packed c.self.inside.capacity c.self.inside.words.items c.self.inside.tail c.args.self.now c.self.view_is in
    let index : ℕ = c.args.place / 64 in
    let n : ℕ = index + c.min-whole.result + c.min-more.result - index in
    let long = length-take n (drop index c.deref.result.now) in
    let left = length-drop index c.deref.result.now in (
      c.self.invariant.0,
      omega (arith, c.append_moved.ensures.capacity, c.self.invariant.1),
      omega (arith, c.append_moved.ensures.count, mine.0, mine.1, c.requires.room, long, left, c.min-whole.ensures, c.min-more.ensures, c.saturating_sub.ensures, c.len.ensures, c.deref.ensures.len, c.if-whole-eq0.false),
      c.self.invariant.3,
    )

pub returns-clause-bits : goal.returns-clause-bits
returns-clause-bits c =
    let mine = length-packed c.self.inside.capacity c.self.inside.words.items c.self.inside.tail c.args.self.now c.self.view_is in
    let index : ℕ = c.args.place / 64 in
    let n : ℕ = index + c.min-whole.result + c.min-more.result - index in
    let long = length-take n (drop index c.deref.result.now) in
    let left = length-drop index c.deref.result.now in
    let words = c.self.inside.words.items in
    let tail = c.self.inside.tail in
    let others = c.other.inside.words.items in
    let seen = c.args.other.now.bits in
    let place = c.args.place in
    let offset : ℕ = place % 64 in
    let whole : ℕ = c.min-whole.result in
    let word : List Bool = take (64 * whole) (drop place seen) in
    let run : List ℕ = take n (drop index c.deref.result.now) in
    let few : n ≡ whole + 1 = omega (arith, c.min-more.ensures, c.if-offset-eq0.false) in
    let within : index + (whole + 1) ≤ length others = omega (arith, ap length c.deref.ensures.value, few, long, left, c.min-whole.ensures, c.min-more.ensures, c.saturating_sub.ensures, c.len.ensures, c.deref.ensures.len, c.if-whole-eq0.false) in
    let is : run ≡ take (whole + 1) (drop index others) =
    ap (λ (k : ℕ). take k (drop index c.deref.result.now)) few ∙ ap (λ (ws : List ℕ). take (whole + 1) (drop index ws)) c.deref.ensures.value in
    let size : length run - 1 ≡ whole = omega (arith, few, within, ap length c.deref.ensures.value, long, left) in
    let read : take (64 * (length run - 1)) (drop offset (bits_of_words run)) ≡ word =
    ap (λ (k : ℕ). take (64 * k) (drop offset (bits_of_words run))) size ∙ ap (λ (ws : List ℕ). take (64 * whole) (drop offset (bits_of_words ws))) is
    ∙ moved_read others c.other.inside.tail place whole within
    ∙ ap (λ (bits : List Bool). take (64 * whole) (drop place bits)) (bits_inside c.other.inside.capacity (bits_of_words others ++ c.other.inside.tail) c.args.other.now c.other.view_is) in
    let none : length tail ≡ 0 = omega (arith, mine.0, c.requires.whole, c.self.invariant.0) in
    bits_become (λ (bits : List Bool). bits ++ word) c.self.inside.capacity (bits_of_words words ++ tail) _ c.args.self.now c.self.view_is
    (behind_whole words c.append_moved.new.words.items tail word none (c.append_moved.ensures.bits ∙ ap (λ (bits : List Bool). bits_of_words words ++ bits) read))

pub returns-clause-most : goal.returns-clause-most
returns-clause-most c =
    let theirs = length-packed c.other.inside.capacity c.other.inside.words.items c.other.inside.tail c.args.other.now c.other.view_is in
    (omega (arith, c.min-whole.ensures), omega (arith, theirs.0, c.other.invariant.0, c.requires.within, c.other.inside.words.ok, c.min-whole.ensures, c.min-more.ensures, c.saturating_sub.ensures, c.len.ensures))
