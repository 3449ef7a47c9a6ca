use Rattle.std.proofs.Common.{◌≡◌, ℕ, ◌+◌, ◌++◌, Bool, List, length, ap, sym, ◌∙◌, arith, append_assoc, length-append}
use Rattle.pdh_packed.specs.Words.{bits_of_words}
use Rattle.pdh_packed.proofs.PackedLaws.{bits_of_words-append}
use Rattle.pdh_packed.proofs.BoundedLaws.{length-packed, bits_inside, bits_become}
use Rattle.pdh_packed.proofs.RunLaws.{append-none}
use Rattle.pdh_packed.proofs.packed.Packed.append_all.Goals as goal

pub append_words-requires : goal.append_words-requires
append_words-requires c =
    let mine = length-packed c.self.inside.capacity c.self.inside.words.items c.self.inside.tail c.args.self.now c.self.view_is in
    let theirs = length-packed c.other.inside.capacity c.other.inside.words.items c.other.inside.tail c.args.other.now c.other.view_is in
    omega (arith, mine.0, mine.1, theirs.0, c.requires, c.self.invariant, ap length c.deref.ensures.value)

pub append_behind-requires : goal.append_behind-requires
append_behind-requires c =
    let mine = length-packed c.self.inside.capacity c.self.inside.words.items c.self.inside.tail c.args.self.now c.self.view_is in
    let theirs = length-packed c.other.inside.capacity c.other.inside.words.items c.other.inside.tail c.args.other.now c.other.view_is in
    record { few = c.self.invariant.0; room = omega (arith, mine.0, mine.1, theirs.0, c.requires, c.self.invariant, ap length c.deref-2.ensures.value) }

pub invariant_of-self : goal.invariant_of-self
invariant_of-self c =
    let mine = length-packed c.self.inside.capacity c.self.inside.words.items c.self.inside.tail c.args.self.now c.self.view_is in
    let theirs = length-packed c.other.inside.capacity c.other.inside.words.items c.other.inside.tail c.args.other.now c.other.view_is in
    let all : length c.append_words.new.words.items ≡ length c.self.inside.words.items + length c.deref.result.now =
    ap length c.append_words.ensures.items ∙ length-append c.self.inside.words.items c.deref.result.now in (
      c.other.invariant.0,
      omega (arith, c.append_words.ensures.capacity, c.self.invariant.1),
      omega (arith, all, mine.0, mine.1, theirs.0, c.requires, ap length c.deref.ensures.value),
      c.self.invariant.3,
    )

pub returns-then-len-eq0 : goal.returns-then-len-eq0
returns-then-len-eq0 c =
    let words = c.self.inside.words.items in
    let tail = c.self.inside.tail in
    let others = c.other.inside.words.items in
    let behind = c.other.inside.tail in
    let seen = c.args.other.now.bits in
    let none : length tail ≡ 0 = omega (arith, c.if-len-eq0.true, c.len.ensures.count) in
    let items : c.append_words.new.words.items ≡ words ++ others = c.append_words.ensures.items ∙ ap (λ (ws : List ℕ). words ++ ws) c.deref.ensures.value in
    let whole : bits_of_words others ++ behind ≡ seen = bits_inside c.other.inside.capacity (bits_of_words others ++ behind) c.args.other.now c.other.view_is in
    let front : bits_of_words words ≡ bits_of_words words ++ tail = sym (append-none (bits_of_words words) tail none) in
    bits_become (λ (bits : List Bool). bits ++ seen) c.self.inside.capacity (bits_of_words words ++ tail) _ c.args.self.now c.self.view_is
    (ap (λ (ws : List ℕ). bits_of_words ws ++ behind) items ∙ ap (λ (bits : List Bool). bits ++ behind) (bits_of_words-append words others) ∙ append_assoc (bits_of_words words) (bits_of_words others) behind
    ∙ ap (λ (bits : List Bool). bits_of_words words ++ bits) whole ∙ ap (λ (bits : List Bool). bits ++ seen) front)

pub invariant_of-self-2 : goal.invariant_of-self-2
invariant_of-self-2 c =
    let mine = length-packed c.self.inside.capacity c.self.inside.words.items c.self.inside.tail c.args.self.now c.self.view_is in
    let theirs = length-packed c.other.inside.capacity c.other.inside.words.items c.other.inside.tail c.args.other.now c.other.view_is in (
      omega (arith, c.append_behind.ensures.tail, c.self.invariant.0),
      omega (arith, c.append_behind.ensures.capacity, c.self.invariant.1),
      omega (arith, c.append_behind.ensures.count, c.append_behind.ensures.tail, mine.0, mine.1, theirs.0, c.requires, ap length c.deref-2.ensures.value),
      c.self.invariant.3,
    )
