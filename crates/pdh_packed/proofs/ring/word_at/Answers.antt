use Rattle.std.proofs.Common.{◌≡◌, ℕ, ◌≤◌, List, Some, None, slice_get, length, get_or, sym, ap, ◌∙◌, arith, inl, inr}
use Rattle.std.proofs.lemmas.Bool.{cases_lt}
use Rattle.std.proofs.lemmas.Option.{slice_get-get_or, slice_get_within, get_or_from_slice_get}
use Rattle.pdh_packed.specs.Words.{low_bits}
use Rattle.pdh_packed.proofs.PackedLaws.{word_among, word_after, word_past}
use Rattle.pdh_packed.proofs.ring.word_at.Goals as goal

-- past the end there is none
none_past : (xs : List ℕ) (i : ℕ) → slice_get xs i ≡ None → length xs ≤ i
none_past xs i none = elim (cases_lt i (length xs)) [ inl within ↦ let some = slice_get-get_or xs i 0 within in absurd cc | inr past ↦ past ]

pub returns-in-Some : goal.returns-in-Some
returns-in-Some c =
    let words = c.args.words.now.items in
    let i = c.args.index in
    let held : slice_get words i ≡ Some c.in-Some.word.now = sym c.in-Some.ensures in
    let at : get_or words i 0 ≡ c.in-Some.word.now = get_or_from_slice_get words i c.in-Some.word.now 0 held in
    c.of.ensures.bits ∙ ap (low_bits 64) (sym at) ∙ sym (word_among words c.args.tail.now i (slice_get_within words i c.in-Some.word.now held))

pub returns-then-index-len : goal.returns-then-index-len
returns-then-index-len c =
    sym (word_after c.args.words.now.items c.args.tail.now c.args.index (omega (arith, c.if-index-len.true, c.len.ensures.len)) c.requires)

pub returns : goal.returns
returns c =
    let words = c.args.words.now.items in
    let past : length words ≤ c.args.index = none_past words c.args.index (sym c.in_default.ensures) in
    c.empty.ensures ∙ sym (word_past words c.args.tail.now c.args.index (omega (arith, c.if-index-len.false, c.len.ensures.len)) c.requires)
