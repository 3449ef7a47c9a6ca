use Rattle.std.proofs.Common.{◌≡◌, ℕ, ◌+◌, ◌-◌, ◌*◌, ◌/◌, ◌%◌, ◌^◌, ◌<◌, ◌≤◌, ◌++◌, [], ◌∷◌, List, Bool, set, get_or, length, drop, inl, inr, sym, ap, ◌∙◌, arith, rules, length-append, length-drop}
use Rattle.std.proofs.lemmas.Bool.{cases_lt}
use Rattle.std.proofs.lemmas.List.{get_or-set_other, length-set}
use Rattle.std.proofs.lemmas.Grind.{get_or-set_at}
use Rattle.pdh_packed.specs.Words.{low_bits, bits_of_words}
use Rattle.pdh_packed.specs.WordLaws.{length-low_bits}
use Rattle.pdh_packed.proofs.PackedLaws.{length-bits_of_words}
use Rattle.pdh_packed.proofs.RemovingLaws.{words_moved, but_before}
use Rattle.pdh_packed.proofs.removing.move_bits.Goals as goal

-- a word without its first bit, and with the first of the next
abbrev moved : List ℕ → ℕ → ℕ
moved words k = (get_or words k 0 * 2 ^ 1 % 2 ^ 64 + get_or words (k + 1) 0 / 2 ^ 63) % 2 ^ 64

pub loop-index-preserved : goal.loop-index-preserved
loop-index-preserved c =
    let old = c.args.words.now in
    let now = c.loop-index.words in
    let i = c.loop-index.index in
    let v : ℕ = moved now i in
    let is : v ≡ moved old i =
    ap (λ (n : ℕ). (n * 2 ^ 1 % 2 ^ 64 + get_or now (i + 1) 0 / 2 ^ 63) % 2 ^ 64) (c.loop-index.invariant.kept i (omega arith))
    ∙ ap (λ (n : ℕ). (get_or old i 0 * 2 ^ 1 % 2 ^ 64 + n / 2 ^ 63) % 2 ^ 64) (c.loop-index.invariant.kept (i + 1) (omega arith)) in
    record {
      before = λ k early. get_or-set_other now i k v 0 (omega (arith, early, c.loop-index.auto.index)) ∙ c.loop-index.invariant.before k early;
      moved = λ k late within. elim (cases_lt k i) [
        | inl before ↦ get_or-set_other now i k v 0 (omega (arith, before)) ∙ c.loop-index.invariant.moved k late before
        | inr last ↦
            let same : k ≡ i = omega (arith, within, last) in
            get_or-set_at now i k v 0 same (omega (arith, c.loop-index-test.true, c.loop-index.auto.words)) ∙ is ∙ ap (moved old) (sym same)
      ];
      kept = λ k later. get_or-set_other now i k v 0 (omega (arith, later)) ∙ c.loop-index.invariant.kept k (omega (arith, later));
    }

pub returns : goal.returns
returns c =
    let old = c.args.words.now in
    let now = c.loop-index.words in
    let i = c.loop-index.index in
    let from = c.args.from in
    let last = c.args.last in
    let end : ℕ = length old - 1 in
    let n = c.number.result in
    let new : List ℕ = set now end n in
    let small : (k : ℕ) → get_or old k 0 < 2 ^ 64 = λ k. search rules in
    let long : length new ≡ length old = length-set now end n ∙ c.loop-index.auto.words in
    let far : i ≤ end = omega (arith, c.requires, c.loop-index.auto.index-end) in
    let past : end ≤ i = omega (arith, c.loop-index-test.false) in
    let word : low_bits 64 n ≡ drop 1 (low_bits 64 (get_or old end 0)) ++ last ∷ [] =
    let read : c.push.new.self ≡ drop 1 (low_bits 64 (get_or now end 0)) ++ last ∷ [] =
    c.push.ensures ∙ ap (λ (bits : List Bool). bits ++ last ∷ []) (c.after-word.ensures ∙ ap (drop 1) c.of.ensures.bits) in
    let whole : length c.push.new.self ≡ 64 =
    omega (arith, ap length read, length-append (drop 1 (low_bits 64 (get_or now end 0))) (last ∷ []), length-drop 1 (low_bits 64 (get_or now end 0)), length-low_bits 64 (get_or now end 0)) in
    ap (λ (k : ℕ). low_bits k n) (sym whole) ∙ c.number.ensures.bits ∙ read ∙ ap (λ (m : ℕ). drop 1 (low_bits 64 m) ++ last ∷ []) (c.loop-index.invariant.kept end far) in
    words_moved old new from last c.requires long small
    (λ k early. get_or-set_other now end k n 0 (omega (arith, early, c.requires)) ∙ c.loop-index.invariant.before k early)
    (λ k late within. get_or-set_other now end k n 0 (omega (arith, within)) ∙ c.loop-index.invariant.moved k late (omega (arith, within, past)))
    (λ k is.
    let same : k ≡ end = omega (arith, is) in
    ap (low_bits 64) (get_or-set_at now end k n 0 same (omega (arith, c.requires, c.loop-index.auto.words))) ∙ word ∙ ap (λ (m : ℕ). drop 1 (low_bits 64 (get_or old m 0)) ++ last ∷ []) (sym same))
    ∙ sym (but_before (64 * from) (bits_of_words old) last (omega (arith, length-bits_of_words old, c.requires)))
