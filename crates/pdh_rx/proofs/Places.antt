-- The bits of a frame, or of a gap, place by place: place p is tributary p % tribs's, which gets a bit there or none. The children
-- were given what brings no event up to their due places, and all acts before a place were played.
use Rattle.std.proofs.Common.{◌≡◌, inl, inr, ℕ, zero, suc, ◌+◌, ◌-◌, ◌%◌, ◌<◌, ◌≤◌, ◌==◌, Bool, cond, List, [], ◌∷◌, ◌++◌, Option, Some, None, sym, ap, ◌∙◌, arith}
use Rattle.std.specs.Prelude.{flat_map}
use Rattle.std.specs.List.{range_with_len}
use Rattle.std.proofs.lemmas.List.{append-nil}
use Rattle.std.proofs.lemmas.Grind.{flat_map-append}
use Rattle.std.proofs.lemmas.Bool.{cases_eq, eq-eqb, ne_eqb}
use Rattle.pdh_line.proofs.Ranges.{range_append}
use Rattle.pdh_edge.specs.Ports.{only}
use Rattle.pdh_events.specs.Acts.{Act}
use Rattle.pdh_events.specs.Acts.Act.{Note, Give}
use Rattle.pdh_events.specs.laws.ActsLaws.{bits_to, bits_to-append}
use Rattle.pdh_events.specs.laws.QuietLaws.{OnlyGive}
use Rattle.pdh_rx.specs.Places.{cell_acts, place_acts, places_acts}

only_append : (a b : List Act) → OnlyGive a → OnlyGive b → OnlyGive (a ++ b)
only_append [] b p q = q
only_append (Note event ∷ a) b p q = absurd p
only_append (Give j bit ∷ a) b p q = only_append a b p q

only_cell : (j : ℕ) (c : Option Bool) → OnlyGive (cell_acts j c)
only_cell j None = tt
only_cell j (Some bit) = tt

-- they note nothing
pub places_give : (tribs : ℕ) (cell : ℕ → Option Bool) (from count : ℕ) → OnlyGive (places_acts tribs cell from count)
places_give tribs cell from zero = tt
places_give tribs cell from (suc count) = only_append (place_acts tribs cell from) (places_acts tribs cell (from + 1) count) (only_cell (from % tribs) (cell from)) (places_give tribs cell (from + 1) count)

-- so many places, and then more
pub places_split : (tribs : ℕ) (cell : ℕ → Option Bool) (from a b : ℕ) → places_acts tribs cell from (a + b) ≡ places_acts tribs cell from a ++ places_acts tribs cell (from + a) b
places_split tribs cell from a b = ap (flat_map (place_acts tribs cell)) (range_append from a b) ∙ flat_map-append (place_acts tribs cell) (range_with_len from a) (range_with_len (from + a) b)

-- what is ahead for each tributary, where all before place `at` is done, and its bits up to its due place were given
abbrev pub ahead_of : ℕ → (ℕ → Option Bool) → ℕ → (ℕ → ℕ) → ℕ → List Bool
ahead_of tribs cell at due j = bits_to (places_acts tribs cell at (due j - at)) j

pub one_place : (tribs : ℕ) (cell : ℕ → Option Bool) (p : ℕ) → places_acts tribs cell p 1 ≡ place_acts tribs cell p
one_place tribs cell p = append-nil (place_acts tribs cell p)

cell_here : (tribs : ℕ) (cell : ℕ → Option Bool) (p : ℕ) (bit : Bool) → cell p ≡ Some bit → place_acts tribs cell p ≡ Give (p % tribs) bit ∷ []
cell_here tribs cell p bit e = ap (cell_acts (p % tribs)) e

-- The tributary i is due first, at place p, where it gets a bit. The others' bits ahead are those up to p and then what is later;
-- the first one's are those up to p, and nothing is later.
pub due_front : (tribs : ℕ) (cell : ℕ → Option Bool) (at p i : ℕ) (bit : Bool) (due : ℕ → ℕ) (j : ℕ) → at ≤ p → p % tribs ≡ i → cell p ≡ Some bit → p ≤ due j → (j ≡ i → due j ≡ p) → (due j ≡ p → j ≡ i)
    → ahead_of tribs cell at due j ≡ bits_to (places_acts tribs cell at (p - at)) j ++ cond (j == i) [] (ahead_of tribs cell (p + 1) due j)
due_front tribs cell at p i bit due j le is here first mine own = elim (cases_eq j i) [
  | inl e ↦
      let last : due j - at ≡ p - at = ap (λ n. n - at) (mine e) in
      ap (λ n. bits_to (places_acts tribs cell at n) j) last ∙ sym (append-nil (bits_to (places_acts tribs cell at (p - at)) j))
      ∙ ap (λ b. bits_to (places_acts tribs cell at (p - at)) j ++ cond b [] (ahead_of tribs cell (p + 1) due j)) (sym (eq-eqb j i e))
  | inr ne ↦
      let more : p < due j = later (λ e. ne (own e)) in
      let count : due j - at ≡ (p - at) + (1 + (due j - (p + 1))) = omega (arith, le, more) in
      let back : at + (p - at) ≡ p = omega (arith, le) in
      let front : List Bool = bits_to (places_acts tribs cell at (p - at)) j in
      let rest : List Bool = ahead_of tribs cell (p + 1) due j in
      ap (λ n. bits_to (places_acts tribs cell at n) j) count
      ∙ ap (λ a. bits_to a j) (places_split tribs cell at (p - at) (1 + (due j - (p + 1))))
      ∙ bits_to-append (places_acts tribs cell at (p - at)) (places_acts tribs cell (at + (p - at)) (1 + (due j - (p + 1)))) j
      ∙ ap (λ q. front ++ bits_to (places_acts tribs cell q (1 + (due j - (p + 1)))) j) back
      ∙ ap (λ v. front ++ v) (ap (λ a. bits_to a j) (places_split tribs cell p 1 (due j - (p + 1))) ∙ bits_to-append (places_acts tribs cell p 1) (places_acts tribs cell (p + 1) (due j - (p + 1))) j
      ∙ ap (λ v. v ++ rest) (none ne))
      ∙ ap (λ b. front ++ cond b [] rest) (sym (ne_eqb j i ne))
]
  where
    later : (due j ≡ p → ⊥) → p < due j
    later ne = elim (cases_eq (due j) p) [
      | inl e ↦ absurd (ne e)
      | inr ne' ↦ omega (arith, first, ne')
    ]

    none : (j ≡ i → ⊥) → bits_to (places_acts tribs cell p 1) j ≡ []
    none ne = ap (λ a. bits_to a j) (one_place tribs cell p ∙ cell_here tribs cell p bit here) ∙ append-nil (only (p % tribs) bit j) ∙ ap (λ b. cond b (bit ∷ []) []) (ne_eqb j (p % tribs) (λ e. ne (e ∙ is)))

-- The acts before the first due place, and its own, are those up to the next place.
pub due_next : (tribs : ℕ) (cell : ℕ → Option Bool) (at p i : ℕ) (bit : Bool) → at ≤ p → p % tribs ≡ i → cell p ≡ Some bit
    → places_acts tribs cell 0 at ++ (places_acts tribs cell at (p - at) ++ Give i bit ∷ []) ≡ places_acts tribs cell 0 (p + 1)
due_next tribs cell at p i bit le is here =
    let back : at + (p - at) ≡ p = omega (arith, le) in
    let none : 0 + at ≡ at = omega arith in
    let whole : at + ((p - at) + 1) ≡ p + 1 = omega (arith, le) in
    let last : places_acts tribs cell (at + (p - at)) 1 ≡ Give i bit ∷ [] = ap (λ q. places_acts tribs cell q 1) back ∙ one_place tribs cell p ∙ cell_here tribs cell p bit here ∙ ap (λ v. Give v bit ∷ []) is in
    sym (ap (places_acts tribs cell 0) (sym whole) ∙ places_split tribs cell 0 at ((p - at) + 1)
    ∙ ap (λ v. places_acts tribs cell 0 at ++ v) (ap (λ q. places_acts tribs cell q ((p - at) + 1)) none ∙ places_split tribs cell at (p - at) 1 ∙ ap (λ v. places_acts tribs cell at (p - at) ++ v) last))
