-- How many bits the bits of a line bring at most.
use Rattle.std.proofs.Common.{◌≡◌, ℕ, suc, ◌+◌, ◌*◌, ◌≤◌, ◌==◌, nat_le, nat_lt, Bool, true, cond, List, [], ◌∷◌, ◌++◌, length, ap, arith, inl, inr}
use Rattle.std.proofs.lemmas.List.{length-append}
use Rattle.std.proofs.lemmas.Bool.{le-leb, lt-leb, eq-eqb, ne_eqb, leb-true, ltb-true, and_parts, cases_order, cond_both}
use Rattle.pdh_bits.specs.Bits.{bits_of}
use Rattle.pdh_bits.proofs.BitsLemmas.{length-bits_of}
use Rattle.pdh_script.specs.Scripts.{Row, Change, Flip, Ones, Zeros, Drop, Add, altered, bytes_of, bytes_added}
use Rattle.pdh_script.specs.Bending.{added_at, covers, becomes_at, all_brought}

-- how many bytes rows add before the bits from a place on
abbrev added_from : ℕ → List Row → ℕ
added_from place [] = 0
added_from place (row ∷ rows) = cond (nat_le place row.at) (length (bytes_of row.change)) 0 + added_from place rows

row_added : (at p n : ℕ) (bits : List Bool) → length bits ≡ 8 * n → length (cond (at == p) bits []) + 8 * cond (nat_le (suc p) at) n 0 ≡ 8 * cond (nat_le p at) n 0
row_added at p n bits long = elim (cases_order at p) [
  | inl same ↦ rw (eq-eqb at p same, lt-leb (suc p) at (omega (arith, same)), le-leb p at (omega (arith, same))) (omega (arith, long))
  | inr other ↦ elim other [
    | inl before ↦ rw (ne_eqb at p (λ e. omega (arith, before, e)), lt-leb (suc p) at (omega (arith, before)), lt-leb p at before) (omega arith)
    | inr behind ↦ rw (ne_eqb at p (λ e. omega (arith, behind, e)), le-leb (suc p) at behind, le-leb p at (omega (arith, behind))) (omega arith)
  ]
]

added_here : (rows : List Row) (p : ℕ) → length (added_at p rows) + 8 * added_from (suc p) rows ≡ 8 * added_from p rows
added_here [] p = omega arith
added_here (row ∷ rows) p =
    let now = cond (row.at == p) (bits_of (bytes_of row.change)) [] in
    omega (arith, length-append now (added_at p rows), row_added row.at p (length (bytes_of row.change)) (bits_of (bytes_of row.change)) (length-bits_of (bytes_of row.change)), added_here rows p)

added_upto : (rows : List Row) (p : ℕ) → added_from p rows ≤ bytes_added rows
added_upto [] p = omega arith
added_upto (row ∷ rows) p =
    let n = length (bytes_of row.change) in
    omega (arith, added_upto rows p, cond_both (nat_le p row.at) n 0 (λ k. k ≤ n) (λ e. omega arith) (λ e. omega arith))

altered_few : (change : Change) (at p : ℕ) (bit : Bool) → covers p (record { at = at; change = change }) ≡ true → length (altered change (bit ∷ [])) ≤ 1
altered_few (Flip n) at p bit h = omega arith
altered_few (Ones n) at p bit h = omega arith
altered_few (Zeros n) at p bit h = omega arith
altered_few (Drop n) at p bit h = omega arith
altered_few (Add bytes) at p bit h = absurd (let both = and_parts (nat_le at p) (nat_lt p (at + 0)) h in let P : ⊥ = omega (arith, leb-true _ _ both.0, ltb-true _ _ both.1) in P)

becomes_few : (rows : List Row) (p : ℕ) (bit : Bool) → length (becomes_at p rows (bit ∷ [])) ≤ 1
becomes_few [] p bit = omega arith
becomes_few (row ∷ rows) p bit =
    cond_both (covers p row) (altered row.change (bit ∷ [])) (becomes_at p rows (bit ∷ [])) (λ v. length v ≤ 1) (λ h. altered_few row.change row.at p bit h) (λ h. becomes_few rows p bit)

brought_few : (rows : List Row) (bits : List Bool) (p : ℕ) → length (all_brought p rows bits) + 8 * added_from (p + length bits) rows ≤ length bits + 8 * added_from p rows
brought_few rows [] p = let same : added_from (p + 0) rows ≡ added_from p rows = ap (λ q. added_from q rows) (omega arith) in omega (arith, same)
brought_few rows (bit ∷ bits) p =
    let become = becomes_at p rows (bit ∷ []) in
    let later = all_brought (suc p) rows bits in
    let same : added_from (p + suc (length bits)) rows ≡ added_from (suc p + length bits) rows = ap (λ q. added_from q rows) (omega arith) in
    omega (arith, length-append (added_at p rows ++ become) later, length-append (added_at p rows) become, becomes_few rows p bit, added_here rows p, brought_few rows bits (suc p), same)

pub brings_few : (rows : List Row) (bits : List Bool) (place : ℕ) → length (all_brought place rows bits ++ added_at (place + length bits) rows) ≤ length bits + 8 * bytes_added rows
brings_few rows bits place =
    let behind = place + length bits in
    omega (arith, length-append (all_brought place rows bits) (added_at behind rows), brought_few rows bits place, added_here rows behind, added_upto rows place)
