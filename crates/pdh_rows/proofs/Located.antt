-- Where a frame stands among the first frames of rows.
use Rattle.std.proofs.Common.{◌≡◌, ◌<◌, ◌≤◌, ◌+◌, ◌-◌, ℕ, leb, List, length, arith, true, false, slice_index, inl, inr}
use Rattle.std.specs.List.Sorted.{IsPartitionPoint}
use Rattle.std.proofs.lemmas.Bool.{leb-true, leb-false, cases_lt}
use Rattle.std.proofs.lemmas.List.{get_or_past}

-- the first frames up to that of a row are not above the frame, and the next one is
pub record IsLocated (firsts : List ℕ) (frame point : ℕ) : Type 0 where
  pub some : 1 ≤ point
  pub row : point - 1 + 1 < length firsts
  pub first : slice_index firsts (point - 1) ≤ frame
  pub next : frame < slice_index firsts (point - 1 + 1)

some_first : (firsts : List ℕ) (frame : ℕ) → frame < slice_index firsts (length firsts - 1) → 0 < length firsts
some_first firsts frame ended = elim (cases_lt 0 (length firsts)) [
  | inl some ↦ some
  | inr none ↦ absurd (omega (arith, get_or_past firsts (length firsts - 1) 0 (omega arith)))
]

some_passes : (firsts : List ℕ) (frame point : ℕ) → 0 < length firsts → slice_index firsts 0 ≤ frame
    → IsPartitionPoint (λ first. leb first frame ≡ true) (λ first. leb first frame ≡ false) firsts point → 1 ≤ point
some_passes firsts frame point some begun parts = elim (cases_lt 0 point) [
  | inl passes ↦ passes
  | inr none ↦ absurd (omega (arith, leb-false (slice_index firsts 0) frame (parts.1 0 0 (omega arith) some)))
]

some_fails : (firsts : List ℕ) (frame point : ℕ) → 0 < length firsts → frame < slice_index firsts (length firsts - 1)
    → point ≤ length firsts
    → IsPartitionPoint (λ first. leb first frame ≡ true) (λ first. leb first frame ≡ false) firsts point → point < length firsts
some_fails firsts frame point some ended bound parts = elim (cases_lt point (length firsts)) [
  | inl fails ↦ fails
  | inr all ↦ absurd (omega
      (arith, leb-true (slice_index firsts (length firsts - 1)) frame (parts.0 (length firsts - 1) 0 (omega arith) (omega arith))))
]

pub located : (firsts : List ℕ) (frame point : ℕ) → slice_index firsts 0 ≤ frame → frame < slice_index firsts (length firsts - 1)
    → point ≤ length firsts
    → IsPartitionPoint (λ first. leb first frame ≡ true) (λ first. leb first frame ≡ false) firsts point
    → IsLocated firsts frame point
located firsts frame point begun ended bound parts =
    let some = some_first firsts frame ended in
    let passes = some_passes firsts frame point some begun parts in
    let fails = some_fails firsts frame point some ended bound parts in
    let next : point - 1 + 1 ≡ point = omega arith in
    record {
      some = passes;
      row = omega arith;
      first = leb-true (slice_index firsts (point - 1)) frame (parts.0 (point - 1) 0 (omega arith) (omega arith));
      next = rw next (leb-false (slice_index firsts point) frame (parts.1 point 0 (omega arith) fails));
    }
