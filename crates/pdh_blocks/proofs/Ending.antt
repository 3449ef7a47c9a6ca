-- All whole bytes are in the files.
use Rattle.std.proofs.Common.{◌≡◌, ℕ, ◌+◌, ◌<◌, ◌≤◌, Bool, cond, List, [], ◌++◌, length, Option, Some, None, slice_get, inl, inr, refl, sym, ap, ◌∙◌, subst, arith}
use Rattle.std.specs.Option.{option_and_then}
use Rattle.std.proofs.lemmas.Bool.{cases_eq, lt-ltb}
use Rattle.std.proofs.lemmas.Option.{none-some, same_Some, cond_some, slice_get_within}
use Rattle.pdh_blocks.specs.Leaves.{Output}
use Rattle.pdh_blocks.specs.State.{PortState, output_name, output_names}
use Rattle.pdh_blocks.specs.Lists.{put_in, appended, bits_in}
use Rattle.pdh_blocks.specs.Held.{WaitsAtMost, ChangesOnly}
use Rattle.pdh_blocks.specs.Opened.{HasBytes, IsWritten}
use Rattle.pdh_blocks.proofs.Places.{get_mapped}

written_at : (b : PortState) (k : ℕ) (name : List ℕ) (list : List Bool) (found : Option Output) → slice_get b.outputs k ≡ found → slice_get (output_names b) k ≡ Some name → k < b.started → option_and_then (put_in b k) found ≡ Some list → WaitsAtMost 7 k b
    → HasBytes list (bits_in (b.shelf.told name))
written_at b k name list None at named early told short = absurd (none-some list told)
written_at b k name list (Some output) at named early told short =
    let same : output.name ≡ name = same_Some output.name name (sym (get_mapped output_name b.outputs k output at) ∙ named) in
    let is : appended b k output ++ output.waiting ≡ list = (cond_some (b.shelf.tells_started output.name) (appended b k output ++ output.waiting) list told).1 in
    let file : appended b k output ≡ bits_in (b.shelf.told name) = ap (λ v. cond v (bits_in (b.shelf.told output.name)) []) (lt-ltb k b.started early) ∙ ap (λ n. bits_in (b.shelf.told n)) same in
    let few : length output.waiting ≤ 7 = short output at in
    (output.waiting, sym is ∙ ap (λ v. v ++ output.waiting) file, omega (arith, few))

pub all_written : (b : PortState) → ((k : ℕ) → k < length b.outputs → WaitsAtMost 7 k b) → IsWritten b
all_written b short k name list named early told =
    written_at b k name list (slice_get b.outputs k) refl named early told (λ output at. short k (slice_get_within b.outputs k output at) output at)

-- one output more has no whole byte that waits
pub one_more_short : (a b : PortState) (k : ℕ) → ((j : ℕ) → j < k → WaitsAtMost 7 j a) → ChangesOnly k a b → WaitsAtMost 7 k b → (j : ℕ) → j < k + 1 → WaitsAtMost 7 j b
one_more_short a b k before others here j less = elim (cases_eq j k) [
  | inl same ↦ subst (λ v. WaitsAtMost 7 v b) (sym same) here
  | inr ne ↦ (λ output at. before j (omega (arith, less, ne)) output (sym (others j ne) ∙ at))
]
