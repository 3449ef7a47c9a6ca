-- How far each tributary is in what is loaded, of which each may get bits that bring no event ahead of others' that come earlier.
use Rattle.std.specs.Prelude.{◌≡◌, ◌<◌, ℕ, ◌+◌, Bool, nat_lt, if◌then◌else◌, List, [], take, drop, slice_set, Option}
use Rattle.std.specs.List.{slice_index_or}
use Rattle.pdh_shape.specs.Frame.{FrameShape}
use Rattle.pdh_edge.specs.Ports.{Outputs, for_leaf}
use Rattle.pdh_events.specs.laws.QuietLaws.{IsQuiet}
use Rattle.pdh_rx.specs.declared.merging.Due.{Due}
use Rattle.pdh_rx.specs.Meaning.{Meaning}
use Rattle.pdh_rx.specs.Node.{EachStands, child_notes, Gives}
use Rattle.pdh_rx.specs.Places.{loaded_cell, loaded_places, loaded_bits, StandsAt}

-- where no tributary is
abbrev pub nowhere : ℕ → Due
nowhere end = record { place = end; given = 0 }

abbrev pub due_at : ℕ → List Due → ℕ → Due
due_at end list j = slice_index_or list j (nowhere end)

abbrev pub due_place : ℕ → List Due → ℕ → ℕ
due_place end list j = (due_at end list j).place

-- the bits that tributary j has got
abbrev pub given_bits : ℕ → (ℕ → List Bool) → List Due → ℕ → List Bool
given_bits end bits list j = take (due_at end list j).given (bits j)

-- the bits of the first tributaries, so many, and none of the others
abbrev pub first_bits : (ℕ → List Bool) → ℕ → ℕ → List Bool
first_bits bits t j = (if nat_lt j t then bits j else [])

-- the first tributaries got these bits, which bring nothing
pub record FirstGot {C : Type 0} (stands : C → List Bool → Type 0) (ms : List Meaning) (bits : ℕ → List Bool) (t : ℕ) (old new : List C) (before after : Outputs) : Type 0 where
  pub gives : Gives stands ms (first_bits bits t) old new before after
  pub quiet : (lines : ℕ → List Bool) → EachStands stands old lines → (j : ℕ) → IsQuiet (child_notes ms j) (lines j) (first_bits bits t j)

-- The first tributaries got bits of theirs, which bring nothing; and each is due where its next one stands.
pub record Begun {C : Type 0} (stands : C → List Bool → Type 0) (ms : List Meaning) (tribs : ℕ) (cell : ℕ → Option Bool) (end : ℕ) (bits : ℕ → List Bool) (t : ℕ) (list : List Due) (old new : List C) (before after : Outputs) : Type 0 where
  pub stand : (j : ℕ) → j < t → StandsAt tribs cell end j (bits j) (due_at end list j).given (due_place end list j)
  pub got : FirstGot stands ms (given_bits end bits list) t old new before after

-- all tributaries got such bits of what is loaded
abbrev pub AllBegun : {C : Type 0} → (C → List Bool → Type 0) → List Meaning → FrameShape → Bool → List Bool → List Due → List C → List C → Outputs → Outputs → Type 0
AllBegun stands ms s gap frame = Begun stands ms s.tribs (loaded_cell s gap frame) (loaded_places s gap) (loaded_bits s gap frame) s.tribs

-- Tributary j got more of its bits of what is loaded, from one on, which bring nothing; and it is due where its next one stands.
pub record GoesOn {C : Type 0} (stands : C → List Bool → Type 0) (ms : List Meaning) (s : FrameShape) (gap : Bool) (frame : List Bool) (j from : ℕ) (list list' : List Due) (old new : List C) (before after : Outputs) : Type 0 where
  pub more : ℕ
  pub due : Due
  pub given_is : due.given ≡ from + more
  pub list_is : list' ≡ slice_set list j due
  pub placed : StandsAt s.tribs (loaded_cell s gap frame) (loaded_places s gap) j (loaded_bits s gap frame j) due.given due.place
  pub gives : Gives stands ms (for_leaf j (take more (drop from (loaded_bits s gap frame j)))) old new before after
  pub quiet : (lines : ℕ → List Bool) → EachStands stands old lines → IsQuiet (child_notes ms j) (lines j) (take more (drop from (loaded_bits s gap frame j)))
