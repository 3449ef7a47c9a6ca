-- The line of a multiplexer, from what was gathered.
use Rattle.std.proofs.Common.{ℕ, ◌+◌, Bool, List, [], refl, arith}
use Rattle.pdh_edge.specs.Ports.{Inputs, nothing}
use Rattle.pdh_shape.specs.declared.place.Path.{Path}
use Rattle.pdh_shape.specs.declared.role.Service.{Service}
use Rattle.pdh_shape.specs.Frame.{FrameShape}
use Rattle.pdh_tx.specs.declared.pieces.Piece.{Piece}
use Rattle.pdh_tx.specs.Meaning.{Meaning, Plan, Supply}
use Rattle.pdh_tx.specs.Body.{Kind, IsKind, GivesSlots}
use Rattle.pdh_tx.specs.Batches.{GivesGathered}
use Rattle.pdh_tx.proofs.Moving.{takes_none}

-- a kind of multiplexers that take nothing
abbrev pub still : Kind
still = record {
  taken = λ path plan n t j. 0;
  came = λ path plan n t j. 0;
  by = λ path plan j x. 0;
  steps = λ path plan ms size n t. [];
  slips = λ path plan ms n t. [];
}

pub still_is : (s : FrameShape) → IsKind s still
still_is s = record { taken_is = λ path plan n t x j place within. refl; taken_next = λ path plan n t n' t' j follows known. refl }

-- a piece of what was gathered, as one of such a multiplexer
pub still_gives : {B : Type 0} (meanings : B → List Meaning) (gathered : B → Path → Plan → ℕ → ℕ → ℕ → Type 0) (holds : B → Path → Plan → Supply → ℕ → ℕ → ℕ → Type 0) (s : FrameShape) (old new : B) (plan : Plan) (at : Piece) (end : ℕ) (say : Service) (odd is_odd : Bool) (bits : List Bool) (a : Inputs)
    → GivesGathered meanings gathered holds s old new plan at end say odd is_odd bits
    → GivesSlots (gathered new at.path plan at.frame (at.slot + at.len) end) (λ supply. holds old at.path plan supply at.frame at.slot end) (λ supply. holds new at.path plan supply at.frame (at.slot + at.len) end) (meanings old) s at.path plan (λ j. 0) (λ j. 0) at.frame at.slot say odd bits a a
still_gives meanings gathered holds s old new plan at end say odd is_odd bits a gives = record {
  given = nothing;
  takes = takes_none a;
  others = λ k h. refl;
  exact = λ k h. omega arith;
  place = gives.place;
  bounded = gives.bounded;
  onward = λ supply is was said parity agrees. gives.onward supply is was said parity;
}
