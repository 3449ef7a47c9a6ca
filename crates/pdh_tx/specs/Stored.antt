-- Multiplexers with stores, as a kind.
use Rattle.std.specs.Prelude.{ℕ, suc, ◌<◌, ◌^◌, Bool, List, [], ◌∷◌}
use Rattle.pdh_edge.specs.Ports.{Inputs}
use Rattle.pdh_shape.specs.declared.place.Path.{Path}
use Rattle.pdh_shape.specs.declared.role.Service.{Service}
use Rattle.pdh_shape.specs.Frame.{FrameShape}
use Rattle.pdh_line.specs.Sending.{taken}
use Rattle.pdh_tx.specs.declared.tributary.FrameShare.{FrameShare}
use Rattle.pdh_tx.specs.Meaning.{Plan, Supply, Meaning}
use Rattle.pdh_tx.specs.Node.{below, EachPlaced, EachHeld, IsDecided, taken_to, came_at, steps, slot_slips}
use Rattle.pdh_tx.specs.Body.{Kind, GivesSlots, SlotFree}

-- how they take the bits of their tributaries
abbrev pub stored_kind : FrameShape → Kind
stored_kind s = record {
  taken = taken_to s;
  came = came_at s;
  by = λ path plan j x. taken s (plan.counts path j) x;
  steps = steps s;
  slips = slot_slips s;
}

-- `read` tells what is read of each tributary by slot t of frame n
module _ {W R : Type 0} (placed : W → Plan → ℕ → R → Type 0) (held : W → Supply → ℕ → R → Type 0) (share : W → FrameShare) (s : FrameShape) (path : Path) (plan : Plan) (read : ℕ → ℕ → ℕ → R) where
  -- they have made all bits before slot t of frame n; inside a frame its decisions are made, and it is scheduled
  pub record Before (ws : List W) (n t : ℕ) : Type 0 where
    pub made : EachPlaced placed ws plan (taken_to s path plan n t) (read n t)
    pub decided : 0 < t → IsDecided share s path plan n ws
    pub scheduled : 0 < t → n < plan.frames path
    pub bounded : 0 < t → suc n < 2 ^ 64

  -- they have made the slots of frame n below slot t
  pub record Through (ws : List W) (n t : ℕ) : Type 0 where
    pub made : EachPlaced placed ws plan (came_at s path plan n t) (read n t)
    pub decided : IsDecided share s path plan n ws
    pub scheduled : n < plan.frames path
    pub bounded : suc n < 2 ^ 64

  -- they hold what this supply gives
  abbrev pub HoldBefore : List W → ℕ → ℕ → Supply → Type 0
  HoldBefore ws n t supply = EachHeld held ws (below supply) (taken_to s path plan n t) (read n t)

  abbrev pub HoldThrough : List W → ℕ → ℕ → Supply → Type 0
  HoldThrough ws n t supply = EachHeld held ws (below supply) (came_at s path plan n t) (read n t)

  -- they made the bits of frame n from slot t to slot u, with all their steps
  abbrev pub MakesPiece : List Meaning → List W → List W → ℕ → ℕ → ℕ → Service → Bool → List Bool → Inputs → Inputs → Type 0
  MakesPiece ms old new n t u = GivesSlots (Through new n u) (HoldBefore old n t) (HoldThrough new n u) ms s path plan (taken_to s path plan n t) (came_at s path plan n u) n t

  -- they made the bit of slot t of frame n
  abbrev pub MakesBit : List Meaning → List W → List W → ℕ → ℕ → Service → Bool → Bool → Inputs → Inputs → Type 0
  MakesBit ms old new n t say odd bit before after =
      MakesPiece ms old new n t (suc t) say odd (bit ∷ []) before after × SlotFree (λ size. steps s path plan ms size n) ms plan (taken_to s path plan n t) t before
