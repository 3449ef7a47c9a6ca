-- Within the tolerance no event stands in the way of a bit of a chain's line.
use Rattle.std.proofs.Common.{◌≡◌, ℕ, ◌<◌, ◌≤◌, suc, List, [], ◌∷◌, length, refl, arith, inl, inr, Option, Some, None}
use Rattle.pdh_shape.specs.Frame.{FrameShape}
use Rattle.pdh_line.specs.Events.{Event}
use Rattle.pdh_line.specs.Nodes.{Counts}
use Rattle.pdh_line.specs.Sending.Mode.{Plain}
use Rattle.pdh_nesting.specs.Events.{events_in}
use Rattle.pdh_nesting.proofs.NoEvents.{no_events}
use Rattle.pdh_tx.specs.declared.tx.TxStop.{TxStop}
use Rattle.pdh_tx.specs.declared.tx.TxStop.TheVariants.{Overflow, Underflow, NoFrame, Failed, Ended, LogFailed}
use Rattle.pdh_line.specs.Paths.{top}
use Rattle.pdh_chain.specs.Muxes.{obstacle_at, IsNoEvent, IsTolerated}
use Rattle.pdh_chain.proofs.Numbered.{IsAt}
use Rattle.pdh_chain.proofs.Stops.{IsFirst, Tells}
use Rattle.pdh_chain.proofs.SenderStops.{Other, chain_tells}

pub at_top : (shapes : List FrameShape) → length shapes ≤ 3 → IsAt shapes top []
at_top [] few = tt
at_top (s ∷ below) few = (refl, refl, omega arith)

pub none_first : (es : List Event) (stop : TxStop) → es ≡ [] → IsFirst es stop → ⊥
none_first [] stop none first = (let h = first.first in cc)
none_first (e ∷ es) stop none first = cc

module _ (shapes : List FrameShape) (counts : Counts) (scheduled : List ℕ → ℕ) (size : ℕ → ℕ) (x : ℕ) where
  -- what stands in the way where there is no event
  without : (o : Option TxStop) (es : List Event) → es ≡ [] → Tells (Other shapes counts scheduled size [] 0 (suc x)) o es → IsNoEvent o
  without None es none tells = tt
  without (Some (Overflow place)) es none tells = elim tells [ inl first ↦ none_first es (Overflow place) none first | inr other ↦ other ]
  without (Some (Underflow place)) es none tells = elim tells [ inl first ↦ none_first es (Underflow place) none first | inr other ↦ other ]
  without (Some (NoFrame node)) es none tells = tt
  without (Some Failed) es none tells = tt
  without (Some (Ended leaf)) es none tells = tt
  without (Some LogFailed) es none tells = tt

pub no_event : (shapes : List FrameShape) (counts : Counts) (bits : ℕ) → IsTolerated shapes counts bits → (scheduled : List ℕ → ℕ) (size : ℕ → ℕ) (x : ℕ) → x < bits → IsNoEvent (obstacle_at Plain shapes counts scheduled size x)
no_event shapes counts bits is scheduled size x less =
    without shapes counts scheduled size x (obstacle_at Plain shapes counts scheduled size x) (events_in Plain shapes counts [] x) (no_events shapes counts [] bits x is.frames is.even is.within less)
    (chain_tells shapes counts scheduled size top [] 0 x is.frames (at_top shapes is.levels))
