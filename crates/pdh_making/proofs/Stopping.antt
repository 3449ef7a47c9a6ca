-- The kinds of stops that are left where a schedule and the leaves are long enough.
use Rattle.std.proofs.Common.{◌≡◌, ◌⊎◌, inl, inr, ℕ, Bool, refl}
use Rattle.pdh_shape.specs.declared.place.Path.{Path}
use Rattle.pdh_shape.specs.declared.place.Place.{Place}
use Rattle.pdh_chain.specs.declared.stop.MuxStop.{MuxStop}
use Rattle.pdh_chain.specs.declared.stop.MuxStop.TheVariants.{Memory as MuxMemory, Event as MuxEvent, NoFrame as MuxNoFrame, Ended as MuxEnded, ReadFailed as MuxReadFailed, WriteFailed as MuxWriteFailed, LogFailed as MuxLogFailed}

-- an event, want of memory, or a call that failed
pub record MuxEventAt (stop : MuxStop) : Type 0 where
  pub over : Bool
  pub place : Place
  pub is : stop ≡ MuxEvent over place

pub mux_kinds : (stop : MuxStop) → (stop ≡ MuxLogFailed → ⊥) → ((node : Path) → stop ≡ MuxNoFrame node → ⊥) → ((leaf : ℕ) → stop ≡ MuxEnded leaf → ⊥) → MuxEventAt stop ⊎ ((stop ≡ MuxMemory) ⊎ ((stop ≡ MuxReadFailed) ⊎ (stop ≡ MuxWriteFailed)))
mux_kinds (MuxEvent over place) no_log frames leaves = inl (record { over = over; place = place; is = refl })
mux_kinds MuxMemory no_log frames leaves = inr (inl refl)
mux_kinds MuxReadFailed no_log frames leaves = inr (inr (inl refl))
mux_kinds MuxWriteFailed no_log frames leaves = inr (inr (inr refl))
mux_kinds (MuxNoFrame node) no_log frames leaves = absurd (frames node refl)
mux_kinds (MuxEnded leaf) no_log frames leaves = absurd (leaves leaf refl)
mux_kinds MuxLogFailed no_log frames leaves = absurd (no_log refl)

-- want of memory, a log that failed, or a call that failed
pub slipping_kinds : (stop : MuxStop) → ((over : Bool) (place : Place) → stop ≡ MuxEvent over place → ⊥) → ((node : Path) → stop ≡ MuxNoFrame node → ⊥) → ((leaf : ℕ) → stop ≡ MuxEnded leaf → ⊥)
    → (stop ≡ MuxMemory) ⊎ ((stop ≡ MuxLogFailed) ⊎ ((stop ≡ MuxReadFailed) ⊎ (stop ≡ MuxWriteFailed)))
slipping_kinds MuxMemory events frames leaves = inl refl
slipping_kinds MuxLogFailed events frames leaves = inr (inl refl)
slipping_kinds MuxReadFailed events frames leaves = inr (inr (inl refl))
slipping_kinds MuxWriteFailed events frames leaves = inr (inr (inr refl))
slipping_kinds (MuxEvent over place) events frames leaves = absurd (events over place refl)
slipping_kinds (MuxNoFrame node) events frames leaves = absurd (frames node refl)
slipping_kinds (MuxEnded leaf) events frames leaves = absurd (leaves leaf refl)
