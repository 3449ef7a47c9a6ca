-- The kinds of stops that are left where a line is long enough.
use Rattle.std.proofs.Common.{◌≡◌, ◌⊎◌, inl, inr, refl}
use Rattle.pdh_chain.specs.declared.stop.DemuxStop.{DemuxStop}
use Rattle.pdh_chain.specs.declared.stop.DemuxStop.TheVariants.{Memory, Ended, ReadFailed, WriteFailed}
use Rattle.pdh_script.specs.declared.stop.ApplyStop.{ApplyStop}
use Rattle.pdh_script.specs.declared.stop.ApplyStop.TheVariants.{Ended as ApplyEnded, ReadFailed as ApplyReadFailed, WriteFailed as ApplyWriteFailed}

-- want of memory, or a call that failed
pub demux_kinds : (stop : DemuxStop) → (stop ≡ Ended → ⊥) → (stop ≡ Memory) ⊎ ((stop ≡ ReadFailed) ⊎ (stop ≡ WriteFailed))
demux_kinds Memory long = inl refl
demux_kinds ReadFailed long = inr (inl refl)
demux_kinds WriteFailed long = inr (inr refl)
demux_kinds Ended long = absurd (long refl)

-- a call that failed
pub apply_kinds : (stop : ApplyStop) → (stop ≡ ApplyEnded → ⊥) → (stop ≡ ApplyReadFailed) ⊎ (stop ≡ ApplyWriteFailed)
apply_kinds ApplyReadFailed long = inl refl
apply_kinds ApplyWriteFailed long = inr refl
apply_kinds ApplyEnded long = absurd (long refl)
