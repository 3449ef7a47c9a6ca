-- Stops of which all kinds but the want of memory are excluded.
use Rattle.std.proofs.Common.{◌≡◌, ℕ, Bool, refl}
use Rattle.pdh_shape.specs.declared.place.Path.{Path}
use Rattle.pdh_shape.specs.declared.place.Place.{Place}
use Rattle.pdh_chain.specs.declared.stop.MuxStop.{MuxStop}
use Rattle.pdh_chain.specs.declared.stop.MuxStop.TheVariants.{Memory, Event, NoFrame, Ended, ReadFailed, WriteFailed, LogFailed}
use Rattle.pdh_chain.specs.declared.stop.DemuxStop.{DemuxStop}
use Rattle.pdh_chain.specs.declared.stop.DemuxStop.TheVariants.{Memory as NoMemory, Ended as LineEnded, ReadFailed as NotRead, WriteFailed as NotWritten}

pub mux_memory : (stop : MuxStop) → ((over : Bool) (place : Place) → stop ≡ Event over place → ⊥) → ((node : Path) → stop ≡ NoFrame node → ⊥) → ((leaf : ℕ) → stop ≡ Ended leaf → ⊥)
    → (stop ≡ ReadFailed → ⊥) → (stop ≡ WriteFailed → ⊥) → (stop ≡ LogFailed → ⊥) → stop ≡ Memory
mux_memory Memory no_event no_frame no_end no_read no_write no_log = refl
mux_memory (Event over place) no_event no_frame no_end no_read no_write no_log = absurd (no_event over place refl)
mux_memory (NoFrame node) no_event no_frame no_end no_read no_write no_log = absurd (no_frame node refl)
mux_memory (Ended leaf) no_event no_frame no_end no_read no_write no_log = absurd (no_end leaf refl)
mux_memory ReadFailed no_event no_frame no_end no_read no_write no_log = absurd (no_read refl)
mux_memory WriteFailed no_event no_frame no_end no_read no_write no_log = absurd (no_write refl)
mux_memory LogFailed no_event no_frame no_end no_read no_write no_log = absurd (no_log refl)

pub demux_memory : (stop : DemuxStop) → (stop ≡ LineEnded → ⊥) → (stop ≡ NotRead → ⊥) → (stop ≡ NotWritten → ⊥) → stop ≡ NoMemory
demux_memory NoMemory no_end no_read no_write = refl
demux_memory LineEnded no_end no_read no_write = absurd (no_end refl)
demux_memory NotRead no_end no_read no_write = absurd (no_read refl)
demux_memory NotWritten no_end no_read no_write = absurd (no_write refl)
