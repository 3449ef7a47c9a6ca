-- Loops that may fail: work that calls do one after another on a state, up to the first of them that fails.
use Rattle.std.specs.Prelude.{◌≡◌, ℕ, Result, Ok, Err}
use Rattle.pdh_edge.specs.declared.port.Feed as feed
use Rattle.pdh_edge.specs.declared.port.Drain as drain

-- the whole of some work was done between two states, or a part of it and then a call failed, and why
abbrev pub Does : {S T E : Type 0} → (S → S → Type 0) → (E → S → S → Type 0) → S → S → Result T E → Type 0
Does Whole Part old new (Ok done) = Whole old new
Does Whole Part old new (Err why) = Part why old new

-- a count after that: what the failure counts, and else as it was
abbrev pub counted_after : {C T E : Type 0} → (E → C → C) → Result T E → C → C
counted_after counted (Ok done) count = count
counted_after counted (Err why) count = counted why count

-- What calls have done to a state that a loop goes on with: the work, in whole or in part; nothing but what they may change was
-- changed, and nothing was counted but the failure.
pub record Works {S C T E : Type 0} (keeps : S → S → Type 0) (count : S → C) (counted : E → C → C) (Whole : S → S → Type 0) (Part : E → S → S → Type 0) (old new : S) (result : Result T E) : Type 0 where
  pub kept : keeps old new
  pub counts : count new ≡ counted_after counted result (count old)
  pub does : Does Whole Part old new result

-- the counts of a port's failed reads and failed writes
abbrev pub port_faults : {P : Type 0} → feed.Ghosts P → drain.Ghosts P → P → ℕ × ℕ
port_faults feeds drains port = (feeds.feed_faults port, drains.drain_faults port)
