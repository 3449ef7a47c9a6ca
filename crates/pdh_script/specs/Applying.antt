-- What a script takes of a port and puts to it.
use Rattle.std.specs.Prelude.{◌≡◌, ℕ, ◌<◌, ◌≤◌, ◌⊎◌, Bool, List, length, Result, Ok, Err}
use Rattle.pdh_edge.specs.Counts.{one_more}
use Rattle.pdh_edge.specs.Files.{Rose}
use Rattle.pdh_edge.specs.Ports.{Inputs, Outputs, Takes, Puts, PutsPart, IsPrefix, for_leaf}
use Rattle.pdh_edge.specs.Progress.{Works, port_faults}
use Rattle.pdh_edge.specs.declared.port.Feed as feed
use Rattle.pdh_edge.specs.declared.port.Drain as drain
use Rattle.pdh_edge.specs.declared.port.FeedStop.{FeedStop}
use Rattle.pdh_edge.specs.declared.port.FeedStop.TheVariants.{Failed as FeedFailed, Ended as FeedEnded}
use Rattle.pdh_script.specs.declared.stop.ApplyStop.{ApplyStop}
use Rattle.pdh_script.specs.declared.stop.ApplyStop.TheVariants.{Ended, ReadFailed, WriteFailed}
use Rattle.pdh_script.specs.Scripts.{Row, disturbed}

-- so many bits of the line were taken, and what becomes of them was put
pub record Passes (becomes : List Bool → List Bool) (bits : ℕ) (inputs inputs_now : Inputs) (outputs outputs_now : Outputs) : Type 0 where
  pub given : List Bool
  pub count : length given ≡ bits
  pub takes : Takes (for_leaf 0 given) inputs inputs_now
  pub puts : Puts (for_leaf 0 (becomes given)) outputs outputs_now

-- Some of so many bits were taken, and a part of what becomes of them was put: of every line of so many bits that begins with
-- those that were taken, it is a prefix of what becomes of the line.
pub record PassesPart (becomes : List Bool → List Bool) (bits : ℕ) (inputs inputs_now : Inputs) (outputs outputs_now : Outputs) : Type 0 where
  pub given : List Bool
  pub upto : length given ≤ bits
  pub takes : Takes (for_leaf 0 given) inputs inputs_now
  pub puts : (line : List Bool) → length line ≡ bits → IsPrefix given line → PutsPart (for_leaf 0 (becomes line)) outputs outputs_now

-- why not all of so many bits pass: the line has fewer, and is used up; a call for bits failed; a call that puts bits failed
abbrev pub IsPassStop : (List Bool → List Bool) → ℕ → Inputs → Inputs → Outputs → Outputs → ℕ → ℕ → ℕ → ℕ → ApplyStop → Type 0
IsPassStop becomes bits inputs inputs_now outputs outputs_now reads reads_now writes writes_now Ended =
    (inputs.left 0 < bits) × (inputs_now.left 0 ≡ 0) × PassesPart becomes bits inputs inputs_now outputs outputs_now
IsPassStop becomes bits inputs inputs_now outputs outputs_now reads reads_now writes writes_now ReadFailed =
    Rose reads reads_now × PassesPart becomes bits inputs inputs_now outputs outputs_now
IsPassStop becomes bits inputs inputs_now outputs outputs_now reads reads_now writes writes_now WriteFailed =
    Rose writes writes_now × PassesPart becomes bits inputs inputs_now outputs outputs_now

-- a line of so many bits was taken, and the disturbed line put
abbrev pub Applies : List Row → ℕ → Inputs → Inputs → Outputs → Outputs → Type 0
Applies rows bits inputs inputs_now outputs outputs_now =
    Passes (λ line. disturbed line rows) bits inputs inputs_now outputs outputs_now

-- part of a line of so many bits was taken, and part of the disturbed line put
abbrev pub AppliesPart : List Row → ℕ → Inputs → Inputs → Outputs → Outputs → Type 0
AppliesPart rows bits inputs inputs_now outputs outputs_now =
    PassesPart (λ line. disturbed line rows) bits inputs inputs_now outputs outputs_now

-- why not the whole line is disturbed: it has fewer bits, and is used up; a call for bits failed; a call that puts bits failed
abbrev pub IsApplyStop : List Row → ℕ → Inputs → Inputs → Outputs → Outputs → ℕ → ℕ → ℕ → ℕ → ApplyStop → Type 0
IsApplyStop rows bits inputs inputs_now outputs outputs_now reads reads_now writes writes_now stop =
    IsPassStop (λ line. disturbed line rows) bits inputs inputs_now outputs outputs_now reads reads_now writes writes_now stop

-- the port is ready, unless it refused to be started
abbrev pub IsLeftReady : (ready refused : Type 0) → Result Unit ApplyStop → Type 0
IsLeftReady ready refused (Ok done) = ready
IsLeftReady ready refused (Err WriteFailed) = ready ⊎ refused
IsLeftReady ready refused (Err stop) = ready

-- the counts of the port's failed reads and failed writes: the call of the port that ended it was counted once, and nothing
-- else was
abbrev pub reads_at_stop : ApplyStop → ℕ → ℕ
reads_at_stop ReadFailed faults = one_more faults
reads_at_stop stop faults = faults

abbrev pub writes_at_stop : ApplyStop → ℕ → ℕ
writes_at_stop WriteFailed faults = one_more faults
writes_at_stop stop faults = faults

abbrev pub apply_reads : {T : Type 0} → Result T ApplyStop → ℕ → ℕ
apply_reads (Ok done) faults = faults
apply_reads (Err stop) faults = reads_at_stop stop faults

abbrev pub apply_writes : {T : Type 0} → Result T ApplyStop → ℕ → ℕ
apply_writes (Ok done) faults = faults
apply_writes (Err stop) faults = writes_at_stop stop faults

-- how a call for bits ends `apply`
abbrev pub feed_stop : FeedStop → ApplyStop
feed_stop FeedFailed = ReadFailed
feed_stop FeedEnded = Ended

-- both counts
abbrev pub counted_at : ApplyStop → ℕ × ℕ → ℕ × ℕ
counted_at stop faults = (reads_at_stop stop faults.0, writes_at_stop stop faults.1)

-- calls of a port, which may change so much of it, did this with its lists, or this is why not all of so many bits passed
abbrev pub PassesSo : {P T : Type 0} → feed.Ghosts P → drain.Ghosts P → (P → P → Type 0) → (Inputs → Inputs → Outputs → Outputs → Type 0) → (List Bool → List Bool) → ℕ → P → P → Result T ApplyStop → Type 0
PassesSo feeds drains keeps Whole becomes bits =
    Works keeps (port_faults feeds drains) counted_at (λ old new. Whole (feeds.inputs old) (feeds.inputs new) (drains.outputs old) (drains.outputs new))
    (λ stop old new. IsPassStop becomes bits (feeds.inputs old) (feeds.inputs new) (drains.outputs old) (drains.outputs new)
    (feeds.feed_faults old) (feeds.feed_faults new) (drains.drain_faults old) (drains.drain_faults new) stop)

-- they passed all of them on, or this is why they didn't
abbrev pub PassesBy : {P T : Type 0} → feed.Ghosts P → drain.Ghosts P → (P → P → Type 0) → (List Bool → List Bool) → ℕ → P → P → Result T ApplyStop → Type 0
PassesBy feeds drains keeps becomes bits = PassesSo feeds drains keeps (Passes becomes bits) becomes bits
