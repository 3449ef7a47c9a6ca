-- What a machine takes of a port and puts to it, all bits of a file or some of them.
use Rattle.std.specs.Prelude.{◌≡◌, ◌⊎◌, ℕ, Bool, List, [], ◌++◌, length, Result, Err}
use Rattle.pdh_edge.specs.Counts.{one_more}
use Rattle.pdh_edge.specs.Ports.{Inputs, Outputs, Takes, Puts, PutsPart, IsPrefix, for_leaf}
use Rattle.pdh_streams.specs.declared.streaming.StreamStop.{StreamStop}
use Rattle.pdh_streams.specs.declared.streaming.StreamStop.TheVariants.{Unread, Unwritten}

-- no bits give nothing, and what bits give is a prefix of what they give with more behind
pub record GivesOn (far : List Bool → List Bool) : Type 0 where
  pub none : far [] ≡ []
  pub more : (bits more : List Bool) → IsPrefix (far bits) (far (bits ++ more))

-- so many bits were taken of list 0, the machine stands for them, and what they give was put to list 0
pub record Streams (far : List Bool → List Bool) (stands : List Bool → Type 0) (bits : ℕ) (inputs inputs_now : Inputs) (outputs outputs_now : Outputs) : Type 0 where
  pub given : List Bool
  pub count : length given ≡ bits
  pub takes : Takes (for_leaf 0 given) inputs inputs_now
  pub stood : stands given
  pub puts : Puts (for_leaf 0 (far given)) outputs outputs_now

-- a call failed: some were taken, and whatever more there are, a prefix of what all give was put
pub record StreamsPart (far : List Bool → List Bool) (inputs inputs_now : Inputs) (outputs outputs_now : Outputs) : Type 0 where
  pub given : List Bool
  pub takes : Takes (for_leaf 0 given) inputs inputs_now
  pub puts : (more : List Bool) → PutsPart (for_leaf 0 (far (given ++ more))) outputs outputs_now

-- the counts of the port's failed reads and writes: the call that failed was counted once, and nothing else was
abbrev pub streamed_reads : {T : Type 0} → Result T StreamStop → ℕ → ℕ
streamed_reads (Err Unread) faults = one_more faults
streamed_reads result faults = faults

abbrev pub streamed_writes : {T : Type 0} → Result T StreamStop → ℕ → ℕ
streamed_writes (Err Unwritten) faults = one_more faults
streamed_writes result faults = faults

-- the port is ready, unless it refused to be started
abbrev pub IsLeft : {T : Type 0} → (ready refused : Type 0) → Result T StreamStop → Type 0
IsLeft ready refused (Err Unwritten) = ready ⊎ refused
IsLeft ready refused result = ready
