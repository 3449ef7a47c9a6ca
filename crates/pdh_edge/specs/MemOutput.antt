-- What a sink in memory shows, and what its calls do to it.
use Rattle.std.specs.Prelude.{◌≡◌, ◌↔◌, ℕ, ◌+◌, List, [], ◌++◌, length, nat_le, Bool, not, ◌&&◌, Some, Result, IsOk, OnOk, OnErr, IsTrue}
use Rattle.pdh_edge.specs.declared.mem_sink.MemSink.{MemSink}
use Rattle.pdh_edge.specs.Files.{SinkState}
use Rattle.pdh_edge.specs.Plan.{PlanState, no_plan, is_due, plan_after_call, plan_after_fail}
use Rattle.pdh_edge.specs.Counts.{one_more}

-- all that a sink in memory shows
pub record MemSinkState : Type 0 where
  -- the bytes that it took, and how many it has room for in all
  pub written : List ℕ
  pub room : ℕ
  -- its calls of `write`
  pub writes : PlanState
  -- how many of them failed
  pub faults : ℕ

-- what a sink in memory shows
abbrev pub mem_sink_state : MemSink → MemSinkState
mem_sink_state sink = record {
  written = sink.buffer.bytes;
  room = sink.buffer.room;
  writes = sink.writes;
  faults = sink.faults;
}

-- what a sink in memory tells and counts
abbrev pub told_by : MemSinkState → SinkState
told_by state = record { written = Some state.written; faults = state.faults }

abbrev pub sink_state : MemSink → SinkState
sink_state sink = told_by (mem_sink_state sink)

-- a sink with this room that took nothing yet, where nothing is planned
abbrev pub new_sink : ℕ → MemSinkState
new_sink room = record { written = []; room = room; writes = no_plan; faults = 0 }

-- with one more call that is to fail
abbrev pub with_planned : ℕ → MemSinkState → MemSinkState
with_planned number state = record state { writes = plan_after_fail number state.writes }

-- whether the next `write` succeeds
abbrev pub can_write : MemSinkState → ℕ → Bool
can_write state count = not (is_due state.writes) && nat_le (length state.written + count) state.room

-- with one more call of `write`
abbrev pub with_write_call : MemSinkState → MemSinkState
with_write_call state = record state { writes = plan_after_call state.writes }

-- `write` fails exactly where that is planned or the room is too small, and then takes nothing
pub record WritesInMemory {E : Type 0} (bytes : List ℕ) (old new : MemSinkState) (result : Result (Unit {0}) E) : Type 0 where
  pub succeeds : IsOk result ↔ IsTrue (can_write old (length bytes))
  pub ok : OnOk result (new ≡ record (with_write_call old) { written = old.written ++ bytes })
  pub err : OnErr result (new ≡ record (with_write_call old) { faults = one_more old.faults })
