use Rattle.std.proofs.Common.{◌≡◌, drop, Ok}
use Rattle.pdh_script.specs.Stored.{rows_in}
use Rattle.pdh_script.proofs.Disturbing.{Disturbs}
use Rattle.pdh_script.proofs.passing.disturb.Given as goal

-- the rows so far were applied
abbrev pub invariant-loop-step : goal.invariant-loop-step
invariant-loop-step g l = record {
  capacity : l.buffer.capacity ≡ l.fn.buffer.capacity;
  disturbs : Disturbs g.P.Feed g.P.Drain g.P.Port.kept (rows_in l.steps l.fn.bytes) l.bits l.place (drop l.step-index l.steps) l.added l.fn.port l.port (Ok tt);
}
