use Rattle.std.proofs.Common.{map, take}
use Rattle.pdh_watch.specs.contracts.members.BoxDynMonitorMonitor.TheImpl.{state-value}
use Rattle.pdh_edge.specs.Files.{Sends}
use Rattle.pdh_answers.specs.Lines.{monitor_lines}
use Rattle.pdh_answers.proofs.reporting.write_lines.Given as goal

-- the lines of the monitors before this place were written
abbrev pub invariant-loop-place : goal.invariant-loop-place
invariant-loop-place g l = Sends (monitor_lines (map (state-value g.dyn-1).it (take l.place l.monitors))) (g.K.Sink.state l.fn.out) (g.K.Sink.state l.out)
