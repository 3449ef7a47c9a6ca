use Rattle.std.proofs.Common.{◌-◌}
use Rattle.pdh_rows.specs.Flows.{flow_count}
use Rattle.pdh_rows.specs.Inside.{FillsPassAll}
use Rattle.pdh_rows.proofs.inside.Fills.behind_frames.Given as goal

-- the frames so far keep the store inside, and leave it with one of these fills
abbrev pub invariant-loop-frame : goal.invariant-loop-frame
invariant-loop-frame l = FillsPassAll l.low (flow_count l.row.flow) l.first (l.frame - l.first) l.fn.self l.fills
