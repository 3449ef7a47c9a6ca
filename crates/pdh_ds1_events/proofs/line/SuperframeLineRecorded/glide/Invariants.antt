use Rattle.std.proofs.Common.{◌≤◌, ◌-◌, ◌+◌, ◌++◌, Bool, List, length, take, drop}
use Rattle.pdh_events.specs.laws.QuietLaws.{IsQuiet}
use Rattle.pdh_ds1_events.specs.Events.{superframe_events}
use Rattle.pdh_ds1_events.specs.Line.{LineStands}
use Rattle.pdh_ds1_events.proofs.line.SuperframeLineRecorded.glide.Given as goal

-- so many bits were taken, and nothing shown
abbrev pub invariant-loop-done : goal.invariant-loop-done
invariant-loop-done g l = record {
  within : l.from + l.done ≤ length l.bits.bits;
  stands : (line : List Bool) → LineStands g.P.InSuperframe.f_bits g.P.InSuperframe.PLAN l.fn.self.aligner l.fn.self.ais l.fn.self.checker l.fn.self.bits l.fn.self.superframes l.fn.self.judged line
      → LineStands g.P.InSuperframe.f_bits g.P.InSuperframe.PLAN l.self.aligner l.self.ais l.self.checker l.self.bits l.self.superframes l.self.judged (line ++ take l.done (drop l.from l.bits.bits));
  quiet : (line : List Bool) → LineStands g.P.InSuperframe.f_bits g.P.InSuperframe.PLAN l.fn.self.aligner l.fn.self.ais l.fn.self.checker l.fn.self.bits l.fn.self.superframes l.fn.self.judged line
      → IsQuiet (superframe_events g.P.InSuperframe.f_bits g.P.InSuperframe.PLAN) line (take l.done (drop l.from l.bits.bits));
}

abbrev pub decreases-loop-done : goal.decreases-loop-done
decreases-loop-done g l = length l.bits.bits - (l.from + l.done)
