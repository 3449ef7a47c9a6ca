use Rattle.std.proofs.Common.{◌≡◌, map, take}
use Rattle.pdh_line.specs.Paths.{top}
use Rattle.pdh_line.specs.Tracking.Piece.{Delivered}
use Rattle.pdh_events.specs.Telling.{tell}
use Rattle.pdh_ds1_events.specs.Events.{crc_kinds}
use Rattle.pdh_ds1_events.specs.Checking.{checked, word_behind_all}
use Rattle.pdh_ds1_events.proofs.checker.Checker.check_all.Given as goal

-- so many were checked
abbrev pub invariant-loop-done : goal.invariant-loop-done
invariant-loop-done g l = record {
  word : l.self ≡ word_behind_all g.P.InSuperframe.PLAN l.fn.self (map Delivered (take l.done l.aligner.ready));
  seen : g.W.Watch.saw l.fn.watch (tell top l.number (crc_kinds (checked g.P.InSuperframe.PLAN l.fn.self (map Delivered (take l.done l.aligner.ready))))) l.watch;
}
