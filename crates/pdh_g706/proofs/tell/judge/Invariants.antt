use Rattle.std.proofs.Common.{◌≡◌, ◌≤◌}
use Rattle.pdh_line.specs.Paths.{top}
use Rattle.pdh_events.specs.Telling.{tell}
use Rattle.pdh_g706.specs.Frames.{frames_of}
use Rattle.pdh_g706.specs.Events.{crc_kinds}
use Rattle.pdh_g706.specs.Machine.{errs_in, each_errs}
use Rattle.pdh_g706.proofs.tell.judge.Given as goal

-- those so far
abbrev pub invariant-loop-block : goal.invariant-loop-block
invariant-loop-block g l = record {
  count : l.errored ≡ errs_in (frames_of l.held.bits) l.frame l.block;
  few : l.errored ≤ l.block;
  seen : g.W.Watch.saw l.fn.watch (tell top l.number (crc_kinds (each_errs (frames_of l.held.bits) l.frame l.block))) l.watch;
}
