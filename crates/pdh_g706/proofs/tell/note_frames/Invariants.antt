use Rattle.std.proofs.Common.{◌≡◌, ◌*◌}
use Rattle.pdh_line.specs.Paths.{top}
use Rattle.pdh_events.specs.Telling.{tell}
use Rattle.pdh_g706.specs.Frames.{frames_of}
use Rattle.pdh_g706.specs.Events.{alarm_before, frames_kinds}
use Rattle.pdh_g706.specs.Machine.{frames_from}
use Rattle.pdh_g706.proofs.tell.note_frames.Given as goal

-- the pairs so far
abbrev pub invariant-loop-odd : goal.invariant-loop-odd
invariant-loop-odd g l = record {
  alarm : l.last ≡ alarm_before l.alarm (frames_from (frames_of l.held.bits) l.frame (2 * l.pairs)) l.odd;
  seen : g.W.Watch.saw l.fn.watch (tell top l.number (frames_kinds l.alarm (frames_from (frames_of l.held.bits) l.frame (2 * l.pairs)) 0 l.odd)) l.watch;
}
