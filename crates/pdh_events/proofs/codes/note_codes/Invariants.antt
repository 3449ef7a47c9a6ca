use Rattle.std.proofs.Common.{Bool, List, ◌++◌, map, take}
use Rattle.pdh_cbit.specs.Channel.{HasReceived}
use Rattle.pdh_events.specs.Duties.{code_event}
use Rattle.pdh_events.specs.Keeping.{bits_at, codes_told}
use Rattle.pdh_events.proofs.codes.note_codes.Given as goal

-- the bits of the slots so far are received, and their codes noted
abbrev pub invariant-loop-slot : goal.invariant-loop-slot
invariant-loop-slot g l = record {
  received : (before : List Bool) → HasReceived l.fn.channel before → HasReceived l.channel (before ++ bits_at (take l.slot-index l.slots) l.frame.bits);
  seen : (before : List Bool) → HasReceived l.fn.channel before → g.W.Watch.saw l.fn.watch (map (code_event l.path l.bit) (codes_told before (bits_at (take l.slot-index l.slots) l.frame.bits))) l.watch;
}
