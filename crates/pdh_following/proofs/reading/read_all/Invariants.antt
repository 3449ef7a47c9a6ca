-- the bits so far went to the line, and what they bring was told
use Rattle.std.proofs.Common.{◌≡◌, ◌≤◌, Bool, List, None}
use Rattle.pdh_recording.specs.Given.{bits_left}
use Rattle.pdh_following.specs.Following.{GoesOn}
use Rattle.pdh_following.proofs.reading.read_all.Given as goal

abbrev pub invariant-loop-turn : goal.invariant-loop-turn
invariant-loop-turn g l = record {
  room : 524288 ≤ l.bits.capacity;
  same : g.L.Recorded.meaning l.line ≡ g.L.Recorded.meaning l.fn.line;
  written : l.watch.watch.fault ≡ None;
  followed : (front : List Bool) → g.L.Recorded.stands l.fn.line front
      → GoesOn g.W.Write.contents (g.L.Recorded.meaning l.fn.line).notes front (g.L.Recorded.stands l.line)
      (bits_left g.R.Read.remaining l.fn.order l.fn.recording) (bits_left g.R.Read.remaining l.fn.order l.recording) l.fn.watch l.watch;
}
