use Rattle.std.proofs.Common.{◌≡◌, ◌≤◌}
use Rattle.pdh_chain.proofs.ahead.frames_waiting.Given as goal

-- nothing is taken
abbrev pub invariant-loop-frames : goal.invariant-loop-frames
invariant-loop-frames g l = record {
  few : l.frames ≤ l.most;
  same : l.feed ≡ l.fn.feed;
}

abbrev pub decreases-loop-frames : goal.decreases-loop-frames
decreases-loop-frames g l = l.frames
