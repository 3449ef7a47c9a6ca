-- the bits that come are the same
use Rattle.std.proofs.Common.{◌≡◌, ◌-◌}
use Rattle.std.specs.Io.KnownBytes.{Keeps}
use Rattle.pdh_recording.specs.Given.{replayed}
use Rattle.pdh_recording.proofs.recording.Recording.read_part.Given as goal

abbrev pub invariant-loop : goal.invariant-loop
invariant-loop g l = record {
  same : Keeps (replayed g.R.Read.remaining l.fn.self.replay) (replayed g.R.Read.remaining l.self.replay);
  left : l.self.left ≡ l.fn.self.left;
  skip : l.self.skip ≡ l.fn.self.skip;
}

-- each turn passes over more bytes, of which so many are counted at most
abbrev pub decreases-loop : goal.decreases-loop
decreases-loop g l = 2305843009213693951 - l.self.replay.ahead.run
