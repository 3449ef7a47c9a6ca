use Rattle.pdh_clock.specs.Begun.{NoneShort}
use Rattle.pdh_clock.specs.Stored.{contents_of}
use Rattle.pdh_clock.proofs.tree.Tree.short.Given as goal

abbrev pub invariant-loop-place : goal.invariant-loop-place
invariant-loop-place l = NoneShort (contents_of l.self) l.top_frames l.place
