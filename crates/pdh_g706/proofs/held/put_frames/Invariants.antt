use Rattle.std.proofs.Common.{◌≡◌}
use Rattle.pdh_edge.specs.Ports.{Puts, for_leaf}
use Rattle.pdh_g706.specs.Frames.{frames_of}
use Rattle.pdh_g706.specs.Machine.{payload_from}
use Rattle.pdh_g706.proofs.held.put_frames.Given as goal

-- the frames so far are put
abbrev pub invariant-loop-number : goal.invariant-loop-number
invariant-loop-number g l = record {
  puts : Puts (for_leaf 0 (payload_from (frames_of l.held.bits) l.frame l.number)) (g.D.Drain.outputs l.fn.drain) (g.D.Drain.outputs l.drain);
  unfailed : g.D.Drain.drain_faults l.drain ≡ g.D.Drain.drain_faults l.fn.drain;
  drained : g.D.Drain.drained l.fn.drain l.drain;
}
