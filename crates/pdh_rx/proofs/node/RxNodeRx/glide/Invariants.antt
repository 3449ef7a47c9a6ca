use Rattle.std.proofs.Common.{◌≡◌, ◌≤◌, ◌+◌, ◌-◌, length, map, take, drop}
use Rattle.pdh_rx.specs.Meaning.{TakesQuietly}
use Rattle.pdh_rx.specs.Node.{node_meaning, NodeStands}
use Rattle.pdh_rx.proofs.node.RxNodeRx.glide.Given as goal

-- the bits so far were taken
abbrev pub invariant-loop-done : goal.invariant-loop-done
invariant-loop-done g l = record {
  within : l.from + l.done ≤ length l.bits.bits;
  taken : TakesQuietly (node_meaning g.S.Shape.shape l.fn.self.path (map g.C.Rx.meaning l.fn.self.children)) (take l.done (drop l.from l.bits.bits))
      (λ line. NodeStands g.C.Rx.stands g.C.Rx.meaning g.S.Shape.shape l.fn.self.children l.fn.self.aligner l.fn.self.gap l.fn.self.frames l.fn.self.judged l.fn.self.bits l.fn.self.ais l.fn.self.teller line)
      (λ line. NodeStands g.C.Rx.stands g.C.Rx.meaning g.S.Shape.shape l.self.children l.self.aligner l.self.gap l.self.frames l.self.judged l.self.bits l.self.ais l.self.teller line);
  same : node_meaning g.S.Shape.shape l.self.path (map g.C.Rx.meaning l.self.children) ≡ node_meaning g.S.Shape.shape l.fn.self.path (map g.C.Rx.meaning l.fn.self.children);
}

abbrev pub decreases-loop-done : goal.decreases-loop-done
decreases-loop-done g l = length l.bits.bits - (l.from + l.done)
