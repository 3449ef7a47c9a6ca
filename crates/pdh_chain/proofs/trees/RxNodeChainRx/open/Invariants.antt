use Rattle.std.proofs.Common.{◌≡◌, ◌+◌, ◌*◌, [], map}
use Rattle.pdh_nesting.specs.Chains.{width}
use Rattle.pdh_rx.specs.Node.{EachStands}
use Rattle.pdh_chain.proofs.Receivers.{receivers_below}
use Rattle.pdh_chain.proofs.trees.RxNodeChainRx.open.Given as goal

-- the tributaries so far are made
abbrev pub invariant-loop-trib : goal.invariant-loop-trib
invariant-loop-trib g l = record {
  next : l.next ≡ l.fn.next + l.trib * width g.C.ChainRx.shapes;
  meanings : map g.C.Rx.meaning l.children.items ≡ receivers_below g.C.ChainRx.shapes l.fn.path l.fn.next l.trib;
  stands : EachStands g.C.Rx.stands l.children.items (λ j. []);
}
