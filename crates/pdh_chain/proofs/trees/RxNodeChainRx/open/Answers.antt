use Rattle.std.proofs.Common.{◌≡◌, ◌+◌, ◌*◌, sym, ap, ◌∙◌, arith}
use Rattle.pdh_nesting.specs.Chains.{width}
use Rattle.pdh_rx.specs.Node.{node_meaning}
use Rattle.pdh_chain.proofs.TreeLeaves.{one_more_below, count_below, disjoint}
use Rattle.pdh_chain.proofs.Receivers.{receivers, node-is, each_more, placed, receivers_below}
use Rattle.pdh_chain.proofs.trees.RxNodeChainRx.open.Goals as goal

pub loop-trib-preserved : goal.loop-trib-preserved
loop-trib-preserved g c =
    let shapes = g.C.ChainRx.shapes in
    let inv = c.loop-trib.invariant in
    let more : (c.loop-trib.trib + 1) * width shapes ≡ c.loop-trib.trib * width shapes + width shapes = omega arith in
    record {
      next = omega (arith, more, inv.next, c.in_ok-open.ensures.next);
      meanings = rw (c.in_ok-push.ensures.items)
          (one_more_below receivers g.C.Rx.meaning shapes c.args.path c.child_path.result c.args.next.now c.loop-trib.trib c.loop-trib.next c.loop-trib.children.items c.in_ok-open.field-0 inv.meanings c.child_path.ensures inv.next c.in_ok-open.ensures.meaning);
      stands = rw (c.in_ok-push.ensures.items) (each_more g.C.Rx.stands c.loop-trib.children.items c.in_ok-open.field-0 inv.stands c.in_ok-open.ensures.stands);
    }

pub open-requires-2-clause-count : goal.open-requires-2-clause-count
open-requires-2-clause-count g c =
    let all = count_below receivers g.C.Rx.meaning g.C.ChainRx.shapes c.args.path c.args.next.now c.loop-trib.trib c.loop-trib.children.items c.loop-trib.invariant.meanings in
    omega arith

pub open-requires-2-clause-disjoint : goal.open-requires-2-clause-disjoint
open-requires-2-clause-disjoint g c = rw (c.loop-trib.invariant.meanings) (disjoint receivers g.C.ChainRx.shapes c.args.path c.args.next.now c.loop-trib.trib)

pub open-requires-2-clause-paths : goal.open-requires-2-clause-paths
open-requires-2-clause-paths g c =
    rw (c.loop-trib.invariant.meanings) (placed g.C.ChainRx.shapes c.args.path c.args.next.now c.loop-trib.trib c.requires.levels)

pub returns-clause-meaning : goal.returns-clause-meaning
returns-clause-meaning g c =
    let s = g.S.Shape.shape in
    let all : c.loop-trib.trib ≡ s.tribs = omega (arith, g.met.S.Shape.tribs_is) in
    let same = ap (node_meaning s c.args.path) (c.loop-trib.invariant.meanings ∙ ap (receivers_below g.C.ChainRx.shapes c.args.path c.args.next.now) all) ∙ sym (node-is s g.C.ChainRx.shapes c.args.path c.args.next.now) in
    rw (sym same) (c.open-2.ensures.meaning)
