use Rattle.std.proofs.Common.{sym, ap, ◌∙◌}
use Rattle.pdh_tx.specs.Locked.{locked_meaning}
use Rattle.pdh_chain.specs.Trees.{senders_below}
use Rattle.pdh_chain.proofs.TreeLeaves.{count_below, disjoint}
use Rattle.pdh_chain.proofs.Senders.{senders, node-locked, placed}
use Rattle.pdh_chain.proofs.trees.LockedChainTx.open.Goals as goal

pub open_locked-requires-clause-count : goal.open_locked-requires-clause-count
open_locked-requires-clause-count g c =
    count_below senders g.C.Tx.meaning g.C.ChainTx.shapes c.args.path c.args.next.now g.S.Shape.TRIBS c.in_ok-children.children.items c.in_ok-children.ensures.meanings

pub open_locked-requires-clause-disjoint : goal.open_locked-requires-clause-disjoint
open_locked-requires-clause-disjoint g c = rw (c.in_ok-children.ensures.meanings) (disjoint senders g.C.ChainTx.shapes c.args.path c.args.next.now g.S.Shape.TRIBS)

pub open_locked-requires-clause-paths : goal.open_locked-requires-clause-paths
open_locked-requires-clause-paths g c = rw (c.in_ok-children.ensures.meanings) (placed g.C.ChainTx.shapes c.args.path c.args.next.now g.S.Shape.TRIBS c.requires.levels)

pub returns-clause-meaning : goal.returns-clause-meaning
returns-clause-meaning g c =
    let s = g.S.Shape.shape in
    let below = g.C.ChainTx.shapes in
    let all = c.in_ok-children.ensures.meanings ∙ ap (senders_below below c.args.path c.args.next.now) (sym g.met.S.Shape.tribs_is) in
    let same = ap (locked_meaning s c.args.path) all ∙ sym (node-locked s below c.args.path c.args.next.now c.requires.fits.0) in
    rw (sym same) (c.open_locked.ensures.meaning)
