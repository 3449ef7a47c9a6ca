use Rattle.std.proofs.Common.{◌≡◌, ◌+◌, ◌*◌, arith}
use Rattle.std.proofs.lemmas.List.Elements.{All-push}
use Rattle.pdh_nesting.specs.Chains.{width}
use Rattle.pdh_tx.specs.Meaning.{IsFresh}
use Rattle.pdh_chain.proofs.TreeLeaves.{one_more_below}
use Rattle.pdh_chain.proofs.Senders.{senders}
use Rattle.pdh_chain.proofs.trees.open_tributaries.Goals as goal

pub loop-trib-preserved : goal.loop-trib-preserved
loop-trib-preserved g c =
    let shapes = g.C.ChainTx.shapes in
    let inv = c.loop-trib.invariant in
    let more : (c.loop-trib.trib + 1) * width shapes ≡ c.loop-trib.trib * width shapes + width shapes = omega arith in
    record {
      next = omega (arith, more, inv.next, c.in_ok-open.ensures.next);
      meanings = rw (c.in_ok-push.ensures.items)
          (one_more_below senders g.C.Tx.meaning shapes c.args.path c.child_path.result c.args.next.now c.loop-trib.trib c.loop-trib.next c.loop-trib.children.items c.in_ok-open.field-0 inv.meanings c.child_path.ensures inv.next c.in_ok-open.ensures.meaning);
      fresh = rw (c.in_ok-push.ensures.items) (All-push (IsFresh g.C.Tx.stands_at g.C.Tx.stands_for g.C.Tx.says g.C.Tx.is_stopped) c.loop-trib.children.items c.in_ok-open.field-0 inv.fresh c.in_ok-open.ensures.fresh);
    }
