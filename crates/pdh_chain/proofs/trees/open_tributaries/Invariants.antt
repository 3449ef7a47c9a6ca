use Rattle.std.proofs.Common.{◌≡◌, ◌+◌, ◌*◌, map, All}
use Rattle.pdh_nesting.specs.Chains.{width}
use Rattle.pdh_tx.specs.Meaning.{IsFresh}
use Rattle.pdh_chain.specs.Trees.{senders_below}
use Rattle.pdh_chain.proofs.trees.open_tributaries.Given as goal

-- the tributaries so far are made
abbrev pub invariant-loop-trib : goal.invariant-loop-trib
invariant-loop-trib g l = record {
  next : l.next ≡ l.fn.next + l.trib * width g.C.ChainTx.shapes;
  meanings : map g.C.Tx.meaning l.children.items ≡ senders_below g.C.ChainTx.shapes l.fn.path l.fn.next l.trib;
  fresh : All (IsFresh g.C.Tx.stands_at g.C.Tx.stands_for g.C.Tx.says g.C.Tx.is_stopped) l.children.items;
}
