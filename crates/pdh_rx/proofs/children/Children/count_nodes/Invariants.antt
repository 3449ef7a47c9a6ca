use Rattle.std.proofs.Common.{◌≡◌, ℕ, Bool, List, ◌++◌, map, take}
use Rattle.pdh_rx.specs.Node.{EachStands, counted_by}
use Rattle.pdh_rx.proofs.children.Children.count_nodes.Given as goal

-- the counts of the first tributaries were appended
abbrev pub invariant-loop-trib : goal.invariant-loop-trib
invariant-loop-trib g l = (lines : ℕ → List Bool) → EachStands g.C.Rx.stands l.self-inside.list.items lines
    → l.counts.items ≡ l.fn.counts.items ++ counted_by (take l.trib (map g.C.Rx.meaning l.self-inside.list.items)) lines
