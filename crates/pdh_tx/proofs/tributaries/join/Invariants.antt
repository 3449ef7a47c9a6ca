use Rattle.std.proofs.Common.{◌≡◌, ◌++◌, [], map}
use Rattle.std.specs.Prelude.{All}
use Rattle.pdh_tx.specs.Tributary.{child_in}
use Rattle.pdh_tx.proofs.tributaries.join.Given as goal

abbrev pub invariant-loop-child : goal.invariant-loop-child
invariant-loop-child g l =
    record {
      children : map child_in l.tributaries.items ++ l.child-iterator.rest.items ≡ l.fn.children.items;
      empty : All (λ tributary. tributary.store ≡ []) l.tributaries.items;
    }
