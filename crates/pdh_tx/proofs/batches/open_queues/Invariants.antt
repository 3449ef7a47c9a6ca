use Rattle.std.proofs.Common.{◌≡◌, ◌≤◌, ◌+◌, ◌*◌, length}
use Rattle.std.specs.Prelude.{All}
use Rattle.pdh_shape.specs.OwnNumbers.{lead, store_size}
use Rattle.pdh_tx.specs.Batches.{batch}
use Rattle.pdh_tx.proofs.batches.open_queues.Given as goal

abbrev pub invariant-loop-trib : goal.invariant-loop-trib
invariant-loop-trib g l =
    record {
      count : length l.queues.items ≡ l._trib;
      room : All (λ queue. batch * g.S.Shape.LEN + lead + store_size ≤ queue.bits.capacity) l.queues.items;
    }
