use Rattle.std.proofs.Common.{◌≡◌, ◌<◌, ◌≤◌, ℕ, None, IfSome, slice_index_or}
use Rattle.pdh_rx.specs.declared.merging.Due.{Due}
use Rattle.pdh_rx.proofs.merging.next_due.Given as goal

-- none of the tributaries so far is due before this place, at which one of them is, or it is the end
abbrev pub invariant-loop-trib : goal.invariant-loop-trib
invariant-loop-trib g l = record {
  least : (j : ℕ) (d : Due) → j < l.trib → l.first ≤ (slice_index_or l.due j d).place;
  within : l.first ≤ l.end;
  none : l.next ≡ None → l.first ≡ l.end;
  known : IfSome l.next (λ t. t < l.trib);
  place : IfSome l.next (λ t. (d : Due) → (slice_index_or l.due t d).place ≡ l.first);
  before : IfSome l.next (λ t. l.first < l.end);
}
