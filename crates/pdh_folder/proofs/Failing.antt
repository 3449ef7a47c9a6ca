-- A device that tells nothing fails, and counts it.
use Rattle.std.proofs.Common.{◌≡◌, ℕ, List, ap, refl, inl}
use Rattle.std.proofs.lemmas.Option.{none-some}
use Rattle.pdh_edge.specs.declared.shelf.Call.{Call}
use Rattle.pdh_edge.specs.declared.shelf.Call.TheVariants.{Size, Start, Append}
use Rattle.pdh_edge.specs.Counts.{one_more}
use Rattle.pdh_edge.specs.Files.{Counts, FailsToRead, FailsToWrite, FailsToStart, FailsToAppend}
use Rattle.pdh_folder.specs.Untold.{untold_files}

module _ (name : List ℕ) (reads writes misses now : ℕ) where
  pub fails_to_read : (call : Call) → now ≡ one_more reads → FailsToRead call name (untold_files reads writes misses) (untold_files now writes misses)
  fails_to_read call counted = record {
    counts = ap (λ (n : ℕ). record { read_faults = n; write_faults = writes; misses = misses }) counted;
    last = λ other told. absurd (none-some other told);
  }

  pub fails_to_write : (call : Call) → now ≡ one_more writes → FailsToWrite call name (untold_files reads writes misses) (untold_files reads now misses)
  fails_to_write call counted = record {
    counts = ap (λ (n : ℕ). record { read_faults = reads; write_faults = n; misses = misses }) counted;
    last = λ other told. absurd (none-some other told);
  }

  pub fails_to_start : now ≡ one_more writes → FailsToStart name (untold_files reads writes misses) (untold_files reads now misses)
  fails_to_start counted = record { told = inl refl; fails = fails_to_write Start counted }

  pub fails_to_append : (bytes : List ℕ) → now ≡ one_more writes → FailsToAppend name bytes (untold_files reads writes misses) (untold_files reads now misses)
  fails_to_append bytes counted = record { told = refl; fails = fails_to_write Append counted }
