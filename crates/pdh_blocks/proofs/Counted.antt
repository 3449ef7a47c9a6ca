-- What a call counts, at a port and at its shelf.
use Rattle.std.proofs.Common.{◌≡◌, ℕ, ◌^◌, ◌<◌, ap}
use Rattle.pdh_edge.specs.Counts.{one_more}
use Rattle.pdh_edge.specs.Files.{Counts, with_read_fault, with_write_fault}
use Rattle.pdh_blocks.specs.Kept.{RiseTogether}
use Rattle.pdh_blocks.specs.laws.Counting.{rise_none, rise_one}

-- the counts of a port and of its shelf rise together
pub record CountsAlike (old new : Counts) (feed feed' drain drain' : ℕ) : Type 0 where
  pub reads : RiseTogether feed feed' old.read_faults new.read_faults
  pub writes : RiseTogether drain drain' old.write_faults new.write_faults
  pub misses : new.misses ≡ old.misses

module _ (old new : Counts) (feed drain : ℕ) where
  pub counts_none : new ≡ old → CountsAlike old new feed feed drain drain
  counts_none same = record {
    reads = rise_none feed old.read_faults new.read_faults (ap (λ (c : Counts). c.read_faults) same);
    writes = rise_none drain old.write_faults new.write_faults (ap (λ (c : Counts). c.write_faults) same);
    misses = ap (λ (c : Counts). c.misses) same;
  }

  pub counts_read : (faults : ℕ) → feed < 2 ^ 64 → old.read_faults < 2 ^ 64 → faults ≡ one_more feed → new ≡ with_read_fault old → CountsAlike old new feed faults drain drain
  counts_read faults fits shelf_fits counted same = record {
    reads = rise_one feed faults old.read_faults new.read_faults fits shelf_fits counted (ap (λ (c : Counts). c.read_faults) same);
    writes = rise_none drain old.write_faults new.write_faults (ap (λ (c : Counts). c.write_faults) same);
    misses = ap (λ (c : Counts). c.misses) same;
  }

  pub counts_write : (faults : ℕ) → drain < 2 ^ 64 → old.write_faults < 2 ^ 64 → faults ≡ one_more drain → new ≡ with_write_fault old → CountsAlike old new feed feed drain faults
  counts_write faults fits shelf_fits counted same = record {
    reads = rise_none feed old.read_faults new.read_faults (ap (λ (c : Counts). c.read_faults) same);
    writes = rise_one drain faults old.write_faults new.write_faults fits shelf_fits counted (ap (λ (c : Counts). c.write_faults) same);
    misses = ap (λ (c : Counts). c.misses) same;
  }
