-- What the real devices tell and count, and what their calls do to it: they tell no contents.
use Rattle.std.specs.Prelude.{◌≡◌, ℕ, true, false, if◌then◌else◌, Option, None, is_none, Result, IfOk, OnOk, OnErr}
use Rattle.pdh_folder.specs.declared.folder.Folder.{Folder}
use Rattle.pdh_folder.specs.declared.out.Out.{Out}
use Rattle.pdh_edge.specs.Files.{ShelfState, SinkState, with_read_fault, with_write_fault, with_miss}
use Rattle.pdh_edge.specs.Files.Told.{Untold}
use Rattle.pdh_edge.specs.Counts.{one_more}

-- ---- files

-- files with these counts; each range may be read
abbrev pub untold_files : ℕ → ℕ → ℕ → ShelfState
untold_files read_faults write_faults misses = record {
  told = λ name. Untold;
  readable = λ name at len. true;
  counts = record { read_faults = read_faults; write_faults = write_faults; misses = misses };
  last_failed = None;
  failed_range = None;
  tells_name = λ name. false;
  tells_started = λ name. false;
}

-- what a folder tells and counts
abbrev pub folder_state : {R F D : Type 0} → Folder R F D → ShelfState
folder_state folder = untold_files folder.read_faults folder.write_faults folder.misses

-- `size` counts a failure, and a file that isn't there, once
pub record CountsSize {E : Type 0} (old new : ShelfState) (result : Result (Option ℕ) E) : Type 0 where
  pub ok : IfOk result (λ size. new ≡ record old { counts = if is_none size then with_miss old.counts else old.counts })
  pub err : OnErr result (new ≡ record old { counts = with_read_fault old.counts })

-- `read_at` counts a failure once
pub record CountsRead {E : Type 0} (old new : ShelfState) (result : Result (Unit {0}) E) : Type 0 where
  pub ok : OnOk result (new ≡ old)
  pub err : OnErr result (new ≡ record old { counts = with_read_fault old.counts })

-- `start` and `append` count a failure once
pub record CountsWrite {E : Type 0} (old new : ShelfState) (result : Result (Unit {0}) E) : Type 0 where
  pub ok : OnOk result (new ≡ old)
  pub err : OnErr result (new ≡ record old { counts = with_write_fault old.counts })

-- ---- an output

-- an output with this count
abbrev pub untold_output : ℕ → SinkState
untold_output faults = record { written = None; faults = faults }

-- what the standard output tells and counts
abbrev pub out_state : {R : Type 0} → Out R → SinkState
out_state out = untold_output out.faults

-- `write` counts a failure once
pub record CountsSend {E : Type 0} (old new : SinkState) (result : Result (Unit {0}) E) : Type 0 where
  pub ok : OnOk result (new ≡ old)
  pub err : OnErr result (new ≡ record old { faults = one_more old.faults })
