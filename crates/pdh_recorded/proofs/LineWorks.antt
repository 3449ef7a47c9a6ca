-- A command that reads all bits of a line, over the line that was found or refused.
use Rattle.std.proofs.Common.{◌≡◌, ℕ, ◌/◌, ◌≤◌, nat_lt, List, [], ◌∷◌, false, refl, ap, sym, subst, inl, arith}
use Rattle.std.proofs.lemmas.Bool.Decides.{nat_tests}
use Rattle.std.specs.Prelude.{Option, Some, None, Err}
use Rattle.pdh_edge.specs.declared.shelf.Call.TheVariants.{Size as SizeCall}
use Rattle.pdh_edge.specs.Files.{ShelfState, FailsToRead}
use Rattle.pdh_chain.specs.Chains.{frame_bytes_of}
use Rattle.pdh_chain.specs.declared.chain.Chain.{Chain}
use Rattle.pdh_watch.specs.Monitors.{State}
use Rattle.pdh_answers.specs.Names.{name_of}
use Rattle.pdh_answers.specs.Answer.{Answer}
use Rattle.pdh_answers.specs.declared.file.File.{File}
use Rattle.pdh_answers.specs.declared.answer.Stop.{Stop}
use Rattle.pdh_answers.specs.declared.answer.Stop.TheVariants.{Read, Missing, ManyFrames}
use Rattle.pdh_runner.specs.Lines.{frames_of, line_of}
use Rattle.pdh_runner.specs.LineSteps.{ReadsLine, CanRead, IsLinePort}
use Rattle.pdh_runner.specs.Operation.{Operation, View}
use Rattle.pdh_runner.specs.Operation.View.{EventsOfFile, EventsOfAll}
use Rattle.pdh_runner.specs.Reading.{HasLength}
use Rattle.pdh_runner.specs.Performing.{WatchedBy}
use Rattle.pdh_runner.specs.Running.{ArePrepared}
use Rattle.pdh_runner.specs.Lines.{IsLine, IsLineCause}
use Rattle.pdh_runner.specs.declared.port.Input.{Input}
use Rattle.pdh_runner.proofs.LineComes.{few_bits}
use Rattle.pdh_runner.proofs.LineRun.{ReadsWhole, line_prepared}
use Rattle.pdh_runner.proofs.OneInput.{ServesAll}
use Rattle.pdh_shape.specs.OwnNumbers.{most_frames}

pub serves_line : (file : File) (chain : Chain) (bytes : ℕ) → bytes / frame_bytes_of chain ≤ most_frames → ServesAll (line_of file chain) bytes
serves_line file chain bytes few content long =
    let same : frames_of chain content ≡ bytes / frame_bytes_of chain = ap (λ (n : ℕ). n / frame_bytes_of chain) long in
    let test : nat_lt most_frames (frames_of chain content) ≡ false = grind (arith, nat_tests) in
    rw test refl

module _ (operation : Operation) (file : File) (chain : Chain) (next : List ℕ → Answer) (reads_line : ReadsLine operation file chain next) where
  -- the line was found
  found : (line : Input) (b : ShelfState) → line.file ≡ file → IsLine chain line b → ReadsWhole operation file (line_of file chain) next line b
  found line b file_is is = record {
    begins = reads_line.begins;
    in_run = reads_line.in_run;
    no_outputs = reads_line.no_outputs;
    shows = reads_line.shows;
    file_is = file_is;
    bytes = is.bytes;
    bits_are = is.bits_are;
    few = few_bits chain line b is;
    long = subst (λ file. HasLength (name_of file) is.bytes b) file_is is.long;
    serves = serves_line file chain is.bytes is.few;
  }

  pub work_prepared : (line : Input) (reads : List Input) → reads ≡ line ∷ [] → (writes : List File) → writes ≡ [] → (b : ShelfState) → line.file ≡ file → IsLine chain line b
      → ArePrepared operation (CanRead line.bits) (IsLinePort operation file next line) b reads writes
  work_prepared line reads one writes none b file_is is = line_prepared operation file (line_of file chain) next line b (found line b file_is is) reads one writes none

-- where the line was refused, the monitors saw nothing
pub refused_unseen : (view : Option View) (operation : Operation) (file : File) (chain : Chain) (a b : ShelfState) (stop : Stop) (states : List State) → IsLineCause file chain a b stop → WatchedBy view operation a b (Err stop) states states
refused_unseen None operation file chain a b stop states cause = refl
refused_unseen (Some (EventsOfAll events_of)) operation file chain a b stop states cause = refl
refused_unseen (Some (EventsOfFile shown events_of)) operation file chain a b (Read failed) states cause = inl (subst (λ f. FailsToRead SizeCall (name_of f) a b) (sym cause.0) cause.1, refl)
refused_unseen (Some (EventsOfFile shown events_of)) operation file chain a b (Missing missed) states cause = refl
refused_unseen (Some (EventsOfFile shown events_of)) operation file chain a b (ManyFrames n) states cause = refl
refused_unseen (Some (EventsOfFile shown events_of)) operation file chain a b stop states cause = absurd cause
