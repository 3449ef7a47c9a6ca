-- What `show` comes to, and the port that it opens.
use Rattle.std.proofs.Common.{◌≡◌, ℕ, zero, suc, ◌*◌, ◌/◌, ◌<◌, ◌≤◌, nat_lt, List, [], ◌∷◌, ◌++◌, Option, Some, Ok, Err, true, false, length, map, take, slice_get, refl, ap, sym, subst, ◌∙◌, arith, lit<}
use Rattle.std.specs.Prelude.{unwrap_or}
use Rattle.std.proofs.lemmas.Bool.Decides.{nat_tests}
use Rattle.std.proofs.lemmas.Option.{none-some, same_Some}
use Rattle.pdh_bits.specs.Bits.{bits_of}
use Rattle.pdh_edge.specs.Files.{ShelfState, Told, Looks}
use Rattle.pdh_edge.specs.Files.Told.{Known}
use Rattle.pdh_chain.specs.Chains.{frame_bytes_of}
use Rattle.pdh_chain.specs.declared.chain.Chain.{Chain}
use Rattle.pdh_blocks.specs.Held.{AllDiffer}
use Rattle.pdh_answers.specs.Names.{name_of, line_name}
use Rattle.pdh_answers.specs.Answer.{and_then}
use Rattle.pdh_runner.specs.Lines.{frames_of}
use Rattle.pdh_recorded.specs.Inspect.{bytes_upto, line_to_show, frame_shown, showing}
use Rattle.pdh_runner.specs.Reading.{HasLength, IsSizeStop}
use Rattle.pdh_runner.specs.LineSteps.{BeginsWith}
use Rattle.pdh_runner.specs.Refusing.{Refuses}
use Rattle.pdh_runner.specs.Operation.{AreTold, OfInputs, reaches_outputs, IsReadDue, Files, bytes_in}
use Rattle.pdh_runner.specs.Performing.{GoesOn}
use Rattle.pdh_runner.specs.PortFiles.{HasBits, AreFiles, AreRead, opened_for, input_name}
use Rattle.pdh_runner.specs.Running.{ArePrepared}
use Rattle.pdh_recorded.specs.ShowSteps.{HasFrame, CanShow, IsShowPort}
use Rattle.pdh_answers.specs.declared.file.File.{File}
use Rattle.pdh_answers.specs.declared.file.File.TheVariants.{Line}
use Rattle.pdh_runner.specs.declared.port.Input.{Input}
use Rattle.pdh_answers.specs.declared.answer.Stop.{Stop}
use Rattle.pdh_answers.specs.declared.answer.Stop.TheVariants.{ManyFrames, Short}
use Rattle.pdh_runner.proofs.Refusing.{refuses_since}
use Rattle.pdh_runner.proofs.OneInput.{RefusesAll, missing_refuses, length_refuses, held_of}
use Rattle.pdh_runner.proofs.Differing.{none_differ, one_more_differs}
use Rattle.pdh_runner.proofs.PortOpen.{open_for, long_has, told_read, left_read, holds_read}
use Rattle.pdh_shape.specs.OwnNumbers.{most_frames}

-- ---- why it is refused

pub show_begins : (chain : Chain) (n : ℕ) → BeginsWith (showing chain n) Line (line_to_show chain n) (frame_shown chain n)
unfolding frame_shown
show_begins chain n = record { some = lit< tt; first = refl; missing = refl; comes = λ files. refl; due = λ files on. on; reaches = λ line. refl }

-- what a length decides
many_frames : (chain : Chain) (n bytes : ℕ) → most_frames < bytes / frame_bytes_of chain → RefusesAll (line_to_show chain n) bytes (ManyFrames (bytes / frame_bytes_of chain))
many_frames chain n bytes many content long =
    let same : frames_of chain content ≡ bytes / frame_bytes_of chain = ap (λ (k : ℕ). k / frame_bytes_of chain) long in
    let test : nat_lt most_frames (frames_of chain content) ≡ true = grind (arith, nat_tests) in
    rw test (ap (λ (k : ℕ). Err (ManyFrames k)) same)

no_frame : (chain : Chain) (n bytes : ℕ) → bytes / frame_bytes_of chain ≤ most_frames → bytes < bytes_upto chain n → RefusesAll (line_to_show chain n) bytes (Short Line (8 * bytes) (8 * bytes_upto chain n))
no_frame chain n bytes few short content long =
    let same : frames_of chain content ≡ bytes / frame_bytes_of chain = ap (λ (k : ℕ). k / frame_bytes_of chain) long in
    let test : nat_lt most_frames (frames_of chain content) ≡ false = grind (arith, nat_tests) in
    let test' : nat_lt (length content) (bytes_upto chain n) ≡ true = grind (arith, nat_tests) in
    rw test (rw test' (ap (λ (k : ℕ). Err (Short Line (8 * k) (8 * bytes_upto chain n))) long))

pub show_missing : (chain : Chain) (n : ℕ) (a b : ShelfState) (stop : Stop) → IsSizeStop Line a b stop → Refuses (showing chain n) a b stop
show_missing chain n a b stop cause = missing_refuses (showing chain n) Line (line_to_show chain n) (frame_shown chain n) a b stop (show_begins chain n) cause

pub show_long : (chain : Chain) (n : ℕ) (a b : ShelfState) (bytes frames : ℕ) → Looks a b → b.counts ≡ a.counts → HasLength line_name bytes b → frames ≡ bytes / frame_bytes_of chain → most_frames < frames → Refuses (showing chain n) a b (ManyFrames frames)
show_long chain n a b bytes frames looks same known is many =
    refuses_since (showing chain n) a b b (ManyFrames frames) looks same
    (subst (λ (k : ℕ). Refuses (showing chain n) b b (ManyFrames k)) (sym is)
    (length_refuses (showing chain n) Line (line_to_show chain n) (frame_shown chain n) b bytes (ManyFrames (bytes / frame_bytes_of chain)) (show_begins chain n) known (many_frames chain n bytes (omega arith))))

pub show_short : (chain : Chain) (n : ℕ) (a b : ShelfState) (bytes have need : ℕ) → Looks a b → b.counts ≡ a.counts → HasLength line_name bytes b → bytes / frame_bytes_of chain ≤ most_frames → bytes < bytes_upto chain n
    → have ≡ 8 * bytes → need ≡ 8 * bytes_upto chain n → Refuses (showing chain n) a b (Short Line have need)
show_short chain n a b bytes have need looks same known few short is is' =
    refuses_since (showing chain n) a b b (Short Line have need) looks same
    (subst (λ (k : ℕ). Refuses (showing chain n) b b (Short Line k need)) (sym is) (subst (λ (k : ℕ). Refuses (showing chain n) b b (Short Line (8 * bytes) k)) (sym is')
    (length_refuses (showing chain n) Line (line_to_show chain n) (frame_shown chain n) b bytes (Short Line (8 * bytes) (8 * bytes_upto chain n)) (show_begins chain n) known (no_frame chain n bytes few short))))

-- ---- a line that isn't refused

served : (chain : Chain) (n bytes : ℕ) (content : List ℕ) → length content ≡ bytes → bytes / frame_bytes_of chain ≤ most_frames → bytes_upto chain n ≤ bytes → line_to_show chain n (Some content) ≡ Ok content
served chain n bytes content long few enough =
    let same : frames_of chain content ≡ bytes / frame_bytes_of chain = ap (λ (k : ℕ). k / frame_bytes_of chain) long in
    let test : nat_lt most_frames (frames_of chain content) ≡ false = grind (arith, nat_tests) in
    let test' : nat_lt (length content) (bytes_upto chain n) ≡ false = grind (arith, nat_tests) in
    rw test (rw test' refl)

-- ---- the port

-- the line's file, of which the port gives the bits up to the end of the frame
abbrev show_input : Chain → ℕ → Input
show_input chain n = record { file = Line; bits = 8 * bytes_upto chain n }

module _ (chain : Chain) (n : ℕ) (reads : List Input) (one : reads ≡ record { file = Line; bits = 8 * bytes_upto chain n } ∷ []) where
  first : slice_get reads 0 ≡ Some (show_input chain n)
  first = ap (λ (all : List Input). slice_get all 0) one

  the_line : (k : ℕ) (input : Input) → slice_get reads k ≡ Some input → input ≡ show_input chain n
  the_line k input here = go k (ap (λ (all : List Input). slice_get all k) (sym one) ∙ here)
    where
      go : (k : ℕ) → slice_get (show_input chain n ∷ []) k ≡ Some input → input ≡ show_input chain n
      go zero here = sym (same_Some _ _ here)
      go (suc k) here = absurd (none-some input here)

  -- the line is read in the run, and due there
  pub show_reads : (a : ShelfState) → GoesOn (showing chain n) a → AreRead (showing chain n) a reads
  show_reads a goes_on = record {
    input = λ k input here. (0, lit< tt, ap input_name (the_line k input here));
    in_run = λ k input here. refl;
    due = λ k input here. subst (λ (input : Input). OfInputs (showing chain n) a (IsReadDue (showing chain n) input.file)) (sym (the_line k input here)) goes_on;
  }

  module _ (writes : List File) (out : writes ≡ []) where
    -- the file is there
    pub show_files : (b : ShelfState) → HasFrame chain n b → AreFiles b reads writes
    show_files b is = record {
      has = λ k input here. subst (λ (input : Input). HasBits (input_name input) input.bits b) (sym (the_line k input here)) (long_has line_name is.bytes (8 * bytes_upto chain n) b is.long (let e = is.enough in omega arith));
      differ = subst (λ (reads : List Input). AllDiffer (map input_name reads ++ map name_of writes)) (sym one) (subst (λ (writes : List File). AllDiffer (line_name ∷ map name_of writes)) (sym out)
          (one_more_differs line_name [] none_differ (λ k here. none-some line_name here)));
      few = omega (arith, ap length one, ap length out);
    }

    -- the port is open for `show`
    pub show_port : (a b : ShelfState) → Looks a b → b.counts ≡ a.counts → HasFrame chain n b → IsShowPort chain n a (opened_for b reads writes)
    show_port a b looks same is = record {
      open_for = open_for (showing chain n) a b reads writes looks same goes_on (ap length out) (λ k low. absurd (omega arith));
      comes = comes;
      gives = λ files told.
          let found = found_line files told in
          told_read b reads writes 0 (show_input chain n) found.0 first (told_now files told ∙ ap Known found.1) ∙ ap (λ (h : Option (List ℕ)). Some (take (8 * bytes_upto chain n) (bits_of (unwrap_or h [])))) (sym found.1);
    }
      where
        told_now : (files : Files) → AreTold (showing chain n) a.told files → b.told line_name ≡ Known (files line_name)
        told_now files told = ap (λ (t : List ℕ → Told). t line_name) looks.told ∙ told 0 (lit< tt)

        found_line : (files : Files) → AreTold (showing chain n) a.told files → (content : List ℕ) × (files line_name ≡ Some content) × (length content ≡ is.bytes)
        found_line files told = held_of is.bytes (files line_name) (is.long.told (files line_name) (told_now files told))

        comes : OfInputs (showing chain n) a (λ files. (showing chain n).comes_to files ≡ frame_shown chain n (bytes_in files line_name))
        comes files told =
            let found = found_line files told in
            (show_begins chain n).comes files
            ∙ ap (λ h. and_then (line_to_show chain n h) (frame_shown chain n)) found.1
            ∙ ap (λ r. and_then r (frame_shown chain n)) (served chain n is.bytes found.0 found.2 is.few is.enough)
            ∙ ap (λ (h : Option (List ℕ)). frame_shown chain n (unwrap_or h [])) (sym found.1)

        goes_on : GoesOn (showing chain n) a
        goes_on files told = ap reaches_outputs (comes files told) ∙ (show_begins chain n).reaches (bytes_in files line_name)

    pub show_prepared : (b : ShelfState) → n ≤ 999999999 → HasFrame chain n b → ArePrepared (showing chain n) (CanShow chain n) (IsShowPort chain n) b reads writes
    show_prepared b known is = record {
      files = show_files b is;
      port = record { known = known; line = record { holds = holds_read b reads writes 0 1 (ap length one) (lit< tt); left = left_read b reads writes 0 (show_input chain n) first } };
      given = λ begun looks same.
          let port = show_port begun b looks same is in
          record { open_for = port.open_for; due = show_reads begun port.open_for.goes_on; alone = tt };
      lists = λ begun looks same. show_port begun b looks same is;
    }
