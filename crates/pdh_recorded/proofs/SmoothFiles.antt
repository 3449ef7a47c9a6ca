-- What `smooth` comes to where no step refuses its line, and the port that it opens then.
use Rattle.std.proofs.Common.{◌≡◌, ◌≢◌, inl, inr, ℕ, zero, suc, ◌+◌, ◌*◌, ◌<◌, ◌==◌, cond, true, false, List, [], ◌∷◌, ◌++◌, Ok, Err, length, map, slice_get, Option, Some, get_or, refl, ap, sym, subst, ◌∙◌, arith, lit<, length-append}
use Rattle.std.specs.Prelude.{unwrap_or}
use Rattle.std.specs.List.{range_with_len}
use Rattle.std.proofs.lemmas.Bool.{cases_lt, cases_eq, lt-ltb, le-ltb}
use Rattle.std.proofs.lemmas.Bool.Decides.{nat_tests}
use Rattle.std.proofs.lemmas.List.{map-append}
use Rattle.std.proofs.lemmas.List.FromFn.{length-map-range_with_len}
use Rattle.std.proofs.lemmas.Option.{none-some}
use Rattle.std.proofs.lemmas.Simd.{map-map}
use Rattle.pdh_bits.specs.Bits.{bits_of}
use Rattle.pdh_edge.specs.Files.{ShelfState, Told, Looks}
use Rattle.pdh_edge.specs.Files.Told.{Known}
use Rattle.pdh_chain.specs.Chains.{leaves_of}
use Rattle.pdh_chain.specs.declared.chain.Chain.{Chain}
use Rattle.pdh_chain.proofs.ChainLaws.{few_leaves}
use Rattle.pdh_blocks.specs.Held.{AllDiffer}
use Rattle.pdh_answers.specs.Answer.{and_then}
use Rattle.pdh_answers.specs.Names.{name_of, line_name, output_name, numbered_name, schedule_out_name}
use Rattle.pdh_answers.specs.declared.answer.Stop.TheVariants.{NoAlignment}
use Rattle.pdh_answers.specs.declared.file.File.{File}
use Rattle.pdh_answers.specs.declared.file.File.TheVariants.{Line, Output, ScheduleOut}
use Rattle.pdh_runner.specs.Operation.{AreTold, OfInputs, reaches_outputs, Files, bytes_in}
use Rattle.pdh_runner.specs.Lines.{line_of}
use Rattle.pdh_runner.specs.LineSteps.{BeginsWith}
use Rattle.pdh_runner.specs.Performing.{GoesOn}
use Rattle.pdh_runner.specs.PortFiles.{HasBits, AreFiles, AreRead, opened_for, unread_file, input_name}
use Rattle.pdh_runner.specs.Running.{ArePrepared}
use Rattle.pdh_runner.specs.declared.port.Input.{Input}
use Rattle.pdh_runner.proofs.Differing.{one_more_differs}
use Rattle.pdh_runner.proofs.LineComes.{few_bits}
use Rattle.pdh_runner.proofs.OneInput.{only_input}
use Rattle.pdh_runner.proofs.PortOpen.{open_for, long_has, left_read, holds_read, holds_written}
use Rattle.pdh_recorded.specs.Demux.{frames_received}
use Rattle.pdh_recorded.specs.Smooth.{smooth_says, smoothed, smooth_output_name, smoothing}
use Rattle.pdh_recorded.specs.SmoothSteps.{IsSmoothLine, CanSmooth, AreSmoothOutputs, IsSmoothPort}
use Rattle.pdh_recorded.proofs.DemuxFiles.{line_held, all_bits}
use Rattle.pdh_runner.proofs.Differing.{numbered, numbered_at, numbered_differ, last_differs, in_last}
use Rattle.pdh_answers.proofs.FileNames.{same_output, output_is_not_line}

-- ---- what the line comes to

pub smoothed_none : (chain : Chain) (line : List ℕ) → frames_received chain line ≡ 0 → smoothed chain line ≡ Err (NoAlignment (8 * length line))
unfolding smoothed
smoothed_none chain line none = let test : frames_received chain line == 0 ≡ true = grind (arith, nat_tests) in rw test refl

pub smoothed_some : (chain : Chain) (line : List ℕ) → frames_received chain line ≢ 0 → smoothed chain line ≡ Ok (smooth_says chain (frames_received chain line))
unfolding smoothed
smoothed_some chain line some = let test : frames_received chain line == 0 ≡ false = grind (arith, nat_tests) in rw test refl

-- either is told behind the start of the outputs
smoothed_reaches : (chain : Chain) (line : List ℕ) → reaches_outputs (smoothed chain line) ≡ true
smoothed_reaches chain line = elim (cases_eq (frames_received chain line) 0) [
  | inl none ↦ ap reaches_outputs (smoothed_none chain line none)
  | inr some ↦ ap reaches_outputs (smoothed_some chain line some)
]

pub begins_smooth : (chain : Chain) → BeginsWith (smoothing chain) Line (line_of Line chain) (smoothed chain)
begins_smooth chain = record { some = lit< tt; first = refl; missing = refl; comes = λ files. refl; due = λ files on. on; reaches = smoothed_reaches chain }

-- ---- the names of the outputs

-- the second letter tells the schedule from a leaf's output
schedule_is_not_output : (k : ℕ) → output_name k ≢ schedule_out_name
unfolding numbered_name schedule_out_name
schedule_is_not_output k e = let letters : 111 ≡ 115 = ap (λ name. get_or name 0 0) e in absurd (omega (arith, letters))

schedule_is_not_line : schedule_out_name ≢ line_name
unfolding schedule_out_name line_name
schedule_is_not_line e = let letters : 115 ≡ 108 = ap (λ name. get_or name 0 0) e in absurd (omega (arith, letters))

module _ (chain : Chain) (writes : List File) (outs : AreSmoothOutputs chain writes) where
  names_are : map name_of writes ≡ map output_name (range_with_len 0 (leaves_of chain)) ++ schedule_out_name ∷ []
  names_are =
      ap (map name_of) outs ∙ map-append name_of (map Output (range_with_len 0 (leaves_of chain))) (ScheduleOut ∷ [])
      ∙ ap (λ names. names ++ schedule_out_name ∷ []) (map-map name_of Output (range_with_len 0 (leaves_of chain)))

  pub smooth_count : length writes ≡ suc (leaves_of chain)
  smooth_count = ap length outs ∙ length-append (map Output (range_with_len 0 (leaves_of chain))) (ScheduleOut ∷ []) ∙ omega (arith, length-map-range_with_len Output 0 (leaves_of chain))

  names_differ : AllDiffer (map output_name (range_with_len 0 (leaves_of chain)) ++ schedule_out_name ∷ [])
  names_differ =
      last_differs (map output_name (range_with_len 0 (leaves_of chain))) schedule_out_name
      (numbered_differ output_name (leaves_of chain) (λ x y lx ly e. same_output x y (omega (arith, few_leaves chain)) (omega (arith, few_leaves chain)) e))
      (λ k here. let at = numbered output_name 0 (leaves_of chain) k schedule_out_name here in schedule_is_not_output (0 + k) (sym at.1))

  pub smooth_named : (k : ℕ) → k < suc (leaves_of chain) → slice_get (map name_of writes) k ≡ Some (smooth_output_name chain k)
  smooth_named k low = ap (λ names. slice_get names k) names_are ∙ elim (cases_lt k (leaves_of chain)) [
    | inl leaf ↦ first_of (map output_name (range_with_len 0 (leaves_of chain))) k (output_name k) (numbered_at output_name 0 (leaves_of chain) k k leaf (omega arith)) ∙ ap (λ b. Some (cond b (output_name k) schedule_out_name)) (sym (lt-ltb k (leaves_of chain) leaf))
    | inr behind ↦
        let at : k ≡ length (map output_name (range_with_len 0 (leaves_of chain))) = omega (arith, low, behind, length-map-range_with_len output_name 0 (leaves_of chain)) in
        ap (slice_get (map output_name (range_with_len 0 (leaves_of chain)) ++ schedule_out_name ∷ [])) at ∙ last_of (map output_name (range_with_len 0 (leaves_of chain)))
        ∙ ap (λ b. Some (cond b (output_name k) schedule_out_name)) (sym (le-ltb k (leaves_of chain) behind))
  ]
    where
      first_of : (names : List (List ℕ)) (k : ℕ) (name : List ℕ) → slice_get names k ≡ Some name → slice_get (names ++ schedule_out_name ∷ []) k ≡ Some name
      first_of [] k name here = absurd (none-some name here)
      first_of (x ∷ names) zero name here = here
      first_of (x ∷ names) (suc k) name here = first_of names k name here

      last_of : (names : List (List ℕ)) → slice_get (names ++ schedule_out_name ∷ []) (length names) ≡ Some schedule_out_name
      last_of [] = refl
      last_of (x ∷ names) = last_of names

-- ---- the port

module _ (chain : Chain) (line : Input) (reads : List Input) (one : reads ≡ line ∷ []) (writes : List File) (outs : AreSmoothOutputs chain writes) (b : ShelfState) (is : IsSmoothLine chain line b) where
  first : slice_get reads 0 ≡ Some line
  first = ap (λ (all : List Input). slice_get all 0) one

  the_line : (k : ℕ) (input : Input) → slice_get reads k ≡ Some input → input ≡ line
  the_line = only_input reads line one

  -- the files are there, and their names differ
  files_are : AreFiles b reads writes
  files_are = record {
    has = λ k input here. subst (λ (input : Input). HasBits (input_name input) input.bits b) (sym (the_line k input here)) (long_has (name_of line.file) is.is_line.bytes line.bits b is.is_line.long (omega (arith, is.is_line.bits_are)));
    differ = subst (λ (reads : List Input). AllDiffer (map input_name reads ++ map name_of writes)) (sym one) (subst (λ all. AllDiffer (name_of line.file ∷ all)) (sym (names_are chain writes outs))
        (one_more_differs (name_of line.file) _ (names_differ chain writes outs) (λ k here. other k (here ∙ ap (λ file. Some (name_of file)) is.file_is))));
    few = omega (arith, ap length one, smooth_count chain writes outs, few_leaves chain);
  }
    where
      other : (k : ℕ) → slice_get (map output_name (range_with_len 0 (leaves_of chain)) ++ schedule_out_name ∷ []) k ≡ Some line_name → ⊥
      other k here = elim (in_last (map output_name (range_with_len 0 (leaves_of chain))) schedule_out_name k line_name here) [
        | inl among ↦ (let at = numbered output_name 0 (leaves_of chain) k line_name among in output_is_not_line (0 + k) (sym at.1))
        | inr last ↦ schedule_is_not_line (sym last)
      ]

  module _ (a : ShelfState) (looks : Looks a b) where
    told_now : (files : Files) → AreTold (smoothing chain) a.told files → b.told (name_of line.file) ≡ Known (files (name_of line.file))
    told_now files told = ap (λ (t : List ℕ → Told). t (name_of line.file)) looks.told ∙ subst (λ file. a.told (name_of file) ≡ Known (files (name_of file))) (sym is.file_is) (told 0 (lit< tt))

    comes : OfInputs (smoothing chain) a (λ files. (smoothing chain).comes_to files ≡ smoothed chain (bytes_in files line_name))
    comes files told =
        let found = line_held chain line b is.is_line (files (name_of line.file)) (told_now files told) in
        let judged : line_of Line chain (files line_name) ≡ Ok found.0 = subst (λ file. line_of file chain (files (name_of file)) ≡ Ok found.0) is.file_is found.3 in
        ap (λ r. and_then r (smoothed chain)) judged ∙ ap (smoothed chain) (ap (λ (h : Option (List ℕ)). unwrap_or h []) (sym found.1) ∙ ap (λ file. bytes_in files (name_of file)) is.file_is)

    goes_on : GoesOn (smoothing chain) a
    goes_on files told = ap reaches_outputs (comes files told) ∙ smoothed_reaches chain (bytes_in files line_name)

    -- the line is read in the run, and due there
    line_read : AreRead (smoothing chain) a reads
    line_read = record {
      input = λ k input here. (0, lit< tt, ap input_name (the_line k input here) ∙ ap name_of is.file_is);
      in_run = λ k input here. refl;
      due = λ k input here. goes_on;
    }

    smooth_port : b.counts ≡ a.counts → IsSmoothPort chain line a (opened_for b reads writes)
    smooth_port same = record {
      open_for = open_for (smoothing chain) a b reads writes looks same goes_on (smooth_count chain writes outs) (smooth_named chain writes outs);
      file_is = is.file_is;
      leaf = ap (λ (all : List Input). slice_get (map unread_file all) 0) one;
      comes = comes;
      gives = λ files told. all_bits chain line b reads writes (name_of line.file) (files (name_of line.file)) is.is_line first (told_now files told) ∙ ap (λ file. Some (bits_of (bytes_in files (name_of file)))) is.file_is;
      long = λ files told.
          let found = line_held chain line b is.is_line (files (name_of line.file)) (told_now files told) in
          ap (λ file. length (bits_of (bytes_in files (name_of file)))) (sym is.file_is) ∙ ap (λ (h : Option (List ℕ)). length (bits_of (unwrap_or h []))) found.1 ∙ sym found.2;
    }

  -- its list 0 is the line, and each output has a list
  can_smooth : CanSmooth chain line.bits (opened_for b reads writes)
  can_smooth = record {
    single = is.single;
    fresh = refl;
    few = few_bits chain line b is.is_line;
    line = record { holds = holds_read b reads writes 0 1 (ap length one) (lit< tt); left = left_read b reads writes 0 line first };
    lists = λ k low. holds_written b reads writes k (suc (leaves_of chain)) (smooth_count chain writes outs) low;
  }

  pub smooth_prepared : ArePrepared (smoothing chain) (CanSmooth chain line.bits) (IsSmoothPort chain line) b reads writes
  smooth_prepared = record {
    files = files_are;
    port = can_smooth;
    given = λ begun looks same. record { open_for = (smooth_port begun looks same).open_for; due = line_read begun looks; alone = tt };
    lists = λ begun looks same. smooth_port begun looks same;
  }
