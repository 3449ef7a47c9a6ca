-- What `demux` comes to where no step refuses its line, and the port that it opens then.
use Rattle.std.proofs.Common.{◌≡◌, ◌≢◌, ℕ, ◌+◌, ◌/◌, nat_lt, List, [], ◌∷◌, ◌++◌, false, Option, Some, Ok, length, map, take, slice_get, refl, ap, sym, subst, ◌∙◌, arith, lit<}
use Rattle.std.specs.Prelude.{unwrap_or}
use Rattle.std.specs.List.{range_with_len}
use Rattle.std.proofs.lemmas.Bool.Decides.{nat_tests}
use Rattle.std.proofs.lemmas.List.FromFn.{length-map-range_with_len}
use Rattle.std.proofs.lemmas.Simd.{map-map}
use Rattle.std.proofs.Math.Seq.{take-length}
use Rattle.pdh_bits.specs.Bits.{bits_of}
use Rattle.pdh_bits.proofs.BitsLemmas.{length-bits_of}
use Rattle.pdh_edge.specs.Files.{ShelfState, Told, Looks}
use Rattle.pdh_edge.specs.Files.Told.{Known}
use Rattle.pdh_chain.specs.Chains.{leaves_of, frame_bytes_of}
use Rattle.pdh_chain.specs.declared.chain.Chain.{Chain}
use Rattle.pdh_chain.proofs.ChainLaws.{few_leaves}
use Rattle.pdh_blocks.specs.Lists.{inputs_of}
use Rattle.pdh_blocks.specs.Held.{AllDiffer}
use Rattle.pdh_answers.specs.declared.file.Bits.{Bits}
use Rattle.pdh_answers.specs.declared.file.Bits.TheVariants.{Line as Recorded, Bent as Disturbed}
use Rattle.pdh_answers.specs.Names.{name_of, line_file, output_name}
use Rattle.pdh_answers.specs.Answer.{and_then}
use Rattle.pdh_runner.specs.Lines.{line_of, frames_of}
use Rattle.pdh_recorded.specs.Demux.{demuxed, demuxing}
use Rattle.pdh_runner.specs.Operation.{AreTold, OfInputs, reaches_outputs, Files, bytes_in}
use Rattle.pdh_runner.specs.LineSteps.{BeginsWith}
use Rattle.pdh_runner.specs.Performing.{GoesOn}
use Rattle.pdh_runner.specs.PortFiles.{HasBits, AreFiles, AreRead, opened_for, input_name}
use Rattle.pdh_runner.specs.Lines.{IsLine}
use Rattle.pdh_recorded.specs.DemuxSteps.{AreLeafOutputs, CanReceive, IsDemuxPort}
use Rattle.pdh_runner.specs.Running.{ArePrepared}
use Rattle.pdh_answers.specs.declared.file.File.{File}
use Rattle.pdh_answers.specs.declared.file.File.TheVariants.{Output}
use Rattle.pdh_runner.specs.declared.port.Input.{Input}
use Rattle.pdh_runner.proofs.OneInput.{held_of, only_input}
use Rattle.pdh_recorded.proofs.LineComes.{demuxed_reaches}
use Rattle.pdh_runner.proofs.LineComes.{few_bits}
use Rattle.pdh_runner.proofs.Differing.{numbered, numbered_at, numbered_differ}
use Rattle.pdh_answers.proofs.FileNames.{same_output, output_is_not_line, output_is_not_bent}
use Rattle.pdh_runner.proofs.Differing.{one_more_differs}
use Rattle.pdh_runner.proofs.PortOpen.{open_for, long_has, told_read, left_read, holds_read, holds_written}
use Rattle.pdh_shape.specs.OwnNumbers.{most_frames}

pub begins_with_line : (chain : Chain) (source : Bits) → BeginsWith (demuxing chain source) (line_file source) (line_of (line_file source) chain) (demuxed chain)
begins_with_line chain source = record { some = lit< tt; first = refl; missing = refl; comes = λ files. refl; due = λ files on. on; reaches = demuxed_reaches chain }

-- ---- a line that isn't refused

-- its bytes, where its file is told
pub line_held : (chain : Chain) (line : Input) (b : ShelfState) → IsLine chain line b → (held : Option (List ℕ)) → b.told (name_of line.file) ≡ Known held → (bytes : List ℕ) × (held ≡ Some bytes) × (line.bits ≡ length (bits_of bytes)) × (line_of line.file chain held ≡ Ok bytes)
line_held chain line b is held known =
    let found = held_of is.bytes held (is.long.told held known) in
    let bytes = found.0 in
    let long : length bytes ≡ is.bytes = found.2 in
    let same : frames_of chain bytes ≡ is.bytes / frame_bytes_of chain = ap (λ n. n / frame_bytes_of chain) long in
    let test : nat_lt most_frames (frames_of chain bytes) ≡ false = let few = is.few in grind (arith, nat_tests) in
    let right : line_of line.file chain (Some bytes) ≡ Ok bytes = rw test refl in
    (bytes, found.1, omega (arith, is.bits_are, long, length-bits_of bytes), ap (line_of line.file chain) found.1 ∙ right)

-- all its bits
pub all_bits : (chain : Chain) (line : Input) (b : ShelfState) (reads : List Input) (writes : List File) (file : List ℕ) (held : Option (List ℕ)) → IsLine chain line b → slice_get reads 0 ≡ Some line → b.told (name_of line.file) ≡ Known held
    → (inputs_of (opened_for b reads writes)).told 0 ≡ Some (bits_of (unwrap_or held []))
all_bits chain line b reads writes file held is first known =
    let found = line_held chain line b is held known in
    told_read b reads writes 0 line found.0 first (known ∙ ap Known found.1)
    ∙ ap (λ n. Some (take n (bits_of found.0))) found.2 ∙ ap Some (take-length (bits_of found.0)) ∙ ap (λ (h : Option (List ℕ)). Some (bits_of (unwrap_or h []))) (sym found.1)

-- ---- the port

module _ (chain : Chain) (bits : Bits) (line : Input) (file_is : line.file ≡ line_file bits) (reads : List Input) (one : reads ≡ line ∷ []) where
  first : slice_get reads 0 ≡ Some line
  first = ap (λ (all : List Input). slice_get all 0) one

  the_line : (k : ℕ) (input : Input) → slice_get reads k ≡ Some input → input ≡ line
  the_line = only_input reads line one

  -- the line is read in the run, and due there
  pub demux_reads : (a : ShelfState) → GoesOn (demuxing chain bits) a → AreRead (demuxing chain bits) a reads
  demux_reads a goes_on = record {
    input = λ k input here. (0, lit< tt, ap input_name (the_line k input here) ∙ ap name_of file_is);
    in_run = λ k input here. refl;
    due = λ k input here. goes_on;
  }

  module _ (writes : List File) (outs : AreLeafOutputs chain writes) where
    output_names_are : map name_of writes ≡ map output_name (range_with_len 0 (leaves_of chain))
    output_names_are = ap (map name_of) outs ∙ map-map name_of Output (range_with_len 0 (leaves_of chain))

    pub count : length writes ≡ leaves_of chain
    count = ap length outs ∙ length-map-range_with_len Output 0 (leaves_of chain)

    -- no output has the name of a line
    not_line : (bits : Bits) (k : ℕ) → output_name k ≢ name_of (line_file bits)
    not_line Recorded k = output_is_not_line k
    not_line Disturbed k = output_is_not_bent k

    -- the files are there, and their names differ
    pub demux_files : (b : ShelfState) → IsLine chain line b → AreFiles b reads writes
    demux_files b is = record {
      has = λ k input here. subst (λ (input : Input). HasBits (input_name input) input.bits b) (sym (the_line k input here)) (long_has (name_of line.file) is.bytes line.bits b is.long (omega (arith, is.bits_are)));
      differ = subst (λ (reads : List Input). AllDiffer (map input_name reads ++ map name_of writes)) (sym one) (subst (λ all. AllDiffer (name_of line.file ∷ all)) (sym output_names_are)
          (one_more_differs (name_of line.file) (map output_name (range_with_len 0 (leaves_of chain)))
          (numbered_differ output_name (leaves_of chain) (λ x y lx ly e. same_output x y (omega (arith, few_leaves chain)) (omega (arith, few_leaves chain)) e))
          (λ k here. let at = numbered output_name 0 (leaves_of chain) k (name_of line.file) here in not_line bits (0 + k) (sym at.1 ∙ ap name_of file_is))));
      few = omega (arith, ap length one, count, few_leaves chain);
    }

    told_now : (a b : ShelfState) (files : Files) → Looks a b → AreTold (demuxing chain bits) a.told files → b.told (name_of line.file) ≡ Known (files (name_of line.file))
    told_now a b files looks told =
        ap (λ (t : List ℕ → Told). t (name_of line.file)) looks.told ∙ subst (λ file. a.told (name_of file) ≡ Known (files (name_of file))) (sym file_is) (told 0 (lit< tt))

    -- the port is open for `demux`
    pub demux_port : (a b : ShelfState) → Looks a b → b.counts ≡ a.counts → IsLine chain line b → IsDemuxPort chain bits line a (opened_for b reads writes)
    demux_port a b looks same is = record {
      open_for = open_for (demuxing chain bits) a b reads writes looks same goes_on count (λ k low. ap (λ all. slice_get all k) output_names_are ∙ numbered_at output_name 0 (leaves_of chain) k k low (omega arith));
      file_is = file_is;
      comes = comes;
      gives = λ files told. all_bits chain line b reads writes (name_of line.file) (files (name_of line.file)) is first (told_now a b files looks told);
    }
      where
        comes : OfInputs (demuxing chain bits) a (λ files. (demuxing chain bits).comes_to files ≡ demuxed chain (bytes_in files (name_of line.file)))
        comes files told =
            let found = line_held chain line b is (files (name_of line.file)) (told_now a b files looks told) in
            let judged : line_of (line_file bits) chain (files (name_of (line_file bits))) ≡ Ok found.0 = subst (λ file. line_of file chain (files (name_of file)) ≡ Ok found.0) file_is found.3 in
            ap (λ r. and_then r (demuxed chain)) judged ∙ ap (λ (h : Option (List ℕ)). demuxed chain (unwrap_or h [])) (sym found.1)

        goes_on : GoesOn (demuxing chain bits) a
        goes_on files told = ap reaches_outputs (comes files told) ∙ demuxed_reaches chain (bytes_in files (name_of line.file))

    -- its list 0 is the line, and each leaf has a list
    demux_lists : (b : ShelfState) → IsLine chain line b → CanReceive chain line.bits (opened_for b reads writes)
    demux_lists b is = record {
      fresh = refl;
      few = few_bits chain line b is;
      line = record { holds = holds_read b reads writes 0 1 (ap length one) (lit< tt); left = left_read b reads writes 0 line first };
      leaves = λ k low. holds_written b reads writes k (leaves_of chain) count low;
    }

    pub demux_prepared : (b : ShelfState) → IsLine chain line b → ArePrepared (demuxing chain bits) (CanReceive chain line.bits) (IsDemuxPort chain bits line) b reads writes
    demux_prepared b is = record {
      files = demux_files b is;
      port = demux_lists b is;
      given = λ begun looks same.
          let port = demux_port begun b looks same is in
          record { open_for = port.open_for; due = demux_reads begun port.open_for.goes_on; alone = tt };
      lists = λ begun looks same. demux_port begun b looks same is;
    }
