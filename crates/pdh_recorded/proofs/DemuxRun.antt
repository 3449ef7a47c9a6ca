-- `demux` over a port: what was put, and how the command ends.
use Rattle.std.proofs.Common.{◌≡◌, ◌≢◌, ℕ, ◌*◌, ◌<◌, nat_lt, true, Bool, List, length, Ok, Err, refl, ap, sym, subst, ◌∙◌}
use Rattle.std.proofs.lemmas.Bool.{lt-ltb}
use Rattle.pdh_bits.specs.Bits.{bits_of, bytes_of}
use Rattle.pdh_bits.proofs.BitsLemmas.{length-bits_of}
use Rattle.pdh_edge.specs.Files.{ShelfState}
use Rattle.pdh_edge.specs.Ports.{Takes, IsPrefix}
use Rattle.pdh_nesting.specs.Chains.{width}
use Rattle.pdh_nesting.specs.Receiving.{far}
use Rattle.pdh_watch.specs.declared.event.Event.{Event}
use Rattle.pdh_chain.specs.Chains.{shapes_of, leaves_of}
use Rattle.pdh_chain.specs.Muxing.{as_line}
use Rattle.pdh_chain.specs.Demuxes.{received_of, top_delivered, Demuxes, DemuxesFewer, DemuxesPart}
use Rattle.pdh_chain.specs.declared.chain.Chain.{Chain}
use Rattle.pdh_chain.proofs.ChainLaws.{are_frames}
use Rattle.pdh_chain.proofs.FarGrows.{far_grows}
use Rattle.pdh_blocks.specs.State.{PortState}
use Rattle.pdh_blocks.specs.Lists.{inputs_of, outputs_of}
use Rattle.pdh_blocks.specs.Held.{IsPort}
use Rattle.pdh_blocks.specs.laws.PortLaws.{left_is}
use Rattle.pdh_answers.specs.declared.file.Bits.{Bits}
use Rattle.pdh_answers.specs.Names.{name_of}
use Rattle.pdh_recorded.specs.Demux.{frames_received, output_of, demuxing, demux_says}
use Rattle.pdh_runner.specs.Operation.{AreTold, Files, bytes_in}
use Rattle.pdh_runner.specs.Performing.{Comes}
use Rattle.pdh_runner.specs.Lines.{HasLine}
use Rattle.pdh_recorded.specs.DemuxSteps.{IsDemuxPort}
use Rattle.pdh_runner.specs.PortFiles.{PutsAll, PutsFront}
use Rattle.pdh_runner.specs.declared.port.Input.{Input}
use Rattle.pdh_answers.specs.declared.answer.Stop.TheVariants.{NoAlignment}
use Rattle.pdh_recorded.proofs.LineComes.{demuxed_none, demuxed_some}
use Rattle.pdh_runner.proofs.PortRun.{given_begins, all_given, prefix_join, put_is, put_begins}

module _ (chain : Chain) (bits : Bits) (line : Input) (a : ShelfState) (p q : PortState) (is : IsDemuxPort chain bits line a p) where
  -- the bits of the line's file
  abbrev file_bits : Files → List Bool
  file_bits files = bits_of (bytes_in files (name_of line.file))

  -- what leaf k's output holds
  output_is : (files : Files) (k : ℕ) → bytes_of (far (shapes_of chain) (bits_of (bytes_in files (name_of line.file))) k) ≡ (demuxing chain bits).bytes files k
  unfolding output_of
  output_is files k = ap (λ file. bytes_of (far (shapes_of chain) (bits_of (bytes_in files (name_of file))) k)) is.file_is

  -- what leaf k receives
  received_is : (given : List Bool) (k : ℕ) → k < leaves_of chain → received_of (shapes_of chain) given k ≡ far (shapes_of chain) given k
  received_is given k low = let known : nat_lt k (width (shapes_of chain)) ≡ true = lt-ltb k (leaves_of chain) low in rw known refl

  -- how many they are
  pub long : IsPort p → HasLine line.bits (inputs_of p) → (files : Files) → AreTold (demuxing chain bits) a.told files → length (file_bits files) ≡ line.bits
  long port has files told = sym (left_is p 0 (file_bits files) port (is.gives files told)) ∙ has.left

  -- the bits that were given are the first ones of the file
  given_first : (files : Files) (given : List Bool) → AreTold (demuxing chain bits) a.told files → Takes (as_line given) (inputs_of p) (inputs_of q) → IsPrefix given (file_bits files)
  given_first files given told takes = given_begins ((inputs_of q).told 0) given (file_bits files) (sym (is.gives files told) ∙ takes.bits 0)

  -- all bits of the line were given
  given_all : (files : Files) (given : List Bool) → AreTold (demuxing chain bits) a.told files → Takes (as_line given) (inputs_of p) (inputs_of q) → length given ≡ length (file_bits files) → given ≡ file_bits files
  given_all files given told takes long = all_given ((inputs_of q).told 0) given (file_bits files) (sym (is.gives files told) ∙ takes.bits 0) long

  -- what each leaf receives of the whole line was put
  pub received_all : (sees : List Event → Type 0) (count frames : ℕ) → ((files : Files) → AreTold (demuxing chain bits) a.told files → length (bits_of (bytes_in files (name_of line.file))) ≡ count)
      → Demuxes (shapes_of chain) sees count frames (inputs_of p) (inputs_of q) (outputs_of p) (outputs_of q) → PutsAll (demuxing chain bits) a (outputs_of q)
  received_all sees count frames long demuxes k list low here files told =
      let same = given_all files demuxes.given told demuxes.line.takes (demuxes.count ∙ sym (long files told)) in
      ap bytes_of (put_is (demuxing chain bits) a p is.open_for (outputs_of q) k (received_of (shapes_of chain) demuxes.given k) list here (demuxes.line.puts k) ∙ received_is demuxes.given k low ∙ ap (λ l. far (shapes_of chain) l k) same)
      ∙ output_is files k

  -- what the command comes to by the number of the frames that were delivered
  count_is : (sees : List Event → Type 0) (count frames : ℕ) (files : Files) → AreTold (demuxing chain bits) a.told files → length (file_bits files) ≡ count
      → Demuxes (shapes_of chain) sees count frames (inputs_of p) (inputs_of q) (outputs_of p) (outputs_of q) → frames ≡ frames_received chain (bytes_in files (name_of line.file))
  count_is sees count frames files told long demuxes = demuxes.frames_are ∙ ap (top_delivered (shapes_of chain)) (given_all files demuxes.given told demuxes.line.takes (demuxes.count ∙ sym long))

  pub comes_some : (sees : List Event → Type 0) (frames : ℕ) → IsPort p → HasLine line.bits (inputs_of p) → Demuxes (shapes_of chain) sees line.bits frames (inputs_of p) (inputs_of q) (outputs_of p) (outputs_of q)
      → frames ≢ 0 → Comes (demuxing chain bits) a (Ok (demux_says chain frames))
  comes_some sees frames port has demuxes some files told =
      let same : frames ≡ frames_received chain (bytes_in files (name_of line.file)) = count_is sees line.bits frames files told (long port has files told) demuxes in
      ap (λ n. Ok (demux_says chain n)) same ∙ sym (is.comes files told ∙ demuxed_some chain (bytes_in files (name_of line.file)) (subst (λ n. n ≢ 0) same some))

  pub comes_none : (sees : List Event → Type 0) (frames : ℕ) → IsPort p → HasLine line.bits (inputs_of p) → Demuxes (shapes_of chain) sees line.bits frames (inputs_of p) (inputs_of q) (outputs_of p) (outputs_of q)
      → frames ≡ 0 → Comes (demuxing chain bits) a (Err (NoAlignment line.bits))
  comes_none sees frames port has demuxes none files told =
      let same : frames ≡ frames_received chain (bytes_in files (name_of line.file)) = count_is sees line.bits frames files told (long port has files told) demuxes in
      let bits_are : line.bits ≡ 8 * length (bytes_in files (name_of line.file)) = sym (long port has files told) ∙ length-bits_of (bytes_in files (name_of line.file)) in
      ap (λ n. Err (NoAlignment n)) bits_are ∙ sym (is.comes files told ∙ demuxed_none chain (bytes_in files (name_of line.file)) (sym same ∙ none))

  -- what a leaf receives of first bits is a prefix of what it receives of all
  first_received : (files : Files) (given : List Bool) (k : ℕ) → IsPrefix given (file_bits files) → IsPrefix (far (shapes_of chain) given k) (far (shapes_of chain) (file_bits files) k)
  first_received files given k front =
      subst (λ l. IsPrefix (far (shapes_of chain) given k) (far (shapes_of chain) l k)) (sym front.1) (far_grows (shapes_of chain) given front.0 k (are_frames chain))

  -- what it receives of first bits was put
  pub received_front : (sees : List Event → Type 0) (count : ℕ) → DemuxesFewer (shapes_of chain) sees count (inputs_of p) (inputs_of q) (outputs_of p) (outputs_of q) → PutsFront (demuxing chain bits) a (outputs_of q)
  received_front sees count demuxes k list low here files told =
      let put = put_is (demuxing chain bits) a p is.open_for (outputs_of q) k (received_of (shapes_of chain) demuxes.given k) list here (demuxes.line.puts k) ∙ received_is demuxes.given k low in (
        far (shapes_of chain) (file_bits files) k,
        subst (λ l. IsPrefix l (far (shapes_of chain) (file_bits files) k)) (sym put) (first_received files demuxes.given k (given_first files demuxes.given told demuxes.line.takes)),
        output_is files k,
      )

  -- a prefix of that was put
  pub received_part : (sees : List Event → Type 0) (count : ℕ) → DemuxesPart (shapes_of chain) sees count (inputs_of p) (inputs_of q) (outputs_of p) (outputs_of q) → PutsFront (demuxing chain bits) a (outputs_of q)
  received_part sees count demuxes k list low here files told =
      let put = subst (IsPrefix list) (received_is demuxes.given k low) (put_begins (demuxing chain bits) a p is.open_for (outputs_of q) k (received_of (shapes_of chain) demuxes.given k) list here (demuxes.puts k)) in (
        far (shapes_of chain) (file_bits files) k,
        prefix_join list (far (shapes_of chain) demuxes.given k) (far (shapes_of chain) (file_bits files) k) put (first_received files demuxes.given k (given_first files demuxes.given told demuxes.takes)),
        output_is files k,
      )
