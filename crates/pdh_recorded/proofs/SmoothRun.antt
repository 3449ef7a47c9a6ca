-- `smooth` over a port: what was put, and how the command ends.
use Rattle.std.proofs.Common.{◌≡◌, ◌≢◌, ℕ, ◌*◌, ◌^◌, ◌<◌, Bool, List, [], length, Ok, Err, refl, ap, sym, subst, ◌∙◌}
use Rattle.std.proofs.lemmas.List.{append-nil}
use Rattle.pdh_bits.specs.Bits.{bits_of, bytes_of}
use Rattle.pdh_bits.proofs.BitsLemmas.{length-bits_of}
use Rattle.pdh_edge.specs.Files.{ShelfState}
use Rattle.pdh_edge.specs.Ports.{Takes, IsPrefix}
use Rattle.pdh_shape.specs.Frame.{FrameShape, IsFrame}
use Rattle.pdh_nesting.specs.Chains.{AreFrames}
use Rattle.pdh_chain.specs.Chains.{shapes_of, levels_of}
use Rattle.pdh_chain.specs.Demuxes.{top_delivered}
use Rattle.pdh_chain.specs.Muxing.{as_line}
use Rattle.pdh_chain.specs.declared.chain.Chain.{Chain}
use Rattle.pdh_chain.proofs.ChainLaws.{are_frames}
use Rattle.pdh_smoothing.specs.Smoothing.{put_to, Smooths, SmoothsFewer, SmoothsPart}
use Rattle.pdh_smoothing.proofs.Single.{single}
use Rattle.pdh_smoothing.proofs.PutLaws.{put_bytes, put_grows}
use Rattle.pdh_blocks.specs.State.{PortState}
use Rattle.pdh_blocks.specs.Lists.{inputs_of, outputs_of}
use Rattle.pdh_answers.specs.Names.{line_name}
use Rattle.pdh_answers.specs.declared.answer.Stop.TheVariants.{NoAlignment}
use Rattle.pdh_runner.specs.Operation.{AreTold, Files, bytes_in}
use Rattle.pdh_runner.specs.Performing.{Comes}
use Rattle.pdh_runner.specs.PortFiles.{PutsAll, PutsFront, IsFrontOf}
use Rattle.pdh_runner.specs.declared.port.Input.{Input}
use Rattle.pdh_runner.proofs.LineRun.{given_all}
use Rattle.pdh_runner.proofs.PortRun.{given_begins, prefix_join, put_is, put_begins}
use Rattle.pdh_recorded.specs.Demux.{frames_received}
use Rattle.pdh_recorded.specs.Smooth.{output_in, smooth_output, smooth_says, smoothing}
use Rattle.pdh_recorded.specs.SmoothSteps.{IsSmoothPort}
use Rattle.pdh_recorded.proofs.SmoothFiles.{smoothed_none, smoothed_some}

module _ (chain : Chain) (one : length (levels_of chain) ≡ 1) where
  abbrev shape : FrameShape
  shape = (single chain one).shape

  shape_is : IsFrame shape
  shape_is = (subst AreFrames (single chain one).only (are_frames chain)).0

  -- all that a list gets makes what its output holds
  whole_bytes : (bits : ℕ) (given : List Bool) (k : ℕ) → bits < 2 ^ 63 → length given ≡ bits → bytes_of (put_to (shapes_of chain) bits given k) ≡ output_in (shapes_of chain) given k
  whole_bytes bits given k few count =
      ap (λ shapes. bytes_of (put_to shapes bits given k)) (single chain one).only ∙ put_bytes shape bits given k shape_is (single chain one).low_few few count ∙ ap (λ shapes. output_in shapes given k) (sym (single chain one).only)

  -- what it gets of the first bits is the first of that
  first_bits : (bits : ℕ) (given all : List Bool) (k : ℕ) → length all ≡ bits → IsPrefix given all → IsPrefix (put_to (shapes_of chain) bits given k) (put_to (shapes_of chain) bits all k)
  first_bits bits given all k count begins = subst (λ shapes. IsPrefix (put_to shapes bits given k) (put_to shapes bits all k)) (sym (single chain one).only) (put_grows shape bits given all k shape_is count begins)

module _ (chain : Chain) (one : length (levels_of chain) ≡ 1) (line : Input) (few : line.bits < 2 ^ 63) (a : ShelfState) (p q : PortState) (is : IsSmoothPort chain line a p) where
  abbrev file_bits : Files → List Bool
  file_bits files = bits_of (bytes_in files line_name)

  output_is : (files : Files) (k : ℕ) → output_in (shapes_of chain) (bits_of (bytes_in files line_name)) k ≡ (smoothing chain).bytes files k
  unfolding smooth_output
  output_is files k = refl

  -- what makes an output whole
  whole_is : (files : Files) (k : ℕ) → AreTold (smoothing chain) a.told files → bytes_of (put_to (shapes_of chain) line.bits (file_bits files) k) ≡ (smoothing chain).bytes files k
  whole_is files k told = whole_bytes chain one line.bits (file_bits files) k few (is.long files told) ∙ output_is files k

  -- what a list gets of the line was put
  pub smooth_all : (frames : ℕ) → Smooths (shapes_of chain) line.bits frames (inputs_of p) (inputs_of q) (outputs_of p) (outputs_of q) → PutsAll (smoothing chain) a (outputs_of q)
  smooth_all frames smooths k list low here files told =
      ap bytes_of (put_is (smoothing chain) a p is.open_for (outputs_of q) k (put_to (shapes_of chain) line.bits smooths.given k) list here (smooths.line.puts k low) ∙ ap (λ l. put_to (shapes_of chain) line.bits l k) (given_all is q smooths.given smooths.count smooths.line.takes files told))
      ∙ whole_is files k told

  -- or a prefix of it
  front_of : (given : List Bool) (k : ℕ) (list : List Bool) (files : Files) → AreTold (smoothing chain) a.told files → Takes (as_line given) (inputs_of p) (inputs_of q)
      → IsPrefix list (put_to (shapes_of chain) line.bits given k) → IsFrontOf list ((smoothing chain).bytes files k)
  front_of given k list files told takes begins =
      let first : IsPrefix given (file_bits files) = given_begins ((inputs_of q).told 0) given (file_bits files) (sym (is.gives files told) ∙ takes.bits 0) in (
        put_to (shapes_of chain) line.bits (file_bits files) k,
        prefix_join list (put_to (shapes_of chain) line.bits given k) (put_to (shapes_of chain) line.bits (file_bits files) k) begins (first_bits chain one line.bits given (file_bits files) k (is.long files told) first),
        whole_is files k told,
      )

  pub smooth_fewer : SmoothsFewer (shapes_of chain) line.bits (inputs_of p) (inputs_of q) (outputs_of p) (outputs_of q) → PutsFront (smoothing chain) a (outputs_of q)
  smooth_fewer smooths k list low here files told =
      let same : list ≡ put_to (shapes_of chain) line.bits smooths.given k = put_is (smoothing chain) a p is.open_for (outputs_of q) k (put_to (shapes_of chain) line.bits smooths.given k) list here (smooths.line.puts k low) in
      front_of smooths.given k list files told smooths.line.takes ([], sym same ∙ sym (append-nil list))

  pub smooth_part : SmoothsPart (shapes_of chain) line.bits (inputs_of p) (inputs_of q) (outputs_of p) (outputs_of q) → PutsFront (smoothing chain) a (outputs_of q)
  smooth_part smooths k list low here files told =
      front_of smooths.given k list files told smooths.takes (put_begins (smoothing chain) a p is.open_for (outputs_of q) k (put_to (shapes_of chain) line.bits smooths.given k) list here (smooths.puts k low))

  -- ---- what the command comes to

  count_is : (frames : ℕ) (files : Files) → AreTold (smoothing chain) a.told files → Smooths (shapes_of chain) line.bits frames (inputs_of p) (inputs_of q) (outputs_of p) (outputs_of q) → frames ≡ frames_received chain (bytes_in files line_name)
  count_is frames files told smooths = smooths.frames_are ∙ ap (top_delivered (shapes_of chain)) (given_all is q smooths.given smooths.count smooths.line.takes files told)

  pub smooth_some : (frames : ℕ) → Smooths (shapes_of chain) line.bits frames (inputs_of p) (inputs_of q) (outputs_of p) (outputs_of q) → frames ≢ 0 → Comes (smoothing chain) a (Ok (smooth_says chain frames))
  smooth_some frames smooths some files told =
      let same = count_is frames files told smooths in
      ap (λ n. Ok (smooth_says chain n)) same ∙ sym (is.comes files told ∙ smoothed_some chain (bytes_in files line_name) (subst (λ n. n ≢ 0) same some))

  pub smooth_none : (frames : ℕ) → Smooths (shapes_of chain) line.bits frames (inputs_of p) (inputs_of q) (outputs_of p) (outputs_of q) → frames ≡ 0 → Comes (smoothing chain) a (Err (NoAlignment line.bits))
  smooth_none frames smooths none files told =
      let bits_are : line.bits ≡ 8 * length (bytes_in files line_name) = sym (is.long files told) ∙ length-bits_of (bytes_in files line_name) in
      ap (λ n. Err (NoAlignment n)) bits_are ∙ sym (is.comes files told ∙ smoothed_none chain (bytes_in files line_name) (sym (count_is frames files told smooths) ∙ none))
