-- A line over a port: what was put of it.
use Rattle.std.proofs.Common.{◌≡◌, ℕ, zero, suc, ◌*◌, ◌<◌, ◌≤◌, Bool, false, List, [], ◌++◌, length, drop, Option, None, Some, ap, sym, subst, ◌∙◌, arith}
use Rattle.std.proofs.Math.Nat.{mul-le-mul_right}
use Rattle.std.proofs.lemmas.List.{get_or-take, length-take, length-append, take-append-drop}
use Rattle.pdh_bits.specs.Bits.{bytes_of}
use Rattle.pdh_edge.specs.Files.{ShelfState}
use Rattle.pdh_edge.specs.Ports.{Takes, IsPrefix, before}
use Rattle.pdh_line.proofs.SentFrames.{take-front}
use Rattle.pdh_line.specs.Sending.{Mode}
use Rattle.pdh_nesting.specs.Chains.{top_len, width}
use Rattle.pdh_nesting.specs.Sending.{chain_line}
use Rattle.pdh_clock.specs.Row.{Row}
use Rattle.pdh_clock.specs.Contents.{counts, frame_count}
use Rattle.pdh_chain.specs.Chains.{shapes_of, leaves_of}
use Rattle.pdh_chain.specs.Saying.{says_of}
use Rattle.pdh_chain.specs.Muxes.{bits_of, BeginWith, PutsFrames, PutsPrefix, frames_of_line}
use Rattle.pdh_chain.specs.declared.chain.Chain.{Chain}
use Rattle.pdh_blocks.specs.State.{PortState}
use Rattle.pdh_blocks.specs.Lists.{inputs_of, outputs_of}
use Rattle.pdh_making.specs.Mux.{leaf_bits, bits_needed, Job, making_line}
use Rattle.pdh_runner.specs.Operation.{AreTold, Files}
use Rattle.pdh_making.specs.MuxSteps.{IsMuxPort, entering}
use Rattle.pdh_runner.specs.PortFiles.{PutsAll, PutsFront}
use Rattle.pdh_making.proofs.MuxMade.{begins}
use Rattle.pdh_runner.proofs.PortRun.{prefix_join, put_is, put_begins}

-- a list that gave bits has them
inside : (rest : Option (List Bool)) (given bits : List Bool) (n i : ℕ) → Some bits ≡ before given rest → i < length given → length bits ≤ n → i < n
inside None given bits n i told h few = absurd (cc)
inside (Some rest) given bits n i told h few =
    let whole : bits ≡ given ++ rest = cc in
    omega (arith, ap length whole, length-append given rest, h, few)

-- So many frames of the line of a mode make the bytes of the output.
module _ (chain : Chain) (job : Job) (mode : Mode) (feac : Option ℕ) (rows : List Row) (most : ℕ) (a : ShelfState) (p q : PortState) (is : IsMuxPort chain job rows a p)
    (made_bytes : (files : Files) → AreTold (making_line chain job) a.told files → bytes_of (frames_of_line mode (shapes_of chain) (counts rows) (says_of feac) (leaf_bits files) most) ≡ (making_line chain job).bytes files 0) where
  -- so many frames of the line of these files
  abbrev line_of_files : Files → ℕ → List Bool
  line_of_files files frames = frames_of_line mode (shapes_of chain) (counts rows) (says_of feac) (leaf_bits files) frames

  -- the leaves' files begin with the bits that were given
  agrees : (files : Files) (given : ℕ → List Bool) → AreTold (making_line chain job) a.told files → Takes given (inputs_of p) (inputs_of q) → BeginWith (width (shapes_of chain)) given (leaf_bits files)
  agrees files given told takes k i known h =
      let low : k < leaves_of chain = known in
      let enters : Some (entering chain rows files k) ≡ before (given k) ((inputs_of q).told k) = sym (is.gives files told k low) ∙ takes.bits k in
      begins ((inputs_of q).told k) (given k) (entering chain rows files k) enters i h
      ∙ get_or-take (bits_needed chain rows k) (leaf_bits files k) i false (inside ((inputs_of q).told k) (given k) (entering chain rows files k) (bits_needed chain rows k) i enters h (omega (arith, length-take (bits_needed chain rows k) (leaf_bits files k))))

  -- fewer frames are a prefix of more
  fewer_frames : (files : Files) (n m : ℕ) → n ≤ m → IsPrefix (line_of_files files n) (line_of_files files m)
  fewer_frames files n m less =
      let line = chain_line mode (shapes_of chain) (counts rows) (bits_of (leaf_bits files)) (says_of feac) [] 0 in
      let short : n * top_len (shapes_of chain) ≤ m * top_len (shapes_of chain) = mul-le-mul_right (top_len (shapes_of chain)) less in
      (drop (n * top_len (shapes_of chain)) (line_of_files files m), sym (take-append-drop (n * top_len (shapes_of chain)) (line_of_files files m)) ∙ ap (λ l. l ++ drop (n * top_len (shapes_of chain)) (line_of_files files m)) (take-front line (n * top_len (shapes_of chain)) (m * top_len (shapes_of chain)) short))

  -- all frames were put
  pub frames_all : (frames : ℕ) → frames ≡ most → PutsFrames mode (shapes_of chain) (counts rows) (says_of feac) frames (inputs_of p) (inputs_of q) (outputs_of p) (outputs_of q) → PutsAll (making_line chain job) a (outputs_of q)
  frames_all frames made puts zero list low here files told =
      ap bytes_of (put_is (making_line chain job) a p is.open_for (outputs_of q) 0 (line_of_files files frames) list here (puts.puts (leaf_bits files) (agrees files puts.given told puts.takes) 0) ∙ ap (line_of_files files) made) ∙ made_bytes files told
  frames_all frames made puts (suc k) list low here files told = absurd (omega arith)

  -- fewer frames were put
  pub frames_front : (frames : ℕ) → frames ≤ most → PutsFrames mode (shapes_of chain) (counts rows) (says_of feac) frames (inputs_of p) (inputs_of q) (outputs_of p) (outputs_of q) → PutsFront (making_line chain job) a (outputs_of q)
  frames_front frames made puts zero list low here files told = (
    line_of_files files most,
    subst (λ l. IsPrefix l (line_of_files files most)) (sym (put_is (making_line chain job) a p is.open_for (outputs_of q) 0 (line_of_files files frames) list here (puts.puts (leaf_bits files) (agrees files puts.given told puts.takes) 0))) (fewer_frames files frames most made),
    made_bytes files told,
  )
  frames_front frames made puts (suc k) list low here files told = absurd (omega arith)

  -- a prefix of frames was put
  pub prefix_front : (frames : ℕ) (puts : PutsPrefix mode (shapes_of chain) (counts rows) (says_of feac) (frame_count rows) frames (inputs_of p) (inputs_of q) (outputs_of p) (outputs_of q)) → puts.made ≤ most → PutsFront (making_line chain job) a (outputs_of q)
  prefix_front frames puts made zero list low here files told = (
    line_of_files files most,
    prefix_join list (line_of_files files puts.made) (line_of_files files most) (put_begins (making_line chain job) a p is.open_for (outputs_of q) 0 (line_of_files files puts.made) list here (puts.puts (leaf_bits files) (agrees files puts.given told puts.takes) 0)) (fewer_frames files puts.made most made),
    made_bytes files told,
  )
  prefix_front frames puts made (suc k) list low here files told = absurd (omega arith)
