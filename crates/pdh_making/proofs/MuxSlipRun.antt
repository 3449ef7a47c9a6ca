-- `muxslip` over a port: what was put, what was told, and how the command ends.
use Rattle.std.proofs.Common.{◌≡◌, ◌≢◌, ℕ, ◌^◌, ◌<◌, List, [], ◌++◌, length, None, Some, Ok, ap, sym, ◌∙◌, arith}
use Rattle.std.specs.Result.{result_unwrap_or}
use Rattle.pdh_bits.specs.Bits.{bytes_of}
use Rattle.pdh_edge.specs.Files.{ShelfState}
use Rattle.pdh_line.specs.Sending.Mode.{Slipping}
use Rattle.pdh_clock.specs.Row.{Row}
use Rattle.pdh_clock.specs.Contents.{counts, frame_count}
use Rattle.pdh_chain.specs.Chains.{shapes_of}
use Rattle.pdh_chain.specs.Saying.{says_of}
use Rattle.pdh_chain.specs.Muxes.{PutsFewer, PutsPrefix, Muxes, frames_of_line}
use Rattle.pdh_chain.specs.Slipping.{told_slips}
use Rattle.pdh_chain.specs.declared.chain.Chain.{Chain}
use Rattle.pdh_slips.specs.declared.slip.Slip.{Slip}
use Rattle.pdh_blocks.specs.State.{PortState}
use Rattle.pdh_blocks.specs.Lists.{inputs_of, outputs_of}
use Rattle.pdh_answers.specs.Answer.{Answer}
use Rattle.pdh_answers.specs.SlipLines.{LogState, TellsLines, BreaksLines}
use Rattle.pdh_making.specs.Schedules.{rows_in, frames_in}
use Rattle.pdh_making.specs.Mux.{leaf_bits, slips_in, slips_told, slips_where, slipping_bytes, muxing_slips, muxslip_says}
use Rattle.pdh_making.specs.Mux.Job.{WithSlips}
use Rattle.pdh_making.specs.MuxSteps.{IsMuxPort}
use Rattle.pdh_runner.specs.Operation.{AreTold, Files}
use Rattle.pdh_runner.specs.Performing.{Comes}
use Rattle.pdh_runner.specs.Hearing.{BeginWith, HearsAll, HearsFront, BreaksAt}
use Rattle.pdh_runner.specs.PortFiles.{PutsAll, PutsFront}
use Rattle.pdh_making.proofs.LinePut.{frames_all, frames_front, prefix_front as prefix_put}

-- it has slips to tell
pub tells_some : (chain : Chain) → (muxing_slips chain).tells ≢ None
tells_some chain none = (let wrong : Some (slips_told chain) ≡ None = none in cc)

module _ (chain : Chain) (rows : List Row) (a : ShelfState) (p q : PortState) (is : IsMuxPort chain WithSlips rows a p) where
  -- the rows are those of the schedule's text
  rows_same : (files : Files) → AreTold (muxing_slips chain) a.told files → rows ≡ rows_in chain files
  rows_same files told = sym (ap (λ r. result_unwrap_or r []) (is.rows_are files told))

  -- all frames make the bytes of the output
  made_bytes : (files : Files) → AreTold (muxing_slips chain) a.told files → bytes_of (frames_of_line Slipping (shapes_of chain) (counts rows) (says_of None) (leaf_bits files) (frames_in rows)) ≡ (muxing_slips chain).bytes files 0
  unfolding slipping_bytes
  made_bytes files told =
      ap (λ (rows : List Row). bytes_of (frames_of_line Slipping (shapes_of chain) (counts rows) (says_of None) (leaf_bits files) (frames_in rows))) (rows_same files told)

  -- ---- what was put

  -- all frames
  pub slipping_all : (frames : ℕ) → frames ≡ frames_in rows → Muxes Slipping (shapes_of chain) (counts rows) (says_of None) (frame_count rows) frames (inputs_of p) (inputs_of q) (outputs_of p) (outputs_of q) → PutsAll (muxing_slips chain) a (outputs_of q)
  slipping_all frames all muxes = frames_all chain WithSlips Slipping None rows (frames_in rows) a p q is made_bytes frames all muxes.line

  -- fewer
  pub slipping_fewer : (frames : ℕ) → frames ≡ frames_in rows → PutsFewer Slipping (shapes_of chain) (counts rows) (says_of None) (frame_count rows) frames (inputs_of p) (inputs_of q) (outputs_of p) (outputs_of q) → PutsFront (muxing_slips chain) a (outputs_of q)
  slipping_fewer frames all puts = frames_front chain WithSlips Slipping None rows (frames_in rows) a p q is made_bytes puts.whole (omega (arith, all, puts.fewer)) puts.line

  -- a prefix of some
  pub slipping_prefix : (frames : ℕ) → frames ≡ frames_in rows → PutsPrefix Slipping (shapes_of chain) (counts rows) (says_of None) (frame_count rows) frames (inputs_of p) (inputs_of q) (outputs_of p) (outputs_of q) → PutsFront (muxing_slips chain) a (outputs_of q)
  slipping_prefix frames all puts = prefix_put chain WithSlips Slipping None rows (frames_in rows) a p q is made_bytes frames puts (omega (arith, all, puts.upto))

  -- ---- what was told

  -- the slips in so many frames are all of them
  pub slips_all : (frames : ℕ) → frames ≡ frames_in rows → told_slips (shapes_of chain) (counts rows) frames ≡ slips_in chain rows
  unfolding slips_in
  slips_all frames all = ap (told_slips (shapes_of chain) (counts rows)) all

  -- the slips of the files are those of the rows, where nothing refuses before the run
  slips_are : (files : Files) → AreTold (muxing_slips chain) a.told files → slips_in chain rows ≡ slips_told chain files
  slips_are files told =
      ap (slips_in chain) (rows_same files told) ∙ sym (ap (λ (answer : Answer). slips_where answer (slips_in chain (rows_in chain files))) (is.comes files told))

  module _ (old new : LogState) where
    -- all slips
    pub heard_all : TellsLines old (slips_in chain rows) new → HearsAll TellsLines BreaksLines (slips_told chain) (muxing_slips chain) a old new
    heard_all told = record { told = slips_in chain rows; logs_them = told; all = slips_are }

    -- the first of them
    front_are : (told rest : List Slip) → told ++ rest ≡ slips_in chain rows → (files : Files) → AreTold (muxing_slips chain) a.told files → BeginWith told (slips_told chain files)
    front_are told rest front files known = (rest, front ∙ slips_are files known)

    pub heard_front : (told rest : List Slip) → told ++ rest ≡ slips_in chain rows → TellsLines old told new → HearsFront TellsLines BreaksLines (slips_told chain) (muxing_slips chain) a old new
    heard_front told rest front logs = record { told = told; logs_them = logs; front = front_are told rest front }

    -- up to the one that it failed at
    pub breaks_at : (told rest : List Slip) → told ++ rest ≡ slips_in chain rows → BreaksLines old told new → BreaksAt TellsLines BreaksLines (slips_told chain) (muxing_slips chain) a old new
    breaks_at told rest front breaks = record { told = told; breaks = breaks; front = front_are told rest front }

    -- ---- what it comes to

    -- it says the number of frames, and that of the slips that were told
    pub slips_come : (frames : ℕ) → frames ≡ frames_in rows → length (slips_in chain rows) < 2 ^ 64 → old.told ≡ 0 → TellsLines old (slips_in chain rows) new → Comes (muxing_slips chain) a (Ok (muxslip_says chain frames new.told))
    slips_come frames all few fresh told files known =
        let counted : new.told ≡ length (slips_in chain rows) = let counts = told.counts (omega (arith, few, fresh)) in omega (arith, counts, fresh) in
        ap (λ n. Ok (muxslip_says chain frames n)) counted ∙ ap (λ n. Ok (muxslip_says chain n (length (slips_in chain rows)))) all ∙ sym (is.comes files known)
