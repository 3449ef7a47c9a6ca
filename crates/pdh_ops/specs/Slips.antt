-- What `muxslip` promises.
use Rattle.std.specs.Prelude.{◌≡◌, ℕ, ◌*◌, ◌<◌, ◌≤◌, Bool, List, [], ⊤, Option, Some, None, length, take}
use Rattle.pdh_bits.specs.Bits.{bits_of}
use Rattle.pdh_edge.specs.Files.{ShelfState}
use Rattle.pdh_edge.specs.Files.Told.{Known}
use Rattle.pdh_edge.specs.Ports.{IsPrefix}
use Rattle.pdh_nesting.specs.Chains.{top_len}
use Rattle.pdh_nesting.specs.Receiving.{far}
use Rattle.pdh_nesting.specs.Slips.{slips_of, slipped, NoneAbove}
use Rattle.pdh_clock.specs.Contents.{counts}
use Rattle.pdh_chain.specs.Chains.{shapes_of, leaves_of}
use Rattle.pdh_chain.specs.declared.chain.Chain.{Chain}
use Rattle.pdh_answers.specs.Names.{line_name}
use Rattle.pdh_making.specs.Schedules.{rows_in, frames_in}
use Rattle.pdh_making.specs.Mux.{leaf_bits, line_len, line_bytes, slips_told, muxing_slips}
use Rattle.pdh_ops.specs.Tolerated.{AreWithin}
use Rattle.pdh_runner.specs.Operation.{AreTold, Files}
use Rattle.pdh_words.specs.declared.commands.Command.{Command}
use Rattle.pdh_words.specs.declared.commands.Command.TheVariants.{MuxSlip}

-- a leaf's bits with the edits of its own slips over the whole run
abbrev pub slipped_leaf : Chain → Files → ℕ → List Bool
slipped_leaf chain files leaf = slipped (shapes_of chain) (counts (rows_in chain files)) (line_len chain (rows_in chain files)) leaf (leaf_bits files leaf)

-- no node on the way to the leaf slips in the run
abbrev pub StandsClear : Chain → Files → ℕ → Type 0
StandsClear chain files leaf = NoneAbove (shapes_of chain) (slips_of (shapes_of chain) (counts (rows_in chain files)) (frames_in (rows_in chain files))) leaf

-- After status 0 of `muxslip`, of whose line a receiver has the first n frames: what it received of each leaf, where no node on the
-- way to the leaf slips, is a prefix of the bits of the leaf's file with the edits of the leaf's slips.
abbrev pub AreSlipped : Option Command → ShelfState → ShelfState → ℕ → Type 0
AreSlipped (Some (MuxSlip chain)) old new status =
    (files : Files) (line : List ℕ) (leaf n : ℕ) → AreTold (muxing_slips chain) old.told files → new.told line_name ≡ Known (Some line) → status ≡ 0
    → leaf < leaves_of chain → top_len (shapes_of chain) * n ≤ length (bits_of line) → StandsClear chain files leaf
    → IsPrefix (far (shapes_of chain) (take (n * top_len (shapes_of chain)) (bits_of line)) leaf) (slipped_leaf chain files leaf)
AreSlipped _ old new status = ⊤

-- no slip was told, and the line is that of `mux`
pub record IsPlainLine (chain : Chain) (files : Files) (line : List ℕ) : Type 0 where
  pub none : slips_told chain files ≡ []
  pub same : line ≡ line_bytes chain None files (rows_in chain files)

-- that is so where each tributary of each node is within the tolerance
abbrev pub HasNoSlip : Option Command → ShelfState → ShelfState → ℕ → Type 0
HasNoSlip (Some (MuxSlip chain)) old new status =
    (files : Files) (line : List ℕ) → AreTold (muxing_slips chain) old.told files → AreWithin chain files → new.told line_name ≡ Known (Some line) → status ≡ 0 → IsPlainLine chain files line
HasNoSlip _ old new status = ⊤
