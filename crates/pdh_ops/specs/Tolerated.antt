-- What `mux` promises of tributaries within the tolerance.
use Rattle.std.specs.Prelude.{◌≡◌, ◌≢◌, ℕ, ◌+◌, ◌*◌, ◌<◌, ◌≤◌, List, [], ⊤, Option, Some, length, take}
use Rattle.pdh_bits.specs.Bits.{bits_of}
use Rattle.pdh_edge.specs.Files.{ShelfState}
use Rattle.pdh_edge.specs.Files.Told.{Known}
use Rattle.pdh_nesting.specs.Chains.{top_len}
use Rattle.pdh_nesting.specs.Sending.{entered_below, AllTolerated}
use Rattle.pdh_nesting.specs.Receiving.{far}
use Rattle.pdh_clock.specs.Contents.{counts, frame_count}
use Rattle.pdh_chain.specs.Chains.{shapes_of, leaves_of, delay_of}
use Rattle.pdh_chain.specs.declared.chain.Chain.{Chain}
use Rattle.pdh_answers.specs.Names.{line_name}
use Rattle.pdh_making.specs.Schedules.{rows_in}
use Rattle.pdh_runner.specs.Operation.{AreTold, Files}
use Rattle.pdh_words.specs.declared.commands.Command.{Command}
use Rattle.pdh_words.specs.declared.commands.Command.TheVariants.{Mux}
use Rattle.pdh_making.specs.Mux.{muxing}

-- each tributary of each node is within the tolerance over all frames of its node
abbrev pub AreWithin : Chain → Files → Type 0
AreWithin chain files = AllTolerated (shapes_of chain) (counts (rows_in chain files)) (frame_count (rows_in chain files)) []

-- then no store overflows or underflows
abbrev pub HasNoEvent : Option Command → ShelfState → ℕ → Type 0
HasNoEvent (Some (Mux chain feac)) old status = (files : Files) → AreTold (muxing chain feac) old.told files → AreWithin chain files → status ≢ 8
HasNoEvent _ old status = ⊤

-- and a receiver that has the first n frames of the line has got of each leaf all bits that these frames enter but as many
-- as the delay of the chain at most
abbrev pub IsDelayed : Option Command → ShelfState → ShelfState → ℕ → Type 0
IsDelayed (Some (Mux chain feac)) old new status =
    (files : Files) (line : List ℕ) (leaf n : ℕ) → AreTold (muxing chain feac) old.told files → AreWithin chain files → new.told line_name ≡ Known (Some line) → status ≡ 0
    → leaf < leaves_of chain → top_len (shapes_of chain) * n ≤ length (bits_of line)
    → entered_below (shapes_of chain) (counts (rows_in chain files)) [] (n * top_len (shapes_of chain)) leaf
    ≤ length (far (shapes_of chain) (take (n * top_len (shapes_of chain)) (bits_of line)) leaf) + delay_of chain
IsDelayed _ old new status = ⊤
