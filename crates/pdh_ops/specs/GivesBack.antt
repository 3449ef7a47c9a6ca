-- What `mux` wrote, `demux` gives back in order.
use Rattle.std.specs.Prelude.{◌≡◌, ℕ, ◌*◌, ◌<◌, ◌≤◌, List, ⊤, Option, Some, length, take}
use Rattle.pdh_bits.specs.Bits.{bits_of}
use Rattle.pdh_edge.specs.Files.{ShelfState}
use Rattle.pdh_edge.specs.Files.Told.{Known}
use Rattle.pdh_edge.specs.Ports.{IsPrefix}
use Rattle.pdh_nesting.specs.Chains.{top_len}
use Rattle.pdh_nesting.specs.Receiving.{far}
use Rattle.pdh_chain.specs.Chains.{shapes_of, leaves_of}
use Rattle.pdh_answers.specs.Names.{line_name}
use Rattle.pdh_making.specs.Mux.{leaf_bits, muxing}
use Rattle.pdh_runner.specs.Operation.{AreTold, Files}
use Rattle.pdh_words.specs.declared.commands.Command.{Command}
use Rattle.pdh_words.specs.declared.commands.Command.TheVariants.{Mux}

-- After status 0 of `mux`, of whose line a receiver has the first n frames: what it received of each leaf is a prefix of
-- the bits of that leaf's file.
abbrev pub GivesBack : Option Command → ShelfState → ShelfState → ℕ → Type 0
GivesBack (Some (Mux chain feac)) old new status =
    (files : Files) (line : List ℕ) (leaf n : ℕ) → AreTold (muxing chain feac) old.told files → new.told line_name ≡ Known (Some line) → status ≡ 0
    → leaf < leaves_of chain → top_len (shapes_of chain) * n ≤ length (bits_of line)
    → IsPrefix (far (shapes_of chain) (take (n * top_len (shapes_of chain)) (bits_of line)) leaf) (leaf_bits files leaf)
GivesBack _ old new status = ⊤
