-- After the last error of a line `demux` gives back what was sent.
use Rattle.std.specs.Prelude.{◌≡◌, ℕ, ◌+◌, ◌-◌, ◌*◌, ◌<◌, ◌≤◌, List, [], ◌∷◌, length, ⊤, Option, Some}
use Rattle.pdh_bits.specs.Bits.{bits_of}
use Rattle.pdh_edge.specs.Files.{ShelfState}
use Rattle.pdh_edge.specs.Files.Told.{Known}
use Rattle.pdh_line.specs.Sending.{front}
use Rattle.pdh_nesting.specs.Sending.{content_of, given_below, line_with}
use Rattle.pdh_nesting.specs.Events.{NoneEmpty}
use Rattle.pdh_clock.specs.Contents.{counts}
use Rattle.pdh_recovery.specs.Recovering.{RejoinsList}
use Rattle.pdh_recovery.specs.Downwards.{IsQuietDown, ComesBack, LeafComesBack}
use Rattle.pdh_chain.specs.declared.chain.Chain.{Chain}
use Rattle.pdh_chain.specs.Chains.{shapes_of, leaves_of}
use Rattle.pdh_chain.specs.Saying.{says_of}
use Rattle.pdh_script.specs.Scripts.{Change, Row, end_of}
use Rattle.pdh_script.specs.Scripts.Change.{Flip, Ones, Zeros, Drop, Add}
use Rattle.pdh_answers.specs.Names.{name_of, line_file, line_name, bent_name, output_name}
use Rattle.pdh_making.specs.Schedules.{rows_in}
use Rattle.pdh_making.specs.Mux.{leaf_bits, line_len, muxing}
use Rattle.pdh_recorded.specs.Disturb.{script_in, disturbing}
use Rattle.pdh_runner.specs.Operation.{AreTold, Files, bytes_in}
use Rattle.pdh_words.specs.declared.commands.Command.{Command}
use Rattle.pdh_words.specs.declared.commands.Command.TheVariants.{Mux, Disturb, Demux}
use Rattle.pdh_recorded.specs.Demux.{demuxing}

-- ---- the line that was sent

-- What `mux` wrote is the line that the chain sends of these files: whole frames of its top, in which no store underflowed, from
-- leaves whose files hold what these frames take of them.
pub record IsSentLine (chain : Chain) (feac : Option ℕ) (files : Files) (line : List ℕ) : Type 0 where
  pub none_empty : NoneEmpty (shapes_of chain) (counts (rows_in chain files)) [] (line_len chain (rows_in chain files))
  pub held : (leaf : ℕ) → leaf < leaves_of chain → given_below (shapes_of chain) (counts (rows_in chain files)) [] (line_len chain (rows_in chain files)) leaf ≤ length (leaf_bits files leaf)
  pub bits : bits_of line ≡ front (line_with (shapes_of chain) (counts (rows_in chain files)) (content_of (leaf_bits files) (says_of feac))) (line_len chain (rows_in chain files))

-- ---- the line that was disturbed

-- how many bits become of those that a change alters
abbrev pub bits_made : Change → ℕ
bits_made (Flip n) = n
bits_made (Ones n) = n
bits_made (Zeros n) = n
bits_made (Drop n) = 0
bits_made (Add bytes) = 8 * length bytes

-- how many bits rows make of a line from a place on, up to the end of the last row
abbrev pub made_from : ℕ → List Row → ℕ
made_from place [] = 0
made_from place (row ∷ rows) = (row.at - place) + bits_made row.change + made_from (end_of row) rows

-- the place in the line where the last row ends
abbrev pub end_from : ℕ → List Row → ℕ
end_from place [] = place
end_from place (row ∷ rows) = end_from (end_of row) rows

-- ---- the commands

-- After status 0 of `mux` the line is one that the chain sent. After status 0 of `disturb` the disturbed line rejoins the line behind
-- the script's last row. And after status 0 of `demux`, where the line that it read rejoins one that the chain sent, and each node on
-- the way to a leaf is quiet, that leaf's output rejoins what the leaf sent.
abbrev pub AreRejoined : Option Command → ShelfState → ShelfState → ℕ → Type 0
AreRejoined (Some (Mux chain feac)) old new status =
    (files : Files) (line : List ℕ) → AreTold (muxing chain feac) old.told files → new.told line_name ≡ Known (Some line) → status ≡ 0
    → IsSentLine chain feac files line
AreRejoined (Some (Disturb chain)) old new status =
    (files : Files) (line : List ℕ) → AreTold (disturbing chain) old.told files → new.told bent_name ≡ Known (Some line) → status ≡ 0
    → RejoinsList (bits_of line) (bits_of (bytes_in files line_name)) (made_from 0 (script_in files)) (end_from 0 (script_in files))
AreRejoined (Some (Demux chain bits)) old new status =
    (files : Files) (output : List ℕ) (leaf : ℕ) → AreTold (demuxing chain bits) old.told files → new.told (output_name leaf) ≡ Known (Some output) → status ≡ 0
    → leaf < leaves_of chain → LeafComesBack (shapes_of chain) (bits_of (bytes_in files (name_of (line_file bits)))) leaf (bits_of output)
AreRejoined _ old new status = ⊤

-- ---- the commands together

-- Where a line is what `mux` wrote of these files, another rejoins it at bit e and bit u, an output is what `demux` gives of that one, and
-- each node on the way to the leaf is quiet from its own rejoining place on, each of these nodes comes back to its line, and the
-- output rejoins the leaf's file.
abbrev pub FileComesBack : Chain → Option ℕ → Files → List ℕ → List ℕ → List ℕ → ℕ → ℕ → ℕ → List ℕ → Type 0
FileComesBack chain feac files line bent output leaf e u quiet =
    let shapes = shapes_of chain in
    let rows = rows_in chain files in
    leaf < leaves_of chain → IsSentLine chain feac files line → RejoinsList (bits_of bent) (bits_of line) e u → LeafComesBack shapes (bits_of bent) leaf (bits_of output)
    → IsQuietDown shapes (counts rows) [] (bits_of bent) e u leaf quiet
    → (e' : ℕ) × (u' : ℕ) × ComesBack shapes (counts rows) (content_of (leaf_bits files) (says_of feac)).bits [] 0 (bits_of bent) e u leaf quiet e' u' × RejoinsList (bits_of output) (leaf_bits files leaf) e' u'
