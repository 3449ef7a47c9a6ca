-- What is found of the levels of a chain or a stream in a line, and whether the line may be one.
use Rattle.std.specs.Prelude.{Bool, nat_lt, ◌&&◌, List, [], ◌∷◌, length, map}
use Rattle.std.specs.List.{list_all, zip}
use Rattle.pdh_judging.specs.declared.judged.Judged.{Judged}
use Rattle.pdh_judging.specs.Judged.{stands_at_top}
use Rattle.pdh_candidates.specs.declared.word.Word.{Word}
use Rattle.pdh_looking.specs.declared.levels.LevelSize.{LevelSize}
use Rattle.pdh_looking.specs.declared.levels.LevelFound.{LevelFound}
use Rattle.pdh_standing.specs.declared.tally.Tally.{Tally}
use Rattle.pdh_looking.specs.Words.{top_of, len_of, sizes_of}
use Rattle.pdh_looking.specs.Judging.{judged_as, has_its_c_bits}
use Rattle.pdh_standing.specs.Standing.{lower_in}

-- what was found of a level by those of its nodes that stand
abbrev pub found_of : LevelSize → Tally → LevelFound
found_of size tally = record { level = size.level; nodes = size.nodes; stand = tally.stand; judged = tally.judged; right = tally.right }

-- of levels by their nodes in turn, as far as there are both
abbrev pub named : List LevelSize → List Tally → List LevelFound
named sizes tallies = map (λ pair. found_of pair.0 pair.1) (zip sizes tallies)

-- the one node of the top
abbrev pub top_tally : Judged → Tally
top_tally judged = record { stand = 1; judged = judged.frames; right = judged.right }

-- what is found of each level, from the top
unfoldable pub levels_in : Word → List Bool → List LevelFound
levels_in word line =
    let lower = lower_in word line in
    named (sizes_of word) (top_tally (judged_as (top_of word) line) ∷ lower.first ∷ lower.second ∷ [])

-- some node of each level stands
abbrev pub all_stand : List LevelFound → Bool
all_stand levels = list_all (λ level. nat_lt 0 level.stand) levels

-- the top of a chain or a stream stands in a line
abbrev pub its_top_stands : Word → List Bool → Bool
its_top_stands word line = stands_at_top (len_of (top_of word)) (length line) (judged_as (top_of word) line)

-- A line may be a chain or a stream: its top stands, its C bits are those of it, and some node of each lower level stands.
unfoldable pub fits : Word → List Bool → Bool
fits word line = its_top_stands word line && (has_its_c_bits word line && all_stand (levels_in word line))
