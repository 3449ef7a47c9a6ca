-- Which nodes below the top of a chain stand: those whose received lines are lines of their shape, below nodes that stand.
use Rattle.std.specs.Prelude.{Bool, List, [], ◌∷◌, length, map, filter, flat_map, sum_by}
use Rattle.std.specs.List.{range_with_len}
use Rattle.pdh_shape.specs.Frame.{FrameShape}
use Rattle.pdh_line.specs.Receiving.{received}
use Rattle.pdh_eframes.specs.Plans.{e2, e3, e4}
use Rattle.pdh_ds.specs.Plans.{ds2, ds3, ds3c}
use Rattle.pdh_judging.specs.Judged.{judged_in, capped, stands_below}
use Rattle.pdh_candidates.specs.declared.word.Word.{Word}
use Rattle.pdh_candidates.specs.declared.word.Word.TheVariants.{E14, E24, E34, E13, E23, C13, M13, C13Top, M23, E12, M12, E1, Ds1Esf, Ds1Sf}
use Rattle.pdh_standing.specs.declared.tally.Tally.{Tally}
use Rattle.pdh_standing.specs.declared.tally.Lower.{Lower}

-- the received lines of the tributaries of nodes with these lines
abbrev pub tributaries : FrameShape → List (List Bool) → List (List Bool)
tributaries s lines = flat_map (λ line. map (λ j. received s j line) (range_with_len 0 s.tribs)) lines

-- those of these lines that are lines of a shape below the top
abbrev pub standing : FrameShape → List (List Bool) → List (List Bool)
standing s lines = filter (λ line. stands_below (judged_in s line)) lines

-- the nodes with these lines: how many, and what is judged of them; where a count reaches its type's end, it stands there
abbrev pub tally_of : FrameShape → List (List Bool) → Tally
tally_of s lines = record {
  stand = capped (length lines);
  judged = capped (sum_by (λ line. (judged_in s line).frames) lines);
  right = capped (sum_by (λ line. (judged_in s line).right) lines);
}

abbrev pub no_node : Tally
no_node = record { stand = 0; judged = 0; right = 0 }

-- those that stand one step and two steps below the top of a chain with these frames, whose line this is
abbrev pub lower_of : List FrameShape → List Bool → Lower
lower_of (top ∷ first ∷ []) line = record { first = tally_of first (standing first (tributaries top (line ∷ []))); second = no_node }
lower_of (top ∷ first ∷ second ∷ below) line =
    let nodes = standing first (tributaries top (line ∷ [])) in
    record { first = tally_of first nodes; second = tally_of second (standing second (tributaries first nodes)) }
lower_of _ line = record { first = no_node; second = no_node }

-- the frames of a chain with lower levels, from the top; none of one without
abbrev pub shapes_of : Word → List FrameShape
shapes_of E14 = e4 ∷ e3 ∷ e2 ∷ []
shapes_of E24 = e4 ∷ e3 ∷ []
shapes_of E34 = []
shapes_of E13 = e3 ∷ e2 ∷ []
shapes_of E23 = []
shapes_of C13 = ds3c ∷ ds2 ∷ []
shapes_of M13 = ds3 ∷ ds2 ∷ []
shapes_of C13Top = []
shapes_of M23 = []
shapes_of E12 = []
shapes_of M12 = []
shapes_of E1 = []
shapes_of Ds1Esf = []
shapes_of Ds1Sf = []

unfoldable pub lower_in : Word → List Bool → Lower
lower_in word line = lower_of (shapes_of word) line
