-- What is drawn of the cells of a picture.
use Rattle.std.specs.Prelude.{ℕ, suc, ◌+◌, Bool, nat_le, if◌then◌else◌, Option, Some, None, List, [], ◌∷◌}
use Rattle.pdh_timeline.specs.declared.state.State.{State}
use Rattle.pdh_timeline.specs.declared.state.State.TheVariants.{Out, Ais, Alarm}
use Rattle.pdh_cells.specs.declared.cell.Cell.{Cell}
use Rattle.pdh_cells.specs.declared.cell.Code.{Code}
use Rattle.pdh_cells.specs.declared.rows.DrawnCode.{DrawnCode}

-- a cell shows a state
abbrev pub shows_state : State → Cell → Bool
shows_state Out cell = cell.out
shows_state Ais cell = cell.ais
shows_state Alarm cell = cell.alarm

-- the codes that are drawn of these cells, which begin at one, where the cells before another are taken: a code takes five
abbrev pub drawn_by : ℕ → ℕ → Option Code → List DrawnCode → List DrawnCode → List DrawnCode
drawn_by at free None others behind = others
drawn_by at free (Some code) others behind = (if nat_le free at then record { cell = at; code = code } ∷ behind else others)

abbrev pub codes_drawn : ℕ → ℕ → List Cell → List DrawnCode
codes_drawn at free [] = []
codes_drawn at free (cell ∷ cells) = drawn_by at free cell.code (codes_drawn (suc at) free cells) (codes_drawn (suc at) (at + 5) cells)
