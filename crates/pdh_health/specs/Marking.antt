-- What the events of a node are to its course.
use Rattle.std.specs.Prelude.{ℕ, Bool, true, false, ◌==◌, if◌then◌else◌, Option, Some, None, List, [], ◌∷◌, ◌++◌, fold}
use Rattle.pdh_spans.specs.Times.Turn.{Begins, Ends}
use Rattle.pdh_timeline.specs.declared.state.State.TheVariants.{Out}
use Rattle.pdh_timeline.specs.Marks.{Mark, place_of, is_errored, is_far}
use Rattle.pdh_timeline.specs.Marks.Mark.{Turns, Errored, Far}
use Rattle.pdh_cells.specs.declared.cell.Code.{Code}
use Rattle.pdh_placed.specs.declared.placed.Placed.{Placed}
use Rattle.pdh_health.specs.declared.sign.Sign.{Sign}
use Rattle.pdh_health.specs.declared.sign.Sign.TheVariants.{Begin, End, Block, Told, Coded, Other}
use Rattle.pdh_health.specs.Signs.{sign_of_kind}

abbrev pub sign_of : Placed → Sign
sign_of placed = sign_of_kind placed.event.kind

-- where the last mark came that passes a test
abbrev pub last_of : (Mark → Bool) → List Mark → Option ℕ
last_of test marks = fold (λ last mark. if test mark then Some (place_of mark) else last) None marks

-- it came at this place
abbrev pub is_last : Option ℕ → ℕ → Bool
is_last None place = false
is_last (Some last) place = last == place

-- a mark, unless the last like it came at the same place: two errors at one place are one
abbrev pub unless_at : Option ℕ → Mark → List Mark
unless_at last mark = (if is_last last (place_of mark) then [] else mark ∷ [])

-- the mark that an event makes behind these
abbrev pub marks_by : List Mark → Sign → ℕ → List Mark
marks_by marks (Begin state) place = Turns state (Begins place) ∷ []
marks_by marks (End state) place = Turns state (Ends place) ∷ []
marks_by marks Block place = unless_at (last_of is_errored marks) (Errored place)
marks_by marks Told place = unless_at (last_of is_far marks) (Far place)
marks_by marks Coded place = []
marks_by marks Other place = []

abbrev pub marks_with : List Mark → Placed → List Mark
marks_with marks placed = marks ++ marks_by marks (sign_of placed) placed.place

-- a node that is late is out of alignment from the beginning
abbrev pub first_marks : Bool → List Mark
first_marks true = Turns Out (Begins 0) ∷ []
first_marks false = []

-- the marks that events make
abbrev pub marks_of : Bool → List Placed → List Mark
marks_of late events = fold marks_with (first_marks late) events

-- the code that an event brings
abbrev pub code_by : Sign → Placed → List Code
code_by Coded placed = record { code = placed.event.value; place = placed.place } ∷ []
code_by _ placed = []

abbrev pub codes_with : List Code → Placed → List Code
codes_with codes placed = codes ++ code_by (sign_of placed) placed

-- the codes that events bring
abbrev pub codes_of : List Placed → List Code
codes_of events = fold codes_with [] events
