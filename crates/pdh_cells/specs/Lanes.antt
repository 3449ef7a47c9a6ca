-- What came over a line, each kind in a lane of its own.
use Rattle.std.specs.Prelude.{ℕ, List, [], ◌∷◌, ◌++◌}
use Rattle.pdh_spans.specs.Times.{Span}
use Rattle.pdh_timeline.specs.declared.state.State.{State}
use Rattle.pdh_timeline.specs.declared.state.State.TheVariants.{Out, Ais, Alarm}
use Rattle.pdh_cells.specs.declared.cell.Code.{Code}

pub record Lanes : Type 0 where
  -- the times in which the states stood
  pub out : List Span
  pub ais : List Span
  pub alarm : List Span
  -- the bits at which blocks turned out to be errored
  pub near : List ℕ
  -- the bits at which the far end told an error
  pub far : List ℕ
  -- the codes
  pub codes : List Code

abbrev pub no_marks : Lanes
no_marks = record { out = []; ais = []; alarm = []; near = []; far = []; codes = [] }

-- the same with one more

abbrev pub with_time : State → Span → Lanes → Lanes
with_time Out span lanes = record lanes { out = lanes.out ++ span ∷ [] }
with_time Ais span lanes = record lanes { ais = lanes.ais ++ span ∷ [] }
with_time Alarm span lanes = record lanes { alarm = lanes.alarm ++ span ∷ [] }

abbrev pub with_block : ℕ → Lanes → Lanes
with_block place lanes = record lanes { near = lanes.near ++ place ∷ [] }

abbrev pub with_far : ℕ → Lanes → Lanes
with_far place lanes = record lanes { far = lanes.far ++ place ∷ [] }

abbrev pub with_code : Code → Lanes → Lanes
with_code code lanes = record lanes { codes = lanes.codes ++ code ∷ [] }
