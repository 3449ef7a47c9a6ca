-- What a row of a schedule means.
use Rattle.std.specs.Prelude.{ℕ, ◌*◌, List, map}
use Rattle.pdh_shape.specs.declared.place.Level.{Level}
use Rattle.pdh_rows.specs.declared.flow.Flow.{Flow}
use Rattle.pdh_rows.specs.Flows.{flow_in}
use Rattle.pdh_row_text.specs.Form.{Form}

-- in the next `repeat` frames of the node at the path the bits of each tributary arrive by its flow
pub record Row : Type 0 where
  pub path : List ℕ
  pub repeat : ℕ
  pub flows : List Flow

-- the flow of a tributary of a node of this level, where it and the line have their nominal rates
abbrev pub ratio_of : Level → Flow
ratio_of level = record { bits = level.len * (level.trib_rate * level.per); frames = level.rate * level.trib_per }

-- what a line means, by that flow of its node
abbrev pub row_of : Flow → Form → Row
row_of ratio form = record { path = form.path; repeat = form.repeat; flows = map (flow_in ratio form.says) form.numbers }
