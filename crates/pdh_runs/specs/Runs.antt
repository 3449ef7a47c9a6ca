-- The runs of a frame: overhead slots and the payload slots behind them, again and again.
use Rattle.std.specs.Prelude.{◌≡◌, ◌<◌, Bool, true, false, List, [], ◌∷◌, ◌++◌, map, replicate}
use Rattle.std.specs.List.{flat_map}
use Rattle.pdh_shape.specs.Frame.{FrameShape, slots}
use Rattle.pdh_shape.specs.Payload.{is_payload}
use Rattle.pdh_runs.specs.declared.run.Run.{Run}

-- whether each slot of a run is a payload slot
abbrev pub run_classes : Run → List Bool
run_classes run = replicate run.overhead false ++ replicate run.payload true

-- whether each slot of a frame is a payload slot
abbrev pub classes : FrameShape → List Bool
classes s = map (λ slot. is_payload (s.role slot)) (slots s)

-- no two runs that follow each other are one: the first has payload slots, and the second has overhead slots
abbrev pub AreMaximal : List Run → Type 0
AreMaximal [] = Unit {0}
AreMaximal (run ∷ []) = Unit {0}
AreMaximal (run ∷ next ∷ runs) = (0 < run.payload) × ((0 < next.overhead) × AreMaximal (next ∷ runs))

-- these are the runs of a frame
pub record AreRuns (s : FrameShape) (runs : List Run) : Type 0 where
  -- written out they are the frame,
  pub written : flat_map run_classes runs ≡ classes s
  -- and they are as long as can be
  pub maximal : AreMaximal runs
