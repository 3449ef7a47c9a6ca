use Rattle.pdh_shape.specs.Tributary.{stripped}
use Rattle.pdh_runs.specs.Columns.{trib_bits}
use Rattle.pdh_runs.proofs.TakingLaws.{HasSome}
use Rattle.pdh_runs.proofs.parts.take_apart.Given as goal

-- the tributaries so far have what the frame gives them
abbrev pub invariant-loop-trib : goal.invariant-loop-trib
invariant-loop-trib g l = HasSome g.S.Shape.shape (λ j. stripped g.S.Shape.shape j l.frame.bits) (λ j. trib_bits g.S.Shape.shape j l.frame.bits) l.trib l.columns
