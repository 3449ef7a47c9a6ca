use Rattle.std.proofs.Common.{[]}
use Rattle.pdh_runs.specs.Columns.{trib_bits}
use Rattle.pdh_runs.proofs.TakingLaws.{HasSome}
use Rattle.pdh_runs.proofs.layout.Layout.append_tribs.Given as goal

-- the columns of the tributaries so far
abbrev pub invariant-loop-trib : goal.invariant-loop-trib
invariant-loop-trib g l = HasSome g.S.Shape.shape (λ j. trib_bits g.S.Shape.shape j l.frame.bits) (λ j. []) l.trib l.columns
