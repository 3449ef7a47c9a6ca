use Rattle.std.proofs.Common.{arith}
use Rattle.pdh_shape.specs.Payload.{is_payload}
use Rattle.pdh_runs.proofs.Counts.{before_most}
use Rattle.pdh_runs.proofs.layout.Layout.overhead_before.Goals as goal

pub overflow_sub-result : goal.overflow_sub-result
overflow_sub-result g c = omega (arith, c.payload_before.ensures, before_most (λ slot. is_payload (g.S.Shape.shape.role slot)) c.args.slot)
