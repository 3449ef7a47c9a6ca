use Rattle.std.proofs.Common.{sym, ap}
use Rattle.pdh_desync.specs.States.{Stores}
use Rattle.pdh_desync.proofs.SmoothSteps.{opened_stands}
use Rattle.pdh_desync.proofs.unwatched.Unwatched.open.Goals as goal

pub returns-clause-leaves : goal.returns-clause-leaves
returns-clause-leaves g c = ap (λ (v : Stores). v.leaves) c.in_ok-stores.ensures

pub returns-clause-stands : goal.returns-clause-stands
returns-clause-stands g c = opened_stands g.S.Shape.shape g.met.S.Shape.is_frame c.args.path _ _ g.S.Shape.TRIBS g.S.Shape.LOW c.args.leaves (sym g.met.S.Shape.low_is) c.in_ok-stores.ensures c.in_ok-aligner.ensures.stands
