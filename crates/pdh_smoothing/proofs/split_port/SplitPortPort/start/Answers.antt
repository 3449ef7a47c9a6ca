use Rattle.std.proofs.Common.{refl, ap}
use Rattle.pdh_edge.specs.Ports.{Outputs}
use Rattle.pdh_smoothing.specs.Split.{split_outputs}
use Rattle.pdh_smoothing.proofs.Told.{first_cause}
use Rattle.pdh_smoothing.proofs.split_port.SplitPortPort.start.Goals as goal

pub returns-clause-outputs : goal.returns-clause-outputs
returns-clause-outputs g c = ap (λ (o : Outputs). split_outputs c.args.self.now.from o (g.K.Drain.outputs c.args.self.now.kept)) c.start.ensures.outputs

pub returns-clause-cause : goal.returns-clause-cause
returns-clause-cause g c = first_cause c.start.result (g.P.Drain.drain_faults c.args.self.now.port) (g.P.Drain.drain_faults c.start.new.self) (g.K.Drain.drain_faults c.args.self.now.kept) c.start.ensures.cause

pub returns-clause-kept : goal.returns-clause-kept
returns-clause-kept g c = (c.start.ensures.kept, g.met.K.Port.kept_same c.args.self.now.kept, refl)
