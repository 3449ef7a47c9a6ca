use Rattle.std.proofs.Common.{◌%◌, ◌==◌, ap, ◌∙◌}
use Rattle.pdh_shape.specs.Payload.{payload_ones}
use Rattle.pdh_events.specs.Duties.{is_odd}
use Rattle.pdh_rx.specs.Places.{Loaded}
use Rattle.pdh_rx.proofs.strip.Strip.is_odd.Goals as goal

pub returns : goal.returns
unfolding is_odd
returns g c = c.is_odd.ensures ∙ ap (λ (l : Loaded). payload_ones g.S.Shape.shape 0 l.frame % 2 == 1) c.self.view_is
