use Rattle.std.proofs.Common.{ap, ◌∙◌, true}
use Rattle.pdh_delivered.specs.Deliveries.{deliveries}
use Rattle.pdh_delivered.specs.Alike.{are_alike}
use Rattle.pdh_delivered.proofs.Counting.{alike_so_far}
use Rattle.pdh_delivered.proofs.alike.are_alike.Goals as goal

pub returns : goal.returns
unfolding are_alike
returns g c = ap (λ alike. alike.alike) c.in_ok-each_frame.ensures ∙ alike_so_far true (deliveries g.S.Shape.shape c.args.line.now.bits)
