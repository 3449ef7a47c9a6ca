use Rattle.std.proofs.Common.{◌∙◌}
use Rattle.pdh_ds.specs.Plans.{ds3}
use Rattle.pdh_delivered.specs.Deliveries.{deliveries}
use Rattle.pdh_delivered.specs.CBits.{c_bits_in}
use Rattle.pdh_delivered.proofs.Counting.{frames_counted}
use Rattle.pdh_delivered.proofs.c_bits.count_c_bits.Goals as goal

pub returns : goal.returns
unfolding c_bits_in
returns c = c.in_ok-each_frame.ensures ∙ frames_counted (deliveries (ds3) c.args.line.now.bits)
