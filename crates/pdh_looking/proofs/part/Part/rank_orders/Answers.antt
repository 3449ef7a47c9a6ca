use Rattle.std.proofs.Common.{◌≡◌, false, get_or, ap, sym, ◌∙◌}
use Rattle.pdh_readings.specs.declared.bit_order.BitOrder.{BitOrder}
use Rattle.pdh_readings.specs.Orders.{order_of}
use Rattle.pdh_looking.specs.declared.reading.Reading.{Reading}
use Rattle.pdh_looking.specs.Judging.{judged_as}
use Rattle.pdh_looking.specs.Looking.{lines_in}
use Rattle.pdh_looking.specs.Nearest.{ranked}
use Rattle.pdh_looking.proofs.Ranking.{ranked_more}
use Rattle.pdh_looking.proofs.part.Part.rank_orders.Goals as goal

pub loop-order-preserved : goal.loop-order-preserved
loop-order-preserved c =
    let lines = lines_in c.args.self.now in
    let first : BitOrder = order_of false false in
    let order : BitOrder = get_or c.args.orders.now c.loop-order.order-index first in
    let judged : c.judged.result ≡ judged_as c.args.top (lines order) = c.judged.ensures ∙ ap (λ (r : Reading). judged_as c.args.top r.line.bits) c.read_in.ensures in
    c.in_ok-rank.ensures ∙ (λ i. ranked (c.loop-order.invariant i) (record { level = c.level.ensures i; order = order; judged = judged i }))
    ∙ sym (ranked_more lines c.args.top c.args.list.now.items c.args.orders.now c.loop-order.order-index first c.loop-order-test.true)
