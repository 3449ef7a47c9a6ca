-- those of the orders so far that the words leave
use Rattle.std.proofs.Common.{◌≡◌, take}
use Rattle.std.specs.Prelude.{filter}
use Rattle.pdh_reporting.specs.Choosing.{is_left}
use Rattle.pdh_reporting.proofs.looking.orders_of.Given as goal

abbrev pub invariant-loop-order : goal.invariant-loop-order
invariant-loop-order l = l.orders.items ≡ filter (is_left l.request.lsb_first l.request.inverted) (take l.order-index l.order-items)
