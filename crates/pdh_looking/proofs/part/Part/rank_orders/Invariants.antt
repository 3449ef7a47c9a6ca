use Rattle.std.proofs.Common.{◌≡◌, take, map}
use Rattle.std.specs.Prelude.{fold}
use Rattle.pdh_looking.specs.Looking.{lines_in}
use Rattle.pdh_looking.specs.Nearest.{near, ranked}
use Rattle.pdh_looking.proofs.part.Part.rank_orders.Given as goal

-- the orders so far
abbrev pub invariant-loop-order : goal.invariant-loop-order
invariant-loop-order l = l.list.items ≡ fold ranked l.fn.list.items (map (near (lines_in l.self) l.top) (take l.order-index l.orders))
