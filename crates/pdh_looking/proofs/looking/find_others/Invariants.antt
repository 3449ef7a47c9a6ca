use Rattle.std.proofs.Common.{◌≡◌, take}
use Rattle.pdh_looking.specs.Looking.{is_met_in}
use Rattle.pdh_looking.specs.Answers.{others_by}
use Rattle.pdh_looking.proofs.looking.find_others.Given as goal

-- the orders so far
abbrev pub invariant-loop-order : goal.invariant-loop-order
invariant-loop-order l = l.others.items ≡ others_by (is_met_in l.part) l.found (take l.order-index l.orders)
