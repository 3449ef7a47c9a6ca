use Rattle.std.proofs.Common.{◌≡◌, ◌++◌, take, map}
use Rattle.pdh_candidates.specs.Words.{candidate_of}
use Rattle.pdh_candidates.proofs.candidate.push_orders.Given as goal

-- the orders so far were appended
abbrev pub invariant-loop-order : goal.invariant-loop-order
invariant-loop-order l = l.list.items ≡ l.fn.list.items ++ map (candidate_of l.word) (take l.order-index l.orders)
