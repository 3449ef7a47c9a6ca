use Rattle.std.proofs.Common.{Ok, take}
use Rattle.pdh_edge.specs.declared.shelf.Failed.{Failed}
use Rattle.pdh_script.specs.Bending.{PutsSome}
use Rattle.pdh_script.proofs.rows_left.put_byte.Given as goal

-- the bits so far were put
abbrev pub invariant-loop-place : goal.invariant-loop-place
invariant-loop-place g l = PutsSome {T = Unit {0}} {E = Failed} g.D.Drain (take l.place l.bits) l.bits l.fn.drain l.drain (Ok tt)
