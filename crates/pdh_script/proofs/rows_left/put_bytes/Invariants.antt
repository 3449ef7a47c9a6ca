use Rattle.std.proofs.Common.{Ok, take}
use Rattle.pdh_bits.specs.Bits.{bits_of}
use Rattle.pdh_edge.specs.declared.shelf.Failed.{Failed}
use Rattle.pdh_script.specs.Bending.{PutsSome}
use Rattle.pdh_script.proofs.rows_left.put_bytes.Given as goal

-- the bits of the bytes so far were put
abbrev pub invariant-loop-byte : goal.invariant-loop-byte
invariant-loop-byte g l = PutsSome {T = Unit {0}} {E = Failed} g.D.Drain (bits_of (take l.byte-index l.bytes)) (bits_of l.bytes) l.fn.drain l.drain (Ok tt)
