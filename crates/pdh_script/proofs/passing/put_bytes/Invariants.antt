use Rattle.std.proofs.Common.{◌≡◌, ◌≤◌, ◌-◌, length, take, Ok}
use Rattle.pdh_bits.specs.Bits.{bits_of}
use Rattle.pdh_script.specs.Applying.{Passes, PassesSo}
use Rattle.pdh_script.proofs.passing.put_bytes.Given as goal

-- the bits of the bytes so far were put
abbrev pub invariant-loop-done : goal.invariant-loop-done
invariant-loop-done g l = record {
  within : l.done ≤ length l.bytes;
  capacity : l.buffer.capacity ≡ l.fn.buffer.capacity;
  passes : PassesSo {T = Unit {0}} g.P.Feed g.P.Drain g.P.Port.kept (Passes (λ line. bits_of (take l.done l.bytes)) 0) (λ line. bits_of l.bytes) 0 l.fn.port l.port (Ok tt);
}

abbrev pub decreases-loop-done : goal.decreases-loop-done
decreases-loop-done g l = length l.bytes - l.done
