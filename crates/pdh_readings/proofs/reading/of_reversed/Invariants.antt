use Rattle.std.proofs.Common.{◌≡◌, ◌*◌, length, take}
use Rattle.pdh_readings.specs.Orders.{reversed_bits}
use Rattle.pdh_readings.proofs.reading.of_reversed.Given as goal

-- the bytes so far were read
abbrev pub invariant-loop-byte : goal.invariant-loop-byte
invariant-loop-byte l = record {
  bits : l.list.bits ≡ reversed_bits (take l.byte-index l.bytes);
  room : l.list.capacity ≡ 8 * length l.bytes;
  count : length l.list.bits ≡ 8 * l.byte-index;
}
