use Rattle.std.proofs.Common.{◌≡◌, ◌≤◌, ◌+◌, ◌*◌, ◌++◌, length, map}
use Rattle.std.specs.List.{range_with_len, flat_map}
use Rattle.pdh_show.specs.Shown.{ended, bytes_line}
use Rattle.pdh_show.proofs.frame.append_bytes.Given as goal

-- the lines so far
abbrev pub invariant-loop-number : goal.invariant-loop-number
invariant-loop-number l = record {
  lines : l.text.text ≡ l.fn.text.text ++ flat_map ended (map (bytes_line l.bytes) (range_with_len 0 l.number));
  len : length l.text.text ≤ length l.fn.text.text + 33 * l.number;
  capacity : l.text.capacity ≡ l.fn.text.capacity;
}
