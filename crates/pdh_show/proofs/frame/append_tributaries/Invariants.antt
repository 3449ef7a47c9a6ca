use Rattle.std.proofs.Common.{◌≡◌, ◌≤◌, ◌+◌, ◌*◌, ◌++◌, length, map}
use Rattle.std.specs.List.{range_with_len, flat_map}
use Rattle.pdh_show.specs.Shown.{ended, tributary_line}
use Rattle.pdh_show.proofs.frame.append_tributaries.Given as goal

-- the lines so far
abbrev pub invariant-loop-trib : goal.invariant-loop-trib
invariant-loop-trib g l = record {
  lines : l.text.text ≡ l.fn.text.text ++ flat_map ended (map (tributary_line g.S.Shape.shape l.frame.bits) (range_with_len 0 l.trib));
  len : length l.text.text ≤ length l.fn.text.text + 320 * l.trib;
  capacity : l.text.capacity ≡ l.fn.text.capacity;
}
