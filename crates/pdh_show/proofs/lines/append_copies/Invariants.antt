use Rattle.std.proofs.Common.{◌≡◌, ◌+◌, ◌++◌, false, length, filter, slice_index_or}
use Rattle.std.specs.Prelude.{count_by}
use Rattle.std.specs.List.{range_with_len, flat_map}
use Rattle.pdh_shape.specs.Tributary.{controls}
use Rattle.pdh_show.specs.Shown.{digit}
use Rattle.pdh_show.proofs.lines.append_copies.Given as goal

-- the copies so far
abbrev pub invariant-loop-slot : goal.invariant-loop-slot
invariant-loop-slot g l = record {
  digits : l.line ≡ l.initial.line ++ flat_map (λ slot. digit (slice_index_or l.frame.bits slot false)) (filter (λ slot. controls l.trib (g.S.Shape.shape.role slot)) (range_with_len 0 l.slot));
  len : length l.line ≡ length l.initial.line + count_by (λ slot. controls l.trib (g.S.Shape.shape.role slot)) (range_with_len 0 l.slot);
}
