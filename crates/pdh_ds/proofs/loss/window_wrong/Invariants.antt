use Rattle.std.proofs.Common.{◌≡◌, false}
use Rattle.std.specs.List.{range_with_len, list_any}
use Rattle.pdh_ds.specs.Loss.{ends_wrong}
use Rattle.pdh_ds.proofs.loss.window_wrong.Given as goal

-- no window so far has too many wrong slots
abbrev pub invariant-loop-last : goal.invariant-loop-last
invariant-loop-last l = list_any (ends_wrong l.rule l.before l.here) (range_with_len 0 l.last) ≡ false
