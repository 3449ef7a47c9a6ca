use Rattle.std.proofs.Common.{◌≡◌, true, take, drop}
use Rattle.std.specs.List.{range_with_len, list_all}
use Rattle.pdh_g706.specs.Frames.{frames_of}
use Rattle.pdh_g706.proofs.HeldLaws.{multi_test}
use Rattle.pdh_e1_judging.proofs.multiframes.has_multiframe_signal.Given as goal

-- the bits so far are right
abbrev pub invariant-loop-number : goal.invariant-loop-number
invariant-loop-number l = list_all (multi_test (frames_of (take 4096 (drop l.start l.line.bits))) 0) (range_with_len 0 l.number) ≡ true
