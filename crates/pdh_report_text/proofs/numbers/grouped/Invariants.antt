use Rattle.std.proofs.Common.{◌≡◌, ◌++◌, drop}
use Rattle.std.specs.Prelude.{string_bytes}
use Rattle.pdh_report_text.specs.Numbers.{in_threes}
use Rattle.pdh_report_text.proofs.numbers.grouped.Given as goal

abbrev pub invariant-loop-index : goal.invariant-loop-index
invariant-loop-index l = string_bytes l.text ++ in_threes (drop l.index l.digits) ≡ in_threes l.digits
