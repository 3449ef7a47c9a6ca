use Rattle.std.proofs.Common.{◌∙◌, ap, string_bytes, arith}
use Rattle.pdh_report_text.specs.Numbers.{in_threes}
use Rattle.pdh_report_text.proofs.Threes.{one_more, all_shown}
use Rattle.pdh_report_text.proofs.numbers.grouped.Goals as goal

pub loop-index-preserved : goal.loop-index-preserved
loop-index-preserved c =
    one_more c.as_bytes-digits.result.now (string_bytes c.loop-index.text) (string_bytes c.push_digit.new.text) (string_bytes c.push_comma.new.text) c.loop-index.index (omega arith) c.loop-index.invariant c.in_ok-push_digit.ensures c.in_ok-push_comma.ensures

pub returns : goal.returns
returns c =
    all_shown c.as_bytes-digits.result.now (string_bytes c.loop-index.text) c.loop-index.index (omega arith) c.loop-index.invariant ∙ ap in_threes (c.as_bytes-digits.ensures.value ∙ c.format.ensures.text)
