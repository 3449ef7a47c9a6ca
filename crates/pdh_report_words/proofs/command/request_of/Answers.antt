use Rattle.std.proofs.Common.{ap, ◌∙◌, rules, unwrap_or}
use Rattle.std.specs.Str.Parse.{ExplainsUnsignedError, HasUnsignedDigitsIfOk}
use Rattle.pdh_report_words.proofs.Numbers.{number_read}
use Rattle.pdh_report_words.proofs.command.request_of.Goals as goal

pub returns : goal.returns
returns c = record {
  file = search rules;
  chain = search rules;
  lsb_first = search rules;
  inverted = search rules;
  all = search rules;
  from = search rules;
  from_given = λ text given number. c.unwrap_or-2.ensures ∙ ap (λ found. unwrap_or found 0) (number_read (ExplainsUnsignedError 10) HasUnsignedDigitsIfOk text c.get_one.result (c.get_one.ensures.value text given) number);
  bits = search rules;
  bits_given = λ text given number. number_read (ExplainsUnsignedError 10) HasUnsignedDigitsIfOk text c.get_one-2.result (c.get_one-2.ensures.value text given) number;
  events = search rules;
  json = search rules;
  picture = search rules;
}
