use Rattle.std.proofs.Common.{◌≡◌, ◌<◌, ◌^◌, true, take}
use Rattle.std.specs.List.{list_all}
use Rattle.std.specs.Char.{is_ascii_digit}
use Rattle.pdh_row_text.specs.Text.{digits_value}
use Rattle.pdh_row_text.proofs.words.number.Given as goal

abbrev pub invariant-loop-digit : goal.invariant-loop-digit
invariant-loop-digit l = record {
  value : l.value ≡ digits_value (take l.digit-index l.word);
  digits : list_all is_ascii_digit (take l.digit-index l.word) ≡ true;
  small : l.value < 10 ^ l.digit-index;
}
