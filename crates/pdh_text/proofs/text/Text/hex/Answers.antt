use Rattle.std.proofs.Common.{◌≡◌, ℕ, Bool, true, nat_lt, List, [], ◌∷◌, refl, sym, subst}
use Rattle.std.specs.List.{list_all}
use Rattle.std.specs.Str.{IsAscii, IsUtf8}
use Rattle.std.proofs.lemmas.Bool.{and_parts, ltb-true}
use Rattle.std.proofs.lemmas.Str.{IsUtf8-from_ascii}
use Rattle.std.proofs.lemmas.Str.Ascii.{IsAscii-nil, IsAscii-cons}
use Rattle.hex.specs.Hex.{lower_digits, encode_lower}
use Rattle.hex.proofs.HexLemmas.{IsAscii-encode_with}
use Rattle.pdh_text.proofs.text.Text.hex.Goals as goal

-- whether a byte is ASCII
abbrev is_low : ℕ → Bool
is_low b = nat_lt b 128

-- bytes that are ASCII one by one
all_ascii : (bs : List ℕ) → list_all is_low bs ≡ true → IsAscii bs
all_ascii [] h = IsAscii-nil
all_ascii (b ∷ bs) h = let parts = and_parts (is_low b) (list_all is_low bs) h in IsAscii-cons b bs (ltb-true b 128 parts.0) (all_ascii bs parts.1)

-- each digit is ASCII
digits_ascii : IsAscii lower_digits
digits_ascii = all_ascii lower_digits refl

-- so the digits are text
pub unreachable-requires-in_default-from_utf8 : goal.unreachable-requires-in_default-from_utf8
unreachable-requires-in_default-from_utf8 c =
    let written : c.encode_to_slice.new.output ≡ encode_lower c.args.bytes.now = c.in-Ok.ensures.written in
    let is_text : IsUtf8 c.encode_to_slice.new.output = subst IsUtf8 (sym written) (IsUtf8-from_ascii _ (IsAscii-encode_with lower_digits c.args.bytes.now digits_ascii)) in
    c.in_default-from_utf8.ensures.cases.0 is_text
