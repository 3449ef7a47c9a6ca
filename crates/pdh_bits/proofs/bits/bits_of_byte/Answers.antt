use Rattle.std.proofs.Common.{◌≡◌, ℕ, ◌<◌, Bool, List, [], map, get_or, refl, ap, ◌∙◌, arith}
use Rattle.std.specs.List.{range_with_len}
use Rattle.std.proofs.lemmas.List.FromFn.{get_or-map-range_with_len}
use Rattle.pdh_bits.specs.Bits.{bits_of_byte}
use Rattle.pdh_bits.specs.declared.table.TheConstants.{BITS}
use Rattle.pdh_bits.proofs.bits.bits_of_byte.Goals as goal

-- the table has each byte's bits
table_is : BITS ≡ map bits_of_byte (range_with_len 0 256)
table_is = refl

read : (byte : ℕ) → byte < 256 → get_or BITS byte [] ≡ bits_of_byte byte
read byte h = ap (λ (table : List (List Bool)). get_or table byte []) table_is ∙ get_or-map-range_with_len bits_of_byte 0 256 byte byte [] h (omega arith)

pub returns : goal.returns
returns c = read c.args.byte (omega arith)
