-- The fields of C bits, as parts of the number that the C bits are.
use Rattle.std.proofs.Common.{◌≡◌, ℕ, ◌+◌, ◌*◌, ◌/◌, ◌%◌, ◌^◌, ◌<◌, Bool, ◌∷◌, ◌++◌, refl, sym, ◌∙◌, ap, arith}
use Rattle.pdh_cbit.specs.declared.fields.Fields.{Fields}
use Rattle.pdh_bits.specs.Bits.{bit, bit_value, number_of}
use Rattle.pdh_cbit.specs.CBits.{c_bit, of_subframe}
use Rattle.pdh_cbit.specs.Fields.{fields_of, IsInRange}
use Rattle.pdh_cbit.proofs.Numbers.{bit_value_le, bit_value-bit, bit_is}

-- the numbers among the fields
pub path_of : (c : ℕ) → (fields_of c).path ≡ c / 2 ^ 12 % 8
path_of c = omega (arith, bit_value-bit c 14, bit_value-bit c 13, bit_value-bit c 12)

pub febe_of : (c : ℕ) → (fields_of c).febe ≡ c / 2 ^ 9 % 8
febe_of c = omega (arith, bit_value-bit c 11, bit_value-bit c 10, bit_value-bit c 9)

pub link_of : (c : ℕ) → (fields_of c).link ≡ c / 2 ^ 6 % 8
link_of c = omega (arith, bit_value-bit c 8, bit_value-bit c 7, bit_value-bit c 6)

second_of : (c : ℕ) → number_of (of_subframe c 2) ≡ c / 2 ^ 15 % 8
second_of c = omega (arith, bit_value-bit c 17, bit_value-bit c 16, bit_value-bit c 15)

sixth_of : (c : ℕ) → number_of (of_subframe c 6) ≡ c / 2 ^ 3 % 8
sixth_of c = omega (arith, bit_value-bit c 5, bit_value-bit c 4, bit_value-bit c 3)

seventh_of : (c : ℕ) → number_of (of_subframe c 7) ≡ c % 8
seventh_of c = omega (arith, bit_value-bit c 2, bit_value-bit c 1, bit_value-bit c 0)

-- the ten other bits are one bit and three subframes
pub rest_is : (c : ℕ) → (fields_of c).rest ≡ 512 * bit_value (c_bit c 1 2) + 64 * number_of (of_subframe c 2) + 8 * number_of (of_subframe c 6) + number_of (of_subframe c 7)
rest_is c = omega arith

pub rest_of : (c : ℕ) → (fields_of c).rest ≡ 512 * (c / 2 ^ 19 % 2) + 64 * (c / 2 ^ 15 % 8) + c % 64
rest_of c = omega (arith, rest_is c, bit_value-bit c 19, second_of c, sixth_of c, seventh_of c)

-- each field has room
pub fields_of_range : (c : ℕ) → IsInRange (fields_of c)
fields_of_range c = record {
  path = omega (arith, path_of c);
  febe = omega (arith, febe_of c);
  link = omega (arith, link_of c);
  rest = omega (arith, rest_of c);
}

-- the C bits are a number of the fields
pub number_from_fields : (c : ℕ) → c < 2 ^ 21 → c ≡ 2 ^ 20 * bit_value (fields_of c).id + 2 ^ 18 * bit_value (fields_of c).feac + 2 ^ 12 * (fields_of c).path + 2 ^ 9 * (fields_of c).febe + 2 ^ 6 * (fields_of c).link + 2 ^ 19 * ((fields_of c).rest / 512) + 2 ^ 15 * ((fields_of c).rest / 64 % 8) + (fields_of c).rest % 64
number_from_fields c small = omega (arith, bit_value-bit c 20, bit_value-bit c 18, path_of c, febe_of c, link_of c, rest_of c)

-- no two numbers have the same fields
pub same_number : (c d : ℕ) → c < 2 ^ 21 → d < 2 ^ 21 → fields_of d ≡ fields_of c → d ≡ c
same_number c d small below same =
    let number_of_fields : Fields → ℕ = λ f. 2 ^ 20 * bit_value f.id + 2 ^ 18 * bit_value f.feac + 2 ^ 12 * f.path + 2 ^ 9 * f.febe + 2 ^ 6 * f.link + 2 ^ 19 * (f.rest / 512) + 2 ^ 15 * (f.rest / 64 % 8) + f.rest % 64 in
    let of_d : d ≡ number_of_fields (fields_of d) = number_from_fields d below in
    let of_c : c ≡ number_of_fields (fields_of c) = number_from_fields c small in
    of_d ∙ ap number_of_fields same ∙ sym of_c

-- fields by their values
made : Bool → Bool → ℕ → ℕ → ℕ → ℕ → Fields
made id feac path febe link rest = record { id = id; feac = feac; path = path; febe = febe; link = link; rest = rest }

made_is : (f : Fields) → made f.id f.feac f.path f.febe f.link f.rest ≡ f
unfolding made
made_is f = refl

-- fields are the same where each is
same_fields : (f g : Fields) → f.id ≡ g.id → f.feac ≡ g.feac → f.path ≡ g.path → f.febe ≡ g.febe → f.link ≡ g.link → f.rest ≡ g.rest → f ≡ g
same_fields f g id feac path febe link rest =
    let alike : made f.id f.feac f.path f.febe f.link f.rest ≡ made g.id g.feac g.path g.febe g.link g.rest = cc in
    sym (made_is f) ∙ alike ∙ made_is g

-- the number that fields make has these fields
pub fields_of-number : (f : Fields) (id feac path febe link rest : ℕ) → IsInRange f → id ≡ bit_value f.id → feac ≡ bit_value f.feac → path ≡ f.path → febe ≡ f.febe → link ≡ f.link → rest ≡ f.rest → fields_of (4096 * (64 * (4 * id + 2 * (rest / 512) + feac) + 8 * (rest / 64 % 8) + path) + 64 * (8 * febe + link) + rest % 64) ≡ f
fields_of-number f id feac path febe link rest range is_id is_feac is_path is_febe is_link is_rest =
    let c : ℕ = 4096 * (64 * (4 * id + 2 * (rest / 512) + feac) + 8 * (rest / 64 % 8) + path) + 64 * (8 * febe + link) + rest % 64 in
    same_fields (fields_of c) f
    (bit_is c 20 f.id (omega (arith, bit_value_le f.id, bit_value_le f.feac)))
    (bit_is c 18 f.feac (omega (arith, bit_value_le f.id, bit_value_le f.feac)))
    (omega (arith, path_of c, bit_value_le f.id, bit_value_le f.feac))
    (omega (arith, febe_of c, bit_value_le f.id, bit_value_le f.feac))
    (omega (arith, link_of c, bit_value_le f.id, bit_value_le f.feac))
    (omega (arith, rest_of c, bit_value_le f.id, bit_value_le f.feac))
