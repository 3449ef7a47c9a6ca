-- The names of files differ.
use Rattle.std.proofs.Common.{◌≡◌, ◌≢◌, ℕ, ◌+◌, ◌/◌, ◌%◌, ◌<◌, [], ◌∷◌, get_or, refl, ap, sym, ◌∙◌, arith}
use Rattle.pdh_answers.specs.Names.{leaf_name, output_name, numbered_name, line_name, bent_name}

-- ---- numbers in names

tens : (letter a : ℕ) → get_or (numbered_name (letter ∷ []) a) 1 0 ≡ 48 + (a + 1) / 10 % 10
unfolding numbered_name
tens letter a = refl

units : (letter a : ℕ) → get_or (numbered_name (letter ∷ []) a) 2 0 ≡ 48 + (a + 1) % 10
unfolding numbered_name
units letter a = refl

-- two digits tell the numbers below 100 apart
same_number : (a b : ℕ) → a < 99 → b < 99 → 48 + (a + 1) / 10 % 10 ≡ 48 + (b + 1) / 10 % 10 → 48 + (a + 1) % 10 ≡ 48 + (b + 1) % 10 → a ≡ b
same_number a b la lb high low = omega arith

same_numbered : (letter a b : ℕ) → a < 99 → b < 99 → numbered_name (letter ∷ []) a ≡ numbered_name (letter ∷ []) b → a ≡ b
same_numbered letter a b la lb e =
    same_number a b la lb (sym (tens letter a) ∙ ap (λ name. get_or name 1 0) e ∙ tens letter b) (sym (units letter a) ∙ ap (λ name. get_or name 2 0) e ∙ units letter b)

pub same_leaf : (a b : ℕ) → a < 99 → b < 99 → leaf_name a ≡ leaf_name b → a ≡ b
same_leaf a b la lb e = same_numbered 116 a b la lb e

pub same_output : (a b : ℕ) → a < 99 → b < 99 → output_name a ≡ output_name b → a ≡ b
same_output a b la lb e = same_numbered 111 a b la lb e

-- ---- letters

first_letter : (letter a : ℕ) → get_or (numbered_name (letter ∷ []) a) 0 0 ≡ letter
unfolding numbered_name
first_letter letter a = refl

line_letter : get_or line_name 0 0 ≡ 108
unfolding line_name
line_letter = refl

bent_letter : get_or bent_name 0 0 ≡ 98
unfolding bent_name
bent_letter = refl

pub leaf_is_not_line : (a : ℕ) → leaf_name a ≢ line_name
leaf_is_not_line a e = omega (arith, first_letter 116 a, line_letter, ap (λ name. get_or name 0 0) e)

pub output_is_not_line : (a : ℕ) → output_name a ≢ line_name
output_is_not_line a e = omega (arith, first_letter 111 a, line_letter, ap (λ name. get_or name 0 0) e)

pub output_is_not_bent : (a : ℕ) → output_name a ≢ bent_name
output_is_not_bent a e = omega (arith, first_letter 111 a, bent_letter, ap (λ name. get_or name 0 0) e)

pub bent_is_not_line : bent_name ≢ line_name
bent_is_not_line e = omega (arith, bent_letter, line_letter, ap (λ name. get_or name 0 0) e)
