-- What a receiver keeps, as one more bit comes.
use Rattle.std.proofs.Common.{◌≡◌, ℕ, zero, suc, ◌+◌, ◌*◌, ◌/◌, ◌%◌, ◌^◌, ◌<◌, ◌≤◌, min, Bool, true, false, cond, List, [], ◌∷◌, ◌++◌, length, reverse, replicate, take, drop, get_or, append_assoc, refl, sym, ◌∙◌, ap, arith, length-append}
use Rattle.std.proofs.lemmas.List.{reverse-append, length-reverse, length-take-le, take_more, drop_more}
use Rattle.std.specs.Bool.{beq}
use Rattle.std.specs.List.{common_prefix_len}
use Rattle.pdh_bits.specs.Bits.{bit, bit_value, with_bit, number_of}
use Rattle.pdh_cbit.specs.Channel.{Receiving, HasReceived, latest_first, repeated_in}
use Rattle.pdh_cbit.proofs.Numbers.{value_of, value_of_lt, value_of-push, number_of-reverse, bit_value_le, bit_is}

pub length-latest_first : (bits : List Bool) → length (latest_first bits) ≡ length bits + 16
unfolding latest_first
length-latest_first bits = omega (arith, length-append (reverse bits) (replicate 16 false), length-reverse bits)

-- bits that came later
pub latest_first-append : (bits later : List Bool) → latest_first (bits ++ later) ≡ reverse later ++ latest_first bits
unfolding latest_first
latest_first-append bits later =
    ap (λ (l : List Bool). l ++ replicate 16 false) (reverse-append bits later) ∙ append_assoc (reverse later) (reverse bits) (replicate 16 false)

-- one more bit is compared with the bit sixteen before it
repeated_in-push : (b : Bool) (latest : List Bool) → 16 ≤ length latest → repeated_in (b ∷ latest) ≡ cond (beq b (get_or latest 15 false)) (1 + repeated_in latest) 0
unfolding repeated_in
repeated_in-push b latest enough =
    let before : drop 15 latest ≡ get_or latest 15 false ∷ drop (15 + 1) latest = drop_more latest 15 false (omega arith) in
    ap (common_prefix_len beq (b ∷ latest)) before

-- the last sixteen bits as a number: the oldest is the most significant
sixteen_bits : (latest : List Bool) → 16 ≤ length latest → number_of (reverse (take 16 latest)) ≡ value_of (take 15 latest) + bit_value (get_or latest 15 false) * 2 ^ 15
sixteen_bits latest enough =
    let later : List Bool = take 15 latest in
    let oldest : Bool = get_or latest 15 false in
    let long : length later ≡ 15 = length-take-le 15 latest (omega arith) in
    let split : take (15 + 1) latest ≡ later ++ oldest ∷ [] = take_more latest 15 false (omega arith) in
    ap (λ (l : List Bool). number_of (reverse l)) split
    ∙ number_of-reverse (later ++ oldest ∷ [])
    ∙ value_of-push later oldest
    ∙ ap (λ (n : ℕ). value_of later + bit_value oldest * 2 ^ n) long

-- fifteen bits write a number below 2 to the 15
fifteen_bits_lt : (latest : List Bool) → 16 ≤ length latest → value_of (take 15 latest) < 2 ^ 15
fifteen_bits_lt latest enough =
    let long : length (take 15 latest) ≡ 15 = length-take-le 15 latest (omega arith) in
    let power : 2 ^ length (take 15 latest) ≡ 2 ^ 15 = ap (λ (n : ℕ). 2 ^ n) long in
    omega (arith, value_of_lt (take 15 latest), power)

oldest_bit : (latest : List Bool) → 16 ≤ length latest → bit (number_of (reverse (take 16 latest))) 15 ≡ get_or latest 15 false
oldest_bit latest enough =
    let oldest : Bool = get_or latest 15 false in
    bit_is (number_of (reverse (take 16 latest))) 15 oldest (omega (arith, sixteen_bits latest enough, fifteen_bits_lt latest enough, bit_value_le oldest))

-- the register loses its oldest bit
register-push : (b : Bool) (latest : List Bool) → 16 ≤ length latest → number_of (reverse (take 16 (b ∷ latest))) ≡ with_bit (number_of (reverse (take 16 latest)) % 2 ^ 15) b
register-push b latest enough =
    let oldest : Bool = get_or latest 15 false in
    let kept : number_of (reverse (take 16 latest)) % 2 ^ 15 ≡ value_of (take 15 latest) =
    omega (arith, sixteen_bits latest enough, fifteen_bits_lt latest enough, bit_value_le oldest) in
    let new : number_of (reverse (b ∷ take 15 latest)) ≡ bit_value b + 2 * value_of (take 15 latest) = number_of-reverse (b ∷ take 15 latest) in
    omega (arith, kept, new)

-- a count up to 160
count-push : (again : Bool) (n count : ℕ) → count ≡ min 160 n → cond again (min 160 (count + 1)) 0 ≡ min 160 (cond again (1 + n) 0)
count-push true n count is = omega arith
count-push false n count is = omega arith

-- a receiver that has taken some bits takes one more
pub HasReceived-push : (r : Receiving) (register repeated : ℕ) (oldest b : Bool) (bits : List Bool) → oldest ≡ bit r.register 15 → register ≡ with_bit (r.register % 2 ^ 15) b → repeated ≡ cond (beq b oldest) (min 160 (r.repeated + 1)) 0 → HasReceived r bits → HasReceived (record { register = register; repeated = repeated }) (bits ++ b ∷ [])
HasReceived-push r register repeated oldest b bits first shifted counted received =
    let latest : List Bool = latest_first bits in
    let enough : 16 ≤ length latest = omega (arith, length-latest_first bits) in
    let pushed : latest_first (bits ++ b ∷ []) ≡ b ∷ latest = latest_first-append bits (b ∷ []) in
    let before : oldest ≡ get_or latest 15 false = first ∙ ap (λ (n : ℕ). bit n 15) received.register ∙ oldest_bit latest enough in
    record {
      register = shifted
          ∙ ap (λ (n : ℕ). with_bit (n % 2 ^ 15) b) received.register
          ∙ sym (register-push b latest enough)
          ∙ ap (λ (l : List Bool). number_of (reverse (take 16 l))) (sym pushed);
      repeated = counted
          ∙ count-push (beq b oldest) (repeated_in latest) r.repeated received.repeated
          ∙ ap (λ (x : Bool). min 160 (cond (beq b x) (1 + repeated_in latest) 0)) before
          ∙ ap (min 160) (sym (repeated_in-push b latest enough))
          ∙ ap (λ (l : List Bool). min 160 (repeated_in l)) (sym pushed);
    }
