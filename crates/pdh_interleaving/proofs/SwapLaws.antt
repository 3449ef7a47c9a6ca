-- Bits that change places between two numbers, and the places from which they come after several exchanges.
use Rattle.std.proofs.Common.{◌≡◌, ℕ, zero, suc, ◌+◌, ◌-◌, ◌*◌, ◌/◌, ◌%◌, ◌^◌, ◌<◌, Bool, true, false, ◌&&◌, List, [], ◌∷◌, map, get_or, bit_and, bit_xor, inl, inr, refl, sym, ◌∙◌, ap, arith}
use Rattle.std.specs.Prelude.{if◌then◌else◌}
use Rattle.std.specs.List.{range_with_len}
use Rattle.std.proofs.lemmas.Bool.{cases_lt}
use Rattle.std.proofs.lemmas.List.FromFn.{get_or-map-range_with_len}
use Rattle.std.proofs.lemmas.Nat.{mod-mul-add, div-mul-add}
use Rattle.std.proofs.Math.Nat.{zero-add}
use Rattle.pdh_bits.specs.Bits.{bit}
use Rattle.pdh_packed.specs.Places.{differs}
use Rattle.pdh_interleaving.proofs.BitLaws.{bit-and, bit-xor, bit-shr, bit-shl_low, bit-shl_high}

-- the bit of one, or that of the other
picked : (a b here : Bool) → differs a (differs a b && here) ≡ (if here then b else a)
picked true true true = refl
picked true true false = refl
picked true false true = refl
picked true false false = refl
picked false true true = refl
picked false true false = refl
picked false false true = refl
picked false false false = refl

picked_back : (a b there : Bool) → differs b (differs a b && there) ≡ (if there then a else b)
picked_back true true true = refl
picked_back true true false = refl
picked_back true false true = refl
picked_back true false false = refl
picked_back false true true = refl
picked_back false true false = refl
picked_back false false true = refl
picked_back false false false = refl

differing_at : (h l s m k : ℕ) → bit (bit_and (bit_xor h (l / 2 ^ s)) m) k ≡ (differs (bit h k) (bit l (k + s)) && bit m k)
differing_at h l s m k =
    bit-and (bit_xor h (l / 2 ^ s)) m k ∙ ap (λ (b : Bool). b && bit m k) (bit-xor h (l / 2 ^ s) k ∙ ap (differs (bit h k)) (bit-shr l s k))

pub swapped_high : (h l s m k : ℕ) → bit (bit_xor h (bit_and (bit_xor h (l / 2 ^ s)) m)) k ≡ (if bit m k then bit l (k + s) else bit h k)
swapped_high h l s m k =
    bit-xor h (bit_and (bit_xor h (l / 2 ^ s)) m) k ∙ ap (differs (bit h k)) (differing_at h l s m k) ∙ picked (bit h k) (bit l (k + s)) (bit m k)

and_false : (b : Bool) → (b && false) ≡ false
and_false true = refl
and_false false = refl

differing_above : (h l s m k : ℕ) → bit (bit_and (bit_xor h (l / 2 ^ s)) m * 2 ^ s) k ≡ (differs (bit h (k - s)) (bit l k) && bit (m * 2 ^ s) k)
differing_above h l s m k =
    let d : ℕ = bit_and (bit_xor h (l / 2 ^ s)) m in
    let differ : Bool = differs (bit h (k - s)) (bit l k) in
    elim (cases_lt k s) [
      | inl low ↦ bit-shl_low d s k low ∙ sym (ap (λ (b : Bool). differ && b) (bit-shl_low m s k low) ∙ and_false differ)
      | inr high ↦
          let back : k - s + s ≡ k = omega arith in
          bit-shl_high d s k high ∙ differing_at h l s m (k - s)
          ∙ ap (λ (i : ℕ). differs (bit h (k - s)) (bit l i) && bit m (k - s)) back ∙ ap (λ (b : Bool). differ && b) (sym (bit-shl_high m s k high))
    ]

pub swapped_low : (h l s m k : ℕ) → bit (bit_xor l (bit_and (bit_xor h (l / 2 ^ s)) m * 2 ^ s)) k ≡ (if bit (m * 2 ^ s) k then bit h (k - s) else bit l k)
swapped_low h l s m k =
    let d : ℕ = bit_and (bit_xor h (l / 2 ^ s)) m * 2 ^ s in
    bit-xor l d k ∙ ap (differs (bit l k)) (differing_above h l s m k) ∙ picked_back (bit h (k - s)) (bit l k) (bit (m * 2 ^ s) k)

-- ---- four numbers

-- a place of one of several numbers
pub record Spot : Type 0 where
  pub word : ℕ
  pub place : ℕ

abbrev pub spot : ℕ → ℕ → Spot
spot w k = record { word = w; place = k }

abbrev pub bit_of_four : ℕ → ℕ → ℕ → ℕ → Spot → Bool
bit_of_four a b c d p = bit (get_or (a ∷ b ∷ c ∷ d ∷ []) p.word 0) p.place

-- the spot whose bit comes to a spot, where the first number is swapped with the third, and the second with the fourth
abbrev pub third_at : ℕ → ℕ → ℕ → ℕ → Spot
third_at s m zero k = (if bit m k then spot 2 (k + s) else spot 0 k)
third_at s m (suc zero) k = (if bit m k then spot 3 (k + s) else spot 1 k)
third_at s m (suc (suc zero)) k = (if bit (m * 2 ^ s) k then spot 0 (k - s) else spot 2 k)
third_at s m (suc (suc (suc zero))) k = (if bit (m * 2 ^ s) k then spot 1 (k - s) else spot 3 k)
third_at s m (suc (suc (suc (suc w)))) k = spot (suc (suc (suc (suc w)))) k

abbrev pub third : ℕ → ℕ → Spot → Spot
third s m p = third_at s m p.word p.place

-- and where the first is swapped with the second, and the third with the fourth
abbrev pub second_at : ℕ → ℕ → ℕ → ℕ → Spot
second_at s m zero k = (if bit m k then spot 1 (k + s) else spot 0 k)
second_at s m (suc zero) k = (if bit (m * 2 ^ s) k then spot 0 (k - s) else spot 1 k)
second_at s m (suc (suc zero)) k = (if bit m k then spot 3 (k + s) else spot 2 k)
second_at s m (suc (suc (suc zero))) k = (if bit (m * 2 ^ s) k then spot 2 (k - s) else spot 3 k)
second_at s m (suc (suc (suc (suc w)))) k = spot (suc (suc (suc (suc w)))) k

abbrev pub second : ℕ → ℕ → Spot → Spot
second s m p = second_at s m p.word p.place

pub chosen : (f : Spot → Bool) (here : Bool) (x y : Spot) → f (if here then x else y) ≡ (if here then f x else f y)
chosen f true x y = refl
chosen f false x y = refl

pub third_law : (s m a b c d e f g h : ℕ)
    → ((k : ℕ) → bit e k ≡ (if bit m k then bit c (k + s) else bit a k)) → ((k : ℕ) → bit g k ≡ (if bit (m * 2 ^ s) k then bit a (k - s) else bit c k))
    → ((k : ℕ) → bit f k ≡ (if bit m k then bit d (k + s) else bit b k)) → ((k : ℕ) → bit h k ≡ (if bit (m * 2 ^ s) k then bit b (k - s) else bit d k))
    → (p : Spot) → bit_of_four e f g h p ≡ bit_of_four a b c d (third s m p)
third_law s m a b c d e f g h is_e is_g is_f is_h p = at p.word p.place
  where
    at : (w k : ℕ) → bit (get_or (e ∷ f ∷ g ∷ h ∷ []) w 0) k ≡ bit_of_four a b c d (third_at s m w k)
    at zero k = is_e k ∙ sym (chosen (bit_of_four a b c d) (bit m k) (spot 2 (k + s)) (spot 0 k))
    at (suc zero) k = is_f k ∙ sym (chosen (bit_of_four a b c d) (bit m k) (spot 3 (k + s)) (spot 1 k))
    at (suc (suc zero)) k = is_g k ∙ sym (chosen (bit_of_four a b c d) (bit (m * 2 ^ s) k) (spot 0 (k - s)) (spot 2 k))
    at (suc (suc (suc zero))) k = is_h k ∙ sym (chosen (bit_of_four a b c d) (bit (m * 2 ^ s) k) (spot 1 (k - s)) (spot 3 k))
    at (suc (suc (suc (suc w)))) k = refl

pub second_law : (s m a b c d e f g h : ℕ)
    → ((k : ℕ) → bit e k ≡ (if bit m k then bit b (k + s) else bit a k)) → ((k : ℕ) → bit f k ≡ (if bit (m * 2 ^ s) k then bit a (k - s) else bit b k))
    → ((k : ℕ) → bit g k ≡ (if bit m k then bit d (k + s) else bit c k)) → ((k : ℕ) → bit h k ≡ (if bit (m * 2 ^ s) k then bit c (k - s) else bit d k))
    → (p : Spot) → bit_of_four e f g h p ≡ bit_of_four a b c d (second s m p)
second_law s m a b c d e f g h is_e is_f is_g is_h p = at p.word p.place
  where
    at : (w k : ℕ) → bit (get_or (e ∷ f ∷ g ∷ h ∷ []) w 0) k ≡ bit_of_four a b c d (second_at s m w k)
    at zero k = is_e k ∙ sym (chosen (bit_of_four a b c d) (bit m k) (spot 1 (k + s)) (spot 0 k))
    at (suc zero) k = is_f k ∙ sym (chosen (bit_of_four a b c d) (bit (m * 2 ^ s) k) (spot 0 (k - s)) (spot 1 k))
    at (suc (suc zero)) k = is_g k ∙ sym (chosen (bit_of_four a b c d) (bit m k) (spot 3 (k + s)) (spot 2 k))
    at (suc (suc (suc zero))) k = is_h k ∙ sym (chosen (bit_of_four a b c d) (bit (m * 2 ^ s) k) (spot 2 (k - s)) (spot 3 k))
    at (suc (suc (suc (suc w)))) k = refl

-- what is the same at each of so many places
pub same_spots : (f g : ℕ → Spot) (n q : ℕ) → map f (range_with_len 0 n) ≡ map g (range_with_len 0 n) → q < n → f q ≡ g q
same_spots f g n q same within =
    sym (get_or-map-range_with_len f 0 n q q (spot 0 0) within (zero-add q)) ∙ ap (λ (spots : List Spot). get_or spots q (spot 0 0)) same
    ∙ get_or-map-range_with_len g 0 n q q (spot 0 0) within (zero-add q)

-- four numbers whose bits come from such spots of four others have the columns of these
pub four_columns : (a b c d e f g h : ℕ) (from : Spot → Spot) → ((p : Spot) → bit_of_four e f g h p ≡ bit_of_four a b c d (from p))
    → map (λ q. from (spot (q / 64) (63 - q % 64))) (range_with_len 0 256) ≡ map (λ q. spot (q % 64 / 16) (63 - (q % 64 % 16 * 4 + q / 64))) (range_with_len 0 256)
    → (j i : ℕ) → j < 4 → i < 64 → bit (get_or (e ∷ f ∷ g ∷ h ∷ []) j 0) (63 - i) ≡ bit (get_or (a ∷ b ∷ c ∷ d ∷ []) (i / 16) 0) (63 - (i % 16 * 4 + j))
four_columns a b c d e f g h from moved places j i who within =
    let q : ℕ = j * 64 + i in
    let row : q % 64 ≡ i = mod-mul-add j 64 i within in
    let whose : q / 64 ≡ j = div-mul-add j 64 i within in
    let at : from (spot (q / 64) (63 - q % 64)) ≡ spot (q % 64 / 16) (63 - (q % 64 % 16 * 4 + q / 64)) =
    same_spots (λ r. from (spot (r / 64) (63 - r % 64))) (λ r. spot (r % 64 / 16) (63 - (r % 64 % 16 * 4 + r / 64))) 256 q places (omega arith) in
    let left : from (spot j (63 - i)) ≡ from (spot (q / 64) (63 - q % 64)) =
    ap (λ (w : ℕ). from (spot w (63 - i))) (sym whose) ∙ ap (λ (k : ℕ). from (spot (q / 64) (63 - k))) (sym row) in
    let right : spot (q % 64 / 16) (63 - (q % 64 % 16 * 4 + q / 64)) ≡ spot (i / 16) (63 - (i % 16 * 4 + j)) =
    ap (λ (k : ℕ). spot (k / 16) (63 - (k % 16 * 4 + q / 64))) row ∙ ap (λ (w : ℕ). spot (i / 16) (63 - (i % 16 * 4 + w))) whose in
    let comes : from (spot j (63 - i)) ≡ spot (i / 16) (63 - (i % 16 * 4 + j)) = left ∙ at ∙ right in
    moved (spot j (63 - i)) ∙ ap (bit_of_four a b c d) comes

-- and four whose bits come from such spots have the bits of these in turn
pub four_rows : (a b c d e f g h : ℕ) (from : Spot → Spot) → ((p : Spot) → bit_of_four e f g h p ≡ bit_of_four a b c d (from p))
    → map (λ q. from (spot (q / 64) (63 - q % 64))) (range_with_len 0 256) ≡ map (λ q. spot (q % 4) (63 - q / 4)) (range_with_len 0 256)
    → (j i : ℕ) → j < 4 → i < 64 → bit (get_or (e ∷ f ∷ g ∷ h ∷ []) (i / 16) 0) (63 - (i % 16 * 4 + j)) ≡ bit (get_or (a ∷ b ∷ c ∷ d ∷ []) j 0) (63 - i)
four_rows a b c d e f g h from moved places j i who within =
    let q : ℕ = i * 4 + j in
    let whose : q / 64 ≡ i / 16 = omega arith in
    let row : q % 64 ≡ i % 16 * 4 + j = omega arith in
    let at : from (spot (q / 64) (63 - q % 64)) ≡ spot (q % 4) (63 - q / 4) =
    same_spots (λ r. from (spot (r / 64) (63 - r % 64))) (λ r. spot (r % 4) (63 - r / 4)) 256 q places (omega arith) in
    let left : from (spot (i / 16) (63 - (i % 16 * 4 + j))) ≡ from (spot (q / 64) (63 - q % 64)) =
    ap (λ (w : ℕ). from (spot w (63 - (i % 16 * 4 + j)))) (sym whose) ∙ ap (λ (k : ℕ). from (spot (q / 64) (63 - k))) (sym row) in
    let right : spot (q % 4) (63 - q / 4) ≡ spot j (63 - i) =
    ap (λ (w : ℕ). spot w (63 - q / 4)) (mod-mul-add i 4 j who) ∙ ap (λ (k : ℕ). spot j (63 - k)) (div-mul-add i 4 j who) in
    let comes : from (spot (i / 16) (63 - (i % 16 * 4 + j))) ≡ spot j (63 - i) = left ∙ at ∙ right in
    moved (spot (i / 16) (63 - (i % 16 * 4 + j))) ∙ ap (bit_of_four a b c d) comes
