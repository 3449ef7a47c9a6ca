-- Bits that change places among eight numbers, and rows of seven bits.
use Rattle.std.proofs.Common.{◌≡◌, ℕ, zero, suc, ◌+◌, ◌-◌, ◌*◌, ◌/◌, ◌%◌, ◌^◌, ◌<◌, ◌≤◌, Bool, true, false, ◌&&◌, List, [], ◌∷◌, ◌++◌, length, map, take, get_or, bit_and, bit_xor, refl, sym, ◌∙◌, ap, arith, length-take}
use Rattle.std.specs.Prelude.{if◌then◌else◌}
use Rattle.std.specs.List.{range_with_len, flat_map}
use Rattle.std.proofs.lemmas.List.{get_or-take, get_or_append_left, get_or-append_right}
use Rattle.std.proofs.lemmas.List.FromFn.{get_or-map-range_with_len}
use Rattle.std.proofs.lemmas.Nat.{mod-mul-add, div-mul-add}
use Rattle.std.proofs.Math.Nat.{zero-add}
use Rattle.pdh_bits.specs.Bits.{bit}
use Rattle.pdh_bits.specs.BitOut.{BoundedBits}
use Rattle.pdh_packed.specs.Places.{differs}
use Rattle.pdh_packed.specs.Words.{low_bits}
use Rattle.pdh_packed.specs.WordLaws.{length-low_bits, get_or_low}
use Rattle.pdh_interleaving.specs.Interleaving.{column, appended_to_each, dealt, picked}
use Rattle.pdh_interleaving.proofs.DealtLaws.{appended_same, dealt_is}
use Rattle.pdh_interleaving.proofs.GatherLaws.{column_read}
use Rattle.pdh_interleaving.proofs.BitLaws.{bit-and, bit-xor, bit-shr}
use Rattle.pdh_interleaving.proofs.SwapLaws.{Spot, spot, chosen, same_spots}

-- ---- bits that are kept or moved

picked_is : (here there x y : Bool) → differs (x && here) (y && there) ≡ picked here there x y
picked_is true true true true = refl
picked_is true false true true = refl
picked_is false true true true = refl
picked_is false false true true = refl
picked_is true true true false = refl
picked_is true false true false = refl
picked_is false true true false = refl
picked_is false false true false = refl
picked_is true true false true = refl
picked_is true false false true = refl
picked_is false true false true = refl
picked_is false false false true = refl
picked_is true true false false = refl
picked_is true false false false = refl
picked_is false true false false = refl
picked_is false false false false = refl

pub moved_law : (w kept others s k : ℕ) → bit (bit_xor (bit_and w kept) (bit_and w others / 2 ^ s)) k ≡ picked (bit kept k) (bit others (k + s)) (bit w k) (bit w (k + s))
moved_law w kept others s k =
    bit-xor (bit_and w kept) (bit_and w others / 2 ^ s) k
    ∙ ap (λ (b : Bool). differs b (bit (bit_and w others / 2 ^ s) k)) (bit-and w kept k)
    ∙ ap (differs (bit w k && bit kept k)) (bit-shr (bit_and w others) s k ∙ bit-and w others (k + s))
    ∙ picked_is (bit kept k) (bit others (k + s)) (bit w k) (bit w (k + s))

-- what is the same at each of so many places
pub same_at : (f g : ℕ → Bool) (n q : ℕ) → map f (range_with_len 0 n) ≡ map g (range_with_len 0 n) → q < n → f q ≡ g q
same_at f g n q same within =
    sym (get_or-map-range_with_len f 0 n q q false within (zero-add q)) ∙ ap (λ (bits : List Bool). get_or bits q false) same
    ∙ get_or-map-range_with_len g 0 n q q false within (zero-add q)

-- ---- eight numbers

abbrev pub bit_of_eight : ℕ → ℕ → ℕ → ℕ → ℕ → ℕ → ℕ → ℕ → Spot → Bool
bit_of_eight a b c d e f g h p = bit (get_or (a ∷ b ∷ c ∷ d ∷ e ∷ f ∷ g ∷ h ∷ []) p.word 0) p.place

-- the spot whose bit comes to a spot, where each number is swapped with the one 4 behind it
abbrev pub by_four_at : ℕ → ℕ → ℕ → ℕ → Spot
by_four_at s m zero k = (if bit m k then spot 4 (k + s) else spot 0 k)
by_four_at s m (suc zero) k = (if bit m k then spot 5 (k + s) else spot 1 k)
by_four_at s m (suc (suc zero)) k = (if bit m k then spot 6 (k + s) else spot 2 k)
by_four_at s m (suc (suc (suc zero))) k = (if bit m k then spot 7 (k + s) else spot 3 k)
by_four_at s m (suc (suc (suc (suc zero)))) k = (if bit (m * 2 ^ s) k then spot 0 (k - s) else spot 4 k)
by_four_at s m (suc (suc (suc (suc (suc zero))))) k = (if bit (m * 2 ^ s) k then spot 1 (k - s) else spot 5 k)
by_four_at s m (suc (suc (suc (suc (suc (suc zero)))))) k = (if bit (m * 2 ^ s) k then spot 2 (k - s) else spot 6 k)
by_four_at s m (suc (suc (suc (suc (suc (suc (suc zero))))))) k = (if bit (m * 2 ^ s) k then spot 3 (k - s) else spot 7 k)
by_four_at s m (suc (suc (suc (suc (suc (suc (suc (suc w)))))))) k = spot (suc (suc (suc (suc (suc (suc (suc (suc w)))))))) k

abbrev pub by_four : ℕ → ℕ → Spot → Spot
by_four s m p = by_four_at s m p.word p.place

pub by_four_law : (s m a b c d e f g h a2 b2 c2 d2 e2 f2 g2 h2 : ℕ)
    → ((k : ℕ) → bit a2 k ≡ (if bit m k then bit e (k + s) else bit a k)) → ((k : ℕ) → bit e2 k ≡ (if bit (m * 2 ^ s) k then bit a (k - s) else bit e k))
    → ((k : ℕ) → bit b2 k ≡ (if bit m k then bit f (k + s) else bit b k)) → ((k : ℕ) → bit f2 k ≡ (if bit (m * 2 ^ s) k then bit b (k - s) else bit f k))
    → ((k : ℕ) → bit c2 k ≡ (if bit m k then bit g (k + s) else bit c k)) → ((k : ℕ) → bit g2 k ≡ (if bit (m * 2 ^ s) k then bit c (k - s) else bit g k))
    → ((k : ℕ) → bit d2 k ≡ (if bit m k then bit h (k + s) else bit d k)) → ((k : ℕ) → bit h2 k ≡ (if bit (m * 2 ^ s) k then bit d (k - s) else bit h k))
    → (p : Spot) → bit_of_eight a2 b2 c2 d2 e2 f2 g2 h2 p ≡ bit_of_eight a b c d e f g h (by_four s m p)
by_four_law s m a b c d e f g h a2 b2 c2 d2 e2 f2 g2 h2 is_a is_e is_b is_f is_c is_g is_d is_h p = at p.word p.place
  where
    at : (w k : ℕ) → bit (get_or (a2 ∷ b2 ∷ c2 ∷ d2 ∷ e2 ∷ f2 ∷ g2 ∷ h2 ∷ []) w 0) k ≡ bit_of_eight a b c d e f g h (by_four_at s m w k)
    at zero k = is_a k ∙ sym (chosen (bit_of_eight a b c d e f g h) (bit m k) (spot 4 (k + s)) (spot 0 k))
    at (suc zero) k = is_b k ∙ sym (chosen (bit_of_eight a b c d e f g h) (bit m k) (spot 5 (k + s)) (spot 1 k))
    at (suc (suc zero)) k = is_c k ∙ sym (chosen (bit_of_eight a b c d e f g h) (bit m k) (spot 6 (k + s)) (spot 2 k))
    at (suc (suc (suc zero))) k = is_d k ∙ sym (chosen (bit_of_eight a b c d e f g h) (bit m k) (spot 7 (k + s)) (spot 3 k))
    at (suc (suc (suc (suc zero)))) k = is_e k ∙ sym (chosen (bit_of_eight a b c d e f g h) (bit (m * 2 ^ s) k) (spot 0 (k - s)) (spot 4 k))
    at (suc (suc (suc (suc (suc zero))))) k = is_f k ∙ sym (chosen (bit_of_eight a b c d e f g h) (bit (m * 2 ^ s) k) (spot 1 (k - s)) (spot 5 k))
    at (suc (suc (suc (suc (suc (suc zero)))))) k = is_g k ∙ sym (chosen (bit_of_eight a b c d e f g h) (bit (m * 2 ^ s) k) (spot 2 (k - s)) (spot 6 k))
    at (suc (suc (suc (suc (suc (suc (suc zero))))))) k = is_h k ∙ sym (chosen (bit_of_eight a b c d e f g h) (bit (m * 2 ^ s) k) (spot 3 (k - s)) (spot 7 k))
    at (suc (suc (suc (suc (suc (suc (suc (suc w)))))))) k = refl

-- the spot whose bit comes to a spot, where each number is swapped with the one 2 behind it
abbrev pub by_two_at : ℕ → ℕ → ℕ → ℕ → Spot
by_two_at s m zero k = (if bit m k then spot 2 (k + s) else spot 0 k)
by_two_at s m (suc zero) k = (if bit m k then spot 3 (k + s) else spot 1 k)
by_two_at s m (suc (suc zero)) k = (if bit (m * 2 ^ s) k then spot 0 (k - s) else spot 2 k)
by_two_at s m (suc (suc (suc zero))) k = (if bit (m * 2 ^ s) k then spot 1 (k - s) else spot 3 k)
by_two_at s m (suc (suc (suc (suc zero)))) k = (if bit m k then spot 6 (k + s) else spot 4 k)
by_two_at s m (suc (suc (suc (suc (suc zero))))) k = (if bit m k then spot 7 (k + s) else spot 5 k)
by_two_at s m (suc (suc (suc (suc (suc (suc zero)))))) k = (if bit (m * 2 ^ s) k then spot 4 (k - s) else spot 6 k)
by_two_at s m (suc (suc (suc (suc (suc (suc (suc zero))))))) k = (if bit (m * 2 ^ s) k then spot 5 (k - s) else spot 7 k)
by_two_at s m (suc (suc (suc (suc (suc (suc (suc (suc w)))))))) k = spot (suc (suc (suc (suc (suc (suc (suc (suc w)))))))) k

abbrev pub by_two : ℕ → ℕ → Spot → Spot
by_two s m p = by_two_at s m p.word p.place

pub by_two_law : (s m a b c d e f g h a2 b2 c2 d2 e2 f2 g2 h2 : ℕ)
    → ((k : ℕ) → bit a2 k ≡ (if bit m k then bit c (k + s) else bit a k)) → ((k : ℕ) → bit c2 k ≡ (if bit (m * 2 ^ s) k then bit a (k - s) else bit c k))
    → ((k : ℕ) → bit b2 k ≡ (if bit m k then bit d (k + s) else bit b k)) → ((k : ℕ) → bit d2 k ≡ (if bit (m * 2 ^ s) k then bit b (k - s) else bit d k))
    → ((k : ℕ) → bit e2 k ≡ (if bit m k then bit g (k + s) else bit e k)) → ((k : ℕ) → bit g2 k ≡ (if bit (m * 2 ^ s) k then bit e (k - s) else bit g k))
    → ((k : ℕ) → bit f2 k ≡ (if bit m k then bit h (k + s) else bit f k)) → ((k : ℕ) → bit h2 k ≡ (if bit (m * 2 ^ s) k then bit f (k - s) else bit h k))
    → (p : Spot) → bit_of_eight a2 b2 c2 d2 e2 f2 g2 h2 p ≡ bit_of_eight a b c d e f g h (by_two s m p)
by_two_law s m a b c d e f g h a2 b2 c2 d2 e2 f2 g2 h2 is_a is_c is_b is_d is_e is_g is_f is_h p = at p.word p.place
  where
    at : (w k : ℕ) → bit (get_or (a2 ∷ b2 ∷ c2 ∷ d2 ∷ e2 ∷ f2 ∷ g2 ∷ h2 ∷ []) w 0) k ≡ bit_of_eight a b c d e f g h (by_two_at s m w k)
    at zero k = is_a k ∙ sym (chosen (bit_of_eight a b c d e f g h) (bit m k) (spot 2 (k + s)) (spot 0 k))
    at (suc zero) k = is_b k ∙ sym (chosen (bit_of_eight a b c d e f g h) (bit m k) (spot 3 (k + s)) (spot 1 k))
    at (suc (suc zero)) k = is_c k ∙ sym (chosen (bit_of_eight a b c d e f g h) (bit (m * 2 ^ s) k) (spot 0 (k - s)) (spot 2 k))
    at (suc (suc (suc zero))) k = is_d k ∙ sym (chosen (bit_of_eight a b c d e f g h) (bit (m * 2 ^ s) k) (spot 1 (k - s)) (spot 3 k))
    at (suc (suc (suc (suc zero)))) k = is_e k ∙ sym (chosen (bit_of_eight a b c d e f g h) (bit m k) (spot 6 (k + s)) (spot 4 k))
    at (suc (suc (suc (suc (suc zero))))) k = is_f k ∙ sym (chosen (bit_of_eight a b c d e f g h) (bit m k) (spot 7 (k + s)) (spot 5 k))
    at (suc (suc (suc (suc (suc (suc zero)))))) k = is_g k ∙ sym (chosen (bit_of_eight a b c d e f g h) (bit (m * 2 ^ s) k) (spot 4 (k - s)) (spot 6 k))
    at (suc (suc (suc (suc (suc (suc (suc zero))))))) k = is_h k ∙ sym (chosen (bit_of_eight a b c d e f g h) (bit (m * 2 ^ s) k) (spot 5 (k - s)) (spot 7 k))
    at (suc (suc (suc (suc (suc (suc (suc (suc w)))))))) k = refl

-- the spot whose bit comes to a spot, where each number is swapped with the one 1 behind it
abbrev pub by_one_at : ℕ → ℕ → ℕ → ℕ → Spot
by_one_at s m zero k = (if bit m k then spot 1 (k + s) else spot 0 k)
by_one_at s m (suc zero) k = (if bit (m * 2 ^ s) k then spot 0 (k - s) else spot 1 k)
by_one_at s m (suc (suc zero)) k = (if bit m k then spot 3 (k + s) else spot 2 k)
by_one_at s m (suc (suc (suc zero))) k = (if bit (m * 2 ^ s) k then spot 2 (k - s) else spot 3 k)
by_one_at s m (suc (suc (suc (suc zero)))) k = (if bit m k then spot 5 (k + s) else spot 4 k)
by_one_at s m (suc (suc (suc (suc (suc zero))))) k = (if bit (m * 2 ^ s) k then spot 4 (k - s) else spot 5 k)
by_one_at s m (suc (suc (suc (suc (suc (suc zero)))))) k = (if bit m k then spot 7 (k + s) else spot 6 k)
by_one_at s m (suc (suc (suc (suc (suc (suc (suc zero))))))) k = (if bit (m * 2 ^ s) k then spot 6 (k - s) else spot 7 k)
by_one_at s m (suc (suc (suc (suc (suc (suc (suc (suc w)))))))) k = spot (suc (suc (suc (suc (suc (suc (suc (suc w)))))))) k

abbrev pub by_one : ℕ → ℕ → Spot → Spot
by_one s m p = by_one_at s m p.word p.place

pub by_one_law : (s m a b c d e f g h a2 b2 c2 d2 e2 f2 g2 h2 : ℕ)
    → ((k : ℕ) → bit a2 k ≡ (if bit m k then bit b (k + s) else bit a k)) → ((k : ℕ) → bit b2 k ≡ (if bit (m * 2 ^ s) k then bit a (k - s) else bit b k))
    → ((k : ℕ) → bit c2 k ≡ (if bit m k then bit d (k + s) else bit c k)) → ((k : ℕ) → bit d2 k ≡ (if bit (m * 2 ^ s) k then bit c (k - s) else bit d k))
    → ((k : ℕ) → bit e2 k ≡ (if bit m k then bit f (k + s) else bit e k)) → ((k : ℕ) → bit f2 k ≡ (if bit (m * 2 ^ s) k then bit e (k - s) else bit f k))
    → ((k : ℕ) → bit g2 k ≡ (if bit m k then bit h (k + s) else bit g k)) → ((k : ℕ) → bit h2 k ≡ (if bit (m * 2 ^ s) k then bit g (k - s) else bit h k))
    → (p : Spot) → bit_of_eight a2 b2 c2 d2 e2 f2 g2 h2 p ≡ bit_of_eight a b c d e f g h (by_one s m p)
by_one_law s m a b c d e f g h a2 b2 c2 d2 e2 f2 g2 h2 is_a is_b is_c is_d is_e is_f is_g is_h p = at p.word p.place
  where
    at : (w k : ℕ) → bit (get_or (a2 ∷ b2 ∷ c2 ∷ d2 ∷ e2 ∷ f2 ∷ g2 ∷ h2 ∷ []) w 0) k ≡ bit_of_eight a b c d e f g h (by_one_at s m w k)
    at zero k = is_a k ∙ sym (chosen (bit_of_eight a b c d e f g h) (bit m k) (spot 1 (k + s)) (spot 0 k))
    at (suc zero) k = is_b k ∙ sym (chosen (bit_of_eight a b c d e f g h) (bit (m * 2 ^ s) k) (spot 0 (k - s)) (spot 1 k))
    at (suc (suc zero)) k = is_c k ∙ sym (chosen (bit_of_eight a b c d e f g h) (bit m k) (spot 3 (k + s)) (spot 2 k))
    at (suc (suc (suc zero))) k = is_d k ∙ sym (chosen (bit_of_eight a b c d e f g h) (bit (m * 2 ^ s) k) (spot 2 (k - s)) (spot 3 k))
    at (suc (suc (suc (suc zero)))) k = is_e k ∙ sym (chosen (bit_of_eight a b c d e f g h) (bit m k) (spot 5 (k + s)) (spot 4 k))
    at (suc (suc (suc (suc (suc zero))))) k = is_f k ∙ sym (chosen (bit_of_eight a b c d e f g h) (bit (m * 2 ^ s) k) (spot 4 (k - s)) (spot 5 k))
    at (suc (suc (suc (suc (suc (suc zero)))))) k = is_g k ∙ sym (chosen (bit_of_eight a b c d e f g h) (bit m k) (spot 7 (k + s)) (spot 6 k))
    at (suc (suc (suc (suc (suc (suc (suc zero))))))) k = is_h k ∙ sym (chosen (bit_of_eight a b c d e f g h) (bit (m * 2 ^ s) k) (spot 6 (k - s)) (spot 7 k))
    at (suc (suc (suc (suc (suc (suc (suc (suc w)))))))) k = refl

pub eight_columns : (a b c d e f g h a2 b2 c2 d2 e2 f2 g2 h2 : ℕ) (from : Spot → Spot) → ((p : Spot) → bit_of_eight a2 b2 c2 d2 e2 f2 g2 h2 p ≡ bit_of_eight a b c d e f g h (from p))
    → map (λ q. from (spot (q / 64) (63 - q % 64))) (range_with_len 0 448) ≡ map (λ q. spot (q % 64 / 8) (63 - (q % 64 % 8 * 8 + q / 64))) (range_with_len 0 448)
    → (j i : ℕ) → j < 7 → i < 64 → bit_of_eight a2 b2 c2 d2 e2 f2 g2 h2 (spot j (63 - i)) ≡ bit_of_eight a b c d e f g h (spot (i / 8) (63 - (i % 8 * 8 + j)))
eight_columns a b c d e f g h a2 b2 c2 d2 e2 f2 g2 h2 from moved places j i who within =
    let q : ℕ = j * 64 + i in
    let row : q % 64 ≡ i = mod-mul-add j 64 i within in
    let whose : q / 64 ≡ j = div-mul-add j 64 i within in
    let at : from (spot (q / 64) (63 - q % 64)) ≡ spot (q % 64 / 8) (63 - (q % 64 % 8 * 8 + q / 64)) =
    same_spots (λ r. from (spot (r / 64) (63 - r % 64))) (λ r. spot (r % 64 / 8) (63 - (r % 64 % 8 * 8 + r / 64))) 448 q places (omega arith) in
    let left : from (spot j (63 - i)) ≡ from (spot (q / 64) (63 - q % 64)) =
    ap (λ (w : ℕ). from (spot w (63 - i))) (sym whose) ∙ ap (λ (k : ℕ). from (spot (q / 64) (63 - k))) (sym row) in
    let right : spot (q % 64 / 8) (63 - (q % 64 % 8 * 8 + q / 64)) ≡ spot (i / 8) (63 - (i % 8 * 8 + j)) =
    ap (λ (k : ℕ). spot (k / 8) (63 - (k % 8 * 8 + q / 64))) row ∙ ap (λ (w : ℕ). spot (i / 8) (63 - (i % 8 * 8 + w))) whose in
    moved (spot j (63 - i)) ∙ ap (bit_of_eight a b c d e f g h) (left ∙ at ∙ right)

-- the bits that eight rows of seven have in a word
abbrev pub row_bits : ℕ → List Bool
row_bits word = take 56 (low_bits 64 word)

length-row_bits : (word : ℕ) → length (take 56 (low_bits 64 word)) ≡ 56
length-row_bits word = omega (arith, length-take 56 (low_bits 64 word), length-low_bits 64 word)

pub get_or-rows : (words : List ℕ) (i r : ℕ) → i < length words → r < 56 → get_or (flat_map row_bits words) (56 * i + r) false ≡ bit (get_or words i 0) (63 - r)
get_or-rows [] i r inside few = absurd (omega arith)
get_or-rows (w ∷ words) zero r inside few =
    let at : 56 * 0 + r ≡ r = omega arith in
    ap (λ (k : ℕ). get_or (row_bits w ++ flat_map row_bits words) k false) at ∙ get_or_append_left (row_bits w) (flat_map row_bits words) false r (omega (arith, length-row_bits w, few))
    ∙ get_or-take 56 (low_bits 64 w) r false few ∙ get_or_low r 64 w false (omega (arith, few))
get_or-rows (w ∷ words) (suc i) r inside few =
    let at : 56 * suc i + r - 56 ≡ 56 * i + r = omega arith in
    get_or-append_right (row_bits w) (flat_map row_bits words) 56 (56 * suc i + r) false (length-row_bits w) (omega arith)
    ∙ ap (λ (k : ℕ). get_or (flat_map row_bits words) k false) at ∙ get_or-rows words i r (omega (arith, inside)) few

-- a word whose rows of another are moved into bytes
abbrev pub HasRows : ℕ → ℕ → Type 0
HasRows w word = (q : ℕ) → q < 56 → bit w (63 - (q / 7 * 8 + q % 7)) ≡ bit word (63 - q)

byte_read : (w word row j : ℕ) → HasRows w word → row < 8 → j < 7 → bit w (63 - (row * 8 + j)) ≡ bit word (63 - (row * 7 + j))
byte_read w word row j has few who =
    let q : ℕ = row * 7 + j in
    let begun : q / 7 ≡ row = div-mul-add row 7 j who in
    let turn : q % 7 ≡ j = mod-mul-add row 7 j who in
    ap (λ (k : ℕ). bit w (63 - (k * 8 + j))) (sym begun) ∙ ap (λ (k : ℕ). bit w (63 - (q / 7 * 8 + k))) (sym turn) ∙ has q (omega (arith, few, who))

-- seven numbers that have the columns of eight words so moved, as the code deals them
pub seven_dealt : (words columns : List ℕ) (a b c d e f g h count : ℕ) (lists : List BoundedBits) → length words ≡ 8 → length lists ≡ 7 → count ≤ 64
    → HasRows a (get_or words 0 0) → HasRows b (get_or words 1 0) → HasRows c (get_or words 2 0) → HasRows d (get_or words 3 0)
    → HasRows e (get_or words 4 0) → HasRows f (get_or words 5 0) → HasRows g (get_or words 6 0) → HasRows h (get_or words 7 0)
    → ((j i : ℕ) → j < 7 → i < 64 → bit (get_or columns j 0) (63 - i) ≡ bit_of_eight a b c d e f g h (spot (i / 8) (63 - (i % 8 * 8 + j))))
    → appended_to_each (λ j. take count (low_bits 64 (get_or columns j 0))) 0 lists ≡ dealt count (flat_map row_bits words) lists
seven_dealt words columns a b c d e f g h count lists eight seven few is_a is_b is_c is_d is_e is_f is_g is_h are =
    appended_same (λ j. take count (low_bits 64 (get_or columns j 0))) (column (length lists) count (flat_map row_bits words)) 0 lists
    (λ j inside. one j (omega (arith, inside, seven)) ∙ ap (λ (k : ℕ). column k count (flat_map row_bits words) j) (sym seven))
    ∙ sym (dealt_is count (flat_map row_bits words) lists)
  where
    which : (k row j : ℕ) → k < 8 → row < 8 → j < 7 → bit_of_eight a b c d e f g h (spot k (63 - (row * 8 + j))) ≡ bit (get_or words k 0) (63 - (row * 7 + j))
    which zero row j within few who = byte_read a (get_or words 0 0) row j is_a few who
    which (suc zero) row j within few who = byte_read b (get_or words 1 0) row j is_b few who
    which (suc (suc zero)) row j within few who = byte_read c (get_or words 2 0) row j is_c few who
    which (suc (suc (suc zero))) row j within few who = byte_read d (get_or words 3 0) row j is_d few who
    which (suc (suc (suc (suc zero)))) row j within few who = byte_read e (get_or words 4 0) row j is_e few who
    which (suc (suc (suc (suc (suc zero))))) row j within few who = byte_read f (get_or words 5 0) row j is_f few who
    which (suc (suc (suc (suc (suc (suc zero)))))) row j within few who = byte_read g (get_or words 6 0) row j is_g few who
    which (suc (suc (suc (suc (suc (suc (suc zero))))))) row j within few who = byte_read h (get_or words 7 0) row j is_h few who
    which (suc (suc (suc (suc (suc (suc (suc (suc k)))))))) row j within few who = absurd (omega (arith, within))

    at : (j i : ℕ) → j < 7 → i < count → bit (get_or columns j 0) (63 - i) ≡ get_or (flat_map row_bits words) (i * 7 + j) false
    at j i who inside =
        let row : ℕ = i % 8 * 7 + j in
        let within : i / 8 < 8 = omega (arith, inside, few) in
        let place : 56 * (i / 8) + row ≡ i * 7 + j = omega arith in
        are j i who (omega (arith, inside, few)) ∙ which (i / 8) (i % 8) j within (omega arith) who
        ∙ sym (get_or-rows words (i / 8) row (omega (arith, within, eight)) (omega (arith, who))) ∙ ap (λ (k : ℕ). get_or (flat_map row_bits words) k false) place

    one : (j : ℕ) → j < 7 → take count (low_bits 64 (get_or columns j 0)) ≡ column 7 count (flat_map row_bits words) j
    one j who = column_read (get_or columns j 0) 7 count j (flat_map row_bits words) few (λ i inside. at j i who inside)
