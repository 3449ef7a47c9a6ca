-- The bounds of a frame: how far the bits of a tributary that arrive in it and those that are read may be apart at each slot.
use Rattle.std.proofs.Common.{◌≡◌, ℕ, suc, ◌+◌, ◌*◌, ◌/◌, ◌<◌, ◌≤◌, Bool, true, false, ◌&&◌, cond, eqb, List, [], ◌∷◌, refl, inl, inr, arith}
use Rattle.std.specs.Prelude.{count_by}
use Rattle.std.specs.List.{range_with_len}
use Rattle.std.proofs.lemmas.Bool.{cases_lt}
use Rattle.std.proofs.lemmas.List.Sums.{sum_by-cons}
use Rattle.std.proofs.Math.Nat.{lt-div-mul-add, div-mul-le_self, mul-le-mul_right, mul-le-mul_left}
use Rattle.pdh_shape.specs.declared.role.Role.{Role}
use Rattle.pdh_shape.specs.declared.role.Role.TheVariants.{Align, Service, Control, Just, Info}
use Rattle.pdh_shape.specs.Frame.{FrameShape, IsFrame, slots}
use Rattle.pdh_shape.specs.Tributary.{reads_from, is_just, HasTributaries, reads_below, ReadsEvenly}
use Rattle.pdh_shape.specs.laws.Ranges.{count-range_grows}
use Rattle.pdh_line.specs.Sending.{arrived_in}

pub lt_of_mul : (a b c : ℕ) → a * c < b * c → a < b
lt_of_mul a b c h = elim (cases_lt a b) [ inl lt ↦ lt | inr ge ↦ absurd (omega (arith, mul-le-mul_right c ge)) ]

reads-just : (j : ℕ) (r : Role) → cond (reads_from j true r) 1 0 ≡ cond (reads_from j false r) 1 0 + cond (is_just j r) 1 0
reads-just j (Just i) = go (eqb i j)
  where
    go : (b : Bool) → cond (b && true) 1 0 ≡ cond (b && false) 1 0 + cond b 1 0
    go true = refl
    go false = refl
reads-just j (Info i) = go (eqb i j)
  where
    go : (b : Bool) → cond b 1 0 ≡ cond b 1 0 + 0
    go true = refl
    go false = refl
reads-just j (Align signal) = refl
reads-just j (Service number) = refl
reads-just j (Control i copy) = refl

count-just : (s : FrameShape) (j : ℕ) (xs : List ℕ)
    → count_by (λ t. reads_from j true (s.role t)) xs ≡ count_by (λ t. reads_from j false (s.role t)) xs + count_by (λ t. is_just j (s.role t)) xs
count-just s j [] = refl
count-just s j (x ∷ xs) =
    let rest = count-just s j xs in
    let a = sum_by-cons (λ t. cond (reads_from j true (s.role t)) 1 0) x xs in
    let b = sum_by-cons (λ t. cond (reads_from j false (s.role t)) 1 0) x xs in
    let c = sum_by-cons (λ t. cond (is_just j (s.role t)) 1 0) x xs in
    omega (arith, reads-just j (s.role x), a, b, c, rest)

-- the justifiable slot adds at most one bit
pub reads_below-more : (s : FrameShape) (j t : ℕ) → HasTributaries s → j < s.tribs → t ≤ s.len → reads_below s j true t ≤ reads_below s j false t + 1
reads_below-more s j t has known h =
    let all : count_by (λ t. is_just j (s.role t)) (slots s) ≡ 1 = omega (arith, count-just s j (slots s), has.low j known, has.high j known) in
    omega (arith, count-just s j (range_with_len 0 t), count-range_grows (λ t. is_just j (s.role t)) t s.len h)

-- The reads before a slot are at most so many more than the arrivals before it, where the frame brings at most d bits fewer than it
-- carries at least, and whether it carries an additional bit or not.
pub reads-few : (s : FrameShape) (j count d t : ℕ) (more : Bool) → IsFrame s → HasTributaries s → ReadsEvenly s → j < s.tribs → s.low ≤ count + d → t ≤ s.len
    → reads_below s j more t ≤ arrived_in s count t + (d + 3)
reads-few s j count d t more frame has even known least h =
    let share : t * s.low ≤ t * (count + d) = mul-le-mul_left t least in
    let allowed : t * d ≤ s.len * d = mul-le-mul_right d h in
    let floor : t * count < t * count / s.len * s.len + s.len = lt-div-mul-add frame.some_slots in
    let scaled : reads_below s j false t * s.len < (t * count / s.len + (d + 3)) * s.len = omega (arith, even.ahead j t known h) in
    let read : reads_below s j false t < t * count / s.len + (d + 3) = lt_of_mul _ _ s.len scaled in
    with_more more read
  where
    with_more : (more : Bool) → reads_below s j false t < arrived_in s count t + (d + 3) → reads_below s j more t ≤ arrived_in s count t + (d + 3)
    with_more true read = omega (arith, read, reads_below-more s j t has known h)
    with_more false read = omega (arith, read)

-- The arrivals up to a slot are at most so many more than the reads before it, where the frame carries an additional bit and brings
-- at most e bits more than it carries.
pub arrivals-few : (s : FrameShape) (j count e t : ℕ) → IsFrame s → ReadsEvenly s → j < s.tribs → count ≤ suc s.low + e → t < s.len
    → arrived_in s count (suc t) ≤ reads_below s j true t + (e + 5)
arrivals-few s j count e t frame even known most h =
    let share : suc t * count ≤ suc t * (suc s.low + e) = mul-le-mul_left (suc t) most in
    let allowed : suc t * e ≤ s.len * e = mul-le-mul_right e (omega arith) in
    let floor : suc t * count / s.len * s.len ≤ suc t * count = div-mul-le_self (suc t * count) s.len in
    let scaled : suc t * count / s.len * s.len ≤ (reads_below s j true t + (e + 5)) * s.len = omega (arith, even.behind j t known h) in
    le_of_mul _ _ s.len frame.some_slots scaled
  where
    le_of_mul : (a b c : ℕ) → 0 < c → a * c ≤ b * c → a ≤ b
    le_of_mul a b c p h = elim (cases_lt b a) [ inl lt ↦ absurd (omega (arith, mul-le-mul_right c lt)) | inr ge ↦ ge ]

-- and one more, where it may carry none
pub arrivals-few_any : (s : FrameShape) (j count e t : ℕ) (more : Bool) → IsFrame s → HasTributaries s → ReadsEvenly s → j < s.tribs → count ≤ suc s.low + e → t < s.len
    → arrived_in s count (suc t) ≤ reads_below s j more t + (e + 6)
arrivals-few_any s j count e t true frame has even known most h = omega (arith, arrivals-few s j count e t frame even known most h)
arrivals-few_any s j count e t false frame has even known most h = omega (arith, arrivals-few s j count e t frame even known most h, reads_below-more s j t has known (omega arith))
