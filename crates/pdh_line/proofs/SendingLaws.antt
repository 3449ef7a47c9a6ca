-- What one more frame and one more slot do to the sums of sending.
use Rattle.std.proofs.Common.{◌≡◌, ℕ, zero, suc, ◌+◌, ◌-◌, ◌*◌, ◌/◌, ◌%◌, ◌<◌, ◌≤◌, Bool, true, false, ◌||◌, not, cond, ltb, leb, eqb, [], ◌∷◌, refl, sym, ap, ◌∙◌, subst, inl, inr, arith, add-zero, zero-add}
use Rattle.std.specs.Prelude.{sum_by}
use Rattle.std.specs.List.{range_with_len}
use Rattle.std.proofs.lemmas.Bool.{lt-ltb, le-ltb, lt-leb, le-leb, cases_lt}
use Rattle.std.proofs.lemmas.Nat.{div-mul-add, mod-mul-add, div-add-mod', le-div}
use Rattle.std.proofs.Math.Nat.{div-mul-le_self}
use Rattle.std.proofs.lemmas.List.Sums.{sum_by-cons, sum_by-append}
use Rattle.std.proofs.Math.Dec.{eqb-suc-zero}
use Rattle.pdh_shape.specs.Frame.{FrameShape, IsFrame}
use Rattle.pdh_shape.specs.Tributary.{reads_from, HasTributaries, reads_below}
use Rattle.pdh_line.specs.Progress.{arrived, entered_by, short_by}
use Rattle.pdh_shape.specs.OwnNumbers.{lead, threshold, allowance}
use Rattle.pdh_line.specs.Sending.{arrived_in, arrives_at, carried, sent, sends_more, came_before, read_before, shape_numbers, taken, given, entered}
use Rattle.pdh_line.proofs.Ranges.{range_push, count-range_push}
pub use Rattle.pdh_line.specs.Sending.{HasStores}

pub has_stores : (n : ℕ) → 0 < n → eqb n 0 ≡ false
has_stores zero h = absurd (omega arith)
has_stores (suc n) h = eqb-suc-zero n

-- ---- frames

pub arrived-zero : (counts : ℕ → ℕ) → arrived counts 0 ≡ 0
unfolding arrived
arrived-zero counts = refl

pub arrived-suc : (counts : ℕ → ℕ) (n : ℕ) → arrived counts (suc n) ≡ arrived counts n + counts n
unfolding arrived
arrived-suc counts n =
    ap (sum_by counts) (range_push 0 n) ∙ sum_by-append counts (range_with_len 0 n) ((0 + n) ∷ []) ∙ ap (λ k. sum_by counts (range_with_len 0 n) + k) (one (0 + n) ∙ ap counts (zero-add n))
  where
    one : (k : ℕ) → sum_by counts (k ∷ []) ≡ counts k
    one k = sum_by-cons counts k [] ∙ add-zero (counts k)

pub sent-zero : (s : FrameShape) (counts : ℕ → ℕ) → sent s counts 0 ≡ 0
unfolding sent
sent-zero s counts = refl

pub sent-suc : (s : FrameShape) (counts : ℕ → ℕ) (n : ℕ) → sent s counts (suc n) ≡ sent s counts n + carried s (sends_more s counts n)
unfolding sent
sent-suc s counts n = refl

-- with a store a frame carries an additional bit exactly where what was sent and the threshold don't exceed what came
pub sends_more-is : (s : FrameShape) (counts : ℕ → ℕ) (n : ℕ) → HasStores s → sends_more s counts n ≡ leb (sent s counts n + threshold) (lead + arrived counts n)
sends_more-is s counts n stores =
    ap (λ b. not (b || ltb (lead + arrived counts n) (sent s counts n + threshold))) stores ∙ turned (lead + arrived counts n) (sent s counts n + threshold)
  where
    turned : (a b : ℕ) → not (ltb a b) ≡ leb b a
    turned a b = elim (cases_lt a b) [ inl lt ↦ rw (lt-ltb a b lt, lt-leb b a lt) refl | inr ge ↦ rw (le-ltb a b ge, le-leb b a ge) refl ]

-- by the fill at the frame's start
pub sends_more-fill : (s : FrameShape) (counts : ℕ → ℕ) (n fill : ℕ) → HasStores s → sent s counts n + fill ≡ lead + arrived counts n → sends_more s counts n ≡ leb threshold fill
sends_more-fill s counts n fill stores held =
    sends_more-is s counts n stores ∙ elim (cases_lt fill threshold) [
      | inl few ↦ lt-leb _ _ (omega arith) ∙ sym (lt-leb _ _ few)
      | inr enough ↦ le-leb _ _ (omega arith) ∙ sym (le-leb _ _ enough)
    ]

-- without a store a frame never does
pub sends_more-locked : (s : FrameShape) (counts : ℕ → ℕ) (n : ℕ) → eqb s.copies 0 ≡ true → sends_more s counts n ≡ false
sends_more-locked s counts n locked = ap (λ b. not (b || ltb (lead + arrived counts n) (sent s counts n + threshold))) locked

-- ---- slots

pub reads_below-suc : (s : FrameShape) (j : ℕ) (more : Bool) (t : ℕ) → reads_below s j more (suc t) ≡ reads_below s j more t + cond (reads_from j more (s.role t)) 1 0
reads_below-suc s j more t = count-range_push (λ slot. reads_from j more (s.role slot)) t

pub reads_below-all : (s : FrameShape) (j : ℕ) (more : Bool) → HasTributaries s → j < s.tribs → reads_below s j more s.len ≡ carried s more
reads_below-all s j true has known = has.high j known
reads_below-all s j false has known = has.low j known

pub arrived_in-zero : (s : FrameShape) (count : ℕ) → IsFrame s → arrived_in s count 0 ≡ 0
arrived_in-zero s count frame = ap (λ n. n / s.len) (omega arith) ∙ div-mul-add 0 s.len 0 frame.some_slots

pub arrived_in-all : (s : FrameShape) (count : ℕ) → IsFrame s → arrived_in s count s.len ≡ count
arrived_in-all s count frame =
    let e : s.len * count ≡ count * s.len + 0 = omega arith in
    ap (λ n. n / s.len) e ∙ div-mul-add count s.len 0 frame.some_slots

-- a quotient and a remainder, where no more than the divisor is added
quotient-more : (x c w : ℕ) → 0 < w → c ≤ w → (x + c) / w ≡ x / w + cond (leb w (x % w + c)) 1 0
quotient-more x c w some few =
    let whole : x / w * w + x % w ≡ x = div-add-mod' x w in
    let below : x % w < w = omega arith in
    elim (cases_lt (x % w + c) w) [
      | inl lt ↦
          let e : x + c ≡ x / w * w + (x % w + c) = omega arith in
          ap (λ n. n / w) e ∙ div-mul-add (x / w) w (x % w + c) lt ∙ sym (ap (λ b. x / w + cond b 1 0) (lt-leb _ _ lt) ∙ add-zero (x / w))
      | inr ge ↦
          let e : x + c ≡ (x / w + 1) * w + (x % w + c - w) = omega arith in
          ap (λ n. n / w) e ∙ div-mul-add (x / w + 1) w (x % w + c - w) (omega arith) ∙ sym (ap (λ b. x / w + cond b 1 0) (le-leb _ _ ge))
    ]

-- Arrivals by addition and comparison: r is what is left of t times the count over whole frames' lengths. A bit arrives
-- exactly where the remainder and the count reach a frame's length.
pub arrived_in-suc : (s : FrameShape) (count t r : ℕ) → IsFrame s → count ≤ s.len → r ≡ t * count % s.len
    → arrived_in s count (suc t) ≡ arrived_in s count t + cond (leb s.len (r + count)) 1 0
arrived_in-suc s count t r frame few left =
    let e : suc t * count ≡ t * count + count = omega arith in
    ap (λ n. n / s.len) e ∙ quotient-more (t * count) count s.len frame.some_slots few ∙ ap (λ r. arrived_in s count t + cond (leb s.len (r + count)) 1 0) (sym left)

pub arrives_at-is : (s : FrameShape) (count t r : ℕ) → IsFrame s → count ≤ s.len → r ≡ t * count % s.len → arrives_at s count t ≡ leb s.len (r + count)
arrives_at-is s count t r frame few left =
    ap (ltb (arrived_in s count t)) (arrived_in-suc s count t r frame few left) ∙ more (arrived_in s count t) (leb s.len (r + count))
  where
    more : (n : ℕ) (b : Bool) → ltb n (n + cond b 1 0) ≡ b
    more n true = lt-ltb _ _ (omega arith)
    more n false = le-ltb _ _ (omega arith)

-- ---- what came into a store, and what was read from it

pub came_before-first : (s : FrameShape) (counts : ℕ → ℕ) → IsFrame s → came_before s counts 0 0 ≡ lead
came_before-first s counts frame = omega (arith, arrived-zero counts, arrived_in-zero s (counts 0) frame)

pub came_before-start : (s : FrameShape) (counts : ℕ → ℕ) (n : ℕ) → IsFrame s → came_before s counts n 0 ≡ lead + arrived counts n
came_before-start s counts n frame = omega (arith, arrived_in-zero s (counts n) frame)

-- one more slot adds the bit that arrives in it, if there is one
pub came_before-suc : (s : FrameShape) (counts : ℕ → ℕ) (n t : ℕ) → IsFrame s → counts n ≤ s.len → came_before s counts n (suc t) ≡ came_before s counts n t + cond (arrives_at s (counts n) t) 1 0
came_before-suc s counts n t frame few =
    let next : arrived_in s (counts n) (suc t) ≡ arrived_in s (counts n) t + cond (arrives_at s (counts n) t) 1 0 =
    arrived_in-suc s (counts n) t (t * counts n % s.len) frame few refl
    ∙ ap (λ b. arrived_in s (counts n) t + cond b 1 0) (sym (arrives_at-is s (counts n) t (t * counts n % s.len) frame few refl)) in
    omega arith

-- what came doesn't fall
pub came_before_grows : (s : FrameShape) (counts : ℕ → ℕ) (n t : ℕ) → IsFrame s → came_before s counts n t ≤ came_before s counts n (suc t)
came_before_grows s counts n t frame =
    let more : suc t * counts n ≡ t * counts n + counts n = omega arith in
    let later : arrived_in s (counts n) t ≤ arrived_in s (counts n) (suc t) =
    le-div (t * counts n / s.len) (suc t * counts n) s.len frame.some_slots (omega (arith, div-mul-le_self (t * counts n) s.len)) in
    omega arith

pub arrived-grows : (counts : ℕ → ℕ) (m n : ℕ) → m ≤ n → arrived counts m ≤ arrived counts n
arrived-grows counts m zero h = ap_le (omega arith)
  where
    ap_le : m ≡ 0 → arrived counts m ≤ arrived counts 0
    ap_le e = subst (λ k. arrived counts m ≤ arrived counts k) e (omega arith)
arrived-grows counts m (suc n) h =
    elim (cases_lt n m) [
      | inl lt ↦ let e : m ≡ suc n = omega arith in subst (λ k. arrived counts m ≤ arrived counts k) e (omega arith)
      | inr ge ↦ omega (arith, arrived-grows counts m n ge, arrived-suc counts n)
    ]

-- a frame's end is the next one's start
pub came_before-next : (s : FrameShape) (counts : ℕ → ℕ) (n : ℕ) → IsFrame s → came_before s counts n s.len ≡ came_before s counts (suc n) 0
came_before-next s counts n frame = omega (arith, arrived_in-all s (counts n) frame, arrived_in-zero s (counts (suc n)) frame, arrived-suc counts n)

pub read_before-start : (s : FrameShape) (j : ℕ) (counts : ℕ → ℕ) (n : ℕ) → read_before s j counts n 0 ≡ sent s counts n
read_before-start s j counts n = add-zero (sent s counts n)

pub read_before-suc : (s : FrameShape) (j : ℕ) (counts : ℕ → ℕ) (n t : ℕ) → read_before s j counts n (suc t) ≡ read_before s j counts n t + cond (reads_from j (sends_more s counts n) (s.role t)) 1 0
read_before-suc s j counts n t = omega (arith, reads_below-suc s j (sends_more s counts n) t)

pub read_before-next : (s : FrameShape) (j : ℕ) (counts : ℕ → ℕ) (n : ℕ) → HasTributaries s → j < s.tribs → read_before s j counts n s.len ≡ read_before s j counts (suc n) 0
read_before-next s j counts n has known =
    ap (λ k. sent s counts n + k) (reads_below-all s j (sends_more s counts n) has known) ∙ sym (read_before-start s j counts (suc n) ∙ sent-suc s counts n)

-- ---- how far a node has come

-- a node takes what the frames that it has begun enter, where it made them whole
pub taken-frames : (s : FrameShape) (counts : ℕ → ℕ) (n : ℕ) → IsFrame s → taken s counts (n * s.len) ≡ entered counts n
taken-frames s counts zero frame =
    let none : 0 * s.len ≡ 0 = omega arith in
    ap (λ x. cond (eqb x 0) 0 (came_before s counts (x / s.len) (x % s.len))) none
taken-frames s counts (suc n) frame =
    let e : suc n * s.len ≡ suc n * s.len + 0 = omega arith in
    let q : suc n * s.len / s.len ≡ suc n = ap (λ k. k / s.len) e ∙ div-mul-add (suc n) s.len 0 frame.some_slots in
    let r : suc n * s.len % s.len ≡ 0 = ap (λ k. k % s.len) e ∙ mod-mul-add (suc n) s.len 0 frame.some_slots in
    let some : 0 < suc n * s.len = omega (arith, frame.some_slots) in
    ap (λ b. cond b 0 (came_before s counts (suc n * s.len / s.len) (suc n * s.len % s.len))) (not_zero _ some)
    ∙ ap (λ k. came_before s counts k (suc n * s.len % s.len)) q ∙ ap (came_before s counts (suc n)) r ∙ came_before-start s counts (suc n) frame
    ∙ sym (ap (λ b. cond b 0 (lead + arrived counts (suc n))) (not_zero (suc n) (omega arith)))
  where
    not_zero : (n : ℕ) → 0 < n → eqb n 0 ≡ false
    not_zero zero h = absurd (omega arith)
    not_zero (suc n) h = eqb-suc-zero n

-- a node with stores has taken what came into them,
pub given-stores : (s : FrameShape) (j : ℕ) (counts : ℕ → ℕ) (x : ℕ) → HasStores s → given s j counts x ≡ taken s counts x
given-stores s j counts x stores = rw stores refl

-- one without stores what its whole frames carry and what its slots have read of the next one,
pub given-locked : (s : FrameShape) (j : ℕ) (counts : ℕ → ℕ) (x : ℕ) → eqb s.copies 0 ≡ true
    → given s j counts x ≡ x / s.len * s.low + reads_below s j false (x % s.len)
given-locked s j counts x locked = rw locked refl

-- which is all that it has read
pub sent-locked : (s : FrameShape) (counts : ℕ → ℕ) (n : ℕ) → eqb s.copies 0 ≡ true → sent s counts n ≡ n * s.low
sent-locked s counts zero locked = sent-zero s counts ∙ omega arith
sent-locked s counts (suc n) locked =
    sent-suc s counts n ∙ ap (λ more. sent s counts n + carried s more) (sends_more-locked s counts n locked) ∙ ap (λ k. k + s.low) (sent-locked s counts n locked) ∙ omega arith

pub given-read : (s : FrameShape) (j : ℕ) (counts : ℕ → ℕ) (x : ℕ) → eqb s.copies 0 ≡ true → given s j counts x ≡ read_before s j counts (x / s.len) (x % s.len)
given-read s j counts x locked =
    given-locked s j counts x locked
    ∙ sym (ap (λ more. sent s counts (x / s.len) + reads_below s j more (x % s.len)) (sends_more-locked s counts (x / s.len) locked)
    ∙ ap (λ k. k + reads_below s j false (x % s.len)) (sent-locked s counts (x / s.len) locked))

-- what frames enter of a tributary, with stores and without
pub entered-stores : (s : FrameShape) (counts : ℕ → ℕ) (n : ℕ) → HasStores s → entered_by (shape_numbers s) counts n ≡ entered counts n
entered-stores s counts n stores = rw stores refl

pub entered-locked : (s : FrameShape) (counts : ℕ → ℕ) (n : ℕ) → eqb s.copies 0 ≡ true → entered_by (shape_numbers s) counts n ≡ n * s.low
entered-locked s counts n locked = rw locked refl

-- and by how much a node keeps it short
pub short-stores : (s : FrameShape) (n : ℕ) → HasStores s → short_by (shape_numbers s) n ≡ lead + allowance + n * suc s.low
short-stores s n stores = rw stores refl

pub short-locked : (s : FrameShape) (n : ℕ) → eqb s.copies 0 ≡ true → short_by (shape_numbers s) n ≡ n * suc s.low
short-locked s n locked = rw locked (omega arith)
