-- How far one node has come: what it takes and has begun, bit by bit, and what comes back of it.
use Rattle.std.proofs.Common.{◌≡◌, ℕ, zero, suc, ◌+◌, ◌*◌, ◌/◌, ◌%◌, ◌<◌, ◌≤◌, true, false, cond, eqb, refl, sym, ap, ◌∙◌, subst, inl, inr, arith, ◌⊎◌}
use Rattle.std.proofs.Math.Dec.{eqb-suc-zero}
use Rattle.std.proofs.Math.Nat.{div-mul-le_self, mul-le-mul_right}
use Rattle.std.proofs.lemmas.Bool.{eqb-true, ne_eqb, ltb-true, lt-ltb, le-ltb, cases_Bool, cases_lt}
use Rattle.std.proofs.lemmas.Nat.{div-mul-add, mod-mul-add, div-add-mod', mod_below, le-div}
use Rattle.pdh_shape.specs.declared.role.Role.{Role}
use Rattle.pdh_shape.specs.declared.role.Role.TheVariants.{Align, Service, Control, Just, Info}
use Rattle.pdh_shape.specs.Frame.{FrameShape, IsFrame}
use Rattle.pdh_shape.specs.Tributary.{reads_from, reads_below, HasTributaries}
use Rattle.pdh_line.specs.Progress.{arrived, entered_by}
use Rattle.pdh_shape.specs.OwnNumbers.{lead}
use Rattle.pdh_line.specs.Sending.{arrives_at, sent, came_before, begun, shape_numbers, taken, given, entered, frames_found, given_back, HasStores}
use Rattle.pdh_line.specs.Events.{underflows}
use Rattle.pdh_line.proofs.SendingLaws.{given-stores, given-locked, sent-locked, entered-stores, entered-locked, reads_below-suc, reads_below-all, sent-zero, sent-suc, came_before-first, came_before-start, came_before-suc, came_before-next, read_before-start, taken-frames}
use Rattle.pdh_line.proofs.SameLines.{taken-grows}
use Rattle.pdh_line.proofs.EventLaws.{read_before_came}

-- ---- whole frames

-- what the begun frames enter
entered-is : (counts : ℕ → ℕ) (n : ℕ) → 0 < n → entered counts n ≡ lead + arrived counts n
entered-is counts zero h = absurd (omega arith)
entered-is counts (suc n) h = ap (λ b. cond b 0 (lead + arrived counts (suc n))) (eqb-suc-zero n)

pub begun-frames : (s : FrameShape) (n : ℕ) → IsFrame s → begun s (n * s.len) ≡ n
begun-frames s n frame =
    let e : n * s.len ≡ n * s.len + 0 = omega arith in
    let q : n * s.len / s.len ≡ n = ap (λ k. k / s.len) e ∙ div-mul-add n s.len 0 frame.some_slots in
    let r : n * s.len % s.len ≡ 0 = ap (λ k. k % s.len) e ∙ mod-mul-add n s.len 0 frame.some_slots in
    rw (r, q) refl

-- ---- the next bit

-- the next bit stands in the next slot of the frame, or first in the next frame
next_inside : (s : FrameShape) (x : ℕ) → suc (x % s.len) < s.len → (suc x / s.len ≡ x / s.len) × (suc x % s.len ≡ suc (x % s.len))
next_inside s x inside =
    let whole : x / s.len * s.len + x % s.len ≡ x = div-add-mod' x s.len in
    let e : suc x ≡ x / s.len * s.len + suc (x % s.len) = omega arith in
    (ap (λ n. n / s.len) e ∙ div-mul-add (x / s.len) s.len (suc (x % s.len)) inside, ap (λ n. n % s.len) e ∙ mod-mul-add (x / s.len) s.len (suc (x % s.len)) inside)

next_frame : (s : FrameShape) (x : ℕ) → IsFrame s → suc (x % s.len) ≡ s.len → (suc x / s.len ≡ suc (x / s.len)) × (suc x % s.len ≡ 0)
next_frame s x frame last =
    let whole : x / s.len * s.len + x % s.len ≡ x = div-add-mod' x s.len in
    let e : suc x ≡ suc (x / s.len) * s.len + 0 = omega arith in
    (ap (λ n. n / s.len) e ∙ div-mul-add (suc (x / s.len)) s.len 0 frame.some_slots, ap (λ n. n % s.len) e ∙ mod-mul-add (suc (x / s.len)) s.len 0 frame.some_slots)

-- a node that made a bit has taken what came before the next slot
pub taken-suc : (s : FrameShape) (counts : ℕ → ℕ) (x : ℕ) → IsFrame s → taken s counts (suc x) ≡ came_before s counts (x / s.len) (suc (x % s.len))
taken-suc s counts x frame =
    ap (λ b. cond b 0 (came_before s counts (suc x / s.len) (suc x % s.len))) (eqb-suc-zero x)
    ∙ elim (cases_lt (suc (x % s.len)) s.len) [
      | inl inside ↦
          let next = next_inside s x inside in
          ap (λ n. came_before s counts n (suc x % s.len)) next.0 ∙ ap (came_before s counts (x / s.len)) next.1
      | inr outside ↦
          let below : x % s.len < s.len = mod_below x s.len frame.some_slots in
          let last : suc (x % s.len) ≡ s.len = omega arith in
          let next = next_frame s x frame last in
          ap (λ n. came_before s counts n (suc x % s.len)) next.0 ∙ ap (came_before s counts (suc (x / s.len))) next.1
          ∙ sym (came_before-next s counts (x / s.len) frame) ∙ ap (came_before s counts (x / s.len)) (sym last)
    ]

-- and has begun that bit's frame
pub begun-suc : (s : FrameShape) (x : ℕ) → IsFrame s → begun s (suc x) ≡ suc (x / s.len)
begun-suc s x frame =
    elim (cases_lt (suc (x % s.len)) s.len) [
      | inl inside ↦
          let next = next_inside s x inside in
          ap (λ t. cond (eqb t 0) (suc x / s.len) (suc (suc x / s.len))) next.1
          ∙ ap (λ b. cond b (suc x / s.len) (suc (suc x / s.len))) (eqb-suc-zero (x % s.len)) ∙ ap (λ n. suc n) next.0
      | inr outside ↦
          let below : x % s.len < s.len = mod_below x s.len frame.some_slots in
          let last : suc (x % s.len) ≡ s.len = omega arith in
          let next = next_frame s x frame last in
          ap (λ t. cond (eqb t 0) (suc x / s.len) (suc (suc x / s.len))) next.1 ∙ next.0
    ]

div-grows : (m n w : ℕ) → 0 < w → m ≤ n → m / w ≤ n / w
div-grows m n w some h = le-div (m / w) n w some (omega (arith, div-mul-le_self m w))

-- a bit made before bit x belongs to a frame that has been begun by then
pub begun_more : (s : FrameShape) (x y : ℕ) → IsFrame s → y < x → suc (y / s.len) ≤ begun s x
begun_more s zero y frame h = absurd (omega arith)
begun_more s (suc x) y frame h = omega (arith, begun-suc s x frame, div-grows y x s.len frame.some_slots (omega arith))

-- and so does a frame of which a slot was made
pub frame_begun : (s : FrameShape) (x n t : ℕ) → IsFrame s → t < s.len → n * s.len + t < x → n < begun s x
frame_begun s x n t frame inside made =
    let whole : (n * s.len + t) / s.len ≡ n = div-mul-add n s.len t inside in
    omega (arith, whole, begun_more s x (n * s.len + t) frame made)

-- ---- the bits that a node takes

-- the lead is taken before the first bit
pub lead_taken : (s : FrameShape) (counts : ℕ → ℕ) (x k : ℕ) → IsFrame s → 0 < x → k < lead → k < taken s counts x
lead_taken s counts zero k frame some h = absurd (omega arith)
lead_taken s counts (suc x) k frame some h = omega (arith, taken-suc s counts x frame)

-- the bit that arrives in making a bit before bit x is taken by then
pub arrival_taken : (s : FrameShape) (counts : ℕ → ℕ) (x y : ℕ) → IsFrame s → y < x → arrives_at s (counts (y / s.len)) (y % s.len) ≡ true
    → came_before s counts (y / s.len) (y % s.len) < taken s counts x
arrival_taken s counts x y frame h arrives =
    omega (arith, ltb-true _ _ arrives, taken-suc s counts y frame, taken-grows s counts (suc y) x frame h)

-- Where at most one bit arrives in a slot, each bit that a node took before its bit x is one of the lead, or arrived in
-- making an earlier bit.
pub taken_once : (s : FrameShape) (counts : ℕ → ℕ) (x i : ℕ) → IsFrame s → ((n : ℕ) → n < begun s x → counts n ≤ s.len) → i < taken s counts x
    → ((0 < x) × (i < lead)) ⊎ ((y : ℕ) × (y < x) × (arrives_at s (counts (y / s.len)) (y % s.len) ≡ true) × (came_before s counts (y / s.len) (y % s.len) ≡ i))
taken_once s counts zero i frame few h = absurd (let none : i < 0 = h in omega arith)
taken_once s counts (suc x) i frame few h =
    let n : ℕ = x / s.len in
    let t : ℕ = x % s.len in
    let rate : counts n ≤ s.len = few n (omega (arith, begun-suc s x frame)) in
    let grown : taken s counts (suc x) ≡ came_before s counts n t + cond (arrives_at s (counts n) t) 1 0 = taken-suc s counts x frame ∙ came_before-suc s counts n t frame rate in
    elim (cases_lt i (came_before s counts n t)) [
      | inl earlier ↦ before s counts x i frame (λ h'. taken_once s counts x i frame (λ n h''. few n (omega (arith, begun-suc s x frame, begun_at s x frame))) h') earlier
      | inr not_earlier ↦ elim (cases_Bool (arrives_at s (counts n) t)) [
        | inl arrives ↦
            let one : taken s counts (suc x) ≡ came_before s counts n t + 1 = grown ∙ ap (λ b. came_before s counts n t + cond b 1 0) arrives in
            inr (x, omega arith, arrives, omega arith)
        | inr none ↦
            let same : taken s counts (suc x) ≡ came_before s counts n t + 0 = grown ∙ ap (λ b. came_before s counts n t + cond b 1 0) none in
            absurd (omega arith)
      ]
    ]
  where
    begun_at : (s : FrameShape) (x : ℕ) → IsFrame s → begun s x ≤ suc (x / s.len)
    begun_at s x frame = elim (cases_Bool (eqb (x % s.len) 0)) [ inl even ↦ rw even (omega arith) | inr odd ↦ rw odd (omega arith) ]

    before : (s : FrameShape) (counts : ℕ → ℕ) (x i : ℕ) → IsFrame s
        → (i < taken s counts x → ((0 < x) × (i < lead)) ⊎ ((y : ℕ) × (y < x) × (arrives_at s (counts (y / s.len)) (y % s.len) ≡ true) × (came_before s counts (y / s.len) (y % s.len) ≡ i)))
        → i < came_before s counts (x / s.len) (x % s.len)
        → ((0 < suc x) × (i < lead)) ⊎ ((y : ℕ) × (y < suc x) × (arrives_at s (counts (y / s.len)) (y % s.len) ≡ true) × (came_before s counts (y / s.len) (y % s.len) ≡ i))
    before s counts zero i frame earlier h =
        let q : 0 / s.len ≡ 0 = omega (arith, div-mul-add 0 s.len 0 frame.some_slots) in
        let r : 0 % s.len ≡ 0 = omega (arith, mod-mul-add 0 s.len 0 frame.some_slots) in
        let first : came_before s counts (0 / s.len) (0 % s.len) ≡ lead = ap (λ n. came_before s counts n (0 % s.len)) q ∙ ap (came_before s counts 0) r ∙ came_before-first s counts frame in
        inl (omega arith, omega arith)
    before s counts (suc x) i frame earlier h =
        let same : taken s counts (suc x) ≡ came_before s counts (suc x / s.len) (suc x % s.len) = ap (λ b. cond b 0 (came_before s counts (suc x / s.len) (suc x % s.len))) (eqb-suc-zero x) in
        elim (earlier (omega arith)) [
          | inl leads ↦ inl (omega arith, leads.1)
          | inr made ↦ inr (made.0, omega (arith, made.1), made.2, made.3)
        ]

-- a node has taken no more than what the frames that it has begun enter
pub taken-entered : (s : FrameShape) (counts : ℕ → ℕ) (x : ℕ) → IsFrame s → taken s counts x ≤ entered counts (begun s x)
taken-entered s counts zero frame = omega arith
taken-entered s counts (suc x) frame =
    let whole : x / s.len * s.len + x % s.len ≡ x = div-add-mod' x s.len in
    let inside : x % s.len < s.len = mod_below x s.len frame.some_slots in
    let upto : suc x ≤ suc (x / s.len) * s.len = omega arith in
    let most : taken s counts (suc x) ≤ entered counts (suc (x / s.len)) =
    subst (λ k. taken s counts (suc x) ≤ k) (taken-frames s counts (suc (x / s.len)) frame) (taken-grows s counts (suc x) (suc (x / s.len) * s.len) frame upto) in
    subst (λ n. taken s counts (suc x) ≤ entered counts n) (sym (begun-suc s x frame)) most

-- ---- what comes back

pub sent-grows : (s : FrameShape) (counts : ℕ → ℕ) (m n : ℕ) → m ≤ n → sent s counts m ≤ sent s counts n
sent-grows s counts m zero h =
    let e : m ≡ 0 = omega arith in
    subst (λ k. sent s counts m ≤ sent s counts k) e (omega arith)
sent-grows s counts m (suc n) h =
    elim (cases_lt n m) [
      | inl lt ↦ let e : m ≡ suc n = omega arith in subst (λ k. sent s counts m ≤ sent s counts k) e (omega arith)
      | inr ge ↦ omega (arith, sent-grows s counts m n ge, sent-suc s counts n)
    ]

frames_found-grows : (m n : ℕ) → m ≤ n → frames_found m ≤ frames_found n
frames_found-grows m n h =
    elim (cases_lt m 3) [
      | inl few ↦ rw (lt-ltb m 3 few) (omega arith)
      | inr enough ↦ rw (le-ltb m 3 enough, le-ltb n 3 (omega arith)) h
    ]

-- of a longer line no fewer bits come back
pub given_back-grows : (s : FrameShape) (counts : ℕ → ℕ) (x y : ℕ) → IsFrame s → x ≤ y → given_back s counts (x / s.len) ≤ given_back s counts (y / s.len)
given_back-grows s counts x y frame h = sent-grows s counts _ _ (frames_found-grows (x / s.len) (y / s.len) (div-grows x y s.len frame.some_slots h))

-- where no bit before bit x has an underflow, no more comes back than was taken
pub given_back-taken : (s : FrameShape) (counts : ℕ → ℕ) (j x : ℕ) → IsFrame s → HasTributaries s → j < s.tribs
    → ((m u : ℕ) → u < s.len → m * s.len + u < x → underflows s j counts m u ≡ false) → given_back s counts (x / s.len) ≤ taken s counts x
given_back-taken s counts j x frame has known none =
    elim (cases_lt (x / s.len) 3) [
      | inl few ↦ rw (lt-ltb (x / s.len) 3 few, sent-zero s counts) (omega arith)
      | inr enough ↦
          let n : ℕ = x / s.len in
          let upto : n * s.len ≤ x = div-mul-le_self x s.len in
          let read = read_before_came s counts j n 0 frame has known (λ m u h lt. none m u h (omega arith)) (omega arith) in
          let came : sent s counts n ≤ lead + arrived counts n = omega (arith, read, came_before-start s counts n frame, read_before-start s j counts n) in
          rw (le-ltb (x / s.len) 3 enough)
          (omega (arith, came, entered-is counts n (omega arith), taken-frames s counts n frame, taken-grows s counts (n * s.len) x frame upto))
    ]

-- ---- a node without stores

module _ (s : FrameShape) (j : ℕ) (counts : ℕ → ℕ) (frame : IsFrame s) (has : HasTributaries s) (known : j < s.tribs) (locked : eqb s.copies 0 ≡ true) where
  -- the bit of the tributary that it reads next before its bit x
  abbrev next_read : ℕ → ℕ
  next_read x = x / s.len * s.low + reads_below s j false (x % s.len)

  next_read-suc : (x : ℕ) → next_read (suc x) ≡ next_read x + cond (reads_from j false (s.role (x % s.len))) 1 0
  next_read-suc x =
      let more : reads_below s j false (suc (x % s.len)) ≡ reads_below s j false (x % s.len) + cond (reads_from j false (s.role (x % s.len))) 1 0 = reads_below-suc s j false (x % s.len) in
      elim (cases_lt (suc (x % s.len)) s.len) [
        | inl inside ↦
            let next = next_inside s x inside in
            ap (λ n. n * s.low + reads_below s j false (suc x % s.len)) next.0 ∙ ap (λ t. x / s.len * s.low + reads_below s j false t) next.1 ∙ omega arith
        | inr outside ↦
            let below : x % s.len < s.len = mod_below x s.len frame.some_slots in
            let last : suc (x % s.len) ≡ s.len = omega arith in
            let next = next_frame s x frame last in
            let whole : reads_below s j false (suc (x % s.len)) ≡ s.low = ap (reads_below s j false) last ∙ reads_below-all s j false has known in
            ap (λ n. n * s.low + reads_below s j false (suc x % s.len)) next.0 ∙ ap (λ t. suc (x / s.len) * s.low + reads_below s j false t) next.1 ∙ omega arith
      ]

  next_read-grows : (x y : ℕ) → x ≤ y → next_read x ≤ next_read y
  next_read-grows x zero h = let e : x ≡ 0 = omega arith in subst (λ y. next_read x ≤ next_read y) e (omega arith)
  next_read-grows x (suc y) h =
      elim (cases_lt y x) [
        | inl lt ↦ let e : x ≡ suc y = omega arith in subst (λ y. next_read x ≤ next_read y) e (omega arith)
        | inr ge ↦ omega (arith, next_read-grows x y ge, next_read-suc y)
      ]

  -- a bit that a slot before its bit x reads is taken by then,
  pub read_given : (x y : ℕ) → y < x → reads_from j false (s.role (y % s.len)) ≡ true → next_read y < given s j counts x
  read_given x y h reads =
      let one : next_read (suc y) ≡ next_read y + 1 = next_read-suc y ∙ ap (λ b. next_read y + cond b 1 0) reads in
      omega (arith, given-locked s j counts x locked, next_read-grows (suc y) x h)

  -- and each bit that is taken by then was read by one of them
  pub given_once : (x i : ℕ) → i < given s j counts x → (y : ℕ) × (y < x) × (reads_from j false (s.role (y % s.len)) ≡ true) × (next_read y ≡ i)
  given_once x i h = read_by x (subst (λ n. i < n) (given-locked s j counts x locked) h)
    where
      read_by : (x : ℕ) → i < next_read x → (y : ℕ) × (y < x) × (reads_from j false (s.role (y % s.len)) ≡ true) × (next_read y ≡ i)
      read_by zero h =
          let q : 0 / s.len ≡ 0 = omega (arith, div-mul-add 0 s.len 0 frame.some_slots) in
          let r : 0 % s.len ≡ 0 = omega (arith, mod-mul-add 0 s.len 0 frame.some_slots) in
          let none : next_read 0 ≡ 0 = ap (λ n. n * s.low + reads_below s j false (0 % s.len)) q ∙ ap (λ t. 0 * s.low + reads_below s j false t) r ∙ omega arith in
          absurd (omega arith)
      read_by (suc x) h =
          elim (cases_lt i (next_read x)) [
            | inl earlier ↦ let found = read_by x earlier in (found.0, omega (arith, found.1), found.2, found.3)
            | inr not_earlier ↦ elim (cases_Bool (reads_from j false (s.role (x % s.len)))) [
              | inl reads ↦
                  let one : next_read (suc x) ≡ next_read x + 1 = next_read-suc x ∙ ap (λ b. next_read x + cond b 1 0) reads in
                  (x, omega arith, reads, omega arith)
              | inr passed ↦
                  let same : next_read (suc x) ≡ next_read x + 0 = next_read-suc x ∙ ap (λ b. next_read x + cond b 1 0) passed in
                  absurd (omega arith)
            ]
          ]

-- ---- a node of either kind

-- a longer line takes no fewer bits of a tributary
pub given-grows : (s : FrameShape) (j : ℕ) (counts : ℕ → ℕ) (x y : ℕ) → IsFrame s → HasTributaries s → j < s.tribs → x ≤ y → given s j counts x ≤ given s j counts y
given-grows s j counts x y frame has known h =
    elim (cases_Bool (eqb s.copies 0)) [
      | inl locked ↦ omega (arith, given-locked s j counts x locked, given-locked s j counts y locked, next_read-grows s j counts frame has known locked x y h)
      | inr stores ↦ omega (arith, given-stores s j counts x stores, given-stores s j counts y stores, taken-grows s counts x y frame h)
    ]

-- with stores the lead is taken before the first bit,
pub lead_given : (s : FrameShape) (j : ℕ) (counts : ℕ → ℕ) (x k : ℕ) → IsFrame s → HasStores s → 0 < x → k < lead → k < given s j counts x
lead_given s j counts x k frame stores some h = omega (arith, given-stores s j counts x stores, lead_taken s counts x k frame some h)

-- and the bit that arrives in making a bit before bit x is taken by then
pub arrival_given : (s : FrameShape) (j : ℕ) (counts : ℕ → ℕ) (x y : ℕ) → IsFrame s → HasStores s → y < x → arrives_at s (counts (y / s.len)) (y % s.len) ≡ true
    → came_before s counts (y / s.len) (y % s.len) < given s j counts x
arrival_given s j counts x y frame stores h arrives = omega (arith, given-stores s j counts x stores, arrival_taken s counts x y frame h arrives)

reads_below-later : (s : FrameShape) (j t u : ℕ) → t ≤ u → reads_below s j false t ≤ reads_below s j false u
reads_below-later s j t zero h = let e : t ≡ 0 = omega arith in subst (λ u. reads_below s j false t ≤ reads_below s j false u) e (omega arith)
reads_below-later s j t (suc u) h =
    elim (cases_lt u t) [
      | inl lt ↦ let e : t ≡ suc u = omega arith in subst (λ u. reads_below s j false t ≤ reads_below s j false u) e (omega arith)
      | inr ge ↦ omega (arith, reads_below-later s j t u ge, reads_below-suc s j false u)
    ]

-- no slot reads a tributary that the shape doesn't have
pub reads_below-unknown : (s : FrameShape) (j t : ℕ) → HasTributaries s → s.tribs ≤ j → t ≤ s.len → reads_below s j false t ≡ 0
reads_below-unknown s j zero has past inside = refl
reads_below-unknown s j (suc t) has past inside =
    reads_below-suc s j false t ∙ ap (λ b. reads_below s j false t + cond b 1 0) (not_read (s.role t) refl) ∙ omega (arith, reads_below-unknown s j t has past (omega arith))
  where
    not_read : (r : Role) → s.role t ≡ r → reads_from j false r ≡ false
    not_read (Info i) e = ne_eqb i j (λ same. let known : i < s.tribs = has.info_known t i (omega arith) e in omega arith)
    not_read (Just i) e = elim (cases_Bool (eqb i j)) [ inl same ↦ rw same refl | inr other ↦ rw other refl ]
    not_read (Align signal) e = refl
    not_read (Service number) e = refl
    not_read (Control i copy) e = refl

-- the slots before a slot read no more than a frame carries
reads_below-most : (s : FrameShape) (j t : ℕ) → HasTributaries s → t ≤ s.len → reads_below s j false t ≤ s.low
reads_below-most s j t has inside =
    elim (cases_lt j s.tribs) [
      | inl known ↦ omega (arith, reads_below-later s j t s.len inside, reads_below-all s j false has known)
      | inr past ↦ omega (arith, reads_below-unknown s j t has past inside)
    ]

-- a node has taken no more than what the frames that it has begun take by their ends
pub given-entered_by : (s : FrameShape) (j : ℕ) (counts : ℕ → ℕ) (x : ℕ) → IsFrame s → HasTributaries s → given s j counts x ≤ entered_by (shape_numbers s) counts (begun s x)
given-entered_by s j counts x frame has =
    elim (cases_Bool (eqb s.copies 0)) [
      | inl locked ↦ omega (arith, given-locked s j counts x locked, entered-locked s counts (begun s x) locked, read_by_end)
      | inr stores ↦ omega (arith, given-stores s j counts x stores, entered-stores s counts (begun s x) stores, taken-entered s counts x frame)
    ]
  where
    inside : x % s.len < s.len
    inside = mod_below x s.len frame.some_slots

    read_by_end : x / s.len * s.low + reads_below s j false (x % s.len) ≤ begun s x * s.low
    read_by_end =
        elim (cases_Bool (eqb (x % s.len) 0)) [
          | inl even ↦ rw (even, eqb-true (x % s.len) 0 even) (omega arith)
          | inr odd ↦ rw odd (omega (arith, reads_below-most s j (x % s.len) has (omega (arith, inside))))
        ]

frames_found-few : (n : ℕ) → frames_found n ≤ n
frames_found-few n = elim (cases_lt n 3) [ inl few ↦ rw (lt-ltb n 3 few) (omega arith) | inr enough ↦ rw (le-ltb n 3 enough) (omega arith) ]

-- where no bit before bit x has an underflow, no more comes back than was taken
pub given_back-given : (s : FrameShape) (counts : ℕ → ℕ) (j x : ℕ) → IsFrame s → HasTributaries s → j < s.tribs
    → (HasStores s → (m u : ℕ) → u < s.len → m * s.len + u < x → underflows s j counts m u ≡ false) → given_back s counts (x / s.len) ≤ given s j counts x
given_back-given s counts j x frame has known none =
    elim (cases_Bool (eqb s.copies 0)) [
      | inl locked ↦
          let n : ℕ = x / s.len in
          let most : frames_found n * s.low ≤ n * s.low = mul-le-mul_right s.low (frames_found-few n) in
          omega (arith, given-locked s j counts x locked, sent-locked s counts (frames_found n) locked)
      | inr stores ↦ omega (arith, given-stores s j counts x stores, given_back-taken s counts j x frame has known (none stores))
    ]
