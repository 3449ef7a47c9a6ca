-- What decides a line, and what a longer line adds to a shorter one.
use Rattle.std.proofs.Common.{◌≡◌, ℕ, zero, suc, ◌+◌, ◌-◌, ◌*◌, ◌/◌, ◌%◌, ◌<◌, ◌≤◌, Bool, true, ◌&&◌, cond, eqb, refl, sym, ap, ◌∙◌, subst, inl, inr, arith, eq-eqb}
use Rattle.std.proofs.lemmas.Bool.{cases_lt, cases_Bool}
use Rattle.std.proofs.lemmas.Nat.{div-mul-add, div-add-mod', mod_below, le-div}
use Rattle.std.proofs.Math.Nat.{mul-le-mul_right, div-mul-le_self}
use Rattle.std.proofs.Math.Dec.{eqb-suc-zero}
use Rattle.pdh_line.specs.Sending.Mode.{Plain}
use Rattle.pdh_shape.specs.declared.role.Role.{Role}
use Rattle.pdh_shape.specs.declared.role.Role.TheVariants.{Align, Service, Control, Just, Info}
use Rattle.pdh_shape.specs.declared.role.Service.{Service as Say}
use Rattle.pdh_shape.specs.Frame.{FrameShape, IsFrame}
use Rattle.pdh_shape.specs.Tributary.{reads_from, turned, HasTributaries}
use Rattle.pdh_line.specs.Sending.{arrived_in, sends_more, came_before, read_before, Source, input_bit, payload_bit, odd_before, slot_bit, line_bit, taken}
use Rattle.pdh_line.proofs.Ranges.{count-range_same}
use Rattle.pdh_line.proofs.SendingLaws.{arrived-grows, came_before-start, came_before-next}
pub use Rattle.pdh_line.proofs.SendingLaws.{taken-frames}

-- ---- two sources with the same counts that agree on what the first x bits of a line read and say

module _ (s : FrameShape) (counts : ℕ → ℕ → ℕ) (p q : ℕ → ℕ → Bool) (f g : ℕ → Say) (x : ℕ) (frame : IsFrame s) (has : HasTributaries s)
    (inputs : (n t j : ℕ) → j < s.tribs → t < s.len → n * s.len + t < x → reads_from j (sends_more s (counts j) n) (s.role t) ≡ true
    → p j (read_before s j (counts j) n t) ≡ q j (read_before s j (counts j) n t))
    (says : (n : ℕ) → n * s.len < x → f n ≡ g n) where
  abbrev one : Source
  one = record { mode = Plain; counts = counts; inputs = p; says = f }

  abbrev other : Source
  other = record { mode = Plain; counts = counts; inputs = q; says = g }

  input_bit-same : (n t j : ℕ) → j < s.tribs → t < s.len → n * s.len + t < x → reads_from j (sends_more s (counts j) n) (s.role t) ≡ true → input_bit s one n t j ≡ input_bit s other n t j
  input_bit-same n t j known inside made reads = ap (turned (s.inverted j)) (inputs n t j known inside made reads)

  payload_bit-same : (n t : ℕ) (r : Role) → t < s.len → n * s.len + t < x → s.role t ≡ r → payload_bit s one n t r ≡ payload_bit s other n t r
  payload_bit-same n t (Info j) inside made e =
      input_bit-same n t j (has.info_known t j inside e) inside made (ap (reads_from j (sends_more s (counts j) n)) e ∙ eq-eqb j j refl)
  payload_bit-same n t (Just j) inside made e =
      elim (cases_Bool (sends_more s (counts j) n)) [
        | inl more ↦
            let reads : reads_from j (sends_more s (counts j) n) (s.role t) ≡ true =
            ap (reads_from j (sends_more s (counts j) n)) e ∙ ap (λ b. eqb j j && b) more ∙ ap (λ b. b && true) (eq-eqb j j refl) in
            ap (λ bit. cond (sends_more s (counts j) n) bit true) (input_bit-same n t j (has.just_known t j inside e) inside made reads)
        | inr none ↦ ap (λ more. cond more (input_bit s one n t j) true) none ∙ sym (ap (λ more. cond more (input_bit s other n t j) true) none)
      ]
  payload_bit-same n t (Align signal) inside made e = refl
  payload_bit-same n t (Service number) inside made e = refl
  payload_bit-same n t (Control j copy) inside made e = refl

  odd_before-same : (n : ℕ) → n * s.len < x → odd_before s one n ≡ odd_before s other n
  unfolding odd_before
  odd_before-same zero made = refl
  odd_before-same (suc n) made = ap (λ ones. eqb (ones % 2) 1) (count-range_same _ _ 0 s.len (λ t l h. payload_bit-same n t (s.role t) (omega arith) (omega arith) refl))

  slot_bit-same : (n t : ℕ) (r : Role) → t < s.len → n * s.len + t < x → s.role t ≡ r → slot_bit s one n t r ≡ slot_bit s other n t r
  slot_bit-same n t (Align signal) inside made e = refl
  slot_bit-same n t (Service number) inside made e =
      ap (λ say. s.service number say (odd_before s one n)) (says n (omega arith)) ∙ ap (s.service number (g n)) (odd_before-same n (omega arith))
  slot_bit-same n t (Control j copy) inside made e = refl
  slot_bit-same n t (Just j) inside made e = payload_bit-same n t (Just j) inside made e
  slot_bit-same n t (Info j) inside made e = payload_bit-same n t (Info j) inside made e

  -- they decide the same first x bits
  pub line_bit-same_upto : (y : ℕ) → y < x → line_bit s one y ≡ line_bit s other y
  unfolding line_bit
  line_bit-same_upto y made =
      let whole : y / s.len * s.len + y % s.len ≡ y = div-add-mod' y s.len in
      slot_bit-same (y / s.len) (y % s.len) (s.role (y % s.len)) (mod_below y s.len frame.some_slots) (omega arith) refl

-- sources that agree on all bits of each tributary that the shape has decide the same line
pub line_bit-same : (s : FrameShape) (a b : Source) (x : ℕ) → IsFrame s → HasTributaries s → a.mode ≡ Plain → b.mode ≡ Plain → a.counts ≡ b.counts → a.says ≡ b.says
    → ((j i : ℕ) → j < s.tribs → a.inputs j i ≡ b.inputs j i) → line_bit s a x ≡ line_bit s b x
line_bit-same s a b x frame has plain plain' counts says inputs =
    ap (λ mode. line_bit s (record { mode = mode; counts = a.counts; inputs = a.inputs; says = a.says }) x) plain
    ∙ ap (λ c. line_bit s (record { mode = Plain; counts = c; inputs = a.inputs; says = a.says }) x) counts
    ∙ line_bit-same_upto s b.counts a.inputs b.inputs a.says b.says (suc x) frame has
    (λ n t j known inside made reads. inputs j (read_before s j (b.counts j) n t) known) (λ n made. ap (λ f. f n) says) x (omega arith)
    ∙ sym (ap (λ mode. line_bit s (record { mode = mode; counts = b.counts; inputs = b.inputs; says = b.says }) x) plain')

-- ---- a longer line

-- the frame of a place, which stands after n whole frames and before the end of one more
pub frame-is : (len n x : ℕ) → n * len ≤ x → x < suc n * len → x / len ≡ n
frame-is len n x from below =
    let more : suc n * len ≡ n * len + len = omega arith in
    let e : x ≡ n * len + (x - n * len) = omega arith in
    ap (λ y. y / len) e ∙ div-mul-add n len (x - n * len) (omega arith)

arrived_in-grows : (s : FrameShape) (count t u : ℕ) → IsFrame s → t ≤ u → arrived_in s count t ≤ arrived_in s count u
arrived_in-grows s count t u frame h =
    let more : t * count ≤ u * count = mul-le-mul_right count h in
    le-div (t * count / s.len) (u * count) s.len frame.some_slots (omega (arith, div-mul-le_self (t * count) s.len))

-- what came before a slot of a frame is no more than what came before a later one, in this frame or in a later one
came_before-later : (s : FrameShape) (counts : ℕ → ℕ) (n t m u : ℕ) → IsFrame s → t ≤ s.len → n < m → came_before s counts n t ≤ came_before s counts m u
came_before-later s counts n t m u frame inside later =
    omega (arith, arrived_in-grows s (counts n) t s.len frame inside, came_before-next s counts n frame, came_before-start s counts (suc n) frame, arrived-grows counts (suc n) m (omega arith))

came_before-within : (s : FrameShape) (counts : ℕ → ℕ) (n t m u : ℕ) → IsFrame s → n ≡ m → t ≤ u → came_before s counts n t ≤ came_before s counts m u
came_before-within s counts n t m u frame same h =
    subst (λ k. came_before s counts n t ≤ came_before s counts k u) same (omega (arith, arrived_in-grows s (counts n) t u frame h))

came_before-grows : (s : FrameShape) (counts : ℕ → ℕ) (x y : ℕ) → IsFrame s → x ≤ y → came_before s counts (x / s.len) (x % s.len) ≤ came_before s counts (y / s.len) (y % s.len)
came_before-grows s counts x y frame h =
    let whole_x : x / s.len * s.len + x % s.len ≡ x = div-add-mod' x s.len in
    let whole_y : y / s.len * s.len + y % s.len ≡ y = div-add-mod' y s.len in
    let inside : x % s.len < s.len = omega (arith, frame.some_slots) in
    let frames : x / s.len ≤ y / s.len = le-div (x / s.len) y s.len frame.some_slots (omega arith) in
    elim (cases_lt (x / s.len) (y / s.len)) [
      | inl later ↦ came_before-later s counts (x / s.len) (x % s.len) (y / s.len) (y % s.len) frame (omega arith) later
      | inr not_later ↦
          let same : x / s.len ≡ y / s.len = omega arith in
          let product : x / s.len * s.len ≡ y / s.len * s.len = ap (λ n. n * s.len) same in
          came_before-within s counts (x / s.len) (x % s.len) (y / s.len) (y % s.len) frame same (omega arith)
    ]

taken-some : (s : FrameShape) (counts : ℕ → ℕ) (x : ℕ) → taken s counts (suc x) ≡ came_before s counts (suc x / s.len) (suc x % s.len)
taken-some s counts x = ap (λ b. cond b 0 (came_before s counts (suc x / s.len) (suc x % s.len))) (eqb-suc-zero x)

-- a longer line takes no fewer bits of a tributary
pub taken-grows : (s : FrameShape) (counts : ℕ → ℕ) (x y : ℕ) → IsFrame s → x ≤ y → taken s counts x ≤ taken s counts y
taken-grows s counts zero y frame h = omega arith
taken-grows s counts (suc x) zero frame h = absurd (omega arith)
taken-grows s counts (suc x) (suc y) frame h = omega (arith, taken-some s counts x, taken-some s counts y, came_before-grows s counts (suc x) (suc y) frame h)
