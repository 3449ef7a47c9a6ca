-- Pieces of a frame: the turns that they touch, their overhead, their bits and the parity of their payload.
use Rattle.std.proofs.Common.{◌≡◌, ℕ, zero, suc, ◌+◌, ◌-◌, ◌*◌, ◌/◌, ◌%◌, ◌<◌, ◌≤◌, Bool, true, false, not, ◌&&◌, ◌==◌, cond, List, [], ◌∷◌, ◌++◌, length, get_or, nat_lt, refl, sym, ap, ◌∙◌, inl, inr, arith, add-one}
use Rattle.std.specs.Prelude.{count_by}
use Rattle.std.specs.Bool.{beq}
use Rattle.std.specs.List.{range_with_len}
use Rattle.std.proofs.lemmas.Bool.{cases_Bool, cases_eq, lt-ltb, ltb-true}
use Rattle.std.proofs.lemmas.List.{get_or_append_left, get_or_at, length-append}
use Rattle.std.proofs.lemmas.Nat.{div-mul-add, div-add-mod', mod_below}
use Rattle.pdh_line.proofs.Ranges.{count-range_same}
use Rattle.pdh_shape.specs.declared.role.Role.{Role}
use Rattle.pdh_shape.specs.declared.role.Role.TheVariants.{Align, Service, Control, Just, Info}
use Rattle.pdh_shape.specs.Frame.{FrameShape}
use Rattle.pdh_shape.specs.Tributary.{reads_from}
use Rattle.pdh_shape.specs.Payload.{PayloadInTurn, is_payload, payload_before, payload_ones}
use Rattle.pdh_runs.specs.Pieces.{turn, overhead_before, rows}
use Rattle.pdh_runs.proofs.Counts.{before_next, before_pass, before_most, before_grows}
use Rattle.pdh_runs.proofs.TurnLaws.{turn_grows}

-- ---- the payload slots before slots

one_or_none : (b : Bool) → cond b 1 0 ≤ 1
one_or_none true = omega arith
one_or_none false = omega arith

pub payload_next : (s : FrameShape) (t : ℕ) → payload_before s (t + 1) ≡ payload_before s t + cond (is_payload (s.role t)) 1 0
payload_next s t = before_next (λ slot. is_payload (s.role slot)) t

pub payload_grows : (s : FrameShape) (a b : ℕ) → a ≤ b → payload_before s a ≤ payload_before s b
payload_grows s a b h = before_grows (λ slot. is_payload (s.role slot)) a b h

pub payload_most : (s : FrameShape) (t : ℕ) → payload_before s t ≤ t
payload_most s t = before_most (λ slot. is_payload (s.role slot)) t

-- a slot is a payload slot where there are more of them before the next
pub payload_told : (s : FrameShape) (t n m : ℕ) → n ≡ payload_before s t → m ≡ payload_before s (t + 1) → nat_lt n m ≡ is_payload (s.role t)
payload_told s t n m is next = one (is_payload (s.role t)) (next ∙ payload_next s t ∙ ap (λ k. k + cond (is_payload (s.role t)) 1 0) (sym is))
  where
    one : (b : Bool) → m ≡ n + cond b 1 0 → nat_lt n m ≡ b
    one true e = lt-ltb n m (omega (arith, e))
    one false e = elim (cases_Bool (nat_lt n m)) [
      | inl less ↦ absurd (omega (arith, e, ltb-true n m less))
      | inr is ↦ is
    ]

-- a payload slot has tributaries
pub some_tributaries : (s : FrameShape) (t : ℕ) → PayloadInTurn s → t < s.len → is_payload (s.role t) ≡ true → 0 < s.tribs
some_tributaries s t turns within pass = elim (cases_eq s.tribs 0) [
  | inl none ↦
      let whole : payload_before s s.len ≡ 0 = turns.whole ∙ ap (λ n. n * suc s.low) none ∙ omega arith in
      absurd (omega (arith, whole, before_pass (λ slot. is_payload (s.role slot)) t pass, payload_grows s (t + 1) s.len (omega (arith, within))))
  | inr some ↦ omega (arith, some)
]

-- a slot that may carry a bit of a tributary is a payload slot
pub reads_payload : (j : ℕ) (role : Role) → reads_from j true role ≡ true → is_payload role ≡ true
reads_payload j (Info i) h = refl
reads_payload j (Just i) h = refl
reads_payload j (Align signal) h = cc
reads_payload j (Service number) h = cc
reads_payload j (Control i copy) h = cc

-- a slot that carries a bit of it may
pub reads_more : (j : ℕ) (more : Bool) (role : Role) → reads_from j more role ≡ true → reads_from j true role ≡ true
reads_more j more (Info i) h = h
reads_more j more (Just i) h = weaker (i == j) more h
  where
    weaker : (a b : Bool) → (a && b) ≡ true → (a && true) ≡ true
    weaker true b h = refl
    weaker false b h = h
reads_more j more (Align signal) h = h
reads_more j more (Service number) h = h
reads_more j more (Control i copy) h = h

-- ---- the turns that a piece touches

quotient : (n p q r : ℕ) → p ≡ q * n + r → r < n → p / n ≡ q
quotient n p q r is less = ap (λ k. k / n) is ∙ div-mul-add q n r less

-- the turns begun before p + 1 are the turn of p and those before it
pub turn_begun : (n p : ℕ) → 0 < n → (p + 1 + n - 1) / n ≡ p / n + 1
turn_begun n p some =
    let parts : p / n * n + p % n ≡ p = div-add-mod' p n in
    let now : p + 1 + n - 1 ≡ suc (p / n) * n + p % n = omega (arith, parts, some) in
    quotient n (p + 1 + n - 1) (suc (p / n)) (p % n) now (mod_below p n some) ∙ omega arith

module _ (s : FrameShape) (some : 0 < s.tribs) where
  -- turns follow each other
  pub turn_grows_to : (first t : ℕ) → first ≤ t → turn s first ≤ turn s t
  turn_grows_to first t begun = turn_grows s.tribs (payload_before s first) (payload_before s t) some (payload_grows s first t begun)

  pub turns_begun_grow : (p p' : ℕ) → p ≤ p' → (p + s.tribs - 1) / s.tribs ≤ (p' + s.tribs - 1) / s.tribs
  turns_begun_grow p p' h = turn_grows s.tribs (p + s.tribs - 1) (p' + s.tribs - 1) some (omega (arith, h))

  -- a piece touches the turn before which it begins, if any
  pub turn_within : (first len : ℕ) → turn s first ≤ (payload_before s (first + len) + s.tribs - 1) / s.tribs
  turn_within first len = turn_grows s.tribs (payload_before s first) (payload_before s (first + len) + s.tribs - 1) some (omega (arith, some, payload_grows s first (first + len) (omega arith)))

  -- no more than there are in a frame
  pub rows_most : (first len : ℕ) → PayloadInTurn s → first + len ≤ s.len → rows s first len ≤ suc s.low
  rows_most first len turns within =
      let order : s.tribs * suc s.low ≡ suc s.low * s.tribs = omega arith in
      let all : payload_before s (first + len) ≤ suc s.low * s.tribs = omega (arith, order, turns.whole, payload_grows s (first + len) s.len within) in
      let most = turns_begun_grow (payload_before s (first + len)) (suc s.low * s.tribs) all in
      let last : suc s.low * s.tribs + s.tribs - 1 ≡ suc s.low * s.tribs + (s.tribs - 1) = omega (arith, some) in
      omega (arith, most, quotient s.tribs (suc s.low * s.tribs + s.tribs - 1) (suc s.low) (s.tribs - 1) last (omega (arith, some)))

  -- a shorter piece touches no more
  pub rows_grow : (first k len : ℕ) → k ≤ len → rows s first k ≤ rows s first len
  rows_grow first k len h = omega (arith, turns_begun_grow (payload_before s (first + k)) (payload_before s (first + len)) (payload_grows s (first + k) (first + len) (omega (arith, h))))

  -- a payload slot stands in a turn that the slots up to it touch
  pub row_within : (first t : ℕ) → first ≤ t → is_payload (s.role t) ≡ true → turn s t - turn s first < rows s first (t + 1 - first)
  row_within first t begun pass =
      let next : payload_before s (t + 1) ≡ payload_before s t + 1 = before_pass (λ slot. is_payload (s.role slot)) t pass in
      let end : first + (t + 1 - first) ≡ t + 1 = omega (arith, begun) in
      let same : (payload_before s (first + (t + 1 - first)) + s.tribs - 1) / s.tribs ≡ turn s t + 1 =
      ap (λ e. (payload_before s e + s.tribs - 1) / s.tribs) end ∙ ap (λ p. (p + s.tribs - 1) / s.tribs) next ∙ turn_begun s.tribs (payload_before s t) some in
      omega (arith, same, turn_grows s.tribs (payload_before s first) (payload_before s t) some (payload_grows s first t begun))

-- ---- the overhead before slots

pub overhead_next : (s : FrameShape) (t : ℕ) → overhead_before s (t + 1) ≡ overhead_before s t + cond (is_payload (s.role t)) 0 1
overhead_next s t = one (is_payload (s.role t)) (payload_next s t)
  where
    one : (b : Bool) → payload_before s (t + 1) ≡ payload_before s t + cond b 1 0 → overhead_before s (t + 1) ≡ overhead_before s t + cond b 0 1
    one true e = omega (arith, e, payload_most s t)
    one false e = omega (arith, e, payload_most s t)

pub overhead_grows : (s : FrameShape) (a b : ℕ) → a ≤ b → overhead_before s a ≤ overhead_before s b
overhead_grows s a zero h = (let same : a ≡ 0 = omega (arith, h) in omega (arith, ap (overhead_before s) same))
overhead_grows s a (suc b) h = elim (cases_eq a (suc b)) [
  | inl same ↦ omega (arith, ap (overhead_before s) same)
  | inr other ↦ omega (arith, overhead_grows s a b (omega (arith, h, other)), ap (overhead_before s) (sym (add-one b)) ∙ overhead_next s b)
]

-- ---- the parity of the payload

pub payload_ones_push : (s : FrameShape) (first : ℕ) (bits : List Bool) (bit : Bool) → payload_ones s first (bits ++ bit ∷ []) ≡ payload_ones s first bits + cond (bit && is_payload (s.role (first + length bits))) 1 0
payload_ones_push s first bits bit =
    let long : length (bits ++ bit ∷ []) ≡ length bits + 1 = length-append bits (bit ∷ []) in
    let now : ℕ → Bool = λ v. get_or (bits ++ bit ∷ []) v false && is_payload (s.role (first + v)) in
    let old : ℕ → Bool = λ v. get_or bits v false && is_payload (s.role (first + v)) in
    ap (λ n. count_by now (range_with_len 0 n)) long ∙ before_next now (length bits)
    ∙ ap (λ n. n + cond (now (length bits)) 1 0) (count-range_same now old 0 (length bits) (λ k h h'. ap (λ b. b && is_payload (s.role (first + k))) (get_or_append_left bits (bit ∷ []) false k (omega (arith, h')))))
    ∙ ap (λ b. payload_ones s first bits + cond (b && is_payload (s.role (first + length bits))) 1 0) (get_or_at bits bit [] false (length bits) refl)

odd_of : (n : ℕ) (b : Bool) → not (beq (n % 2 == 1) b) ≡ ((n + cond b 1 0) % 2 == 1)
odd_of zero true = refl
odd_of zero false = refl
odd_of (suc zero) true = refl
odd_of (suc zero) false = refl
odd_of (suc (suc n)) b =
    let even : (suc (suc n)) % 2 ≡ n % 2 = omega arith in
    let more : (suc (suc n) + cond b 1 0) % 2 ≡ (n + cond b 1 0) % 2 = omega arith in
    ap (λ k. not (beq (k == 1) b)) even ∙ odd_of n b ∙ ap (λ k. k == 1) (sym more)

pub parity_push : (s : FrameShape) (first : ℕ) (bits now : List Bool) (bit class odd : Bool) → now ≡ bits ++ bit ∷ [] → class ≡ is_payload (s.role (first + length bits)) → odd ≡ (payload_ones s first bits % 2 == 1)
    → not (beq odd (bit && class)) ≡ (payload_ones s first now % 2 == 1)
parity_push s first bits now bit class odd is told was =
    ap (λ b. not (beq b (bit && class))) was ∙ ap (λ b. not (beq (payload_ones s first bits % 2 == 1) (bit && b))) told
    ∙ odd_of (payload_ones s first bits) (bit && is_payload (s.role (first + length bits)))
    ∙ ap (λ n. n % 2 == 1) (sym (payload_ones_push s first bits bit)) ∙ ap (λ l. payload_ones s first l % 2 == 1) (sym is)
