-- The frames of a sent line of either mode, and what a receiver gets from them.
use Rattle.std.proofs.Common.{◌≡◌, ℕ, zero, suc, ◌+◌, ◌-◌, ◌*◌, ◌/◌, ◌<◌, ◌≤◌, Bool, true, false, ◌&&◌, ◌||◌, not, cond, ltb, eqb, List, [], ◌∷◌, ◌++◌, length, map, filter, take, drop, refl, sym, ap, ◌∙◌, subst, inl, inr, arith, get_or}
use Rattle.std.specs.Prelude.{count_by, flat_map}
use Rattle.std.specs.List.{range_with_len}
use Rattle.std.proofs.lemmas.Grind.{flat_map-append}
use Rattle.std.proofs.lemmas.List.{map-append, drop-map, append-nil}
use Rattle.std.proofs.lemmas.List.FromFn.{length-map-range_with_len, get_or-map-range_with_len, take-map-range_with_len}
use Rattle.std.proofs.lemmas.Nat.{div-mul-add, mod-mul-add}
use Rattle.std.proofs.Math.Nat.{mul-le-mul_right, div-mul-le_self, lt-div-mul-add}
use Rattle.std.proofs.lemmas.Bool.{eqb-true, lt-ltb, le-ltb, cases_Bool, cases_lt}
use Rattle.pdh_shape.specs.declared.role.Role.{Role}
use Rattle.pdh_shape.specs.declared.role.Role.TheVariants.{Align, Service, Control, Just, Info}
use Rattle.pdh_shape.specs.Frame.{FrameShape, IsFrame, slots, breaks, is_right}
use Rattle.pdh_shape.specs.Tributary.{reads_from, controls, control_ones, is_majority, carries_more, turned, bits_read, stripped, HasTributaries, reads_below}
use Rattle.pdh_line.specs.Tracking.{frame_of, frames_in}
use Rattle.pdh_line.specs.Receiving.{received}
use Rattle.pdh_line.specs.Edits.{edited}
use Rattle.pdh_line.specs.Sending.{sent, sends_more, carried, front, frames_found, Carriage, carriage, Source, carriage_of, more_in, input_bit, payload_bit, slot_bit, line_bit}
use Rattle.pdh_line.specs.Sending.Mode.{Plain}
use Rattle.pdh_line.proofs.Ranges.{and_true, range_push, range_append, map-range_same_on, map-range_shift, list_all-range, count-range_same, count_none, numbered}
use Rattle.pdh_line.proofs.RightLines.{every_right, frames_within, received-right, received-short}
use Rattle.pdh_line.proofs.SendingLaws.{sent-zero, sent-suc, sends_more-locked, reads_below-all}

-- how a tributary is carried, whatever decides which frames carry an additional bit and which edits there are
pub record IsCarried (s : FrameShape) (j : ℕ) (c : Carriage) : Type 0 where
  pub zero : c.sent 0 ≡ 0
  pub next : (n : ℕ) → c.sent (suc n) ≡ c.sent n + carried s (c.more n)
  pub locked : eqb s.copies 0 ≡ true → (n : ℕ) → c.more n ≡ false
  -- a bit that is read is as later edits leave it
  pub settled : (bits : ℕ → Bool) (m n t : ℕ) → n < m → t < s.len → reads_from j (c.more n) (s.role t) ≡ true
      → edited (c.edits n (suc t)) bits (c.sent n + reads_below s j (c.more n) t) ≡ edited (c.edits m 0) bits (c.sent n + reads_below s j (c.more n) t)

-- the bits of a tributary, with the edits of the first m frames
abbrev pub settled_bits : FrameShape → Source → ℕ → ℕ → ℕ → Bool
settled_bits s source j m = edited ((carriage_of s source j).edits m 0) (source.inputs j)

-- frame n of a sent line
abbrev pub sent_frame : FrameShape → Source → ℕ → List Bool
sent_frame s source n = map (λ t. slot_bit s source n t (s.role t)) (slots s)

-- the bit of slot t of frame n
pub line_bit-at : (s : FrameShape) (source : Source) (n t : ℕ) → t < s.len → line_bit s source (n * s.len + t) ≡ slot_bit s source n t (s.role t)
unfolding line_bit
line_bit-at s source n t h = rw (div-mul-add n s.len t h, mod-mul-add n s.len t h) refl

pub length-front : (line : ℕ → Bool) (x : ℕ) → length (front line x) ≡ x
length-front line x = length-map-range_with_len line 0 x

pub take-front : (line : ℕ → Bool) (x y : ℕ) → x ≤ y → take x (front line y) ≡ front line x
take-front line x y h = take-map-range_with_len line 0 y x h

-- the rest of a range behind its first k numbers
pub drop-range : (k a n : ℕ) → k ≤ n → drop k (range_with_len a n) ≡ range_with_len (a + k) (n - k)
drop-range zero a n h = ap (λ m. range_with_len m n) (omega arith) ∙ ap (λ m. range_with_len (a + 0) m) (omega arith)
drop-range (suc k) a zero h = absurd (omega arith)
drop-range (suc k) a (suc n) h =
    let e : a + 1 + k ≡ a + suc k = omega arith in
    let f : n - k ≡ suc n - suc k = omega arith in
    drop-range k (a + 1) n (omega arith) ∙ ap (λ m. range_with_len m (n - k)) e ∙ ap (range_with_len (a + suc k)) f

-- a whole frame of a front of a sent line
pub frame_of-front : (s : FrameShape) (source : Source) (x k : ℕ) → k * s.len + s.len ≤ x → frame_of s (front (line_bit s source) x) k ≡ sent_frame s source k
frame_of-front s source x k h =
    let from : 0 + k * s.len ≡ k * s.len + 0 = omega arith in
    ap (take s.len) (drop-map (line_bit s source) (k * s.len) (range_with_len 0 x) ∙ ap (map (line_bit s source)) (drop-range (k * s.len) 0 x (omega arith)))
    ∙ take-map-range_with_len (line_bit s source) (0 + k * s.len) (x - k * s.len) s.len (omega arith)
    ∙ ap (λ m. map (line_bit s source) (range_with_len m s.len)) from
    ∙ map-range_shift (line_bit s source) (k * s.len) 0 s.len
    ∙ map-range_same_on _ _ 0 s.len (λ t l h'. line_bit-at s source k t (omega arith))

-- ---- a sent frame is right

fits : (s : FrameShape) (source : Source) (n t : ℕ) (r : Role) → breaks r (slot_bit s source n t r) ≡ false
fits s source n t (Align true) = refl
fits s source n t (Align false) = refl
fits s source n t (Service number) = refl
fits s source n t (Control j copy) = refl
fits s source n t (Just j) = refl
fits s source n t (Info j) = refl

get-sent_frame : (s : FrameShape) (source : Source) (n t : ℕ) → t < s.len → get_or (sent_frame s source n) t false ≡ slot_bit s source n t (s.role t)
get-sent_frame s source n t h = get_or-map-range_with_len (λ t. slot_bit s source n t (s.role t)) 0 s.len t t false h (omega arith)

-- every alignment slot of a sent frame has its bit
pub sent_frame-right : (s : FrameShape) (source : Source) (n : ℕ) → is_right s (sent_frame s source n) ≡ true
unfolding is_right
sent_frame-right s source n = list_all-range _ 0 s.len (λ t l h. ap not (ap (breaks (s.role t)) (get-sent_frame s source n t (omega arith)) ∙ fits s source n t (s.role t)))

-- so each whole frame of a front of a sent line is right
pub front-right : (s : FrameShape) (source : Source) (x : ℕ) → IsFrame s → every_right s (front (line_bit s source) x) ≡ true
unfolding every_right
front-right s source x frame =
    list_all-range _ 0 (frames_in s (front (line_bit s source) x)) (λ k l h.
    let within : suc k * s.len ≤ length (front (line_bit s source) x) = frames_within s (front (line_bit s source) x) (suc k) frame (omega arith) in
    ap (is_right s) (frame_of-front s source x k (omega (arith, length-front (line_bit s source) x))) ∙ sent_frame-right s source k)

-- ---- what a sent frame gives back

-- a control slot holds 1 where the frame carries no additional bit
control_bit : (s : FrameShape) (source : Source) (n t j : ℕ) (r : Role) → (controls j r && slot_bit s source n t r) ≡ (controls j r && not (more_in s source j n))
control_bit s source n t j (Control i copy) = go (eqb i j) refl
  where
    go : (b : Bool) → eqb i j ≡ b → (eqb i j && not (more_in s source i n)) ≡ (eqb i j && not (more_in s source j n))
    go true e = ap (λ k. eqb i j && not (more_in s source k n)) (eqb-true i j e)
    go false e = rw e refl
control_bit s source n t j (Align signal) = refl
control_bit s source n t j (Service number) = refl
control_bit s source n t j (Just i) = refl
control_bit s source n t j (Info i) = refl

and_true_right : (b : Bool) → (b && true) ≡ b
and_true_right true = refl
and_true_right false = refl

and_false_right : (b : Bool) → (b && false) ≡ false
and_false_right true = refl
and_false_right false = refl

-- all copies of a sent frame hold the same
pub control_ones-sent : (s : FrameShape) (source : Source) (n j : ℕ) → HasTributaries s → j < s.tribs
    → control_ones s j (sent_frame s source n) ≡ cond (more_in s source j n) 0 s.copies
control_ones-sent s source n j has known =
    let same : control_ones s j (sent_frame s source n) ≡ count_by (λ t. controls j (s.role t) && not (more_in s source j n)) (slots s) =
    count-range_same _ _ 0 s.len (λ t l h. ap (λ b. controls j (s.role t) && b) (get-sent_frame s source n t (omega arith)) ∙ control_bit s source n t j (s.role t)) in
    same ∙ go (more_in s source j n)
  where
    go : (more : Bool) → count_by (λ t. controls j (s.role t) && not more) (slots s) ≡ cond more 0 s.copies
    go true = count-range_same _ _ 0 s.len (λ t l h. and_false_right (controls j (s.role t))) ∙ count_none (slots s)
    go false = count-range_same _ _ 0 s.len (λ t l h. and_true_right (controls j (s.role t))) ∙ has.copies j known

or_true_right : (b : Bool) → (b || true) ≡ true
or_true_right true = refl
or_true_right false = refl

-- so a receiver reads from them what the frame carries
majority-told : (s : FrameShape) (more : Bool) → eqb s.copies 0 ≡ false → not (is_majority (cond more 0 s.copies) s.copies) ≡ more
majority-told s true stores =
    let none : ltb s.copies (2 * 0) ≡ false = le-ltb _ _ (omega arith) in
    rw (none, stores) refl
majority-told s false stores =
    let some : 0 < s.copies = positive s.copies stores in
    let all : ltb s.copies (2 * s.copies) ≡ true = lt-ltb _ _ (omega arith) in
    rw all refl
  where
    positive : (n : ℕ) → eqb n 0 ≡ false → 0 < n
    positive zero h = cc
    positive (suc n) h = omega arith

pub carries_more-sent : (s : FrameShape) (source : Source) (n j : ℕ) → HasTributaries s → j < s.tribs → IsCarried s j (carriage_of s source j) → carries_more s j (sent_frame s source n) ≡ more_in s source j n
carries_more-sent s source n j has known is =
    ap (λ ones. not (is_majority ones s.copies)) (control_ones-sent s source n j has known)
    ∙ elim (cases_Bool (eqb s.copies 0)) [
      | inl locked ↦
          let ones : ℕ = cond (more_in s source j n) 0 s.copies in
          ap (λ b. not (ltb s.copies (2 * ones) || b)) locked ∙ ap not (or_true_right (ltb s.copies (2 * ones))) ∙ sym (is.locked locked n)
      | inr stores ↦ majority-told s (more_in s source j n) stores
    ]

-- a slot that carries a bit of j holds the next bit of j
reads_bit : (s : FrameShape) (source : Source) (n t j : ℕ) (r : Role) → reads_from j (more_in s source j n) r ≡ true → slot_bit s source n t r ≡ input_bit s source n t j
reads_bit s source n t j (Info i) h = ap (λ k. input_bit s source n t k) (eqb-true i j h)
reads_bit s source n t j (Just i) h =
    let parts = and_true (eqb i j) (more_in s source j n) h in
    let same : i ≡ j = eqb-true i j parts.0 in
    ap (λ k. payload_bit s source n t (Just k)) same ∙ ap (λ b. cond b (input_bit s source n t j) true) parts.1
reads_bit s source n t j (Align signal) h = cc
reads_bit s source n t j (Service number) h = cc
reads_bit s source n t j (Control i copy) h = cc

map-filter_same : {X : Type 0} (f g : ℕ → X) (p : ℕ → Bool) (a n : ℕ) → ((k : ℕ) → k < a + n → p k ≡ true → f k ≡ g k) → map f (filter p (range_with_len a n)) ≡ map g (filter p (range_with_len a n))
map-filter_same f g p a zero same = refl
map-filter_same f g p a (suc n) same =
    let rest : map f (filter p (range_with_len (a + 1) n)) ≡ map g (filter p (range_with_len (a + 1) n)) = map-filter_same f g p (a + 1) n (λ k h e. same k (omega arith) e) in
    elim (cases_Bool (p a)) [
      | inl passes ↦
          let here : f a ≡ g a = same a (omega arith) passes in
          rw passes cc
      | inr fails ↦ rw fails rest
    ]

turned_twice : (inverted bit : Bool) → turned inverted (turned inverted bit) ≡ bit
turned_twice true true = refl
turned_twice true false = refl
turned_twice false bit = refl

-- a sent frame gives back the next bits of the tributary
pub stripped-sent : (s : FrameShape) (source : Source) (m n j : ℕ) → HasTributaries s → j < s.tribs → IsCarried s j (carriage_of s source j) → n < m
    → stripped s j (sent_frame s source n) ≡ map (λ k. settled_bits s source j m ((carriage_of s source j).sent n + k)) (range_with_len 0 (carried s (more_in s source j n)))
unfolding stripped
stripped-sent s source m n j has known is below =
    let more : Bool = more_in s source j n in
    let f : ℕ → Bool = λ k. settled_bits s source j m ((carriage_of s source j).sent n + k) in
    ap (λ more. bits_read s j more (sent_frame s source n)) (carries_more-sent s source n j has known is)
    ∙ map-filter_same _ (λ t. f (reads_below s j more t)) (λ t. reads_from j more (s.role t)) 0 s.len
    (λ t h e. ap (turned (s.inverted j)) (get-sent_frame s source n t (omega arith) ∙ reads_bit s source n t j (s.role t) e
    ∙ ap (turned (s.inverted j)) (is.settled (source.inputs j) m n t below (omega arith) e)) ∙ turned_twice (s.inverted j) (f (reads_below s j more t)))
    ∙ numbered f (λ t. reads_from j more (s.role t)) s.len
    ∙ ap (λ n. map f (range_with_len 0 n)) (reads_below-all s j more has known)

-- the first frames of a sent line give back the tributary's bits in order
pub stripped-front : (s : FrameShape) (source : Source) (j most m : ℕ) → HasTributaries s → j < s.tribs → IsCarried s j (carriage_of s source j) → m ≤ most
    → flat_map (λ k. stripped s j (sent_frame s source k)) (range_with_len 0 m) ≡ front (settled_bits s source j most) ((carriage_of s source j).sent m)
stripped-front s source j most zero has known is upto = ap (front (settled_bits s source j most)) (sym is.zero)
stripped-front s source j most (suc m) has known is upto =
    let e : 0 + m ≡ m = omega arith in
    let line : ℕ → Bool = settled_bits s source j most in
    let n : ℕ = (carriage_of s source j).sent m in
    let c : ℕ = carried s (more_in s source j m) in
    let bits : ℕ → List Bool = λ k. stripped s j (sent_frame s source k) in
    let before : flat_map bits (range_with_len 0 m) ≡ front line n = stripped-front s source j most m has known is (omega arith) in
    let last : flat_map bits ((0 + m) ∷ []) ≡ map line (range_with_len (0 + n) c) =
    append-nil (bits (0 + m)) ∙ ap bits e ∙ stripped-sent s source most m j has known is (omega arith)
    ∙ sym (map-range_shift line n 0 c) ∙ ap (λ k. map line (range_with_len k c)) (omega arith) in
    ap (flat_map bits) (range_push 0 m) ∙ flat_map-append bits (range_with_len 0 m) ((0 + m) ∷ [])
    ∙ ap (λ x. x ++ flat_map bits ((0 + m) ∷ [])) before ∙ ap (λ x. front line n ++ x) last
    ∙ sym (map-append line (range_with_len 0 n) (range_with_len (0 + n) c))
    ∙ ap (map line) (sym (range_append 0 n c)) ∙ ap (front line) (sym (is.next m))

-- ---- what a receiver gets of a front of a sent line

flat_map-range_same : {X : Type 0} (f g : ℕ → List X) (a n : ℕ) → ((k : ℕ) → k < a + n → f k ≡ g k) → flat_map f (range_with_len a n) ≡ flat_map g (range_with_len a n)
flat_map-range_same f g a zero same = refl
flat_map-range_same f g a (suc n) same =
    let here : f a ≡ g a = same a (omega arith) in
    let rest : flat_map f (range_with_len (a + 1) n) ≡ flat_map g (range_with_len (a + 1) n) = flat_map-range_same f g (a + 1) n (λ k h. same k (omega arith)) in
    cc

-- what a tributary gets of a front of its node's line is a front of its own bits, with the edits of at least that many frames
pub received-carried : (s : FrameShape) (source : Source) (j x most : ℕ) → IsFrame s → HasTributaries s → j < s.tribs → IsCarried s j (carriage_of s source j) → x / s.len ≤ most
    → received s j (front (line_bit s source) x) ≡ front (settled_bits s source j most) ((carriage_of s source j).sent (frames_found (x / s.len)))
received-carried s source j x most frame has known is upto =
    let l : List Bool = front (line_bit s source) x in
    let line : ℕ → Bool = settled_bits s source j most in
    let sent : ℕ → ℕ = (carriage_of s source j).sent in
    let whole : frames_in s l ≡ x / s.len = ap (λ n. n / s.len) (length-front (line_bit s source) x) in
    elim (cases_lt (x / s.len) 3) [
      | inl few ↦
          let short : x < 3 * s.len = omega (arith, lt-div-mul-add {a = x} frame.some_slots, mul-le-mul_right s.len few) in
          received-short s j l frame (omega (arith, length-front (line_bit s source) x))
          ∙ ap (front line) (sym (ap (λ b. sent (cond b 0 (x / s.len))) (lt-ltb _ _ few) ∙ is.zero))
      | inr enough ↦
          received-right s j l frame (omega arith) (front-right s source x frame)
          ∙ ap (λ n. flat_map (λ k. stripped s j (frame_of s l k)) (range_with_len 0 n)) whole
          ∙ flat_map-range_same (λ k. stripped s j (frame_of s l k)) (λ k. stripped s j (sent_frame s source k)) 0 (x / s.len)
          (λ k h. ap (stripped s j) (frame_of-front s source x k (omega (arith, mul-le-mul_right s.len h, div-mul-le_self x s.len))))
          ∙ stripped-front s source j most (x / s.len) has known is upto
          ∙ ap (λ b. front line (sent (cond b 0 (x / s.len)))) (sym (le-ltb _ _ enough))
    ]

-- ---- plain mode

-- where an event ends a line, a tributary is carried as its sums say, and nothing edits its bits
pub plain_carried : (s : FrameShape) (j : ℕ) (counts : ℕ → ℕ) → IsCarried s j (carriage Plain s j counts)
plain_carried s j counts = record {
  zero = sent-zero s counts;
  next = sent-suc s counts;
  locked = λ locked n. sends_more-locked s counts n locked;
  settled = λ bits m n t below inside reads. refl;
}

pub is_plain : (s : FrameShape) (source : Source) (j : ℕ) → source.mode ≡ Plain → IsCarried s j (carriage_of s source j)
is_plain s source j plain = subst (λ mode. IsCarried s j (carriage mode s j (source.counts j))) (sym plain) (plain_carried s j (source.counts j))

-- a sent frame gives back the next bits of the tributary, as they came
pub stripped-plain : (s : FrameShape) (source : Source) (n j : ℕ) → source.mode ≡ Plain → HasTributaries s → j < s.tribs
    → stripped s j (sent_frame s source n) ≡ map (λ k. source.inputs j (sent s (source.counts j) n + k)) (range_with_len 0 (carried s (sends_more s (source.counts j) n)))
stripped-plain s source n j plain has known =
    stripped-sent s source (suc n) n j has known (is_plain s source j plain) (omega arith)
    ∙ ap (λ mode. let c = carriage mode s j (source.counts j) in map (λ k. edited (c.edits (suc n) 0) (source.inputs j) (c.sent n + k)) (range_with_len 0 (carried s (c.more n)))) plain

pub received-front : (s : FrameShape) (source : Source) (j x : ℕ) → source.mode ≡ Plain → IsFrame s → HasTributaries s → j < s.tribs
    → received s j (front (line_bit s source) x) ≡ front (source.inputs j) (sent s (source.counts j) (frames_found (x / s.len)))
received-front s source j x plain frame has known =
    received-carried s source j x (x / s.len) frame has known (is_plain s source j plain) (omega arith)
    ∙ ap (λ mode. front (edited ((carriage mode s j (source.counts j)).edits (x / s.len) 0) (source.inputs j)) ((carriage mode s j (source.counts j)).sent (frames_found (x / s.len)))) plain
