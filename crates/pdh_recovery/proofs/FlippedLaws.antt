-- Flipped bits stay where they are: the majority of the control copies holds, and each bit is read from its own place.
use Rattle.std.proofs.Common.{◌≡◌, ℕ, zero, suc, ◌+◌, ◌-◌, ◌*◌, ◌/◌, ◌<◌, ◌≤◌, Bool, true, false, ◌&&◌, ◌||◌, not, cond, ltb, eqb, List, [], ◌∷◌, ◌++◌, length, map, filter, drop, refl, sym, ap, ◌∙◌, subst, inl, inr, arith, get_or, replicate}
use Rattle.std.specs.Prelude.{count_by, flat_map, ◌⊎◌}
use Rattle.std.specs.List.{range_with_len}
use Rattle.std.proofs.lemmas.List.{map-append, length-map, get_or-take, get_or-drop}
use Rattle.std.proofs.lemmas.List.Sums.{sum_by-cons}
use Rattle.std.proofs.lemmas.Bool.{lt-ltb, le-ltb, cases_Bool}
use Rattle.std.proofs.lemmas.Nat.{div-mul-add}
use Rattle.std.proofs.Math.Nat.{div-mul-le_self}
use Rattle.pdh_shape.specs.Frame.{FrameShape, IsFrame, slots, is_right}
use Rattle.pdh_line.specs.Tracking.{is_confirmed, positions, completes_loss}
use Rattle.std.proofs.lemmas.Nat.{le-div}
use Rattle.pdh_recovery.proofs.SettleLaws.{confirmed_of, right_no_loss, kept_of, least_below_at}
use Rattle.pdh_line.specs.Tracking.{frame_of, gap_of, is_found, aligned, delivered, is_lost, frames_in, track}
use Rattle.pdh_line.specs.Tracking.Piece.{Gap, Delivered}
use Rattle.pdh_shape.specs.Tributary.{reads_from, controls, control_ones, is_majority, carries_more, turned, bits_read, stripped, HasTributaries}
use Rattle.pdh_line.specs.Receiving.{piece_bits, received}
use Rattle.pdh_line.proofs.TrackingLaws as laws
use Rattle.pdh_align.proofs.AligningLaws.{all_delivered, track_aligned}
use Rattle.pdh_line.specs.Sending.{Source, more_in, line_bit, front}
use Rattle.pdh_line.proofs.SentFrames.{sent_frame, frame_of-front, sent_frame-right, control_ones-sent, length-front}
use Rattle.pdh_line.specs.Tracking.{after_loss}
use Rattle.pdh_recovery.proofs.PieceLaws.{begins_with_gap, open_frames, one_search_frames, length-open_frames}
use Rattle.pdh_recovery.proofs.OnceLaws.{no_gap_among}
use Rattle.pdh_recovery.specs.Flipped.{differ, wrong_copies, IsOneAlignment, AreCopiesEqual, places_in, places, read_at, AreFewWrong, ReadsTheSame}

-- ---- the majority

one_copy : (c x y : Bool) → cond (c && x) 1 0 ≤ cond (c && y) 1 0 + cond (c && differ x y) 1 0
one_copy false x y = omega arith
one_copy true true true = omega arith
one_copy true true false = omega arith
one_copy true false y = omega arith

other_copy : (c x y : Bool) → cond (c && y) 1 0 ≤ cond (c && x) 1 0 + cond (c && differ x y) 1 0
other_copy false x y = omega arith
other_copy true true true = omega arith
other_copy true true false = omega arith
other_copy true false true = omega arith
other_copy true false false = omega arith

count_most : (p q r : ℕ → Bool) (xs : List ℕ) → ((x : ℕ) → cond (p x) 1 0 ≤ cond (q x) 1 0 + cond (r x) 1 0) → count_by p xs ≤ count_by q xs + count_by r xs
count_most p q r [] each = omega arith
count_most p q r (x ∷ xs) each =
    let a = sum_by-cons (λ t. cond (p t) 1 0) x xs in
    let b = sum_by-cons (λ t. cond (q t) 1 0) x xs in
    let c = sum_by-cons (λ t. cond (r t) 1 0) x xs in
    omega (arith, each x, a, b, c, count_most p q r xs each)

pub ones_most : (s : FrameShape) (frame other : List Bool) (j : ℕ) → control_ones s j frame ≤ control_ones s j other + wrong_copies s j frame other
ones_most s frame other j = count_most _ _ _ (slots s) (λ t. one_copy (controls j (s.role t)) (get_or frame t false) (get_or other t false))

pub ones_least : (s : FrameShape) (frame other : List Bool) (j : ℕ) → control_ones s j other ≤ control_ones s j frame + wrong_copies s j frame other
ones_least s frame other j = count_most _ _ _ (slots s) (λ t. other_copy (controls j (s.role t)) (get_or frame t false) (get_or other t false))

or_true_right : (b : Bool) → (b || true) ≡ true
or_true_right true = refl
or_true_right false = refl

-- with at most (COPIES-1)/2 wrong copies the majority is that of the sent frame
pub majority : (s : FrameShape) (ones sent_ones wrong : ℕ) → (sent_ones ≡ 0) ⊎ (sent_ones ≡ s.copies) → ones ≤ sent_ones + wrong → sent_ones ≤ ones + wrong
    → (eqb s.copies 0 ≡ false → wrong ≤ (s.copies - 1) / 2) → not (is_majority ones s.copies) ≡ not (is_majority sent_ones s.copies)
majority s ones sent_ones wrong equal most least few =
    elim (cases_Bool (eqb s.copies 0)) [
      | inl locked ↦ told locked ones ∙ sym (told locked sent_ones)
      | inr stores ↦
          let bound : wrong ≤ (s.copies - 1) / 2 = few stores in
          let half : (s.copies - 1) / 2 * 2 ≤ s.copies - 1 = div-mul-le_self (s.copies - 1) 2 in
          let some : 0 < s.copies = positive s.copies stores in
          same (elim equal [
            | inl none ↦
                let a : ltb s.copies (2 * ones) ≡ false = le-ltb _ _ (omega arith) in
                let b : ltb s.copies (2 * sent_ones) ≡ false = le-ltb _ _ (omega arith) in
                a ∙ sym b
            | inr all ↦
                let a : ltb s.copies (2 * ones) ≡ true = lt-ltb _ _ (omega arith) in
                let b : ltb s.copies (2 * sent_ones) ≡ true = lt-ltb _ _ (omega arith) in
                a ∙ sym b
          ])
    ]
  where
    told : eqb s.copies 0 ≡ true → (n : ℕ) → not (is_majority n s.copies) ≡ false
    told locked n = ap (λ b. not (ltb s.copies (2 * n) || b)) locked ∙ ap not (or_true_right (ltb s.copies (2 * n)))

    positive : (n : ℕ) → eqb n 0 ≡ false → 0 < n
    positive zero h = cc
    positive (suc n) h = omega arith

    same : ltb s.copies (2 * ones) ≡ ltb s.copies (2 * sent_ones) → not (is_majority ones s.copies) ≡ not (is_majority sent_ones s.copies)
    same e = ap (λ b. not (b || eqb s.copies 0)) e

-- ---- one alignment from the first bit on

pub record IsOne (s : FrameShape) (line : List Bool) : Type 0 where
  pub found : is_found s line ≡ true
  pub at_once : gap_of s line ≡ 0
  pub kept : is_lost s line ≡ false

pub one_of_pieces : (s : FrameShape) (line : List Bool) → IsFrame s → IsOneAlignment s line → IsOne s line
one_of_pieces s line shape one =
    elim (cases_Bool (is_lost s line)) [
      | inl lost ↦
          let later = begins_with_gap s (after_loss s line) shape in
          let all : track s line ≡ Gap (gap_of s line) ∷ (map Delivered (open_frames s line) ++ Gap later.0 ∷ later.1) =
          laws.track_lost s line shape lost ∙ ap (λ r. r ++ track s (after_loss s line)) (one_search_frames s line)
          ∙ ap (λ r. Gap (gap_of s line) ∷ (map Delivered (open_frames s line) ++ r)) later.2 in
          let pieces : track s line ≡ Gap 0 ∷ map Delivered one.frames = one.pieces in
          let rest : map Delivered one.frames ≡ map Delivered (open_frames s line) ++ Gap later.0 ∷ later.1 = cc in
          absurd (no_gap_among one.frames (map Delivered (open_frames s line)) later.1 later.0 rest)
      | inr kept ↦
          let all : track s line ≡ Gap (gap_of s line) ∷ map Delivered (open_frames s line) = laws.track_open s line kept ∙ one_search_frames s line in
          let pieces : track s line ≡ Gap 0 ∷ map Delivered one.frames = one.pieces in
          let none : gap_of s line ≡ 0 = cc in
          let rest : map Delivered one.frames ≡ map Delivered (open_frames s line) = cc in
          let some : 0 < length one.frames = one.some in
          let many : length one.frames ≡ delivered s line = sym (length-map one.frames Delivered) ∙ ap length rest ∙ length-map (open_frames s line) Delivered ∙ length-open_frames s line in
          let found : is_found s line ≡ true = elim (cases_Bool (is_found s line)) [
            | inl found ↦ found
            | inr open_gap ↦ absurd (omega (arith, laws.delivered_none s line open_gap))
          ] in
          record { found = found; at_once = none; kept = kept }
    ]

no_gap : (s : FrameShape) (j : ℕ) → IsFrame s → piece_bits s j (Gap 0) ≡ []
unfolding piece_bits
no_gap s j shape =
    let none : 0 / s.len ≡ 0 = omega (arith, div-mul-add 0 s.len 0 shape.some_slots) in
    let nothing : 0 * s.low ≡ 0 = omega arith in
    ap (λ n. replicate (n * s.low) true) none ∙ ap (λ n. replicate n true) nothing

bits_of_frame : (s : FrameShape) (j : ℕ) (frame : List Bool) → piece_bits s j (Delivered frame) ≡ stripped s j frame
unfolding piece_bits
bits_of_frame s j frame = refl

flat_map-range : {X : Type 0} (f g : ℕ → List X) (a n : ℕ) → ((k : ℕ) → a ≤ k → k < a + n → f k ≡ g k) → flat_map f (range_with_len a n) ≡ flat_map g (range_with_len a n)
flat_map-range f g a zero same = refl
flat_map-range f g a (suc n) same =
    let here : f a ≡ g a = same a (omega arith) (omega arith) in
    let rest : flat_map f (range_with_len (a + 1) n) ≡ flat_map g (range_with_len (a + 1) n) = flat_map-range f g (a + 1) n (λ k h h'. same k (omega arith) (omega arith)) in
    ap (λ x. x ++ flat_map f (range_with_len (a + 1) n)) here ∙ ap (λ x. g a ++ x) rest

flat_bits : (s : FrameShape) (j : ℕ) (frame : ℕ → List Bool) (xs : List ℕ) → flat_map (piece_bits s j) (map (λ k. Delivered (frame k)) xs) ≡ flat_map (λ k. stripped s j (frame k)) xs
flat_bits s j frame [] = refl
flat_bits s j frame (x ∷ xs) = ap (λ y. y ++ flat_map (piece_bits s j) (map (λ k. Delivered (frame k)) xs)) (bits_of_frame s j (frame x)) ∙ ap (λ y. stripped s j (frame x) ++ y) (flat_bits s j frame xs)

pub received-one : (s : FrameShape) (line : List Bool) (j : ℕ) → IsFrame s → IsOne s line
    → received s j line ≡ flat_map (λ k. stripped s j (frame_of s line k)) (range_with_len 0 (frames_in s line))
unfolding received
received-one s line j shape one =
    let same : aligned s line ≡ line = ap (λ n. drop n line) one.at_once in
    let all : delivered s line ≡ frames_in s line = all_delivered s line one.found one.kept ∙ ap (frames_in s) same in
    ap (flat_map (piece_bits s j)) (track_aligned s line one.kept ∙ ap (λ n. Gap n ∷ map (λ k. Delivered (frame_of s (aligned s line) k)) (range_with_len 0 (delivered s line))) one.at_once
    ∙ ap (λ l. Gap 0 ∷ map (λ k. Delivered (frame_of s l k)) (range_with_len 0 (delivered s line))) same
    ∙ ap (λ n. Gap 0 ∷ map (λ k. Delivered (frame_of s line k)) (range_with_len 0 n)) all)
    ∙ ap (λ y. y ++ flat_map (piece_bits s j) (map (λ k. Delivered (frame_of s line k)) (range_with_len 0 (frames_in s line)))) (no_gap s j shape)
    ∙ flat_bits s j (frame_of s line) (range_with_len 0 (frames_in s line))

-- ---- each bit is read from its place

map-filter_same : {X : Type 0} (f g : ℕ → X) (p : ℕ → Bool) (a n : ℕ) → ((k : ℕ) → k < a + n → f k ≡ g k) → map f (filter p (range_with_len a n)) ≡ map g (filter p (range_with_len a n))
map-filter_same f g p a zero same = refl
map-filter_same f g p a (suc n) same =
    let rest : map f (filter p (range_with_len (a + 1) n)) ≡ map g (filter p (range_with_len (a + 1) n)) = map-filter_same f g p (a + 1) n (λ k h. same k (omega arith)) in
    elim (cases_Bool (p a)) [
      | inl passes ↦
          let here : f a ≡ g a = same a (omega arith) in
          rw passes cc
      | inr fails ↦ rw fails rest
    ]

map_twice : {X Y Z : Type 0} (f : X → Y) (g : Y → Z) (xs : List X) → map (λ x. g (f x)) xs ≡ map g (map f xs)
map_twice f g [] = refl
map_twice f g (x ∷ xs) = ap (λ r. g (f x) ∷ r) (map_twice f g xs)

map-flat_map : {X Y Z : Type 0} (f : Y → Z) (g : X → List Y) (xs : List X) → map f (flat_map g xs) ≡ flat_map (λ x. map f (g x)) xs
map-flat_map f g [] = refl
map-flat_map f g (x ∷ xs) = map-append f (g x) (flat_map g xs) ∙ ap (λ y. map f (g x) ++ y) (map-flat_map f g xs)

get_frame : (s : FrameShape) (line : List Bool) (k t : ℕ) → t < s.len → get_or (frame_of s line k) t false ≡ get_or line (k * s.len + t) false
get_frame s line k t h = get_or-take s.len (drop (k * s.len) line) t false h ∙ get_or-drop (k * s.len) line t false

strip_at : (s : FrameShape) (line sent : List Bool) (j k : ℕ) → carries_more s j (frame_of s line k) ≡ carries_more s j (frame_of s sent k)
    → stripped s j (frame_of s line k) ≡ read_at s j line (places_in s j sent k)
unfolding stripped
strip_at s line sent j k same =
    let f : ℕ → Bool = λ x. turned (s.inverted j) (get_or line x false) in
    let p : ℕ → Bool = λ slot. reads_from j (carries_more s j (frame_of s sent k)) (s.role slot) in
    ap (λ more. bits_read s j more (frame_of s line k)) same
    ∙ map-filter_same _ (λ t. f (k * s.len + t)) p 0 s.len (λ t h. ap (turned (s.inverted j)) (get_frame s line k t (omega arith)))
    ∙ map_twice (λ t. k * s.len + t) f (filter p (slots s))

read_all : (s : FrameShape) (line sent : List Bool) (j n : ℕ)
    → ((k : ℕ) → k < n → carries_more s j (frame_of s line k) ≡ carries_more s j (frame_of s sent k))
    → flat_map (λ k. stripped s j (frame_of s line k)) (range_with_len 0 n) ≡ read_at s j line (flat_map (places_in s j sent) (range_with_len 0 n))
read_all s line sent j n same =
    flat_map-range _ (λ k. read_at s j line (places_in s j sent k)) 0 n (λ k h h'. strip_at s line sent j k (same k (omega arith)))
    ∙ sym (map-flat_map (λ x. turned (s.inverted j) (get_or line x false)) (places_in s j sent) (range_with_len 0 n))

-- flipped bits that leave the alignment and the majorities change a tributary's bits only where they stand
pub reads_the_same : (s : FrameShape) (line sent : List Bool) (j : ℕ) → IsFrame s → length line ≡ length sent → IsOne s line → IsOne s sent
    → ((k : ℕ) → k < frames_in s sent → AreCopiesEqual s j (frame_of s sent k)) → AreFewWrong s j line sent → ReadsTheSame s j line sent
reads_the_same s line sent j shape same_length one one' equal few =
    let frames : frames_in s line ≡ frames_in s sent = ap (λ n. n / s.len) same_length in
    let a : received s j line ≡ read_at s j line (places s j sent) =
    received-one s line j shape one ∙ ap (λ n. flat_map (λ k. stripped s j (frame_of s line k)) (range_with_len 0 n)) frames
    ∙ read_all s line sent j (frames_in s sent) (λ k h. majority s _ _ (wrong_copies s j (frame_of s line k) (frame_of s sent k)) (equal k h)
    (ones_most s (frame_of s line k) (frame_of s sent k) j) (ones_least s (frame_of s line k) (frame_of s sent k) j) (λ stores. few stores k h)) in
    let b : received s j sent ≡ read_at s j sent (places s j sent) = received-one s sent j shape one' ∙ read_all s sent sent j (frames_in s sent) (λ k h. refl) in
    record {
      of_line = a;
      of_sent = b;
      same_length = ap length a ∙ length-map (places s j sent) (λ x. turned (s.inverted j) (get_or line x false))
          ∙ sym (ap length b ∙ length-map (places s j sent) (λ x. turned (s.inverted j) (get_or sent x false)));
    }

-- a line of right frames is one alignment
pub right_one : (s : FrameShape) (sent : List Bool) → IsFrame s → 3 * s.len ≤ length sent → ((k : ℕ) → k < frames_in s sent → is_right s (frame_of s sent k) ≡ true) → IsOne s sent
right_one s sent shape long right =
    let whole : 3 ≤ frames_in s sent = le-div 3 (length sent) s.len shape.some_slots long in
    let confirmed : is_confirmed s sent ≡ true = confirmed_of s sent long (λ k h. right k (omega arith)) in
    let least : gap_of s sent ≤ 0 = rw (laws.gap_of_is s sent) (least_below_at (positions s sent) (λ p. is_confirmed s (drop p sent)) 0 confirmed) in
    let none : gap_of s sent ≡ 0 = omega arith in
    let found : is_found s sent ≡ true = lt-ltb _ _ (omega arith) in
    let same : aligned s sent ≡ sent = ap (λ n. drop n sent) none in
    let fine : (k : ℕ) → k < frames_in s sent → completes_loss s sent k ≡ false = λ k h. right_no_loss s sent k shape (λ i h'. right i (omega arith)) in
    record { found = found; at_once = none; kept = kept_of s sent found (subst (λ l. (k : ℕ) → k < frames_in s l → completes_loss s l k ≡ false) (sym same) fine) }

pub one_long : (s : FrameShape) (line : List Bool) → IsOne s line → 3 * s.len ≤ length line
one_long s line one =
    let same : aligned s line ≡ line = ap (λ n. drop n line) one.at_once in
    subst (λ l. 3 * s.len ≤ length l) same (laws.aligned_long s line one.found)

-- the same, of a received line that differs from a line of right frames with equal copies
pub contained : (s : FrameShape) (line sent : List Bool) (j : ℕ) → IsFrame s → length line ≡ length sent → IsOneAlignment s line
    → ((k : ℕ) → k < frames_in s sent → is_right s (frame_of s sent k) ≡ true)
    → ((k : ℕ) → k < frames_in s sent → AreCopiesEqual s j (frame_of s sent k)) → AreFewWrong s j line sent → ReadsTheSame s j line sent
contained s line sent j shape same_length one right equal few =
    reads_the_same s line sent j shape same_length (one_of_pieces s line shape one) (right_one s sent shape (omega (arith, one_long s line (one_of_pieces s line shape one))) right) equal few

-- the same, of a received line that differs in flipped bits from a front of the line that a node sends
pub contained_sent : (s : FrameShape) (source : Source) (line : List Bool) (j : ℕ) → IsFrame s → HasTributaries s → j < s.tribs → IsOneAlignment s line
    → AreFewWrong s j line (front (line_bit s source) (length line)) → ReadsTheSame s j line (front (line_bit s source) (length line))
contained_sent s source line j shape tribs h one few =
    let l : List Bool = front (line_bit s source) (length line) in
    let long : length l ≡ length line = length-front (line_bit s source) (length line) in
    let frame : (k : ℕ) → k < frames_in s l → frame_of s l k ≡ sent_frame s source k = λ k lt. frame_of-front s source (length line) k (subst (λ n. k * s.len + s.len ≤ n) long (laws.whole_frame s l k shape lt)) in
    contained s line l j shape (sym long) one (λ k lt. ap (is_right s) (frame k lt) ∙ sent_frame-right s source k)
    (λ k lt. equal (more_in s source j k) (ap (control_ones s j) (frame k lt) ∙ control_ones-sent s source k j tribs h)) few
  where
    equal : {n : ℕ} (more : Bool) → n ≡ cond more 0 s.copies → (n ≡ 0) ⊎ (n ≡ s.copies)
    equal true e = inl e
    equal false e = inr e
