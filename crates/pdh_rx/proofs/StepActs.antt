-- What each step of the alignment machine makes a demultiplexer do, and that it is what the tracking gained.
use Rattle.std.proofs.Common.{◌≡◌, inl, inr, ℕ, zero, suc, ◌+◌, ◌-◌, ◌*◌, ◌/◌, ◌%◌, ◌<◌, ◌≤◌, Bool, true, false, ◌==◌, cond, List, [], ◌∷◌, ◌++◌, length, map, drop, replicate, refl, sym, ap, ◌∙◌, subst, arith, append_assoc, add-one}
use Rattle.std.specs.Prelude.{flat_map, is_some, sum_by}
use Rattle.std.specs.List.{range_with_len}
use Rattle.std.proofs.lemmas.List.{append-nil, map-append}
use Rattle.std.proofs.lemmas.List.Sums.{sum_by-cons, sum_by-append}
use Rattle.std.proofs.lemmas.List.Elements.{filter_map-append}
use Rattle.std.proofs.lemmas.Bool.{cases_eq, eq-eqb, ne_eqb}
use Rattle.std.proofs.Math.Nat.{zero-div}
use Rattle.std.proofs.Math.Seq.{drop-append_seam}
use Rattle.pdh_edge.specs.Ports.{only}
use Rattle.pdh_shape.specs.declared.place.Path.{Path}
use Rattle.pdh_shape.specs.Frame.{FrameShape, IsFrame}
use Rattle.pdh_watch.specs.declared.kind.Kind.{Kind}
use Rattle.pdh_watch.specs.declared.kind.TheConstants.Kind.{ALIGNED, LOST}
use Rattle.pdh_line.proofs.Ranges.{length-range}
use Rattle.pdh_line.specs.Tracking.{Piece, track}
use Rattle.pdh_line.specs.Tracking.Piece.{Gap, Delivered}
use Rattle.pdh_align.specs.declared.step.Step.{Step}
use Rattle.pdh_align.specs.declared.step.Step.TheVariants.{Nothing, Rejected, Aligned, Frame, Lost}
use Rattle.pdh_align.specs.Aligning.{Grows}
use Rattle.pdh_events.specs.Telling.{next_bit, event_of, tell, changed, ais_kinds}
use Rattle.pdh_events.specs.Duties.{piece_frame, frames_of, last_frame}
use Rattle.pdh_events.specs.Keeping.{Kept, Remembers}
use Rattle.pdh_events.specs.Acts.{alignment_kinds, piece_lengths, gap_lengths, round_acts, rounds_acts, frames_acts, pieces_acts, bit_acts}
use Rattle.pdh_events.specs.Acts.Act.{Note, Give}
use Rattle.pdh_events.specs.laws.KeepingLaws.{last_gap, last_more, remembers_gap}
use Rattle.pdh_events.specs.laws.ActsLaws.{bits_to, bits_to-append, bits_to-each, acts_push}
use Rattle.pdh_rx.specs.Node.{IsGap, gap_after, ones_bits, step_acts, step_pieces, step_bits}
use Rattle.pdh_rx.proofs.SlotActs.{frames_give}
use Rattle.pdh_rx.proofs.GapSteps.{gap_step}

-- ---- the machine's cases

pub rejected_whole : (s : FrameShape) (path : Path) (bit : ℕ) (pieces : List Piece) (step : Step) (ready : List (List Bool)) (gap : ℕ) → step ≡ Rejected → gap ≡ 0 → step_acts s path bit pieces step ready gap ≡ rounds_acts s s.low
rejected_whole s path bit pieces step ready gap is whole = ap (λ v. step_acts s path bit pieces v ready gap) is ∙ ap (λ b. cond b (rounds_acts s s.low) []) (eq-eqb gap 0 whole)

pub rejected_part : (s : FrameShape) (path : Path) (bit : ℕ) (pieces : List Piece) (step : Step) (ready : List (List Bool)) (gap : ℕ) → step ≡ Rejected → 0 < gap → step_acts s path bit pieces step ready gap ≡ []
rejected_part s path bit pieces step ready gap is part = ap (λ v. step_acts s path bit pieces v ready gap) is ∙ ap (λ b. cond b (rounds_acts s s.low) []) (ne_eqb gap 0 (λ e. omega (arith, part, e)))

pub step_is : (s : FrameShape) (path : Path) (bit : ℕ) (pieces : List Piece) (step is : Step) (ready : List (List Bool)) (gap : ℕ) → step ≡ is → step_acts s path bit pieces step ready gap ≡ step_acts s path bit pieces is ready gap
step_is s path bit pieces step is ready gap e = ap (λ v. step_acts s path bit pieces v ready gap) e

-- what is kept of the pieces before a step, where it is told of those after it
pub remembers_step : (s : FrameShape) (kept : Kept) (pieces : List Piece) (step is : Step) (ready : List (List Bool)) → step ≡ is → Remembers s kept (step_pieces is ready pieces) → Remembers s kept (step_pieces step ready pieces)
remembers_step s kept pieces step is ready e r = let P : Step → Type 0 = λ v. Remembers s kept (step_pieces v ready pieces) in subst P (sym e) r

-- ---- what the pieces tell

ends_aligned : (pieces : List Piece) (ready : List (List Bool)) → 0 < length ready → is_some (last_frame (pieces ++ map Delivered ready)) ≡ true
ends_aligned pieces [] some = absurd (omega (arith, some))
ends_aligned pieces (frame ∷ []) some = ap is_some (last_more pieces frame)
ends_aligned pieces (frame ∷ next ∷ ready) some =
    ap (λ v. is_some (last_frame v)) (sym (append_assoc pieces (Delivered frame ∷ []) (map Delivered (next ∷ ready))))
    ∙ ends_aligned (pieces ++ Delivered frame ∷ []) (next ∷ ready) (omega arith)

unchanged : (on off : Kind) (b : Bool) → changed on off b b ≡ []
unchanged on off true = refl
unchanged on off false = refl

changed_is : (on off : Kind) (a b c d : Bool) → a ≡ c → b ≡ d → changed on off a b ≡ changed on off c d
changed_is on off a b c d e f = ap (λ v. changed on off v b) e ∙ ap (λ v. changed on off c v) f

-- what a step shows of the alignment
abbrev step_kinds : Step → List Kind
step_kinds Aligned = ALIGNED ∷ []
step_kinds Lost = LOST ∷ []
step_kinds _ = []

-- it is what the pieces gained of an alignment
kinds_are : (step : Step) (ready : List (List Bool)) (before after : List Piece) → Grows step ready before after → alignment_kinds before after ≡ step_kinds step
kinds_are Nothing ready before after g = ap (alignment_kinds before) g.1 ∙ unchanged ALIGNED LOST (is_some (last_frame before))
kinds_are Rejected ready before after g =
    changed_is ALIGNED LOST _ _ false false (ap (λ v. is_some (last_frame v)) g.3 ∙ ap is_some (last_gap g.0 g.1)) (ap (λ v. is_some (last_frame v)) g.4 ∙ ap is_some (last_gap g.0 (suc g.1)))
kinds_are Aligned ready before after g =
    changed_is ALIGNED LOST _ _ false true (ap (λ v. is_some (last_frame v)) g.3 ∙ ap is_some (last_gap g.0 g.1)) (ap (λ v. is_some (last_frame v)) g.4 ∙ ends_aligned before ready (omega (arith, g.2)))
kinds_are Frame ready before after g =
    changed_is ALIGNED LOST _ _ true true (ap (λ v. is_some (last_frame v)) g.3 ∙ ap is_some (last_more g.0 g.1)) (ap (λ v. is_some (last_frame v)) g.4 ∙ ends_aligned before ready (omega (arith, g.2)))
kinds_are Lost ready before after g =
    changed_is ALIGNED LOST _ _ true false (ap (λ v. is_some (last_frame v)) g.3 ∙ ap is_some (last_more g.0 g.1)) (ap (λ v. is_some (last_frame v)) g.4 ∙ ap is_some (last_gap before 0))

frames_append : (xs ys : List Piece) → frames_of (xs ++ ys) ≡ frames_of xs ++ frames_of ys
frames_append xs ys = filter_map-append piece_frame xs ys

frames_delivered : (ready : List (List Bool)) → frames_of (map Delivered ready) ≡ ready
frames_delivered [] = refl
frames_delivered (frame ∷ ready) = ap (λ v. frame ∷ v) (frames_delivered ready)

-- a step delivers what is ready
pub frames_grow : (step : Step) (ready : List (List Bool)) (before after : List Piece) → Grows step ready before after → frames_of after ≡ frames_of before ++ ready
frames_grow Nothing ready before after g = ap frames_of g.1 ∙ sym (append-nil (frames_of before)) ∙ ap (λ v. frames_of before ++ v) (sym g.0)
frames_grow Rejected ready before after g =
    ap frames_of g.4 ∙ frames_append g.0 (Gap (suc g.1) ∷ []) ∙ sym (ap frames_of g.3 ∙ frames_append g.0 (Gap g.1 ∷ []))
    ∙ sym (append-nil (frames_of before)) ∙ ap (λ v. frames_of before ++ v) (sym g.2)
frames_grow Aligned ready before after g = ap frames_of g.4 ∙ frames_append before (map Delivered ready) ∙ ap (λ v. frames_of before ++ v) (frames_delivered ready)
frames_grow Frame ready before after g = ap frames_of g.4 ∙ frames_append before (map Delivered ready) ∙ ap (λ v. frames_of before ++ v) (frames_delivered ready)
frames_grow Lost ready before after g =
    ap frames_of g.4 ∙ frames_append before (Gap 0 ∷ []) ∙ ap (λ v. frames_of before ++ v) (sym g.2)

-- what is kept of the pieces after a step
pub remembers_after : (s : FrameShape) (kept : Kept) (step : Step) (ready : List (List Bool)) (before after : List Piece) → Grows step ready before after → Remembers s kept (step_pieces step ready before) → Remembers s kept after
remembers_after s kept Nothing ready before after g r = let P : List Piece → Type 0 = Remembers s kept in subst P (sym g.1) r
remembers_after s kept Rejected ready before after g r =
    let P : List Piece → Type 0 = Remembers s kept in subst P (sym g.4) (remembers_gap s kept g.0 g.1 (suc g.1) (subst P g.3 r))
remembers_after s kept Aligned ready before after g r = let P : List Piece → Type 0 = Remembers s kept in subst P (sym g.4) r
remembers_after s kept Frame ready before after g r = let P : List Piece → Type 0 = Remembers s kept in subst P (sym g.4) r
remembers_after s kept Lost ready before after g r = let P : List Piece → Type 0 = Remembers s kept in subst P (sym g.4) r

-- ---- the lengths of the gaps

lengths_with : (s : FrameShape) (pieces : List Piece) (piece : Piece) → gap_lengths s (pieces ++ piece ∷ []) ≡ gap_lengths s pieces + piece_lengths s piece
lengths_with s pieces piece =
    sum_by-append (piece_lengths s) pieces (piece ∷ []) ∙ ap (λ n. gap_lengths s pieces + n) (sum_by-cons (piece_lengths s) piece [] ∙ none (piece_lengths s piece))
  where
    none : (n : ℕ) → n + sum_by (piece_lengths s) [] ≡ n
    none n = omega arith

lengths_delivered : (s : FrameShape) (ready : List (List Bool)) → ◌≡◌ {A = ℕ} (gap_lengths s (map Delivered ready)) 0
lengths_delivered s [] = refl
lengths_delivered s (frame ∷ ready) = sum_by-cons (piece_lengths s) (Delivered frame) (map Delivered ready) ∙ ap (λ n. 0 + n) (lengths_delivered s ready)

-- one position more is a length more where it completes one
one_more : (s : FrameShape) (n gap : ℕ) → IsFrame s → gap ≡ n % s.len → suc n / s.len ≡ n / s.len + cond (gap_after s Rejected gap == 0) 1 0
one_more s n gap shape is = elim (gap_step s n gap shape is) [
  | inl whole ↦
      let one : ◌≡◌ {A = ℕ} (cond (gap_after s Rejected gap == 0) 1 0) 1 = ap (λ b. cond b 1 0) (eq-eqb (gap_after s Rejected gap) 0 whole.0) in
      omega (arith, whole.1, one)
  | inr part ↦
      let none : ◌≡◌ {A = ℕ} (cond (gap_after s Rejected gap == 0) 1 0) 0 = ap (λ b. cond b 1 0) (ne_eqb (gap_after s Rejected gap) 0 (λ e. omega (arith, part.0, e))) in
      omega (arith, part.1, none)
]

-- ---- what the tracking gained

pieces_are : (s : FrameShape) (path : Path) (bit : ℕ) (before after : List Piece) → pieces_acts s path bit before after
    ≡ rounds_acts s ((gap_lengths s after - gap_lengths s before) * s.low) ++ frames_acts s path bit before (drop (length (frames_of before)) (frames_of after))
unfolding pieces_acts
pieces_are s path bit before after = refl

-- so many lengths more, and these frames
gained : (s : FrameShape) (path : Path) (bit : ℕ) (before after : List Piece) (ready : List (List Bool)) (lengths : ℕ) → gap_lengths s after ≡ gap_lengths s before + lengths → frames_of after ≡ frames_of before ++ ready
    → pieces_acts s path bit before after ≡ rounds_acts s (lengths * s.low) ++ frames_acts s path bit before ready
gained s path bit before after ready lengths e f =
    let less : gap_lengths s after - gap_lengths s before ≡ lengths = omega (arith, e) in
    pieces_are s path bit before after ∙ ap (λ n. rounds_acts s (n * s.low) ++ frames_acts s path bit before (drop (length (frames_of before)) (frames_of after))) less
    ∙ ap (λ v. rounds_acts s (lengths * s.low) ++ frames_acts s path bit before v) (ap (drop (length (frames_of before))) f ∙ drop-append_seam (frames_of before) ready)

no_rounds : (s : FrameShape) → rounds_acts s (0 * s.low) ≡ []
no_rounds s = let none : 0 * s.low ≡ 0 = omega arith in ap (rounds_acts s) none

-- the alignment's events and what the pieces gained
acts_are : (s : FrameShape) (path : Path) (bit : ℕ) (step : Step) (ready : List (List Bool)) (before after : List Piece) (gap : ℕ) → IsFrame s → IsGap s gap before → Grows step ready before after
    → map Note (tell path bit (step_kinds step)) ++ pieces_acts s path bit before after ≡ step_acts s path bit before step ready (gap_after s step gap)
acts_are s path bit Nothing ready before after gap shape is g =
    let same : gap_lengths s after ≡ gap_lengths s before + 0 = ap (gap_lengths s) g.1 ∙ omega arith in
    gained s path bit before after ready 0 same (frames_grow Nothing ready before after g)
    ∙ ap (λ v. v ++ frames_acts s path bit before ready) (no_rounds s) ∙ ap (frames_acts s path bit before) g.0
acts_are s path bit Rejected ready before after gap shape is g =
    let one : ℕ = cond (gap_after s Rejected gap == 0) 1 0 in
    let was : gap_lengths s before ≡ gap_lengths s g.0 + g.1 / s.len = ap (gap_lengths s) g.3 ∙ lengths_with s g.0 (Gap g.1) in
    let now : gap_lengths s after ≡ gap_lengths s g.0 + suc g.1 / s.len = ap (gap_lengths s) g.4 ∙ lengths_with s g.0 (Gap (suc g.1)) in
    let more : suc g.1 / s.len ≡ g.1 / s.len + one = one_more s g.1 gap shape (is g.0 g.1 g.3) in
    let lengths : gap_lengths s after ≡ gap_lengths s before + one = omega (arith, was, now, more) in
    gained s path bit before after ready one lengths (frames_grow Rejected ready before after g)
    ∙ ap (λ v. rounds_acts s (one * s.low) ++ frames_acts s path bit before v) g.2 ∙ append-nil (rounds_acts s (one * s.low))
    ∙ decided (gap_after s Rejected gap == 0)
  where
    decided : (b : Bool) → rounds_acts s (cond b 1 0 * s.low) ≡ cond b (rounds_acts s s.low) []
    decided true = let e : 1 * s.low ≡ s.low = omega arith in ap (rounds_acts s) e
    decided false = no_rounds s
acts_are s path bit Aligned ready before after gap shape is g =
    let same : gap_lengths s after ≡ gap_lengths s before + 0 = ap (gap_lengths s) g.4 ∙ sum_by-append (piece_lengths s) before (map Delivered ready) ∙ ap (λ n. gap_lengths s before + n) (lengths_delivered s ready) in
    ap (λ v. Note (event_of path bit ALIGNED) ∷ v)
    (gained s path bit before after ready 0 same (frames_grow Aligned ready before after g) ∙ ap (λ v. v ++ frames_acts s path bit before ready) (no_rounds s))
acts_are s path bit Frame ready before after gap shape is g =
    let same : gap_lengths s after ≡ gap_lengths s before + 0 = ap (gap_lengths s) g.4 ∙ sum_by-append (piece_lengths s) before (map Delivered ready) ∙ ap (λ n. gap_lengths s before + n) (lengths_delivered s ready) in
    gained s path bit before after ready 0 same (frames_grow Frame ready before after g) ∙ ap (λ v. v ++ frames_acts s path bit before ready) (no_rounds s)
acts_are s path bit Lost ready before after gap shape is g =
    let same : gap_lengths s after ≡ gap_lengths s before + 0 = ap (gap_lengths s) g.4 ∙ lengths_with s before (Gap 0) ∙ ap (λ n. gap_lengths s before + n) (zero-div s.len) in
    ap (λ v. Note (event_of path bit LOST) ∷ v)
    (gained s path bit before after ready 0 same (frames_grow Lost ready before after g)
    ∙ ap (λ v. v ++ frames_acts s path bit before ready) (no_rounds s) ∙ ap (frames_acts s path bit before) g.2)

-- ---- the whole

bit_acts_is : (s : FrameShape) (path : Path) (line : List Bool) (bit : Bool) → bit_acts s path line bit
    ≡ map Note (tell path (next_bit line) (ais_kinds s.len line bit ++ alignment_kinds (track s line) (track s (line ++ bit ∷ [])))) ++ pieces_acts s path (next_bit line) (track s line) (track s (line ++ bit ∷ []))
unfolding bit_acts
bit_acts_is s path line bit = refl

-- what a bit makes a demultiplexer do is to tell of AIS, and then what its step does
pub bit_acts_are : (s : FrameShape) (path : Path) (line : List Bool) (bit : Bool) (step : Step) (ready : List (List Bool)) (gap : ℕ) → IsFrame s → IsGap s gap (track s line) → Grows step ready (track s line) (track s (line ++ bit ∷ []))
    → bit_acts s path line bit ≡ map Note (tell path (next_bit line) (ais_kinds s.len line bit)) ++ step_acts s path (next_bit line) (track s line) step ready (gap_after s step gap)
bit_acts_are s path line bit step ready gap shape is g =
    let number = next_bit line in
    let before = track s line in
    let after = track s (line ++ bit ∷ []) in
    let ais = ais_kinds s.len line bit in
    let gained = pieces_acts s path number before after in
    bit_acts_is s path line bit
    ∙ ap (λ v. map Note (tell path number (ais ++ v)) ++ gained) (kinds_are step ready before after g)
    ∙ ap (λ v. map Note v ++ gained) (map-append (event_of path number) ais (step_kinds step))
    ∙ ap (λ v. v ++ gained) (map-append Note (tell path number ais) (tell path number (step_kinds step)))
    ∙ append_assoc (map Note (tell path number ais)) (map Note (tell path number (step_kinds step))) gained
    ∙ ap (λ v. map Note (tell path number ais) ++ v) (acts_are s path number step ready before after gap shape is g)

-- ---- what the tributaries get by a step

round_push : (j n : ℕ) → bits_to (flat_map (λ i. Give i true ∷ []) (range_with_len 0 (suc n))) j ≡ bits_to (flat_map (λ i. Give i true ∷ []) (range_with_len 0 n)) j ++ only n true j
round_push j n =
    ap (λ k. bits_to (flat_map (λ i. Give i true ∷ []) (range_with_len 0 k)) j) (sym (add-one n)) ∙ ap (λ a. bits_to a j) (acts_push (λ i. Give i true ∷ []) n)
    ∙ bits_to-append (flat_map (λ i. Give i true ∷ []) (range_with_len 0 n)) (Give n true ∷ []) j
    ∙ ap (λ v. bits_to (flat_map (λ i. Give i true ∷ []) (range_with_len 0 n)) j ++ v) (append-nil (only n true j))

round_none : (j n : ℕ) → n ≤ j → bits_to (flat_map (λ i. Give i true ∷ []) (range_with_len 0 n)) j ≡ []
round_none j zero le = refl
round_none j (suc n) le =
    round_push j n ∙ ap (λ v. v ++ only n true j) (round_none j n (omega arith)) ∙ ap (λ b. cond b (true ∷ []) []) (ne_eqb j n (λ e. omega (arith, e, le)))

round_one : (j n : ℕ) → j < n → bits_to (flat_map (λ i. Give i true ∷ []) (range_with_len 0 n)) j ≡ true ∷ []
round_one j zero lt = absurd (omega arith)
round_one j (suc n) lt = round_push j n ∙ elim (cases_eq j n) [
  | inl e ↦ ap (λ v. v ++ only n true j) (round_none j n (omega (arith, e))) ∙ ap (λ b. cond b (true ∷ []) []) (eq-eqb j n e)
  | inr ne ↦ ap (λ v. v ++ only n true j) (round_one j n (omega (arith, ne))) ∙ ap (λ b. true ∷ cond b (true ∷ []) []) (ne_eqb j n ne)
]

ones_each : (xs : List ℕ) → flat_map (λ round. true ∷ []) xs ≡ replicate (length xs) true
ones_each [] = refl
ones_each (x ∷ xs) = ap (λ v. true ∷ v) (ones_each xs)

pub rounds_give : (s : FrameShape) (j n : ℕ) → j < s.tribs → bits_to (rounds_acts s n) j ≡ replicate n true
rounds_give s j n known =
    bits_to-each (λ round. round_acts s) j (λ round. true ∷ []) (λ round. round_one j s.tribs known) (range_with_len 0 n)
    ∙ ones_each (range_with_len 0 n) ∙ ap (λ k. replicate k true) (length-range 0 n)

pub bits_are : (s : FrameShape) (path : Path) (bit : ℕ) (pieces : List Piece) (step : Step) (ready : List (List Bool)) (gap j : ℕ) → j < s.tribs → bits_to (step_acts s path bit pieces step ready gap) j ≡ step_bits s step ready gap j
bits_are s path bit pieces Nothing ready gap j known = refl
bits_are s path bit pieces Lost ready gap j known = refl
bits_are s path bit pieces Aligned ready gap j known = frames_give s path bit pieces ready j
bits_are s path bit pieces Frame ready gap j known = frames_give s path bit pieces ready j
bits_are s path bit pieces Rejected ready gap j known = decided (gap == 0)
  where
    decided : (b : Bool) → bits_to (cond b (rounds_acts s s.low) []) j ≡ cond b (ones_bits s j) []
    decided true = rounds_give s j s.low known
    decided false = refl
