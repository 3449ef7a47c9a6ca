-- One more received bit of a demultiplexer.
use Rattle.std.proofs.Common.{◌≡◌, inl, inr, ℕ, suc, ◌+◌, ◌*◌, ◌-◌, ◌/◌, ◌%◌, ◌^◌, ◌<◌, min, ◌==◌, Bool, true, cond, List, [], ◌∷◌, ◌++◌, length, map, replicate, refl, sym, ◌∙◌, ap, arith, append_assoc}
use Rattle.std.specs.Prelude.{flat_map, count_by}
use Rattle.std.proofs.lemmas.List.{append-nil, length-map, replicate-append-replicate}
use Rattle.std.proofs.lemmas.Grind.{flat_map-append}
use Rattle.std.proofs.lemmas.Bool.{cases_eq, eq-eqb, ne_eqb, false≢true}
use Rattle.std.proofs.lemmas.Nat.{div-mul-add, mod-mul-add}
use Rattle.std.proofs.Math.Nat.{zero-div, suc-mul}
use Rattle.pdh_edge.specs.Ports.{Outputs}
use Rattle.pdh_shape.specs.declared.place.Path.{Path}
use Rattle.pdh_shape.specs.Frame.{FrameShape, IsFrame}
use Rattle.pdh_shape.specs.Tributary.{stripped}
use Rattle.pdh_line.specs.Tracking.{Piece, track, is_delivered, frames_delivered}
use Rattle.pdh_line.specs.Tracking.Piece.{Gap, Delivered}
use Rattle.pdh_line.specs.Receiving.{piece_bits, received}
use Rattle.pdh_align.specs.declared.step.Step.{Step}
use Rattle.pdh_align.specs.declared.step.Step.TheVariants.{Nothing, Rejected, Aligned, Frame, Lost}
use Rattle.pdh_align.specs.Aligning.{Held, StandsFor, Grows, Tracks, Waits, Passes, frames_gained}
use Rattle.pdh_align.proofs.AligningLaws.{stands_on}
use Rattle.pdh_rx.specs.Meaning.{Meaning, Gains, GainsPart}
use Rattle.pdh_events.specs.Acts.{with_more}
use Rattle.pdh_rx.specs.Node.{EachStands, received_lines, node_meaning, Gives, GivesPart, frames_bits, gap_after, frames_after, step_bits, IsGap, frames_counted, NodeTracks}
use Rattle.pdh_rx.specs.laws.NodeLaws.{got_by_same}
use Rattle.pdh_line.proofs.DeliveredLaws.{count_append, count_frames, count_gap, frames_delivered-le}
use Rattle.pdh_line.proofs.RightLines.{piece_bits_gap, track-short, received-short}
use Rattle.pdh_rx.proofs.GapSteps.{gap_step}
use Rattle.pdh_rx.proofs.Gains.{each_same, gains_is, part_is}

-- ---- what a step gives

received_is : (s : FrameShape) (j : ℕ) (line : List Bool) → received s j line ≡ flat_map (piece_bits s j) (track s line)
unfolding received
received_is s j line = refl

frames_are : (s : FrameShape) (j : ℕ) (ready : List (List Bool)) → flat_map (piece_bits s j) (map Delivered ready) ≡ frames_bits s ready j
unfolding piece_bits
frames_are s j [] = refl
frames_are s j (frame ∷ ready) = ap (λ v. stripped s j frame ++ v) (frames_are s j ready)

-- one position more gives a frame's ones where it completes a frame's length
gap_more : (s : FrameShape) (j n gap : ℕ) → IsFrame s → gap ≡ n % s.len → piece_bits s j (Gap (suc n)) ≡ piece_bits s j (Gap n) ++ step_bits s Rejected [] (gap_after s Rejected gap) j
gap_more s j n gap shape is = elim (gap_step s n gap shape is) [
  | inl whole ↦
      let more : suc (n / s.len) * s.low ≡ n / s.len * s.low + s.low = suc-mul (n / s.len) s.low in
      piece_bits_gap s j (suc n) ∙ ap (λ v. replicate (v * s.low) true) whole.1 ∙ ap (λ v. replicate v true) more
      ∙ sym (replicate-append-replicate (n / s.len * s.low) s.low true) ∙ ap (λ v. v ++ replicate s.low true) (sym (piece_bits_gap s j n))
      ∙ ap (λ v. piece_bits s j (Gap n) ++ cond (v == 0) (replicate s.low true) []) (sym whole.0)
  | inr part ↦
      piece_bits_gap s j (suc n) ∙ ap (λ v. replicate (v * s.low) true) part.1 ∙ sym (piece_bits_gap s j n) ∙ sym (append-nil (piece_bits s j (Gap n)))
      ∙ ap (λ b. piece_bits s j (Gap n) ++ cond b (replicate s.low true) []) (sym (ap (λ v. v == 0) part.0 ∙ ne_eqb (suc gap) 0 (λ e. omega arith)))
]

-- what a tributary gains by a step
pub pieces_gain : (s : FrameShape) (j : ℕ) (step : Step) (ready : List (List Bool)) (before after : List Piece) (gap : ℕ) → IsFrame s → IsGap s gap before → Grows step ready before after
    → flat_map (piece_bits s j) after ≡ flat_map (piece_bits s j) before ++ step_bits s step ready (gap_after s step gap) j
pieces_gain s j Nothing ready before after gap shape is g = ap (flat_map (piece_bits s j)) g.1 ∙ sym (append-nil (flat_map (piece_bits s j) before))
pieces_gain s j Rejected ready before after gap shape is g =
    let f : Piece → List Bool = piece_bits s j in
    let others : List Bool = flat_map f g.0 in
    let more : List Bool = step_bits s Rejected ready (gap_after s Rejected gap) j in
    let single : (n : ℕ) → flat_map f (g.0 ++ Gap n ∷ []) ≡ others ++ f (Gap n) =
    λ n. flat_map-append f g.0 (Gap n ∷ []) ∙ ap (λ x. others ++ x) (append-nil (f (Gap n))) in
    ap (flat_map f) g.4 ∙ single (suc g.1) ∙ ap (λ x. others ++ x) (gap_more s j g.1 gap shape (is g.0 g.1 g.3))
    ∙ sym (append_assoc others (f (Gap g.1)) more) ∙ ap (λ x. x ++ more) (sym (ap (flat_map f) g.3 ∙ single g.1))
pieces_gain s j Aligned ready before after gap shape is g =
    ap (flat_map (piece_bits s j)) g.4 ∙ flat_map-append (piece_bits s j) before (map Delivered ready) ∙ ap (λ v. flat_map (piece_bits s j) before ++ v) (frames_are s j ready)
pieces_gain s j Frame ready before after gap shape is g =
    ap (flat_map (piece_bits s j)) g.4 ∙ flat_map-append (piece_bits s j) before (map Delivered ready) ∙ ap (λ v. flat_map (piece_bits s j) before ++ v) (frames_are s j ready)
pieces_gain s j Lost ready before after gap shape is g =
    let none : 0 / s.len * s.low ≡ 0 = ap (λ v. v * s.low) (zero-div s.len) ∙ omega arith in
    ap (flat_map (piece_bits s j)) g.4 ∙ flat_map-append (piece_bits s j) before (Gap 0 ∷ [])
    ∙ ap (λ v. flat_map (piece_bits s j) before ++ v) (append-nil (piece_bits s j (Gap 0)) ∙ piece_bits_gap s j 0 ∙ ap (λ v. replicate v true) none)

-- ---- the state after a step

abbrev last_of : Piece → List Piece → Piece
last_of p [] = p
last_of p (x ∷ xs) = last_of x xs

last_is : (p x : Piece) (xs : List Piece) → last_of p (xs ++ x ∷ []) ≡ x
last_is p x [] = refl
last_is p x (y ∷ xs) = last_is y x xs

abbrev gap_number : Piece → ℕ
gap_number (Gap n) = n
gap_number (Delivered frame) = 0

-- a list ends with one piece only
same_last : (xs ys : List Piece) (x y : Piece) → xs ++ x ∷ [] ≡ ys ++ y ∷ [] → x ≡ y
same_last xs ys x y e = sym (last_is (Gap 0) x xs) ∙ ap (last_of (Gap 0)) e ∙ last_is (Gap 0) y ys

not_gap : (n : ℕ) (frame : List Bool) → Delivered frame ≡ Gap n → ⊥
not_gap n frame e = false≢true (sym (ap is_delivered e))

ends_delivered : (ready : List (List Bool)) (before others : List Piece) (n : ℕ) → 0 < length ready → before ++ map Delivered ready ≡ others ++ Gap n ∷ [] → ⊥
ends_delivered [] before others n some e = absurd (omega (arith, some))
ends_delivered (frame ∷ []) before others n some e = not_gap n frame (same_last before others (Delivered frame) (Gap n) e)
ends_delivered (frame ∷ next ∷ ready) before others n some e =
    ends_delivered (next ∷ ready) (before ++ Delivered frame ∷ []) others n (omega arith) (append_assoc before (Delivered frame ∷ []) (map Delivered (next ∷ ready)) ∙ e)

mod_next : (s : FrameShape) (n gap : ℕ) → IsFrame s → gap ≡ n % s.len → gap_after s Rejected gap ≡ suc n % s.len
mod_next s n gap shape is = elim (gap_step s n gap shape is) [
  | inl whole ↦ whole.0 ∙ sym whole.2
  | inr part ↦ part.0 ∙ sym part.2
]

pub gap_goes : (s : FrameShape) (step : Step) (ready : List (List Bool)) (before after : List Piece) (gap : ℕ) → IsFrame s → IsGap s gap before → Grows step ready before after → IsGap s (gap_after s step gap) after
gap_goes s Nothing ready before after gap shape is g others n e = is others n (sym g.1 ∙ e)
gap_goes s Rejected ready before after gap shape is g others n e =
    let same : Gap (suc g.1) ≡ Gap n = same_last g.0 others (Gap (suc g.1)) (Gap n) (sym g.4 ∙ e) in
    mod_next s g.1 gap shape (is g.0 g.1 g.3) ∙ ap (λ p. gap_number p % s.len) same
gap_goes s Aligned ready before after gap shape is g others n e = absurd (ends_delivered ready before others n (omega (arith, g.2)) (sym g.4 ∙ e))
gap_goes s Frame ready before after gap shape is g others n e = absurd (ends_delivered ready before others n (omega (arith, g.2)) (sym g.4 ∙ e))
gap_goes s Lost ready before after gap shape is g others n e =
    let same : Gap 0 ≡ Gap n = same_last before others (Gap 0) (Gap n) (sym g.4 ∙ e) in
    let none : 0 ≡ 0 % s.len = omega (arith, shape.some_slots) in
    none ∙ ap (λ p. gap_number p % s.len) same

pub gap_inside : (s : FrameShape) (step : Step) (gap : ℕ) → gap < s.len → gap_after s step gap < s.len
gap_inside s Nothing gap inside = inside
gap_inside s Rejected gap inside = elim (cases_eq (suc gap) s.len) [
  | inl last ↦ let now : gap_after s Rejected gap ≡ 0 = ap (λ b. cond b 0 (suc gap)) (eq-eqb (suc gap) s.len last) in omega (arith, now, inside)
  | inr more ↦ let now : gap_after s Rejected gap ≡ suc gap = ap (λ b. cond b 0 (suc gap)) (ne_eqb (suc gap) s.len more) in omega (arith, now, inside, more)
]
gap_inside s Aligned gap inside = inside
gap_inside s Frame gap inside = inside
gap_inside s Lost gap inside = omega (arith, inside)

-- ---- frames

made : (ready : List (List Bool)) → count_by is_delivered (map Delivered ready) ≡ length ready
made ready = count_frames (λ frame. frame) ready

counts_go : (step : Step) (ready : List (List Bool)) (before after : List Piece) → Grows step ready before after → count_by is_delivered after ≡ count_by is_delivered before + frames_gained step
counts_go Nothing ready before after g = ap (count_by is_delivered) g.1 ∙ omega arith
counts_go Rejected ready before after g =
    let a = ap (count_by is_delivered) g.3 ∙ count_append g.0 (Gap g.1 ∷ []) in
    let b = ap (count_by is_delivered) g.4 ∙ count_append g.0 (Gap (suc g.1) ∷ []) in
    omega (arith, a, b, count_gap g.1, count_gap (suc g.1))
counts_go Aligned ready before after g =
    let b = ap (count_by is_delivered) g.4 ∙ count_append before (map Delivered ready) in omega (arith, b, made ready, g.2)
counts_go Frame ready before after g =
    let b = ap (count_by is_delivered) g.4 ∙ count_append before (map Delivered ready) in omega (arith, b, made ready, g.2)
counts_go Lost ready before after g =
    let b = ap (count_by is_delivered) g.4 ∙ count_append before (Gap 0 ∷ []) in omega (arith, b, count_gap 0)

stays : (a b most : ℕ) → min (min a most + b) most ≡ min (a + b) most
stays a b most = omega arith

pub frames_go : (s : FrameShape) (step : Step) (ready : List (List Bool)) (before after : List Bool) (frames : ℕ) → frames ≡ frames_counted s before → Grows step ready (track s before) (track s after) → frames_after step frames ≡ frames_counted s after
unfolding frames_counted frames_delivered
frames_go s step ready before after frames is g =
    ap (λ n. min (n + frames_gained step) (2 ^ 64 - 1)) is ∙ stays (count_by is_delivered (track s before)) (frames_gained step) (2 ^ 64 - 1)
    ∙ ap (λ n. min n (2 ^ 64 - 1)) (sym (counts_go step ready (track s before) (track s after) g))

-- a line of a length that a list can have is counted exactly
pub frames_exact : (s : FrameShape) (line : List Bool) → IsFrame s → length line < 2 ^ 63 → frames_counted s line ≡ frames_delivered s line
unfolding frames_counted
frames_exact s line shape short = omega (arith, short, frames_delivered-le s line shape)

-- ---- the whole

module _ {C : Type 0} (stands : C → List Bool → Type 0) (meaning : C → Meaning) (s : FrameShape) (path : Path) (shape : IsFrame s) (children : List C) (held held' : Held) (gap frames : ℕ) (step : Step) (bit : Bool) (line : List Bool)
    (node : NodeTracks stands meaning s children held gap frames line) (tracks : Tracks s held held' bit step line) (gap' : ℕ) (now : gap' ≡ gap_after s step gap) where
  received_more : (j : ℕ) → received_lines s (line ++ bit ∷ []) j ≡ with_more (received_lines s line) (step_bits s step held'.ready gap') j
  received_more j =
      received_is s j (line ++ bit ∷ []) ∙ pieces_gain s j step held'.ready (track s line) (track s (line ++ bit ∷ [])) gap shape node.gap_is tracks.grows
      ∙ ap (λ v. v ++ step_bits s step held'.ready (gap_after s step gap) j) (sym (received_is s j line))
      ∙ ap (λ v. received_lines s line j ++ step_bits s step held'.ready v j) (sym now)

  pub node_tracks : (new : List C) (frames' : ℕ) (o p : Outputs) → frames' ≡ frames_after step frames → map meaning new ≡ map meaning children
      → Gives stands (map meaning children) (step_bits s step held'.ready gap') children new o p
      → NodeTracks stands meaning s new held' gap' frames' (line ++ bit ∷ [])
  node_tracks new frames' o p delivers same gives = record {
    count = sym (length-map new meaning) ∙ ap length same ∙ length-map children meaning ∙ node.count;
    each = each_same stands new _ _ (λ j. sym (received_more j)) (gives.each (received_lines s line) node.each);
    aligner = tracks.stands;
    inside = (let below = gap_inside s step gap node.inside in omega (arith, now, below));
    gap_is = λ others n e. now ∙ gap_goes s step held'.ready (track s line) (track s (line ++ bit ∷ [])) gap shape node.gap_is tracks.grows others n e;
    frames_are = delivers ∙ frames_go s step held'.ready line (line ++ bit ∷ []) frames node.frames_are tracks.grows;
  }

  pub node_gains : (new : List C) (o p : Outputs) → Gives stands (map meaning children) (step_bits s step held'.ready gap') children new o p
      → Gains ((node_meaning s path (map meaning children)).got line) ((node_meaning s path (map meaning children)).got (line ++ bit ∷ [])) o p
  node_gains new o p gives = gains_is _ _ _ o p (λ k. got_by_same (map meaning children) _ _ received_more k) (gives.gains (received_lines s line) node.each)

  pub node_part : (o p : Outputs) → GivesPart stands (map meaning children) (step_bits s step held'.ready gap') children o p
      → GainsPart ((node_meaning s path (map meaning children)).got line) ((node_meaning s path (map meaning children)).got (line ++ bit ∷ [])) o p
  node_part o p gives = part_is _ _ _ o p (λ k. got_by_same (map meaning children) _ _ received_more k) (gives.gains (received_lines s line) node.each)

-- an aligner of which ready frames were taken is what it was
pub tracks_taken : {C : Type 0} (stands : C → List Bool → Type 0) (meaning : C → Meaning) (s : FrameShape) (children : List C) (held now : Held) (gap frames : ℕ) (line : List Bool) → now ≡ record held { ready = now.ready }
    → NodeTracks stands meaning s children held gap frames line → NodeTracks stands meaning s children now gap frames line
tracks_taken stands meaning s children held now gap frames line is node =
    record { count = node.count; each = node.each; aligner = stands_on s held now line is node.aligner; inside = node.inside; gap_is = node.gap_is; frames_are = node.frames_are }

-- ---- bits at which no frame ends

module _ {C : Type 0} (stands : C → List Bool → Type 0) (meaning : C → Meaning) (s : FrameShape) (children : List C) (held held' : Held) (gap frames : ℕ) (bits line : List Bool)
    (node : NodeTracks stands meaning s children held gap frames line) (waits : Waits s held' bits line) where
  pub received_same : (j : ℕ) → received_lines s (line ++ bits) j ≡ received_lines s line j
  received_same j = received_is s j (line ++ bits) ∙ ap (flat_map (piece_bits s j)) waits.same ∙ sym (received_is s j line)

  counted_same : frames_counted s line ≡ frames_counted s (line ++ bits)
  unfolding frames_counted frames_delivered
  counted_same = ap (λ p. min (count_by is_delivered p) (2 ^ 64 - 1)) (sym waits.same)

  pub node_waits : NodeTracks stands meaning s children held' gap frames (line ++ bits)
  node_waits = record {
    count = node.count;
    each = each_same stands children _ _ (λ j. sym (received_same j)) node.each;
    aligner = waits.stands;
    inside = node.inside;
    gap_is = λ others n e. node.gap_is others n (sym waits.same ∙ e);
    frames_are = node.frames_are ∙ counted_same;
  }

-- ---- positions of a gap that are passed over at once, short of a whole frame's length of it

-- they give nothing
gap_stays : (s : FrameShape) (j n gap k : ℕ) → IsFrame s → gap ≡ n % s.len → gap + k < s.len → piece_bits s j (Gap (n + k)) ≡ piece_bits s j (Gap n)
gap_stays s j n gap k shape is short =
    let q : ℕ = n / s.len in
    let place : q * s.len + gap ≡ n = (let whole : n / s.len * s.len + n % s.len ≡ n = omega arith in ap (λ v. q * s.len + v) is ∙ whole) in
    let next : n + k ≡ q * s.len + (gap + k) = omega (arith, place) in
    let quotient : (n + k) / s.len ≡ q = ap (λ v. v / s.len) next ∙ div-mul-add q s.len (gap + k) short in
    piece_bits_gap s j (n + k) ∙ ap (λ v. replicate (v * s.low) true) quotient ∙ sym (piece_bits_gap s j n)

mod_by : (s : FrameShape) (n gap k : ℕ) → gap ≡ n % s.len → gap + k < s.len → gap + k ≡ (n + k) % s.len
mod_by s n gap k is short =
    let q : ℕ = n / s.len in
    let place : q * s.len + gap ≡ n = (let whole : n / s.len * s.len + n % s.len ≡ n = omega arith in ap (λ v. q * s.len + v) is ∙ whole) in
    let next : n + k ≡ q * s.len + (gap + k) = omega (arith, place) in
    sym (ap (λ v. v % s.len) next ∙ mod-mul-add q s.len (gap + k) short)

module _ {C : Type 0} (stands : C → List Bool → Type 0) (meaning : C → Meaning) (s : FrameShape) (shape : IsFrame s) (children : List C) (held held' : Held) (gap frames : ℕ) (bits line : List Bool)
    (node : NodeTracks stands meaning s children held gap frames line) (passes : Passes s held' bits line) (short : gap + length bits < s.len) where
  pub received_passed : (j : ℕ) → received_lines s (line ++ bits) j ≡ received_lines s line j
  received_passed j =
      let f : Piece → List Bool = piece_bits s j in
      let others : List Bool = flat_map f passes.others in
      let single : (n : ℕ) → flat_map f (passes.others ++ Gap n ∷ []) ≡ others ++ f (Gap n) =
      λ n. flat_map-append f passes.others (Gap n ∷ []) ∙ ap (λ x. others ++ x) (append-nil (f (Gap n))) in
      received_is s j (line ++ bits) ∙ ap (flat_map f) passes.is ∙ single (passes.gap + length bits)
      ∙ ap (λ x. others ++ x) (gap_stays s j passes.gap gap (length bits) shape (node.gap_is passes.others passes.gap passes.was) short)
      ∙ sym (received_is s j line ∙ ap (flat_map f) passes.was ∙ single passes.gap)

  counted_passed : frames_counted s line ≡ frames_counted s (line ++ bits)
  unfolding frames_counted frames_delivered
  counted_passed =
      let a = ap (count_by is_delivered) passes.was ∙ count_append passes.others (Gap passes.gap ∷ []) in
      let b = ap (count_by is_delivered) passes.is ∙ count_append passes.others (Gap (passes.gap + length bits) ∷ []) in
      let same : count_by is_delivered (track s line) ≡ count_by is_delivered (track s (line ++ bits)) = omega (arith, a, b, count_gap passes.gap, count_gap (passes.gap + length bits)) in
      ap (λ n. min n (2 ^ 64 - 1)) same

  pub node_passed : NodeTracks stands meaning s children held' (gap + length bits) frames (line ++ bits)
  node_passed = record {
    count = node.count;
    each = each_same stands children _ _ (λ j. sym (received_passed j)) node.each;
    aligner = passes.stands;
    inside = short;
    gap_is = λ others n e.
        let same : Gap (passes.gap + length bits) ≡ Gap n = same_last passes.others others (Gap (passes.gap + length bits)) (Gap n) (sym passes.is ∙ e) in
        mod_by s passes.gap gap (length bits) (node.gap_is passes.others passes.gap passes.was) short ∙ ap (λ p. gap_number p % s.len) same;
    frames_are = node.frames_are ∙ counted_passed;
  }

-- ---- the start

-- no bit is a gap of no positions
pub track_none : (s : FrameShape) → IsFrame s → track s [] ≡ Gap 0 ∷ []
track_none s shape = track-short s [] (omega (arith, shape.some_slots))

received_none : (s : FrameShape) (j : ℕ) → IsFrame s → [] ≡ received_lines s [] j
received_none s j shape = sym (received-short s j [] shape (omega (arith, shape.some_slots)))

no_frames : (s : FrameShape) → IsFrame s → 0 ≡ frames_counted s []
unfolding frames_counted frames_delivered
no_frames s shape = sym (ap (λ p. min (count_by is_delivered p) (2 ^ 64 - 1)) (track_none s shape) ∙ ap (λ n. min n (2 ^ 64 - 1)) (count_gap 0))

pub opened : {C : Type 0} (stands : C → List Bool → Type 0) (meaning : C → Meaning) (s : FrameShape) → IsFrame s → (children : List C) (held : Held) → length children ≡ s.tribs
    → EachStands stands children (λ j. []) → StandsFor s held [] → NodeTracks stands meaning s children held 0 0 []
opened stands meaning s shape children held count each aligner = record {
  count = count;
  each = each_same stands children _ _ (λ j. received_none s j shape) each;
  aligner = aligner;
  inside = shape.some_slots;
  gap_is = λ others n e.
      let same : Gap 0 ≡ Gap n = same_last [] others (Gap 0) (Gap n) (sym (track_none s shape) ∙ e) in
      let none : 0 ≡ 0 % s.len = omega (arith, shape.some_slots) in
      none ∙ ap (λ p. gap_number p % s.len) same;
  frames_are = no_frames s shape;
}
