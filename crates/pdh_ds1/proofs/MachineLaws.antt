-- What each step of the alignment machine gives.
use Rattle.std.proofs.Common.{◌≡◌, ℕ, suc, ◌+◌, ◌-◌, ◌*◌, ◌^◌, ◌<◌, ◌≤◌, Bool, true, false, not, cond, eqb, List, [], ◌∷◌, ◌++◌, length, map, take, slice_index_or, append_assoc, refl, sym, ap, ◌∙◌, subst, arith, length-append}
use Rattle.std.specs.Prelude.{flat_map, count_by, min, Option, Some, None}
use Rattle.std.proofs.lemmas.List.Sums.{sum_by-cons, sum_by-append}
use Rattle.std.proofs.lemmas.List.{append-nil, map-append, take_more, take_all}
use Rattle.std.proofs.lemmas.Grind.{flat_map-append}
use Rattle.pdh_bits.specs.BitOut.{BoundedBits}
use Rattle.pdh_shape.specs.Frame.{FrameShape, IsFrame}
use Rattle.pdh_shape.specs.declared.role.Role.{Role}
use Rattle.pdh_line.specs.Tracking.{Piece, track, is_delivered, frames_delivered}
use Rattle.pdh_line.specs.Tracking.Piece.{Gap, Delivered}
use Rattle.pdh_line.proofs.DeliveredLaws.{count_append, count_frames, count_gap}
use Rattle.pdh_line.proofs.RightLines.{track-short}
use Rattle.pdh_align.specs.declared.step.Step.{Step}
use Rattle.pdh_align.specs.declared.step.Step.TheVariants.{Nothing, Rejected, Aligned, Frame, Lost}
use Rattle.pdh_align.specs.Aligning.{Held, StandsFor, Grows, Tracks, Waits, Passes, frame_back, frames_gained}
use Rattle.pdh_align.proofs.PieceGrowth.{pieces_grow}
use Rattle.pdh_edge.specs.Ports.{IsPrefix}
use Rattle.pdh_ds1.specs.declared.plan.SuperframePlan.{SuperframePlan}
use Rattle.pdh_ds1.specs.declared.block_counts.BlockCounts.{BlockCounts}
use Rattle.pdh_ds1.specs.Superframe.{in_superframe, IsSuperframePlan}
use Rattle.pdh_ds1.specs.Packing.{line_payload, word_of}
use Rattle.pdh_ds1.specs.Receiving.{frames_of, piece_payload, ds1_far, carried_word, word_behind, judgement, judgements, last_word, judged}
use Rattle.pdh_framed.specs.Taking.{TakesQuietly}
use Rattle.pdh_ds1.specs.Machine.{Stands, Judges, judged_after, errored_after, after_superframe, superframes_after, superframes_counted}

-- the payload of superframes in order
abbrev pub payload_of_all : ℕ → List (List Bool) → List Bool
payload_of_all frames = flat_map (λ x. line_payload x frames)

delivered_payload : (s : FrameShape) (ready : List (List Bool)) → flat_map (piece_payload s) (map Delivered ready) ≡ payload_of_all (frames_of s) ready
delivered_payload s [] = refl
delivered_payload s (x ∷ rest) = ap (λ y. line_payload x (frames_of s) ++ y) (delivered_payload s rest)

far_grows : (s : FrameShape) (step : Step) (ready : List (List Bool)) (before after : List Piece) → Grows step ready before after
    → flat_map (piece_payload s) after ≡ flat_map (piece_payload s) before ++ payload_of_all (frames_of s) ready
far_grows s Nothing ready before after g =
    let f : Piece → List Bool = piece_payload s in
    ap (flat_map f) g.1 ∙ sym (append-nil (flat_map f before)) ∙ sym (ap (λ r. flat_map f before ++ payload_of_all (frames_of s) r) g.0)
far_grows s Rejected ready before after g =
    let f : Piece → List Bool = piece_payload s in
    let is : flat_map f after ≡ flat_map f g.0 ++ [] = ap (flat_map f) g.4 ∙ flat_map-append f g.0 (Gap (suc g.1) ∷ []) in
    let was : flat_map f before ≡ flat_map f g.0 ++ [] = ap (flat_map f) g.3 ∙ flat_map-append f g.0 (Gap g.1 ∷ []) in
    is ∙ sym was ∙ sym (append-nil (flat_map f before)) ∙ sym (ap (λ r. flat_map f before ++ payload_of_all (frames_of s) r) g.2)
far_grows s Aligned ready before after g =
    let f : Piece → List Bool = piece_payload s in
    ap (flat_map f) g.4 ∙ flat_map-append f before (map Delivered ready) ∙ ap (λ x. flat_map f before ++ x) (delivered_payload s ready)
far_grows s Frame ready before after g =
    let f : Piece → List Bool = piece_payload s in
    ap (flat_map f) g.4 ∙ flat_map-append f before (map Delivered ready) ∙ ap (λ x. flat_map f before ++ x) (delivered_payload s ready)
far_grows s Lost ready before after g =
    let f : Piece → List Bool = piece_payload s in
    ap (flat_map f) g.4 ∙ flat_map-append f before (Gap 0 ∷ []) ∙ sym (ap (λ r. flat_map f before ++ payload_of_all (frames_of s) r) g.2)

made : (ready : List (List Bool)) → count_by is_delivered (map Delivered ready) ≡ length ready
made ready = count_frames (λ (x : List Bool). x) ready

counts_grow : (step : Step) (ready : List (List Bool)) (before after : List Piece) → Grows step ready before after → count_by is_delivered after ≡ count_by is_delivered before + frames_gained step
counts_grow Nothing ready before after g = omega (arith, ap (count_by is_delivered) g.1)
counts_grow Rejected ready before after g =
    let a = ap (count_by is_delivered) g.3 ∙ count_append g.0 (Gap g.1 ∷ []) in
    let b = ap (count_by is_delivered) g.4 ∙ count_append g.0 (Gap (suc g.1) ∷ []) in
    omega (arith, a, b, count_gap g.1, count_gap (suc g.1))
counts_grow Aligned ready before after g =
    let b = ap (count_by is_delivered) g.4 ∙ count_append before (map Delivered ready) in omega (arith, b, made ready, g.2)
counts_grow Frame ready before after g =
    let b = ap (count_by is_delivered) g.4 ∙ count_append before (map Delivered ready) in omega (arith, b, made ready, g.2)
counts_grow Lost ready before after g =
    let b = ap (count_by is_delivered) g.4 ∙ count_append before (Gap 0 ∷ []) in omega (arith, b, count_gap 0)

stays : (a b most : ℕ) → min (min a most + b) most ≡ min (a + b) most
stays a b most = omega arith

-- ---- blocks

pub last_word-append : (frames : ℕ) (before : Option ℕ) (xs ys : List Piece) → last_word frames before (xs ++ ys) ≡ last_word frames (last_word frames before xs) ys
last_word-append frames before [] ys = refl
last_word-append frames before (x ∷ xs) ys = last_word-append frames (word_behind frames x) xs ys

pub judgements-append : (frames : ℕ) (before : Option ℕ) (xs ys : List Piece) → judgements frames before (xs ++ ys) ≡ judgements frames before xs ++ judgements frames (last_word frames before xs) ys
judgements-append frames before [] ys = refl
judgements-append frames before (x ∷ xs) ys =
    ap (λ r. judgement x before ++ r) (judgements-append frames (word_behind frames x) xs ys)
    ∙ sym (append_assoc (judgement x before) (judgements frames (word_behind frames x) xs) (judgements frames (last_word frames (word_behind frames x) xs) ys))

-- an alignment ends: a gap behind
pub gap_judged : (blocks new : BlockCounts) (pieces : List Piece) (n : ℕ) → Judges blocks pieces → new ≡ record blocks { word = None } → Judges new (pieces ++ Gap n ∷ [])
gap_judged blocks new pieces n judges is =
    let same : judgements 24 None (pieces ++ Gap n ∷ []) ≡ judgements 24 None pieces = judgements-append 24 None pieces (Gap n ∷ []) ∙ append-nil (judgements 24 None pieces) in
    record {
      word_is = ap (λ (b : BlockCounts). b.word) is ∙ sym (last_word-append 24 None pieces (Gap n ∷ []));
      judged_are = ap (λ (b : BlockCounts). b.judged) is ∙ judges.judged_are ∙ sym (ap (λ (l : List Bool). min (length l) (2 ^ 64 - 1)) same);
      errored_are = ap (λ (b : BlockCounts). b.errored) is ∙ judges.errored_are ∙ sym (ap (λ (l : List Bool). min (count_by (λ e. e) l) (2 ^ 64 - 1)) same);
    }

-- a longer gap judges the same
pub gap_longer : (blocks : BlockCounts) (others : List Piece) (n m : ℕ) → Judges blocks (others ++ Gap n ∷ []) → Judges blocks (others ++ Gap m ∷ [])
gap_longer blocks others n m judges =
    let words : last_word 24 None (others ++ Gap n ∷ []) ≡ last_word 24 None (others ++ Gap m ∷ []) = last_word-append 24 None others (Gap n ∷ []) ∙ sym (last_word-append 24 None others (Gap m ∷ [])) in
    let same : judgements 24 None (others ++ Gap n ∷ []) ≡ judgements 24 None (others ++ Gap m ∷ []) = judgements-append 24 None others (Gap n ∷ []) ∙ sym (judgements-append 24 None others (Gap m ∷ [])) in
    record {
      word_is = judges.word_is ∙ words;
      judged_are = judges.judged_are ∙ ap (λ (l : List Bool). min (length l) (2 ^ 64 - 1)) same;
      errored_are = judges.errored_are ∙ ap (λ (l : List Bool). min (count_by (λ e. e) l) (2 ^ 64 - 1)) same;
    }

-- one more superframe
pub superframe_judged : (blocks new : BlockCounts) (pieces : List Piece) (superframe : List Bool) (carried word : ℕ) → Judges blocks pieces → carried ≡ carried_word superframe → word ≡ word_of 24 superframe
    → new ≡ after_superframe blocks carried word → Judges new (pieces ++ Delivered superframe ∷ [])
superframe_judged blocks new pieces superframe carried word judges carried_is word_is is = go (last_word 24 None pieces) refl
  where
    stays_count : (a b : ℕ) → min (min a (2 ^ 64 - 1) + b) (2 ^ 64 - 1) ≡ min (a + b) (2 ^ 64 - 1)
    stays_count a b = omega arith

    go : (before : Option ℕ) → last_word 24 None pieces ≡ before → Judges new (pieces ++ Delivered superframe ∷ [])
    go None e =
        let none : blocks.word ≡ None = judges.word_is ∙ e in
        let same : judgements 24 None (pieces ++ Delivered superframe ∷ []) ≡ judgements 24 None pieces =
        judgements-append 24 None pieces (Delivered superframe ∷ []) ∙ ap (λ b. judgements 24 None pieces ++ (judgement (Delivered superframe) b ++ [])) e ∙ append-nil (judgements 24 None pieces) in
        record {
          word_is = ap (λ (b : BlockCounts). b.word) is ∙ ap Some word_is ∙ sym (last_word-append 24 None pieces (Delivered superframe ∷ []));
          judged_are = ap (λ (b : BlockCounts). b.judged) is ∙ ap (λ w. judged_after w blocks.judged) none ∙ judges.judged_are ∙ sym (ap (λ (l : List Bool). min (length l) (2 ^ 64 - 1)) same);
          errored_are = ap (λ (b : BlockCounts). b.errored) is ∙ ap (λ w. errored_after w carried blocks.errored) none ∙ judges.errored_are ∙ sym (ap (λ (l : List Bool). min (count_by (λ e. e) l) (2 ^ 64 - 1)) same);
        }
    go (Some sent) e =
        let some : blocks.word ≡ Some sent = judges.word_is ∙ e in
        let verdict : Bool = not (eqb (carried_word superframe) sent) in
        let before : List Bool = judgements 24 None pieces in
        let more : judgements 24 None (pieces ++ Delivered superframe ∷ []) ≡ before ++ verdict ∷ [] =
        judgements-append 24 None pieces (Delivered superframe ∷ []) ∙ ap (λ b. before ++ (judgement (Delivered superframe) b ++ [])) e in
        let counted : count_by (λ e. e) (before ++ verdict ∷ []) ≡ count_by (λ e. e) before + cond (eqb (carried_word superframe) sent) 0 1 =
        sum_by-append (λ e. cond e 1 0) before (verdict ∷ []) ∙ ap (λ n. count_by (λ e. e) before + n) (sum_by-cons (λ e. cond e 1 0) verdict [] ∙ turned (eqb (carried_word superframe) sent)) in
        record {
          word_is = ap (λ (b : BlockCounts). b.word) is ∙ ap Some word_is ∙ sym (last_word-append 24 None pieces (Delivered superframe ∷ []));
          judged_are =
              ap (λ (b : BlockCounts). b.judged) is ∙ ap (λ w. judged_after w blocks.judged) some ∙ ap (λ n. min (n + 1) (2 ^ 64 - 1)) judges.judged_are
              ∙ stays_count (length before) 1
              ∙ sym (ap (λ (l : List Bool). min (length l) (2 ^ 64 - 1)) more ∙ ap (λ n. min n (2 ^ 64 - 1)) (length-append before (verdict ∷ [])));
          errored_are =
              ap (λ (b : BlockCounts). b.errored) is ∙ ap (λ w. errored_after w carried blocks.errored) some
              ∙ ap (λ c. min (blocks.errored + cond (eqb c sent) 0 1) (2 ^ 64 - 1)) carried_is
              ∙ ap (λ n. min (n + cond (eqb (carried_word superframe) sent) 0 1) (2 ^ 64 - 1)) judges.errored_are
              ∙ stays_count (count_by (λ e. e) before) (cond (eqb (carried_word superframe) sent) 0 1)
              ∙ sym (ap (λ (l : List Bool). min (count_by (λ e. e) l) (2 ^ 64 - 1)) more ∙ ap (λ n. min n (2 ^ 64 - 1)) counted);
        }
      where
        turned : (b : Bool) → cond (not b) 1 0 + 0 ≡ cond b 0 1
        turned true = refl
        turned false = refl

abbrev is_lost_step : Step → Type 0
is_lost_step Lost = Unit {0}
is_lost_step _ = ⊥

step_apart : Nothing ≡ Lost → ⊥
step_apart e = subst is_lost_step (sym e) tt

step_apart' : Rejected ≡ Lost → ⊥
step_apart' e = subst is_lost_step (sym e) tt

aligned_apart : Aligned ≡ Lost → ⊥
aligned_apart e = subst is_lost_step (sym e) tt

frame_apart : Frame ≡ Lost → ⊥
frame_apart e = subst is_lost_step (sym e) tt

-- what is kept follows a step, once it has taken the ready superframes and, at a loss, a gap
pub judges_go : (blocks now : BlockCounts) (step : Step) (ready : List (List Bool)) (before after : List Piece) → Grows step ready before after → Judges blocks before
    → ((pieces : List Piece) → Judges blocks pieces → (step ≡ Lost → ⊥) → Judges now (pieces ++ map Delivered ready))
    → ((n : ℕ) → step ≡ Lost → ready ≡ [] → Judges now (before ++ Gap n ∷ [])) → Judges now after
judges_go blocks now Nothing ready before after g judges takes ends =
    let none : before ++ map Delivered ready ≡ after = ap (λ r. before ++ map Delivered r) g.0 ∙ append-nil before ∙ sym g.1 in
    subst (Judges now) none (takes before judges (λ e. step_apart e))
judges_go blocks now Rejected ready before after g judges takes ends =
    let others : List Piece = g.0 in
    let took : Judges now (before ++ map Delivered ready) = takes before judges (λ e. step_apart' e) in
    let was : before ++ map Delivered ready ≡ others ++ Gap g.1 ∷ [] = ap (λ r. before ++ map Delivered r) g.2 ∙ append-nil before ∙ g.3 in
    subst (Judges now) (sym g.4) (gap_longer now others g.1 (suc g.1) (subst (Judges now) was took))
judges_go blocks now Aligned ready before after g judges takes ends = subst (Judges now) (sym g.4) (takes before judges (λ e. aligned_apart e))
judges_go blocks now Frame ready before after g judges takes ends = subst (Judges now) (sym g.4) (takes before judges (λ e. frame_apart e))
judges_go blocks now Lost ready before after g judges takes ends = subst (Judges now) (sym g.4) (ends 0 refl g.2)

pub delivered_push : (pieces : List Piece) (ready : List (List Bool)) (n : ℕ) → n < length ready → (pieces ++ map Delivered (take n ready)) ++ Delivered (slice_index_or ready n []) ∷ [] ≡ pieces ++ map Delivered (take (n + 1) ready)
delivered_push pieces ready n inside =
    append_assoc pieces (map Delivered (take n ready)) (Delivered (slice_index_or ready n []) ∷ [])
    ∙ ap (λ x. pieces ++ x) (sym (ap (map Delivered) (take_more ready n [] inside) ∙ map-append Delivered (take n ready) (slice_index_or ready n [] ∷ [])))

pub ended : (pieces : List Piece) (n : ℕ) (ready : List (List Bool)) → ready ≡ [] → (pieces ++ Gap n ∷ []) ++ map Delivered ready ≡ pieces ++ Gap n ∷ []
ended pieces n ready none = ap (λ r. (pieces ++ Gap n ∷ []) ++ map Delivered r) none ∙ append-nil (pieces ++ Gap n ∷ [])

-- ---- the machine

none_counted : (f_bits : List Role) (plan : SuperframePlan) → IsFrame (in_superframe f_bits plan) → 0 ≡ superframes_counted f_bits plan []
unfolding superframes_counted frames_delivered
none_counted f_bits plan frame =
    let s : FrameShape = in_superframe f_bits plan in
    let none : track s [] ≡ Gap 0 ∷ [] = track-short s [] (omega (arith, frame.some_slots)) in
    sym (ap (λ p. min (count_by is_delivered p) (2 ^ 64 - 1)) none ∙ ap (λ n. min n (2 ^ 64 - 1)) (count_gap 0))

pub opened : (f_bits : List Role) (plan : SuperframePlan) (aligner : Held) (superframe payload : BoundedBits) → IsFrame (in_superframe f_bits plan) → StandsFor (in_superframe f_bits plan) aligner []
    → superframe.capacity ≡ plan.len → payload.capacity ≡ 576 * plan.frames → (blocks : BlockCounts) → Judges blocks [] → Stands f_bits plan aligner superframe payload 0 blocks []
opened f_bits plan aligner superframe payload frame stands a b blocks judges = record {
  aligner_is = stands;
  superframe_room = a;
  payload_room = b;
  superframes_are = none_counted f_bits plan frame;
  judges = λ extended. subst (Judges blocks) (sym (track-short (in_superframe f_bits plan) [] (omega (arith, frame.some_slots)))) (record { word_is = judges.word_is; judged_are = judges.judged_are; errored_are = judges.errored_are });
}

pub counted_go : (f_bits : List Role) (plan : SuperframePlan) (step : Step) (ready : List (List Bool)) (line after : List Bool) (superframes : ℕ) → superframes ≡ superframes_counted f_bits plan line
    → Grows step ready (track (in_superframe f_bits plan) line) (track (in_superframe f_bits plan) after) → superframes_after step superframes ≡ superframes_counted f_bits plan after
unfolding superframes_counted frames_delivered
counted_go f_bits plan step ready line after superframes is g =
    let s : FrameShape = in_superframe f_bits plan in
    ap (λ n. min (n + frames_gained step) (2 ^ 64 - 1)) is ∙ stays (count_by is_delivered (track s line)) (frames_gained step) (2 ^ 64 - 1)
    ∙ ap (λ n. min n (2 ^ 64 - 1)) (sym (counts_grow step ready (track s line) (track s after) g))

pub far_gained : (f_bits : List Role) (plan : SuperframePlan) (step : Step) (ready : List (List Bool)) (line after : List Bool) → IsSuperframePlan plan
    → Grows step ready (track (in_superframe f_bits plan) line) (track (in_superframe f_bits plan) after)
    → ds1_far (in_superframe f_bits plan) after ≡ ds1_far (in_superframe f_bits plan) line ++ payload_of_all plan.frames ready
unfolding ds1_far
far_gained f_bits plan step ready line after fits g =
    let s : FrameShape = in_superframe f_bits plan in
    let frames : frames_of s ≡ plan.frames = omega (arith, fits.whole) in
    far_grows s step ready (track s line) (track s after) g ∙ ap (λ n. flat_map (piece_payload s) (track s line) ++ payload_of_all n ready) frames

-- one more superframe is gathered
pub gathered : (frames : ℕ) (ready : List (List Bool)) (n back capacity : ℕ) (before new : BoundedBits) → n < length ready → length ready - suc back ≡ n
    → before ≡ record { capacity = capacity; bits = payload_of_all frames (take n ready) }
    → new ≡ record before { bits = before.bits ++ line_payload (frame_back ready back) frames }
    → new ≡ record { capacity = capacity; bits = payload_of_all frames (take (n + 1) ready) }
gathered frames ready n back capacity before new inside is so more =
    let f : List Bool → List Bool = λ x. line_payload x frames in
    let joined : payload_of_all frames (take n ready) ++ f (frame_back ready back) ≡ payload_of_all frames (take (n + 1) ready) =
    sym (
    ap (flat_map f) (take_more ready n [] inside) ∙ flat_map-append f (take n ready) (slice_index_or ready n [] ∷ [])
    ∙ ap (λ x. payload_of_all frames (take n ready) ++ x) (append-nil (f (slice_index_or ready n [])) ∙ ap (λ k. f (slice_index_or ready k [])) (sym is))
    ) in
    more ∙ ap (λ (p : BoundedBits). record p { bits = p.bits ++ f (frame_back ready back) }) so ∙ ap (packed capacity) joined
  where
    packed : ℕ → List Bool → BoundedBits
    packed capacity bits = record { capacity = capacity; bits = bits }

-- all of them are
pub gathered_all : (frames : ℕ) (ready : List (List Bool)) (n capacity : ℕ) (payload : BoundedBits) → length ready ≤ n → payload ≡ record { capacity = capacity; bits = payload_of_all frames (take n ready) } → payload.bits ≡ payload_of_all frames ready
gathered_all frames ready n capacity payload whole is = ap (λ (p : BoundedBits). p.bits) is ∙ ap (payload_of_all frames) (take_all n ready whole)

-- what a bit gains
pub gains : (f_bits : List Role) (plan : SuperframePlan) (old new : Held) (step : Step) (bit : Bool) (line bits : List Bool) → IsSuperframePlan plan → Tracks (in_superframe f_bits plan) old new bit step line
    → bits ≡ payload_of_all plan.frames new.ready → ds1_far (in_superframe f_bits plan) (line ++ bit ∷ []) ≡ ds1_far (in_superframe f_bits plan) line ++ bits
gains f_bits plan old new step bit line bits fits tracks is =
    far_gained f_bits plan step new.ready line (line ++ bit ∷ []) fits tracks.grows ∙ sym (ap (λ (x : List Bool). ds1_far (in_superframe f_bits plan) line ++ x) is)

-- the judgements of an extended form
pub judged-is : (f_bits : List Role) (plan : SuperframePlan) (line : List Bool) → IsSuperframePlan plan → plan.frames ≡ 24 → judged (in_superframe f_bits plan) line ≡ judgements 24 None (track (in_superframe f_bits plan) line)
unfolding judged
judged-is f_bits plan line fits extended =
    let frames : frames_of (in_superframe f_bits plan) ≡ 24 = omega (arith, fits.whole, extended) in
    ap (λ n. judgements n None (track (in_superframe f_bits plan) line)) frames

-- ---- bits that gain nothing

-- what a line gives begins with what a shorter one gave
pub far_grows_on : (s : FrameShape) → IsFrame s → (line more : List Bool) → IsPrefix (ds1_far s line) (ds1_far s (line ++ more))
unfolding ds1_far
far_grows_on s shape line more = pieces_grow (piece_payload s) s line more (λ n m le. ([], refl)) shape

module _ (f_bits : List Role) (plan : SuperframePlan) (aligner now : Held) (superframe payload : BoundedBits) (superframes : ℕ) (blocks : BlockCounts) (bits line : List Bool)
    (stands : Stands f_bits plan aligner superframe payload superframes blocks line) where
  -- no piece changes
  waits_counted : Waits (in_superframe f_bits plan) now bits line → superframes ≡ superframes_counted f_bits plan (line ++ bits)
  unfolding superframes_counted frames_delivered
  waits_counted waits = stands.superframes_are ∙ sym (ap (λ p. min (count_by is_delivered p) (2 ^ 64 - 1)) waits.same)

  pub waits_stands : Waits (in_superframe f_bits plan) now bits line → Stands f_bits plan now superframe payload superframes blocks (line ++ bits)
  waits_stands waits = record {
    aligner_is = waits.stands;
    superframe_room = stands.superframe_room;
    payload_room = stands.payload_room;
    superframes_are = waits_counted waits;
    judges = λ extended. subst (Judges blocks) (sym waits.same) (stands.judges extended);
  }

  pub waits_far : Waits (in_superframe f_bits plan) now bits line → ds1_far (in_superframe f_bits plan) (line ++ bits) ≡ ds1_far (in_superframe f_bits plan) line
  unfolding ds1_far
  waits_far waits = ap (flat_map (piece_payload (in_superframe f_bits plan))) waits.same

  -- the gap at the end grows
  passes_counted : Passes (in_superframe f_bits plan) now bits line → superframes ≡ superframes_counted f_bits plan (line ++ bits)
  unfolding superframes_counted frames_delivered
  passes_counted passes =
      let a = ap (count_by is_delivered) passes.was ∙ count_append passes.others (Gap passes.gap ∷ []) in
      let b = ap (count_by is_delivered) passes.is ∙ count_append passes.others (Gap (passes.gap + length bits) ∷ []) in
      let same : count_by is_delivered (track (in_superframe f_bits plan) line) ≡ count_by is_delivered (track (in_superframe f_bits plan) (line ++ bits)) =
      omega (arith, a, b, count_gap passes.gap, count_gap (passes.gap + length bits)) in
      stands.superframes_are ∙ ap (λ n. min n (2 ^ 64 - 1)) same

  pub passes_stands : Passes (in_superframe f_bits plan) now bits line → Stands f_bits plan now superframe payload superframes blocks (line ++ bits)
  passes_stands passes = record {
    aligner_is = passes.stands;
    superframe_room = stands.superframe_room;
    payload_room = stands.payload_room;
    superframes_are = passes_counted passes;
    judges = λ extended.
        subst (Judges blocks) (sym passes.is)
        (gap_longer blocks passes.others passes.gap (passes.gap + length bits) (subst (Judges blocks) passes.was (stands.judges extended)));
  }

  pub passes_far : Passes (in_superframe f_bits plan) now bits line → ds1_far (in_superframe f_bits plan) (line ++ bits) ≡ ds1_far (in_superframe f_bits plan) line
  unfolding ds1_far
  passes_far passes =
      let f : Piece → List Bool = piece_payload (in_superframe f_bits plan) in
      ap (flat_map f) passes.is ∙ flat_map-append f passes.others (Gap (passes.gap + length bits) ∷ [])
      ∙ sym (ap (flat_map f) passes.was ∙ flat_map-append f passes.others (Gap passes.gap ∷ []))

-- so bits were taken that gave nothing
module _ (f_bits : List Role) (plan : SuperframePlan) (aligner now : Held) (superframe payload : BoundedBits) (superframes : ℕ) (blocks : BlockCounts) (bits : List Bool) where
  pub quietly_waits : ((line : List Bool) → StandsFor (in_superframe f_bits plan) aligner line → Waits (in_superframe f_bits plan) now bits line)
      → TakesQuietly (ds1_far (in_superframe f_bits plan)) (Stands f_bits plan aligner superframe payload superframes blocks) (Stands f_bits plan now superframe payload superframes blocks) bits
  quietly_waits waits = record {
    stands = λ line h. waits_stands f_bits plan aligner now superframe payload superframes blocks bits line h (waits line h.aligner_is);
    same = λ line h. waits_far f_bits plan aligner now superframe payload superframes blocks bits line h (waits line h.aligner_is);
  }

  pub quietly_passes : ((line : List Bool) → StandsFor (in_superframe f_bits plan) aligner line → Passes (in_superframe f_bits plan) now bits line)
      → TakesQuietly (ds1_far (in_superframe f_bits plan)) (Stands f_bits plan aligner superframe payload superframes blocks) (Stands f_bits plan now superframe payload superframes blocks) bits
  quietly_passes passes = record {
    stands = λ line h. passes_stands f_bits plan aligner now superframe payload superframes blocks bits line h (passes line h.aligner_is);
    same = λ line h. passes_far f_bits plan aligner now superframe payload superframes blocks bits line h (passes line h.aligner_is);
  }
