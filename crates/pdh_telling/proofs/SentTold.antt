-- What the events of the first bits of a sent line tell.
use Rattle.std.proofs.Common.{◌≡◌, ℕ, zero, suc, ◌+◌, ◌-◌, ◌*◌, ◌/◌, ◌<◌, ◌≤◌, Bool, cond, List, [], ◌∷◌, ◌++◌, map, drop, length, refl, sym, ap, ◌∙◌, inl, inr, arith, add-one}
use Rattle.std.specs.Prelude.{count_by}
use Rattle.std.specs.List.{range_with_len}
use Rattle.std.proofs.lemmas.Bool.{lt-ltb, le-ltb, cases_lt}
use Rattle.std.proofs.lemmas.List.{map-append, append-nil}
use Rattle.std.proofs.lemmas.List.Sums.{sum_by-append, sum_by-cons}
use Rattle.std.proofs.lemmas.Nat.{le-div}
use Rattle.std.proofs.Math.Nat.{mul-le-mul_right, div-mul-le_self, lt-div-mul-add}
use Rattle.std.proofs.Math.Seq.{drop-append_seam}
use Rattle.pdh_shape.specs.Frame.{FrameShape, IsFrame}
use Rattle.pdh_line.specs.Paths.{top}
use Rattle.pdh_line.specs.Sending.{Source, front, line_bit, frames_found}
use Rattle.pdh_line.specs.Tracking.{frame_of, frames_in, track}
use Rattle.pdh_line.specs.Tracking.Piece.{Delivered}
use Rattle.pdh_line.proofs.Ranges.{range_push, range_append, map-range_same_on}
use Rattle.pdh_line.proofs.RightLines.{track-right, track-short}
use Rattle.pdh_line.proofs.SentFrames.{sent_frame, length-front, frame_of-front, front-right}
use Rattle.pdh_watch.specs.declared.kind.Kind.{Kind}
use Rattle.pdh_watch.specs.declared.event.Event.{Event}
use Rattle.pdh_events.specs.Duties.{frames_of}
use Rattle.pdh_events.specs.Chain.{bit_events, bits_events, chain_events}
use Rattle.pdh_events.specs.laws.QuietLaws.{events_join}
use Rattle.pdh_telling.specs.Top.{is_of_top}
use Rattle.pdh_telling.proofs.TopEvents.{ComesWith, told, bit_told}

-- the frames of pieces that are all delivered ones
all_frames : {X : Type 0} (frame : X → List Bool) (xs : List X) → frames_of (map (λ x. Delivered (frame x)) xs) ≡ map frame xs
all_frames frame [] = refl
all_frames frame (x ∷ xs) = ap (λ v. frame x ∷ v) (all_frames frame xs)

-- one more bit ends no fewer frames
found_grows : (len x : ℕ) → 0 < len → frames_found (x / len) ≤ frames_found (suc x / len)
found_grows len x some =
    let more : x / len ≤ suc x / len = le-div (x / len) (suc x) len some (omega (arith, div-mul-le_self x len)) in
    elim (cases_lt (x / len) 3) [
      | inl few ↦
          let none : frames_found (x / len) ≡ 0 = ap (λ b. cond b 0 (x / len)) (lt-ltb _ _ few) in
          omega (arith, none)
      | inr three ↦
          let here : frames_found (x / len) ≡ x / len = ap (λ b. cond b 0 (x / len)) (le-ltb _ _ three) in
          let there : frames_found (suc x / len) ≡ suc x / len = ap (λ b. cond b 0 (suc x / len)) (le-ltb _ _ (omega arith)) in
          omega (arith, here, there)
    ]

-- the first n frames of a sent line
abbrev pub frames_sent : FrameShape → Source → ℕ → List (List Bool)
frames_sent s source n = map (sent_frame s source) (range_with_len 0 n)

pub sent_push : (s : FrameShape) (source : Source) (n : ℕ) → frames_sent s source (suc n) ≡ frames_sent s source n ++ sent_frame s source n ∷ []
sent_push s source n =
    ap (map (sent_frame s source)) (range_push 0 n) ∙ map-append (sent_frame s source) (range_with_len 0 n) ((0 + n) ∷ []) ∙ ap (λ k. frames_sent s source n ++ sent_frame s source k ∷ []) (omega arith)

-- one bit more
line_push : (line : ℕ → Bool) (x : ℕ) → front line (suc x) ≡ front line x ++ line x ∷ []
line_push line x = ap (map line) (range_push 0 x) ∙ map-append line (range_with_len 0 x) ((0 + x) ∷ []) ∙ ap (λ k. front line x ++ line k ∷ []) (omega arith)

module _ (s : FrameShape) (source : Source) (shape : IsFrame s) where
  abbrev line : ℕ → List Bool
  line x = front (line_bit s source) x

  abbrev found : ℕ → ℕ
  found x = frames_found (x / s.len)

  abbrev sent : ℕ → List (List Bool)
  sent = frames_sent s source

  -- those that a receiver finds
  tracked : (x : ℕ) → frames_of (track s (line x)) ≡ sent (found x)
  tracked x =
      let whole : frames_in s (line x) ≡ x / s.len = ap (λ n. n / s.len) (length-front (line_bit s source) x) in
      elim (cases_lt (x / s.len) 3) [
        | inl few ↦
            let short : x < 3 * s.len = omega (arith, lt-div-mul-add {a = x} shape.some_slots, mul-le-mul_right s.len few) in
            ap frames_of (track-short s (line x) (omega (arith, length-front (line_bit s source) x, short))) ∙ ap (λ b. sent (cond b 0 (x / s.len))) (sym (lt-ltb _ _ few))
        | inr three ↦
            ap frames_of (track-right s (line x) shape (omega (arith, whole, three)) (front-right s source x shape)) ∙ all_frames (frame_of s (line x)) (range_with_len 0 (frames_in s (line x)))
            ∙ ap (λ n. map (frame_of s (line x)) (range_with_len 0 n)) whole
            ∙ map-range_same_on (frame_of s (line x)) (sent_frame s source) 0 (x / s.len) (λ k from h. frame_of-front s source x k (omega (arith, mul-le-mul_right s.len h, div-mul-le_self x s.len)))
            ∙ ap (λ b. sent (cond b 0 (x / s.len))) (sym (le-ltb _ _ three))
      ]

  module _ (kind : Kind) (tells : List (List Bool) → List Bool → Bool) (turns : ℕ → Bool) (comes : ComesWith s kind tells) (is : (n : ℕ) → tells (sent n) (sent_frame s source n) ≡ turns n) where
    -- frames from one on tell where they turn
    told_turns : (n m : ℕ) → told tells (sent n) (map (sent_frame s source) (range_with_len n m)) ≡ count_by turns (range_with_len n m)
    told_turns n zero = refl
    told_turns n (suc m) =
        let next : sent n ++ sent_frame s source n ∷ [] ≡ sent (n + 1) = sym (ap sent (add-one n) ∙ sent_push s source n) in
        let rest : List (List Bool) = map (sent_frame s source) (range_with_len (n + 1) m) in
        ap (λ before. cond (tells (sent n) (sent_frame s source n)) 1 0 + told tells before rest) next ∙ ap (λ b. cond b 1 0 + told tells (sent (n + 1)) rest) (is n)
        ∙ ap (λ c. cond (turns n) 1 0 + c) (told_turns (n + 1) m) ∙ sym (sum_by-cons (λ n. cond (turns n) 1 0) n (range_with_len (n + 1) m))

    -- one more bit tells of the frames that it ends
    bit_turns : (below : List FrameShape) (x : ℕ) → count_by turns (range_with_len 0 (found x)) + count_by (is_of_top kind) (bit_events (s ∷ below) top (line x) (line_bit s source x)) ≡ count_by turns (range_with_len 0 (found (suc x)))
    bit_turns below x =
        let n : ℕ = found x in
        let m : ℕ = found (suc x) - n in
        let more : found (suc x) ≡ n + m = omega (arith, found_grows s.len x shape.some_slots) in
        let split : sent (found (suc x)) ≡ sent n ++ map (sent_frame s source) (range_with_len n m) =
        ap sent more ∙ ap (map (sent_frame s source)) (range_append 0 n m) ∙ map-append (sent_frame s source) (range_with_len 0 n) (range_with_len (0 + n) m) ∙ ap (λ k. sent n ++ map (sent_frame s source) (range_with_len k m)) (omega arith) in
        let new : count_by (is_of_top kind) (bit_events (s ∷ below) top (line x) (line_bit s source x)) ≡ count_by turns (range_with_len n m) =
        bit_told s kind tells comes below (line x) (line_bit s source x)
        ∙ ap (λ before. told tells before (drop (length before) (frames_of (track s (line x ++ line_bit s source x ∷ []))))) (tracked x)
        ∙ ap (λ frames. told tells (sent n) (drop (length (sent n)) frames)) (ap (λ l. frames_of (track s l)) (sym (line_push (line_bit s source) x)) ∙ tracked (suc x) ∙ split)
        ∙ ap (told tells (sent n)) (drop-append_seam (sent n) (map (sent_frame s source) (range_with_len n m))) ∙ told_turns n m in
        ap (λ c. count_by turns (range_with_len 0 n) + c) new ∙ ap (λ k. count_by turns (range_with_len 0 n) + count_by turns (range_with_len k m)) (omega arith)
        ∙ sym (ap (λ k. count_by turns (range_with_len 0 k)) more ∙ ap (count_by turns) (range_append 0 n m) ∙ sum_by-append (λ n. cond (turns n) 1 0) (range_with_len 0 n) (range_with_len (0 + n) m))

    -- all bits
    pub line_turns : (below : List FrameShape) (x : ℕ) → count_by (is_of_top kind) (chain_events (s ∷ below) (line x)) ≡ count_by turns (range_with_len 0 (found x))
    unfolding chain_events
    line_turns below zero =
        let short : 0 / s.len < 3 = omega (arith, div-mul-le_self 0 s.len, mul-le-mul_right (0 / s.len) shape.some_slots) in
        ap (λ b. count_by turns (range_with_len 0 (cond b 0 (0 / s.len)))) (sym (lt-ltb _ _ short))
    line_turns below (suc x) =
        let notes : List Bool → Bool → List Event = bit_events (s ∷ below) top in
        let bit : Bool = line_bit s source x in
        ap (λ l. count_by (is_of_top kind) (bits_events notes [] l)) (line_push (line_bit s source) x) ∙ ap (count_by (is_of_top kind)) (events_join notes [] (line x) (bit ∷ []))
        ∙ sum_by-append (λ e. cond (is_of_top kind e) 1 0) (bits_events notes [] (line x)) (bits_events notes (line x) (bit ∷ []))
        ∙ ap (λ n. n + count_by (is_of_top kind) (bits_events notes (line x) (bit ∷ []))) (line_turns below x)
        ∙ ap (λ events. count_by turns (range_with_len 0 (found x)) + count_by (is_of_top kind) events) (append-nil (notes (line x) bit)) ∙ bit_turns below x
