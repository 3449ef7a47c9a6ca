-- Where the pieces of a tracking stand.
use Rattle.std.proofs.Common.{◌≡◌, ℕ, zero, suc, ◌+◌, ◌*◌, ◌<◌, ◌≤◌, Bool, true, false, List, [], ◌∷◌, ◌++◌, length, map, drop, refl, sym, ap, ◌∙◌, inl, inr, arith, append_assoc, length-append, length-drop}
use Rattle.std.specs.List.{range_with_len}
use Rattle.std.proofs.lemmas.List.{drop-append-le, drop-drop, append-nil}
use Rattle.std.proofs.lemmas.List.FromFn.{length-map-range_with_len}
use Rattle.std.proofs.lemmas.List.Sums.{sum_by-cons}
use Rattle.std.proofs.lemmas.Bool.{ltb-true, cases_Bool}
use Rattle.pdh_shape.specs.Frame.{FrameShape, IsFrame}
use Rattle.pdh_line.specs.Tracking.{frame_of, positions, gap_of, is_found, aligned, delivered, is_lost, after_loss, Piece, one_search, track}
use Rattle.pdh_line.specs.Tracking.Piece.{Gap, Delivered}
use Rattle.pdh_line.proofs.TrackingLaws as laws
use Rattle.pdh_align.specs.OpenGap.{bits_covered, covered, EndsInGap}
use Rattle.pdh_align.proofs.AligningLaws.{covered-append, track_searching}
use Rattle.pdh_recovery.specs.Recovering.{EndsInFrames, LosesAt}

pub covered-cons : (s : FrameShape) (x : Piece) (a : List Piece) → covered s (x ∷ a) ≡ bits_covered s x + covered s a
covered-cons s x a = sum_by-cons (bits_covered s) x a

pub covered-frames : (s : FrameShape) (frames : List (List Bool)) → covered s (map Delivered frames) ≡ length frames * s.len
covered-frames s [] = omega arith
covered-frames s (frame ∷ frames) = omega (arith, covered-cons s (Delivered frame) (map Delivered frames), covered-frames s frames)

-- where, from the start of a search, the frame stands that completes the loss
abbrev pub next_search : FrameShape → List Bool → ℕ
next_search s line = gap_of s line + delivered s line * s.len

-- the frames of an alignment
abbrev pub open_frames : FrameShape → List Bool → List (List Bool)
open_frames s line = map (frame_of s (aligned s line)) (range_with_len 0 (delivered s line))

map_twice : {X Y Z : Type 0} (f : X → Y) (g : Y → Z) (xs : List X) → map (λ x. g (f x)) xs ≡ map g (map f xs)
map_twice f g [] = refl
map_twice f g (x ∷ xs) = ap (λ r. g (f x) ∷ r) (map_twice f g xs)

pub one_search_frames : (s : FrameShape) (line : List Bool) → one_search s line ≡ Gap (gap_of s line) ∷ map Delivered (open_frames s line)
one_search_frames s line = laws.one_search_is s line ∙ ap (λ r. Gap (gap_of s line) ∷ r) (map_twice (frame_of s (aligned s line)) Delivered (range_with_len 0 (delivered s line)))

pub length-open_frames : (s : FrameShape) (line : List Bool) → length (open_frames s line) ≡ delivered s line
length-open_frames s line = length-map-range_with_len (frame_of s (aligned s line)) 0 (delivered s line)

pub covered-one_search : (s : FrameShape) (line : List Bool) → covered s (one_search s line) ≡ next_search s line
covered-one_search s line =
    ap (covered s) (one_search_frames s line) ∙ covered-cons s (Gap (gap_of s line)) (map Delivered (open_frames s line)) ∙ ap (λ n. gap_of s line + n) (covered-frames s (open_frames s line) ∙ ap (λ n. n * s.len) (length-open_frames s line))

-- a search of the tracking of a line begins at bit b, whatever comes after the line
pub record SearchAt (s : FrameShape) (line : List Bool) (b : ℕ) : Type 0 where
  pub settled : List Piece
  pub cover : covered s settled ≡ b
  pub within : b ≤ length line
  pub splits : (more : List Bool) → track s (line ++ more) ≡ settled ++ track s (drop b line ++ more)

pub search_first : (s : FrameShape) (line : List Bool) → SearchAt s line 0
search_first s line = record { settled = []; cover = refl; within = omega arith; splits = λ more. refl }

pub search_append : (s : FrameShape) (line more : List Bool) (b : ℕ) → SearchAt s line b → SearchAt s (line ++ more) b
search_append s line more b h = record {
  settled = h.settled;
  cover = h.cover;
  within = omega (arith, length-append line more, h.within);
  splits = λ other. ap (track s) (append_assoc line more other) ∙ h.splits (more ++ other)
      ∙ ap (λ x. h.settled ++ track s x) (sym (append_assoc (drop b line) more other) ∙ ap (λ x. x ++ other) (sym (drop-append-le b line more h.within)));
}

pub next_within : (s : FrameShape) (line : List Bool) → IsFrame s → is_found s line ≡ true → next_search s line ≤ length line
next_within s line shape found =
    let lt : gap_of s line < positions s line = ltb-true _ _ found in
    omega (arith, laws.delivered_within s line shape found, length-drop (gap_of s line) line)

pub after_loss_at : (s : FrameShape) (line : List Bool) → after_loss s line ≡ drop (next_search s line) line
after_loss_at s line = laws.after_loss_is s line ∙ drop-drop (delivered s line * s.len) (gap_of s line) line

pub search_next : (s : FrameShape) (line : List Bool) (b : ℕ) → IsFrame s → SearchAt s line b → is_lost s (drop b line) ≡ true → SearchAt s line (b + next_search s (drop b line))
search_next s line b shape h lost =
    let x : List Bool = drop b line in
    let fits : next_search s x ≤ length x = next_within s x shape (laws.is_lost_found s x lost) in
    let rest : after_loss s x ≡ drop (b + next_search s x) line = after_loss_at s x ∙ drop-drop (next_search s x) b line in
    record {
      settled = h.settled ++ one_search s x;
      cover = covered-append s h.settled (one_search s x) ∙ ap (λ n. n + covered s (one_search s x)) h.cover ∙ ap (λ n. b + n) (covered-one_search s x);
      within = omega (arith, length-drop b line, h.within);
      splits = λ more. h.splits more ∙ ap (λ r. h.settled ++ r) (laws.track_lost-append s x more shape lost)
          ∙ sym (append_assoc h.settled (one_search s x) (track s (after_loss s x ++ more)))
          ∙ ap (λ r. (h.settled ++ one_search s x) ++ track s (r ++ more)) rest;
    }

-- some search is the last
pub last_search : (s : FrameShape) (line : List Bool) → IsFrame s → (b : ℕ) × SearchAt s line b × (is_lost s (drop b line) ≡ false)
last_search s line shape = go (suc (length line)) 0 (search_first s line) (omega arith)
  where
    go : (fuel b : ℕ) → SearchAt s line b → length (drop b line) < fuel → (b : ℕ) × SearchAt s line b × (is_lost s (drop b line) ≡ false)
    go zero b h lt = absurd (omega arith)
    go (suc fuel) b h lt =
        elim (cases_Bool (is_lost s (drop b line))) [
          | inl lost ↦
              let shorter : length (after_loss s (drop b line)) < length (drop b line) = laws.after_loss_shorter s (drop b line) shape lost in
              let rest : after_loss s (drop b line) ≡ drop (b + next_search s (drop b line)) line = after_loss_at s (drop b line) ∙ drop-drop (next_search s (drop b line)) b line in
              let same : length (after_loss s (drop b line)) ≡ length (drop (b + next_search s (drop b line)) line) = ap length rest in
              go fuel (b + next_search s (drop b line)) (search_next s line b shape h lost) (omega arith)
          | inr kept ↦ (b, h, kept)
        ]

-- the tracking from a search on
pub search_now : (s : FrameShape) (line : List Bool) (b : ℕ) (h : SearchAt s line b) → track s line ≡ h.settled ++ track s (drop b line)
search_now s line b h = ap (track s) (sym (append-nil line)) ∙ h.splits [] ∙ ap (λ x. h.settled ++ track s x) (append-nil (drop b line))

pub ends_in_gap : (s : FrameShape) (line : List Bool) (b : ℕ) → SearchAt s line b → is_found s (drop b line) ≡ false → EndsInGap s line b
ends_in_gap s line b h found = record {
  before = h.settled;
  gap = positions s (drop b line);
  ends = search_now s line b h ∙ ap (λ r. h.settled ++ r) (track_searching s (drop b line) found);
  from = h.cover;
}

pub ends_in_frames : (s : FrameShape) (line : List Bool) (b : ℕ) → IsFrame s → SearchAt s line b → is_found s (drop b line) ≡ true → is_lost s (drop b line) ≡ false
    → EndsInFrames s line (b + gap_of s (drop b line))
ends_in_frames s line b shape h found kept = record {
  before = h.settled;
  gap = gap_of s (drop b line);
  frames = open_frames s (drop b line);
  some = omega (arith, length-open_frames s (drop b line), laws.delivered_three s (drop b line) shape found);
  ends = search_now s line b h ∙ ap (λ r. h.settled ++ r) (laws.track_open s (drop b line) kept ∙ one_search_frames s (drop b line));
  begins = ap (λ n. n + gap_of s (drop b line)) h.cover;
}

-- the tracking from any place on begins with a gap
pub begins_with_gap : (s : FrameShape) (line : List Bool) → IsFrame s → (n : ℕ) × (rest : List Piece) × (track s line ≡ Gap n ∷ rest)
begins_with_gap s line shape =
    elim (cases_Bool (is_lost s line)) [
      | inl lost ↦ (gap_of s line, map Delivered (open_frames s line) ++ track s (after_loss s line), laws.track_lost s line shape lost ∙ ap (λ r. r ++ track s (after_loss s line)) (one_search_frames s line))
      | inr kept ↦ (gap_of s line, map Delivered (open_frames s line), laws.track_open s line kept ∙ one_search_frames s line)
    ]

pub loses_at : (s : FrameShape) (line more : List Bool) (b : ℕ) → IsFrame s → SearchAt s line b → is_lost s (drop b line) ≡ true
    → LosesAt s (line ++ more) (b + gap_of s (drop b line)) (b + next_search s (drop b line))
loses_at s line more b shape h lost =
    let x : List Bool = drop b line in
    let later = begins_with_gap s (after_loss s x ++ more) shape in
    record {
      before = h.settled;
      gap = gap_of s x;
      frames = open_frames s x;
      next_gap = later.0;
      rest = later.1;
      some = omega (arith, length-open_frames s x, laws.delivered_three s x shape (laws.is_lost_found s x lost));
      pieces = h.splits more ∙ ap (λ r. h.settled ++ r) (laws.track_lost-append s x more shape lost)
          ∙ ap (λ r. h.settled ++ (r ++ track s (after_loss s x ++ more))) (one_search_frames s x)
          ∙ ap (λ r. h.settled ++ ((Gap (gap_of s x) ∷ map Delivered (open_frames s x)) ++ r)) later.2
          ∙ sym (append_assoc h.settled (Gap (gap_of s x) ∷ map Delivered (open_frames s x)) (Gap later.0 ∷ later.1));
      begins = ap (λ n. n + gap_of s x) h.cover;
      lost = let e : b + gap_of s x + delivered s x * s.len ≡ b + (gap_of s x + delivered s x * s.len) = omega arith in
          ap (λ n. b + gap_of s x + n * s.len) (length-open_frames s x) ∙ e;
    }
