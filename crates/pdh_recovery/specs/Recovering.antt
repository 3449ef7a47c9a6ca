-- How the tracking of a received line comes back to the sent line after the last line error.
use Rattle.std.specs.Prelude.{◌≡◌, ◌⊎◌, ◌<◌, ◌≤◌, ℕ, ◌+◌, ◌-◌, ◌*◌, ◌%◌, Bool, true, List, ◌∷◌, ◌++◌, length, map, take, drop}
use Rattle.std.specs.List.{range_with_len}
use Rattle.pdh_shape.specs.Frame.{FrameShape, is_right}
use Rattle.pdh_line.specs.Tracking.{Piece, frame_of, frames_in, is_confirmed, track}
use Rattle.pdh_line.specs.Tracking.Piece.{Gap, Delivered}
use Rattle.pdh_align.specs.OpenGap.{covered, EndsInGap}

-- ---- a received line and the sent line

-- the received line's bits from bit e on are the sent line's from bit u on, as far as the received line goes
abbrev pub Rejoins : List Bool → (ℕ → Bool) → ℕ → ℕ → Type 0
Rejoins received sent e u = drop e received ≡ map sent (range_with_len u (length received - e))

-- the same of a list of sent bits, which has as many
abbrev pub RejoinsList : List Bool → List Bool → ℕ → ℕ → Type 0
RejoinsList received sent e u = (u + (length received - e) ≤ length sent) × (drop e received ≡ take (length received - e) (drop u sent))

-- a true position: a frame of the sent line begins at place p of a received line that rejoins it at (e, u), so p-e+u is a multiple
-- of the frame's length
abbrev pub IsTruePosition : FrameShape → ℕ → ℕ → ℕ → Type 0
IsTruePosition s e u p = (p + u) % s.len ≡ e % s.len

-- each frame of a line that ends in its first n bits is right
abbrev pub AllRight : FrameShape → (ℕ → Bool) → ℕ → Type 0
AllRight s line n = (k : ℕ) → k * s.len + s.len ≤ n → is_right s (map line (range_with_len (k * s.len) s.len)) ≡ true

-- the same of a list: each whole frame of it is right
abbrev pub AreRight : FrameShape → List Bool → Type 0
AreRight s list = (k : ℕ) → k < frames_in s list → is_right s (frame_of s list k) ≡ true

-- ---- where the tracking of a line stands at its end

-- it ends in open frames, of which the first stands at place p
pub record EndsInFrames (s : FrameShape) (line : List Bool) (p : ℕ) : Type 0 where
  pub before : List Piece
  pub gap : ℕ
  pub frames : List (List Bool)
  pub some : 0 < length frames
  pub ends : track s line ≡ before ++ Gap gap ∷ map Delivered frames
  pub begins : covered s before + gap ≡ p

-- the alignment whose first frame stands at place p is lost, and q is the first bit of the frame that completes the loss
pub record LosesAt (s : FrameShape) (line : List Bool) (p q : ℕ) : Type 0 where
  pub before : List Piece
  pub gap : ℕ
  pub frames : List (List Bool)
  pub next_gap : ℕ
  pub rest : List Piece
  pub some : 0 < length frames
  pub pieces : track s line ≡ before ++ Gap gap ∷ map Delivered frames ++ Gap next_gap ∷ rest
  pub begins : covered s before + gap ≡ p
  pub lost : p + length frames * s.len ≡ q

-- After the first e bits of a line its tracking searches from place q on: in the open gap in which it ends there, or after the
-- loss of the open frames in which it ends there.
abbrev pub SearchesFrom : FrameShape → List Bool → ℕ → ℕ → Type 0
SearchesFrom s line e q = EndsInGap s (take e line) q ⊎ ((p : ℕ) × EndsInFrames s (take e line) p × LosesAt s line p q)

-- ---- quiet

-- a line that rejoins the sent one at (e, u) is quiet from there, with m frames:
pub record IsQuietFrom (s : FrameShape) (line : List Bool) (e u m : ℕ) : Type 0 where
  pub some : 0 < m
  -- where it is searched, nothing imitates the signal: no position but a true one is confirmed by frames that end after bit e,
  pub no_other : (q p : ℕ) → SearchesFrom s line e q → q ≤ p → e < p + 3 * s.len → is_confirmed s (drop p line) ≡ true → IsTruePosition s e u p
  -- and a false alignment, in which the first e bits end, is lost within m frames
  pub in_time : (p : ℕ) → EndsInFrames s (take e line) p → (IsTruePosition s e u p → ⊥) → (q : ℕ) × LosesAt s (take (e + m * s.len) line) p q

-- a line rejoins the sent one at (e, u), is quiet from there with m frames, and goes on for these and three more
abbrev pub IsClearFrom : FrameShape → List Bool → (ℕ → Bool) → ℕ → ℕ → ℕ → Type 0
IsClearFrom s line sent e u m = Rejoins line sent e u × IsQuietFrom s line e u m × (e + (m + 3) * s.len ≤ length line)

-- the tracking of each front of a line of at least `from` bits ends in the same open frames, which begin at a true position before `limit`
pub record Recovers (s : FrameShape) (line : List Bool) (e u from limit : ℕ) : Type 0 where
  pub place : ℕ
  pub true_position : IsTruePosition s e u place
  pub early : place < limit
  pub stays : (n : ℕ) → from ≤ n → n ≤ length line → EndsInFrames s (take n line) place

-- after m frames, and the three that confirm an alignment
abbrev pub RecoversAfter : FrameShape → List Bool → ℕ → ℕ → ℕ → Type 0
RecoversAfter s line e u m = Recovers s line e u (e + (m + 3) * s.len) (e + m * s.len)
