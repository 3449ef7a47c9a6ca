-- The alignments of a whole received line, what they give in all, and their counts.
use Rattle.std.specs.Prelude.{ℕ, zero, suc, ◌-◌, ◌*◌, ◌^◌, min, Bool, ◌&&◌, if◌then◌else◌, List, [], ◌∷◌, length, map, take, drop, flat_map}
use Rattle.std.specs.List.{range_with_len, sum_by}
use Rattle.pdh_bits.specs.Bits.{bit_value}
use Rattle.pdh_g706.specs.Frames.{frames_of, is_found, aligned}
use Rattle.pdh_g706.specs.Alignment.{loses, is_reached, begin, multiframes, payload, is_errored, judged, errored_in, is_false, is_ended, up_to_end, kept, resumes}

-- what the frames that count of an alignment show
pub record Signs : Type 0 where
  -- how often multiframe alignment is reached
  pub alignments : ℕ
  -- how often basic alignment is lost after that
  pub losses : ℕ
  -- how often the alignment is false
  pub false_alignments : ℕ
  -- the judged blocks in order, each errored or not
  pub verdicts : List Bool
  -- the frames of the delivered multiframes in order
  pub frames : List (List Bool)

-- by these frames, and whether basic alignment is lost with the frame after them
unfoldable pub signs_of : Bool → List (List Bool) → Signs
signs_of lost frames = record {
  alignments = bit_value (is_reached frames);
  losses = bit_value (lost && is_reached frames);
  false_alignments = bit_value (is_false frames);
  verdicts = map (is_errored frames) (range_with_len 0 (judged frames));
  frames = take (16 * multiframes frames) (drop (begin frames) frames);
}

-- what the frames that count of an alignment give
pub record Share : Type 0 where
  pub payload : List Bool
  pub multiframes : ℕ
  pub blocks : ℕ
  pub errored : ℕ
  pub signs : Signs

-- by these frames, and whether basic alignment is lost with the frame after them
unfoldable pub share_of : Bool → List (List Bool) → Share
share_of lost frames = record {
  payload = payload frames;
  multiframes = multiframes frames;
  blocks = judged frames;
  errored = errored_in frames 0 (judged frames);
  signs = signs_of lost frames;
}

-- the frames from the position that a search finds, or none
unfoldable pub found_frames : List Bool → List (List Bool)
found_frames line = (if is_found line then frames_of (aligned line) else [])

-- the search ends again
abbrev pub is_over : List Bool → Bool
is_over line = is_ended (found_frames line)

-- what one search gives
unfoldable pub one_search : List Bool → Share
one_search line = share_of (loses (up_to_end (found_frames line))) (kept (found_frames line))

-- the line from the bit at which the next search begins
unfoldable pub after_search : List Bool → List Bool
after_search line = drop (resumes (found_frames line)) (aligned line)

-- what a line gives, by at most so many searches
unfoldable pub track_within : ℕ → List Bool → List Share
track_within zero line = []
track_within (suc searches) line =
    one_search line ∷ (if is_over line then track_within searches (after_search line) else [])

-- What each search of a line gives, in order. Each search but the first begins at least one bit later, so there are no more
-- of them than bits and one.
unfoldable pub track : List Bool → List Share
track line = track_within (suc (length line)) line

-- the payload of a line: that of its delivered multiframes, in order
unfoldable pub e1_far : List Bool → List Bool
e1_far line = flat_map (λ (s : Share). s.payload) (track line)

-- the delivered multiframes of a line
unfoldable pub multiframes_in : List Bool → ℕ
multiframes_in line = sum_by (λ (s : Share). s.multiframes) (track line)

-- the judged blocks of a line
unfoldable pub blocks_in : List Bool → ℕ
blocks_in line = sum_by (λ (s : Share). s.blocks) (track line)

-- those of them that are errored
unfoldable pub errors_in : List Bool → ℕ
errors_in line = sum_by (λ (s : Share). s.errored) (track line)

-- what a line shows
unfoldable pub signs_in : List Bool → Signs
signs_in line = record {
  alignments = sum_by (λ (s : Share). s.signs.alignments) (track line);
  losses = sum_by (λ (s : Share). s.signs.losses) (track line);
  false_alignments = sum_by (λ (s : Share). s.signs.false_alignments) (track line);
  verdicts = flat_map (λ (s : Share). s.signs.verdicts) (track line);
  frames = flat_map (λ (s : Share). s.signs.frames) (track line);
}

-- a count that reaches its type's end stands there
abbrev pub counted : ℕ → ℕ
counted n = min n (2 ^ 64 - 1)
