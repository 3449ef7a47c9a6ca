-- Schedules made from rates and clock offsets. The offsets are this project's own profile.
use Rattle.std.specs.Prelude.{◌≡◌, true, ℕ, ◌<◌, ◌≤◌, ◌^◌, suc, ◌-◌, ◌*◌, ◌/◌, ◌%◌, ◌==◌, ◌&&◌, nat_le, if◌then◌else◌, List, [], ◌∷◌, length, map}
use Rattle.std.specs.List.{range_with_len}
use Rattle.pdh_shape.specs.declared.place.Level.{Level}
use Rattle.pdh_clock.specs.declared.bias.Bias.{Bias}
use Rattle.pdh_clock.specs.declared.bias.Bias.TheVariants.{Nominal, Fast, Slow, Mixed}
use Rattle.pdh_clock.specs.declared.bias.Offset.{Offset}
use Rattle.pdh_clock.specs.declared.bias.Offset.TheVariants.{Exact, Ahead, Behind}
use Rattle.pdh_levels.specs.Levels.{IsElastic, level_stores}
use Rattle.pdh_row_text.specs.RateWords.{fast, slow}
use Rattle.pdh_clock.specs.Begun.{taken, top_len}
use Rattle.pdh_line.specs.Progress.{begun_by}
use Rattle.pdh_shape.specs.OwnNumbers.{most_frames}

-- the rate of a stream by its offset, as a multiple of a millionth of its nominal rate
abbrev pub scale_of : Offset → ℕ → ℕ
scale_of Exact ppm = 1000000
scale_of Ahead ppm = fast ppm
scale_of Behind ppm = slow ppm

-- The offset of a stream with a clock of its own: a tributary, by its number from 1 under its node, with so many levels of
-- nodes from its own on down, none where it is a leaf. The top's line is as the first tributary of a node above it.
abbrev pub offset_of : Bias → ℕ → ℕ → Offset
offset_of Nominal height number = Exact
offset_of Fast height number = if height % 2 == 0 then Ahead else Behind
offset_of Slow height number = if height % 2 == 0 then Behind else Ahead
offset_of Mixed height number = if number % 2 == 1 then Ahead else Behind

-- the offset of a tributary of a node of this level, by that of the node's line and by how many levels of nodes there are
-- below the node: it has its own clock, except where the node has no stores, so that its clock is the line's
abbrev pub tributary_offset : Level → Bias → ℕ → Offset → ℕ → Offset
tributary_offset level bias height line number = if level.locked then line else offset_of bias height number

-- how many bits of a tributary have arrived after n frames, by the offsets of the line and of the tributary: the whole bits
-- of their duration
abbrev pub made_arrived : Level → Offset → Offset → ℕ → ℕ
made_arrived level line trib n =
    n * level.len * (level.trib_rate * level.per * scale_of trib level.trib_ppm)
    / (level.rate * level.trib_per * scale_of line level.ppm)

-- how many arrive in frame n
abbrev pub made_count : Level → Offset → Offset → ℕ → ℕ
made_count level line trib n = made_arrived level line trib (suc n) - made_arrived level line trib n

-- the counts of each frame of a node above so many levels, one for each store, by the offset of its line
unfoldable pub made_frames : Level → Bias → ℕ → Offset → ℕ → List (List ℕ)
made_frames level bias height line frames =
    map (λ n. map (λ trib. made_count level line (tributary_offset level bias height line (suc trib)) n) (range_with_len 0 (level_stores level))) (range_with_len 0 frames)

-- the counts of each frame of the node to which the path leads from a node of the first of the levels, whose line has that
-- offset and which makes x bits
abbrev pub made_from : List Level → Bias → Offset → ℕ → List ℕ → List (List ℕ)
made_from [] bias line x path = []
made_from (level ∷ below) bias line x [] = made_frames level bias (length below) line (begun_by level.len x)
made_from (level ∷ below) bias line x (step ∷ path) =
    let trib = tributary_offset level bias (length below) line step in
    if nat_le 1 step && nat_le step level.tribs then made_from below bias trib (taken level (step - 1) (made_count level line trib) x) path else []

-- the counts of each frame of the node at a path, where the top makes so many frames
unfoldable pub made : List Level → Bias → ℕ → List ℕ → List (List ℕ)
made levels bias frames path = made_from levels bias (offset_of bias (length levels) 1) (frames * top_len levels) path

-- The most frames of a node of a made schedule: the longest frame has less than six times the bits of the shortest, and leads
-- are few.
abbrev pub most_made : ℕ
most_made = 8 * most_frames

-- Rates of which a schedule can be made: a tributary's is at most half the line's, no offset is above 1000 parts per
-- million, and whatever the offsets are, the bits that arrive in the time of a frame lie between those that a frame
-- carries at least and at most. Without stores each frame carries exactly the bits that arrive in its time.
pub record IsRated (level : Level) : Type 0 where
  pub some_rate : 0 < level.rate * level.trib_per
  pub few : level.rate * level.trib_per < 2 ^ 55
  pub half : 2 * (level.trib_rate * level.per) ≤ level.rate * level.trib_per
  pub offset : level.ppm ≤ 1000
  pub trib_offset : level.trib_ppm ≤ 1000
  pub least : IsElastic level → level.low * (level.rate * level.trib_per * fast level.ppm) ≤ level.len * (level.trib_rate * level.per * slow level.trib_ppm)
  pub most : IsElastic level → level.len * (level.trib_rate * level.per * fast level.trib_ppm) ≤ suc level.low * (level.rate * level.trib_per * slow level.ppm)
  pub exact : level.locked ≡ true → level.len * (level.trib_rate * level.per) ≡ level.low * (level.rate * level.trib_per)
