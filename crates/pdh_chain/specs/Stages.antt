-- The stages of a chain: the frames of its nodes, and the rates of their lines and of their tributaries. A stage is known to
-- keep what the laws of frames, schedules and lines ask of it, by tests that are computed once, where the stage is written
-- down.
use Rattle.std.specs.Prelude.{◌≡◌, ℕ, suc, ◌*◌, ◌%◌, ◌^◌, Bool, true, not, nat_lt, nat_le, ◌==◌, ◌&&◌, if◌then◌else◌, List, [], ◌∷◌, length, map, drop}
use Rattle.pdh_shape.specs.Frame.{FrameShape}
use Rattle.pdh_shape.specs.KeptLaws.{keeps_laws}
use Rattle.pdh_shape.specs.declared.place.Level.{Level}
use Rattle.pdh_nesting.specs.Chains.{width, top_len}
use Rattle.pdh_recovery.specs.Losing.{KeepsRight}
use Rattle.pdh_levels.specs.Levels.{shortest_frame, longest_frame, fewest_tributaries, most_tributaries}
use Rattle.pdh_row_text.specs.RateWords.{fast, slow}

-- The rate of a line and that of each of its tributaries, each in bits a second as a number and what it is divided by, and by
-- how many parts per million they may be off.
pub record Rates : Type 0 where
  pub rate : ℕ
  pub per : ℕ
  pub ppm : ℕ
  pub trib_rate : ℕ
  pub trib_per : ℕ
  pub trib_ppm : ℕ

-- rates that are whole bits a second
abbrev pub whole_rates : ℕ → ℕ → ℕ → ℕ → Rates
whole_rates rate ppm trib_rate trib_ppm = record { rate = rate; per = 1; ppm = ppm; trib_rate = trib_rate; trib_per = 1; trib_ppm = trib_ppm }

-- the level of nodes with this frame and these rates
abbrev pub level_with : FrameShape → Rates → Level
level_with s rates = record {
  len = s.len;
  tribs = s.tribs;
  low = s.low;
  locked = s.copies == 0;
  rate = rates.rate;
  per = rates.per;
  ppm = rates.ppm;
  trib_rate = rates.trib_rate;
  trib_per = rates.trib_per;
  trib_ppm = rates.trib_ppm;
}

-- the test of a level's numbers: its nodes have neither too few nor too many tributaries, and frames neither too short nor too
-- long, of which fewer bits carry a tributary
abbrev pub has_numbers : Level → Bool
has_numbers level =
    nat_le shortest_frame level.len
    && (nat_le level.len longest_frame
    && (nat_le fewest_tributaries level.tribs && (nat_le level.tribs most_tributaries && nat_lt level.low level.len)))

-- the test that its frames carry exactly the bits that arrive in their time
abbrev pub carries_exactly : Level → Bool
carries_exactly level = level.len * (level.trib_rate * level.per) == level.low * (level.rate * level.trib_per)

-- the test that these lie between what a frame carries at least and at most, whatever the offsets are
abbrev pub carries_between : Level → Bool
carries_between level =
    nat_le (level.low * (level.rate * level.trib_per * fast level.ppm)) (level.len * (level.trib_rate * level.per * slow level.trib_ppm))
    && nat_le (level.len * (level.trib_rate * level.per * fast level.trib_ppm)) (suc level.low * (level.rate * level.trib_per * slow level.ppm))

-- the test of its rates
abbrev pub has_rates : Level → Bool
has_rates level =
    nat_lt 0 (level.rate * level.trib_per)
    && (nat_lt (level.rate * level.trib_per) (2 ^ 55)
    && (nat_le (2 * (level.trib_rate * level.per)) (level.rate * level.trib_per)
    && (nat_le level.ppm 1000 && (nat_le level.trib_ppm 1000 && (if level.locked then carries_exactly level else carries_between level)))))

-- a stage of a chain
pub record Stage : Type 0 where
  pub frame : FrameShape
  pub rates : Rates
  pub lawful : keeps_laws frame ≡ true
  pub keeps : KeepsRight frame
  pub numbers : has_numbers (level_with frame rates) ≡ true
  pub rated : has_rates (level_with frame rates) ≡ true

-- its level
abbrev pub level_of : Stage → Level
level_of stage = level_with stage.frame stage.rates

-- the frames of stages
abbrev pub frames_of : List Stage → List FrameShape
frames_of stages = map (λ (stage : Stage). stage.frame) stages

-- the test that the nodes of stages have stores
abbrev pub have_stores : List Stage → Bool
have_stores [] = true
have_stores (stage ∷ below) = not (stage.frame.copies == 0) && have_stores below

-- the test of a chain's name and stages: a name of three bytes, one to three stages, of which only the first may be without
-- stores, at most 64 leaves, and a top whose frame is whole bytes
abbrev pub is_listed : List ℕ → List Stage → Bool
is_listed name stages =
    (length name == 3)
    && (nat_le 1 (length stages)
    && (nat_le (length stages) 3
    && (have_stores (drop 1 stages) && (nat_le (width (frames_of stages)) 64 && (top_len (frames_of stages) % 8 == 0)))))

-- a chain: its name on the command line and in texts, and its stages from the top
pub record Listed : Type 0 where
  pub name : List ℕ
  pub stages : List Stage
  pub held : is_listed name stages ≡ true
