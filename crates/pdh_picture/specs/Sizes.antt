-- How the lanes of a row lie, in pixels.
use Rattle.std.specs.Prelude.{ℕ, ◌+◌, ◌<◌, ◌≤◌}
use Rattle.pdh_picture.specs.declared.sizes.Lane.{Lane}
use Rattle.pdh_picture.specs.declared.sizes.Sizes.{Sizes}

-- where a lane ends, below the row's upper edge
abbrev pub end_of : Lane → ℕ
end_of lane = lane.top + lane.height

-- the lanes of a row lie within it, one below the other, and what stands over the states reaches into none; states and text are
-- seen, and no row is higher than 48
pub record AreApart (sizes : Sizes) : Type 0 where
  pub near : end_of sizes.near + sizes.over ≤ sizes.state.top
  pub state : end_of sizes.state + sizes.over ≤ sizes.alarm.top
  pub alarm : end_of sizes.alarm ≤ sizes.far.top
  pub far : end_of sizes.far ≤ sizes.height
  pub state_seen : 0 < sizes.state.height
  pub text_seen : 0 < sizes.font
  pub text_within : sizes.font ≤ sizes.height
  pub low : sizes.height ≤ 48
