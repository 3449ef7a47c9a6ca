-- Bits that arrive evenly over the frames of a row.
use Rattle.std.specs.Prelude.{◌<◌, ◌≤◌, ◌^◌, ℕ, suc, ◌+◌, ◌-◌, ◌*◌, ◌/◌}
use Rattle.pdh_rows.specs.declared.flow.Flow.{Flow}
use Rattle.pdh_rows.specs.declared.flow.Says.{Says}
use Rattle.pdh_rows.specs.declared.flow.Says.TheVariants.{Counts, Rates}

-- how many bits have arrived after n frames: the whole ones
abbrev pub flowed : Flow → ℕ → ℕ
flowed flow n = n * flow.bits / flow.frames

-- how many arrive in frame n
abbrev pub flow_count : Flow → ℕ → ℕ
flow_count flow n = flowed flow (suc n) - flowed flow n

-- the same number of bits in each frame
abbrev pub each : ℕ → Flow
each count = record { bits = count; frames = 1 }

-- the flow of a tributary by its number in a row: a count, or a rate where the line has the other one and `ratio` is the flow
-- at the nominal rates
abbrev pub flow_in : Flow → Says → ℕ → Flow
flow_in ratio Counts number = each number
flow_in ratio (Rates line) number = record { bits = ratio.bits * number; frames = ratio.frames * line }

-- over so many frames a flow is counted in the numbers of the code: a frame's count in 32 bits, and the products with the
-- bits of a line, or with a line of 2 ^ 32 bits a frame, in 128
pub record FlowFits (repeat : ℕ) (flow : Flow) : Type 0 where
  pub some : 0 < flow.frames
  pub few : flow.frames < 2 ^ 95
  pub all_few : repeat * flow.frames < 2 ^ 95
  pub most : flow.bits ≤ 4294967295 * flow.frames

-- in each of its frames a flow brings `low` bits or one more
pub record KeepsStep (low : ℕ) (flow : Flow) : Type 0 where
  pub least : low * flow.frames ≤ flow.bits
  pub most : flow.bits ≤ suc low * flow.frames

-- two sums grow steadily: what one gains over the other only grows
abbrev pub Ahead : (ℕ → ℕ) → (ℕ → ℕ) → Type 0
Ahead g l = (j i : ℕ) → j ≤ i → g j + l i ≤ g i + l j

-- n is the least number of frames, of at most so many, after which one sum is above another
pub record IsCross (lower : ℕ) (l : ℕ → ℕ) (upper : ℕ) (g : ℕ → ℕ) (most n : ℕ) : Type 0 where
  pub inside : n ≤ most
  pub above : lower + l n < upper + g n
  pub least : (k : ℕ) → k < n → upper + g k ≤ lower + l k

-- there's no such number
abbrev pub NeverCross : ℕ → (ℕ → ℕ) → ℕ → (ℕ → ℕ) → ℕ → Type 0
NeverCross lower l upper g most = (k : ℕ) → k ≤ most → upper + g k ≤ lower + l k
