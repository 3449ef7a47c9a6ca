-- The fills that a store may have from frame to frame, as far as it stays away from both its ends.
use Rattle.std.specs.Prelude.{◌≡◌, ◌<◌, ◌≤◌, ℕ, ◌+◌}
use Rattle.pdh_line.specs.Tolerance.{KeepsInside, fill_next, StaysInside, fill_from, IsInStep}
use Rattle.pdh_rows.specs.declared.inside.Fills.{Fills}

-- a store's fill is one of these
pub record IsOneOf (fills : Fills) (fill : ℕ) : Type 0 where
  pub least : fills.least ≤ fill
  pub most : fill ≤ fills.most

-- a frame with this count keeps a store that holds so many bits at its start inside, and then it holds that many
pub record FillPasses (low count fill next : ℕ) : Type 0 where
  pub keeps : KeepsInside low count fill
  pub next_is : next ≡ fill_next low count fill

-- the same of each of these fills, and of those
abbrev pub FillsPass : ℕ → ℕ → Fills → Fills → Type 0
FillsPass low count before after = (fill : ℕ) → IsOneOf before fill → KeepsInside low count fill × IsOneOf after (fill_next low count fill)

-- and over so many frames from frame `first` on
abbrev pub FillsPassAll : ℕ → (ℕ → ℕ) → ℕ → ℕ → Fills → Fills → Type 0
FillsPassAll low counts first frames before after =
    (fill : ℕ) → IsOneOf before fill → StaysInside low counts first fill frames × IsOneOf after (fill_from low counts first fill frames)

-- and over any frames in step
abbrev pub FillsPassSteps : Fills → Fills → Type 0
FillsPassSteps before after =
    (low first frames : ℕ) (counts : ℕ → ℕ) → ((n : ℕ) → first ≤ n → n < first + frames → IsInStep low (counts n)) → FillsPassAll low counts first frames before after
