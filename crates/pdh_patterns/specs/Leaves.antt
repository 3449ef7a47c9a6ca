-- The leaves of a chain that give test patterns: the schedule by which their bits arrive, and how many of them enter.
use Rattle.std.specs.Prelude.{◌≡◌, ℕ, ◌*◌, Bool, IsNone, List, [], All, slice_index}
use Rattle.std.specs.List.{slice_index_or}
use Rattle.pdh_clock.specs.Begun.{shortage}
use Rattle.pdh_clock.specs.Contents.{Contents, IsRowOf, counts, frame_count}
use Rattle.pdh_clock.specs.Made.{made}
use Rattle.pdh_clock.specs.declared.bias.Bias.TheVariants.{Mixed}
use Rattle.pdh_line.specs.Nodes.{Counts}
use Rattle.pdh_nesting.specs.Chains.{top_len}
use Rattle.pdh_nesting.specs.Sending.{entered_below}
use Rattle.pdh_chain.specs.Chains.{shapes_of, levels_of}
use Rattle.pdh_chain.specs.declared.chain.Chain.{Chain}
use Rattle.pdh_patterns.specs.Pattern.{pattern}

-- how many bits of a tributary arrive in each frame of the made schedule of so many frames, in which neighbouring streams are
-- off to opposite sides
unfoldable pub made_counts : Chain → ℕ → Counts
made_counts chain frames path trib frame = slice_index (slice_index_or (made (levels_of chain) Mixed frames path) frame []) trib

-- how many bits of a leaf enter
abbrev pub entered_of : Chain → ℕ → ℕ → ℕ
entered_of chain frames leaf = entered_below (shapes_of chain) (made_counts chain frames) [] (frames * top_len (shapes_of chain)) leaf

-- what a leaf gives: as many bits of its pattern as enter
abbrev pub input_of : Chain → ℕ → ℕ → ℕ → List Bool
input_of chain seed frames leaf = pattern seed leaf (entered_of chain frames leaf)

-- the made schedule of so many frames of a chain
pub record IsClockOf (chain : Chain) (frames : ℕ) (clock : Contents) : Type 0 where
  pub levels : clock.levels ≡ levels_of chain
  pub counts_are : counts clock.rows ≡ made_counts chain frames
  pub sound : All (IsRowOf (levels_of chain)) clock.rows
  pub top : frame_count clock.rows [] ≡ frames
  pub enough : IsNone (shortage clock frames)
