-- The drill: the leaves of a chain give test patterns, their line is taken apart again, and what comes back is compared with
-- what they gave. The report is on all leaves together.
use Rattle.std.specs.Prelude.{◌≡◌, ℕ, ◌-◌, ◌≤◌, Bool, max, List, None, fold, map, sum_by, count_by, length}
use Rattle.std.specs.Bool.{beq}
use Rattle.std.specs.List.{range_with_len, starts_with}
use Rattle.pdh_line.specs.Sending.Mode.{Plain}
use Rattle.pdh_nesting.specs.Receiving.{far}
use Rattle.pdh_chain.specs.Chains.{shapes_of, leaves_of, delay_of}
use Rattle.pdh_chain.specs.Saying.{says_of}
use Rattle.pdh_chain.specs.Muxes.{frames_of_line}
use Rattle.pdh_chain.specs.declared.chain.Chain.{Chain}
use Rattle.pdh_lab.specs.declared.report.Drill.{Drill}
use Rattle.pdh_patterns.specs.Leaves.{made_counts, entered_of, input_of}

-- ---- the line

-- the line of these leaves, whose top's frames are idle
unfoldable pub line_of : Chain → ℕ → ℕ → List Bool
line_of chain seed frames = frames_of_line Plain (shapes_of chain) (made_counts chain frames) (says_of None) (input_of chain seed frames) frames

-- what a leaf receives of this line
unfoldable pub output_of : Chain → ℕ → ℕ → ℕ → List Bool
output_of chain seed frames leaf = far (shapes_of chain) (line_of chain seed frames) leaf

-- ---- the report

-- how many bits of a leaf come out
abbrev pub out_of : Chain → ℕ → ℕ → ℕ → ℕ
out_of chain seed frames leaf = length (output_of chain seed frames leaf)

-- what comes out of a leaf is a prefix of what it gives
abbrev pub is_equal : Chain → ℕ → ℕ → ℕ → Bool
is_equal chain seed frames leaf = starts_with beq (input_of chain seed frames leaf) (output_of chain seed frames leaf)

-- by how many bits it is late
abbrev pub late_of : Chain → ℕ → ℕ → ℕ → ℕ
late_of chain seed frames leaf = entered_of chain frames leaf - out_of chain seed frames leaf

-- the report on the first leaves, so many
abbrev pub drill_upto : Chain → ℕ → ℕ → ℕ → Drill
drill_upto chain seed frames leaves = record {
  leaves = leaves;
  entered = sum_by (entered_of chain frames) (range_with_len 0 leaves);
  out = sum_by (out_of chain seed frames) (range_with_len 0 leaves);
  equal = count_by (is_equal chain seed frames) (range_with_len 0 leaves);
  late = fold max 0 (map (late_of chain seed frames) (range_with_len 0 leaves));
}

-- the report on all
unfoldable pub drill_of : Chain → ℕ → ℕ → Drill
drill_of chain seed frames = drill_upto chain seed frames (leaves_of chain)

-- every leaf came back in order, and no later than the chain's delay
pub record IsInTime (chain : Chain) (drill : Drill) : Type 0 where
  pub equal : drill.equal ≡ drill.leaves
  pub late : drill.late ≤ delay_of chain
