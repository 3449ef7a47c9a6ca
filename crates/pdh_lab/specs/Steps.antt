-- The steps of a drill: the schedule, the leaves' lists, the line, and what comes back.
use Rattle.std.specs.Prelude.{◌≡◌, ℕ, ◌+◌, ◌-◌, ◌<◌, ◌≤◌, ◌^◌, Bool, max, if◌then◌else◌, IsTrue, List, None, Some, length, slice_index_or}
use Rattle.pdh_bits.specs.BitOut.{BoundedBits}
use Rattle.pdh_edge.specs.Ports.{Inputs, Outputs}
use Rattle.pdh_line.specs.Sending.Mode.{Plain}
use Rattle.pdh_nesting.specs.Receiving.{far}
use Rattle.pdh_clock.specs.Contents.{Contents, counts, frame_count}
use Rattle.pdh_chain.specs.Chains.{shapes_of, leaves_of}
use Rattle.pdh_chain.specs.Saying.{says_of}
use Rattle.pdh_chain.specs.Muxes.{Muxes}
use Rattle.pdh_chain.specs.declared.chain.Chain.{Chain}
use Rattle.pdh_lab.specs.declared.report.Drill.{Drill}
use Rattle.pdh_patterns.specs.Leaves.{entered_of, input_of}

-- so many lists, each with what its leaf gives
pub record AreInputs (chain : Chain) (seed frames leaves : ℕ) (lists : List BoundedBits) : Type 0 where
  pub count : length lists ≡ leaves
  pub each : (k : ℕ) (d : BoundedBits) → k < leaves → (slice_index_or lists k d).bits ≡ input_of chain seed frames k

-- a port has a list for each leaf with as many bits as enter
pub record CanSend (chain : Chain) (frames : ℕ) (inputs : Inputs) : Type 0 where
  pub holds : (k : ℕ) → k < leaves_of chain → IsTrue (inputs.holds k)
  pub long : (k : ℕ) → k < leaves_of chain → entered_of chain frames k ≤ inputs.left k

-- all frames of the line were put
abbrev pub IsSent : Chain → ℕ → Contents → Inputs → Inputs → Outputs → Outputs → Type 0
IsSent chain frames clock inputs inputs_now outputs outputs_now =
    Muxes Plain (shapes_of chain) (counts clock.rows) (says_of None) (frame_count clock.rows) frames inputs inputs_now outputs outputs_now

-- list 0 has so many bits
pub record HasLine (bits : ℕ) (inputs : Inputs) : Type 0 where
  pub holds : IsTrue (inputs.holds 0)
  pub left : inputs.left 0 ≡ bits

-- the lists of a port have what the leaves receive of a line
pub record HaveReceived (chain : Chain) (line : List Bool) (outputs : Outputs) : Type 0 where
  pub holds : (k : ℕ) → k < leaves_of chain → IsTrue (outputs.holds k)
  pub told : (k : ℕ) → k < leaves_of chain → outputs.told k ≡ Some (far (shapes_of chain) line k)

-- a report with one leaf more, of which so many bits entered and so many came out
abbrev pub with_leaf : Drill → ℕ → ℕ → Bool → Drill
with_leaf drill entered out equal = record {
  leaves = drill.leaves + 1;
  entered = drill.entered + entered;
  out = drill.out + out;
  equal = drill.equal + (if equal then 1 else 0);
  late = max drill.late (entered - out);
}

-- a report to which one more can be added
pub record HasRoom (drill : Drill) : Type 0 where
  pub leaves : drill.leaves < 64
  pub equal : drill.equal ≤ drill.leaves
  pub entered : drill.entered < 2 ^ 40
  pub out : drill.out < 2 ^ 40
