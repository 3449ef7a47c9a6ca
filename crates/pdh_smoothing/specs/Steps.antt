-- The steps of taking a line apart: the receiver and the lists for its marks, and what they are once the line has come.
use Rattle.std.specs.Prelude.{◌≡◌, ℕ, suc, ◌/◌, ◌<◌, nat_lt, if◌then◌else◌, IsTrue, Bool, List, [], length, replicate, Some}
use Rattle.pdh_shape.specs.Frame.{FrameShape}
use Rattle.pdh_line.specs.Paths.{top}
use Rattle.pdh_edge.specs.declared.mem_port.MemPort.{MemPort}
use Rattle.pdh_edge.specs.MemLists.{outputs_of, room_of}
use Rattle.pdh_edge.specs.Ports.{Inputs, Outputs, Takes, after}
use Rattle.pdh_rx.specs.Meaning.{Meaning}
use Rattle.pdh_chain.specs.Muxing.{as_line}
use Rattle.pdh_desync.specs.FarStore.{smooth, marks}
use Rattle.pdh_desync.specs.Smooth.{smooth_meaning}
use Rattle.pdh_smoothing.specs.Again.{lists_in}

-- A node of far stores has taken no bit. It puts what comes out of them to the lists from 0 on, and its marks to those behind the
-- schedule's.
pub record IsOpened (s : FrameShape) (meaning : Meaning) (stands : List Bool → Type 0) : Type 0 where
  pub means : meaning ≡ smooth_meaning s top 0 (suc s.tribs)
  pub begun : stands []

-- a list for the marks of each tributary, empty, with room for one more than a line of so many bits has frames' lengths
pub record HasMarkLists (s : FrameShape) (bits : ℕ) (port : MemPort) : Type 0 where
  pub lists : lists_in port ≡ outputs_of (replicate s.tribs [])
  pub unfailed : port.faults ≡ 0
  pub room : (j : ℕ) → j < s.tribs → bits / s.len < room_of port j

-- what list k gets while the line comes
abbrev pub received_by : FrameShape → List Bool → ℕ → List Bool
received_by s given k = (if nat_lt k s.tribs then smooth s k given else [])

-- so many bits of the line came, the receiver stands for them, what the lists get by them was put, and their marks are held
pub record TakesLine (s : FrameShape) (bits : ℕ) (stands : List Bool → Type 0) (kept : Outputs) (inputs inputs_now : Inputs) (outputs outputs_now : Outputs) : Type 0 where
  pub given : List Bool
  pub count : length given ≡ bits
  pub stood : stands given
  pub takes : Takes (as_line given) inputs inputs_now
  pub puts : (k : ℕ) → k < suc s.tribs → outputs_now.told k ≡ after (received_by s given k) (outputs.told k)
  pub held : (j : ℕ) → j < s.tribs → IsTrue (kept.holds j)
  pub marked : (j : ℕ) → j < s.tribs → kept.told j ≡ Some (marks s j given)
