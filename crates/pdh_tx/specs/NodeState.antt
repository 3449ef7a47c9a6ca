-- The state of a multiplexer with stores.
use Rattle.std.specs.Prelude.{◌≡◌, Bool, List, slice_get}
use Rattle.pdh_shape.specs.declared.place.Path.{Path}
use Rattle.pdh_shape.specs.Frame.{FrameShape}
use Rattle.pdh_line.specs.Paths.{StandBelow}
use Rattle.pdh_line.specs.Sending.{Source, slot_bit, odd_before}
use Rattle.pdh_tx.specs.declared.position.Position.{Position}
use Rattle.pdh_tx.specs.Meaning.{NodeFrame, Meaning}
use Rattle.pdh_tx.specs.Node.{odd_within}

-- ---- its position

-- the parities are those of the line that this source decides
pub record HasParity (s : FrameShape) (source : Source) (at : Position) : Type 0 where
  pub last : at.last_odd ≡ odd_before s source at.frame
  pub now : at.is_odd ≡ odd_within s source at.frame at.slot

-- after a bit of the line the parities are the line's still
abbrev pub KeepsParity : FrameShape → Bool → Position → Position → Type 0
KeepsParity s bit old new = (source : Source) → bit ≡ slot_bit s source old.frame old.slot (s.role old.slot) → HasParity s source old → HasParity s source new

-- ---- its children

-- each child that is a node stands below the node at this path, by its number from 1
abbrev pub ArePlaced : Path → List Meaning → Type 0
ArePlaced = StandBelow (λ (m : Meaning). slice_get m.nodes 0) (λ (node : NodeFrame). node.path)
