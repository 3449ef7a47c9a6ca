-- What a tree of demultiplexers gives and notes, by the list of received bits.
use Rattle.std.specs.Prelude.{◌≡◌, ℕ, Bool, false, List, [], ◌++◌, Option}
use Rattle.pdh_shape.specs.declared.place.Path.{Path}
use Rattle.pdh_watch.specs.declared.event.Event.{Event}
use Rattle.pdh_events.specs.laws.QuietLaws.{IsQuiet}
use Rattle.pdh_edge.specs.Leaves.{HaveLists}
use Rattle.pdh_rx.specs.declared.counts.NodeCounts.{NodeCounts}
use Rattle.pdh_edge.specs.Ports.{Outputs, Puts, PutsPart, IsPrefix}

pub record Meaning : Type 0 where
  -- its path, where it is a node
  pub path : Option Path
  -- the leaves that it puts bits to
  pub leaves : ℕ → Bool
  -- what each leaf has got, by these received bits
  pub got : List Bool → ℕ → List Bool
  -- the events that one more bit brings, after these received bits
  pub notes : List Bool → Bool → List Event
  -- how many frames of its own were delivered, by these received bits; a leaf has none
  pub delivered : List Bool → ℕ
  -- what it and the nodes below it counted, by these received bits; a leaf counts nothing
  pub counted : List Bool → List NodeCounts

-- more received bits only add, and only leaves get bits
pub record IsSound (m : Meaning) : Type 0 where
  pub grows : (line more : List Bool) (k : ℕ) → IsPrefix (m.got line k) (m.got (line ++ more) k)
  pub elsewhere : (line : List Bool) (k : ℕ) → m.leaves k ≡ false → m.got line k ≡ []

-- each leaf has a list
abbrev pub HoldsAll : (ℕ → Bool) → Outputs → Type 0
HoldsAll leaves outputs = HaveLists leaves outputs.holds

-- each leaf had got `was` and now has got `is`, and what came to it was put to its list
pub record Gains (was is : ℕ → List Bool) (old new : Outputs) : Type 0 where
  pub more : ℕ → List Bool
  pub gained : (k : ℕ) → is k ≡ was k ++ more k
  pub puts : Puts more old new

-- the same where a call failed: a prefix of what came was put
pub record GainsPart (was is : ℕ → List Bool) (old new : Outputs) : Type 0 where
  pub more : ℕ → List Bool
  pub gained : (k : ℕ) → is k ≡ was k ++ more k
  pub puts : PutsPart more old new

-- a receiver with this meaning took these bits: what it stands for now, by what it stood for, and what its leaves gained
pub record TakesBits (m : Meaning) (bits : List Bool) (was is : List Bool → Type 0) (old new : Outputs) : Type 0 where
  pub stands : (line : List Bool) → was line → is (line ++ bits)
  pub gains : (line : List Bool) → was line → Gains (m.got line) (m.got (line ++ bits)) old new

-- the same where a call failed
pub record TakesPart (m : Meaning) (bits : List Bool) (was : List Bool → Type 0) (old new : Outputs) : Type 0 where
  pub gains : (line : List Bool) → was line → GainsPart (m.got line) (m.got (line ++ bits)) old new

-- Whatever bits a receiver with this meaning isn't given, it is as one that took them: it stands for the longer line too, they
-- bring no event, and what its leaves gain by them is told of no list.
pub record IsDeaf (m : Meaning) (stands : List Bool → Type 0) (outputs : Outputs) : Type 0 where
  pub taken : (bits : List Bool) → TakesBits m bits stands stands outputs outputs
  pub quiet : (line bits : List Bool) → stands line → IsQuiet m.notes line bits

-- a receiver with this meaning took these bits, by none of which anything is noted, and by which leaves gained nothing
pub record TakesQuietly (m : Meaning) (bits : List Bool) (was is : List Bool → Type 0) : Type 0 where
  pub stands : (line : List Bool) → was line → is (line ++ bits)
  pub same : (line : List Bool) → was line → (k : ℕ) → m.got (line ++ bits) k ≡ m.got line k
  pub quiet : (line : List Bool) → was line → IsQuiet m.notes line bits
