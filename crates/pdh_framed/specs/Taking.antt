-- Bits that a machine takes of a line: what it stands for by them, and what it puts of what they give.
use Rattle.std.specs.Prelude.{◌≡◌, Bool, List, ◌++◌}
use Rattle.pdh_edge.specs.Ports.{Outputs, Puts, PutsPart, for_leaf}

-- what a line gives has grown, and what came was put to leaf 0
pub record Gains (far : List Bool → List Bool) (line now : List Bool) (old new : Outputs) : Type 0 where
  pub more : List Bool
  pub gained : far now ≡ far line ++ more
  pub puts : Puts (for_leaf 0 more) old new

-- the same where a call failed: a prefix of what came was put
pub record GainsPart (far : List Bool → List Bool) (line now : List Bool) (old new : Outputs) : Type 0 where
  pub more : List Bool
  pub gained : far now ≡ far line ++ more
  pub puts : PutsPart (for_leaf 0 more) old new

-- a machine that gives this of a line has taken these bits: what it stands for now, by what it stood for, and what it put
pub record Takes (far : List Bool → List Bool) (was is : List Bool → Type 0) (bits : List Bool) (old new : Outputs) : Type 0 where
  pub stands : (line : List Bool) → was line → is (line ++ bits)
  pub gains : (line : List Bool) → was line → Gains far line (line ++ bits) old new

-- the same where a call failed
pub record TakesPart (far : List Bool → List Bool) (was : List Bool → Type 0) (bits : List Bool) (old new : Outputs) : Type 0 where
  pub gains : (line : List Bool) → was line → GainsPart far line (line ++ bits) old new

-- these bits were taken, and gave nothing
pub record TakesQuietly (far : List Bool → List Bool) (was is : List Bool → Type 0) (bits : List Bool) : Type 0 where
  pub stands : (line : List Bool) → was line → is (line ++ bits)
  pub same : (line : List Bool) → was line → far (line ++ bits) ≡ far line
