-- Many bits of a line at once.
use Rattle.std.specs.Prelude.{◌≡◌, ℕ, ◌+◌, ◌<◌, ◌≤◌, Bool, true, false, List, [], length, None}
use Rattle.pdh_edge.specs.Ports.{Inputs, Takes}
use Rattle.pdh_shape.specs.declared.role.Service.{Service}
use Rattle.pdh_tx.specs.Meaning.{Plan, Supply, Meaning, Fits, Agrees, Says}
use Rattle.pdh_tx.specs.Held.{IsPart}

-- a supply that the sender stood for after so many bits: the frames that begin before bit `to` say `now`, and its lists have
-- these bits next
pub record Stood (m : Meaning) (now : Service) (stands_for : Supply → ℕ → Type 0) (plan : Plan) (from to : ℕ) (given : ℕ → List Bool) (supply : Supply) : Type 0 where
  -- it has this schedule
  pub plan_is : supply.plan ≡ plan
  -- each frame that a bit between the two places begins says this
  pub said : (y : ℕ) → from ≤ y → y < to → Says m supply now y
  -- the sender stood for it
  pub stands : stands_for supply from
  -- the bits of its lists from there on
  pub agrees : Agrees m.leaves supply.lists (m.given plan from) given

-- the leaves gave these bits, which the line takes between two places
pub record Gives (m : Meaning) (plan : Plan) (from to : ℕ) (given : ℕ → List Bool) (before after : Inputs) : Type 0 where
  -- they were taken
  pub takes : Takes given before after
  -- none of other leaves
  pub others : (k : ℕ) → m.leaves k ≡ false → given k ≡ []
  -- as many as the line takes there
  pub exact : (k : ℕ) → m.leaves k ≡ true → m.given plan from k + length (given k) ≡ m.given plan to k

-- the bits between two places bring no slip
abbrev pub BringsNoSlip : Meaning → Plan → ℕ → ℕ → Type 0
BringsNoSlip m plan from to = (y : ℕ) → from ≤ y → y < to → m.slips plan y ≡ []

-- nothing stands in the way of the bits between two places, and they bring no slip
pub record IsClear (m : Meaning) (plan : Plan) (from to : ℕ) (inputs : Inputs) : Type 0 where
  -- how many bits the leaves' lists hold in all
  pub size : ℕ → ℕ
  pub fits : Fits m plan from inputs size
  pub clear : (y : ℕ) → from ≤ y → y < to → m.obstacle plan size y ≡ None
  pub no_slip : BringsNoSlip m plan from to

-- nothing stands in the way of them, whatever the lists hold behind the bits that they have
abbrev pub IsFree : Meaning → Plan → ℕ → ℕ → Inputs → Type 0
IsFree m plan from to inputs = (size : ℕ → ℕ) → Fits m plan from inputs size → (y : ℕ) → from ≤ y → y < to → m.obstacle plan size y ≡ None

-- and they bring no slip
pub record IsUneventful (m : Meaning) (plan : Plan) (from to : ℕ) (inputs : Inputs) : Type 0 where
  pub free : IsFree m plan from to inputs
  pub no_slip : BringsNoSlip m plan from to

-- Bits of the line were made, between two places. `now` is what the frames say that they begin; `placed` tells how many bits
-- the new state has made, and `old` and `new` which supplies the states stand for.
pub record MakesAll (m : Meaning) (now : Service) (placed : ℕ → Type 0) (old new : Supply → ℕ → Type 0) (plan : Plan) (from to : ℕ) (bits : List Bool) (before after : Inputs) : Type 0 where
  -- the bits that the leaves gave
  pub given : ℕ → List Bool
  pub gives : Gives m plan from to given before after
  -- all of them
  pub count : from + length bits ≡ to
  -- the sender has made as many
  pub place : placed to
  -- they are the line's for every supply that the old state stood for, and the new state stands for it
  pub onward : (supply : Supply) → Stood m now old plan from to given supply → IsPart (m.line supply) bits from × new supply to
