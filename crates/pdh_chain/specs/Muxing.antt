-- Sending the whole frames of a multiplexer's line.
use Rattle.std.specs.Prelude.{◌≡◌, ℕ, suc, ◌+◌, ◌*◌, ◌<◌, ◌≤◌, Bool, true, false, ◌==◌, if◌then◌else◌, List, [], length, Some}
use Rattle.pdh_edge.specs.Files.{Rose}
use Rattle.pdh_edge.specs.Ports.{Inputs, Outputs, Takes, Puts, PutsPart}
use Rattle.pdh_shape.specs.declared.role.Service.{Service}
use Rattle.pdh_line.specs.Sending.{front}
use Rattle.pdh_line.specs.Sending.Mode.{Slipping}
use Rattle.pdh_tx.specs.declared.tx.TxStop.{TxStop}
use Rattle.pdh_tx.specs.declared.tx.TxStop.TheVariants.{LogFailed}
use Rattle.pdh_tx.specs.Meaning.{Plan, Supply, Meaning, Fits, Met, IsUsedUp, Agrees}
use Rattle.pdh_tx.specs.Held.{IsPart}
use Rattle.pdh_tx.specs.Making.{Gives, IsFree}
use Rattle.pdh_chain.specs.declared.sending.SendStop.{SendStop}
use Rattle.pdh_chain.specs.declared.sending.SendStop.TheVariants.{Sender, TakeFailed, WriteFailed}

-- ---- what is put

-- bits for output 0, which is the line, and none for the others
abbrev pub as_line : List Bool → ℕ → List Bool
as_line bits k = (if k == 0 then bits else [])

-- ---- what is supplied

-- A supply that the sender stood for after so many bits: it has this schedule, its frames say this, and its lists have these
-- bits next.
pub record Stood (m : Meaning) (says : ℕ → Service) (stands_for : Supply → ℕ → Type 0) (plan : Plan) (from : ℕ) (given : ℕ → List Bool) (supply : Supply) : Type 0 where
  -- it has this schedule
  pub plan_is : supply.plan ≡ plan
  -- its frames say this
  pub said : (n : ℕ) → supply.says n ≡ says n
  -- the sender stood for it
  pub stands : stands_for supply from
  -- the bits of its lists from there on
  pub agrees : Agrees m.leaves supply.lists (m.given plan from) given

-- a frame that the line begins has so many bits
abbrev pub HasFrames : Meaning → ℕ → Type 0
HasFrames m len = (y n : ℕ) → m.begins y ≡ Some n → y ≡ n * len

-- each frame that a bit between two places begins says this
abbrev pub SayInFrames : Meaning → (ℕ → Service) → Service → ℕ → ℕ → Type 0
SayInFrames m says now from to = (y n : ℕ) → from ≤ y → y < to → m.begins y ≡ Some n → says n ≡ now

-- ---- a stop of the sender

-- The sender stopped after so many bits, the leaves having given these since a place.
pub record StopsAt (m : Meaning) (plan : Plan) (from made : ℕ) (given : ℕ → List Bool) (stop : TxStop) (before after : Inputs) (faults now : ℕ) : Type 0 where
  -- they were taken
  pub takes : Takes given before after
  -- none of other leaves
  pub others : (k : ℕ) → m.leaves k ≡ false → given k ≡ []
  -- no fewer than the bits that were made take
  pub no_fewer : (k : ℕ) → m.leaves k ≡ true → m.given plan made k ≤ m.given plan from k + length (given k)
  -- no more than the next bit takes too
  pub no_more : (k : ℕ) → m.leaves k ≡ true → m.given plan from k + length (given k) ≤ m.given plan (suc made) k
  -- nothing stood in the way before
  pub free : IsFree m plan from made before
  -- where a leaf ended, its list is used up
  pub used_up : IsUsedUp stop after
  -- a log fails only where stores slip
  pub slipping : stop ≡ LogFailed → plan.mode ≡ Slipping
  -- Failed only where the count of faults rose, else what stands in the way of the next bit
  pub met : Met (Fits m plan from before) (λ size. m.obstacle plan size made) stop faults now

-- ---- the bits of a frame

-- Bits of the line were made, between two places, whose frames say `says`. `placed` tells how many bits the new state has made,
-- and `old` and `new` which supplies the states stand for.
pub record MakesBits (m : Meaning) (says : ℕ → Service) (placed : ℕ → Type 0) (old new : Supply → ℕ → Type 0) (plan : Plan) (from to : ℕ) (bits : List Bool) (before after : Inputs) : Type 0 where
  -- the bits that the leaves gave
  pub given : ℕ → List Bool
  pub gives : Gives m plan from to given before after
  -- nothing stood in their way
  pub free : IsFree m plan from to before
  -- all of them
  pub count : from + length bits ≡ to
  -- the sender has made as many
  pub place : placed to
  -- they are the line's for every supply that the old state stood for, and the new state stands for it
  pub onward : (supply : Supply) → Stood m says old plan from given supply → IsPart (m.line supply) bits from × new supply to

-- making the bits between two places stopped on the way
pub record StopsMaking (m : Meaning) (plan : Plan) (from to : ℕ) (stop : TxStop) (before after : Inputs) (faults now : ℕ) : Type 0 where
  -- how many bits are made
  pub made : ℕ
  pub begun : from ≤ made
  pub within : made < to
  -- the bits that the leaves gave
  pub given : ℕ → List Bool
  pub at : StopsAt m plan from made given stop before after faults now

-- ---- whole frames

-- So many bits of the line were sent, from its first on. `says`, `placed`, `old` and `new` are as above.
pub record Sends (m : Meaning) (says : ℕ → Service) (placed : ℕ → Type 0) (old new : Supply → ℕ → Type 0) (plan : Plan) (to : ℕ) (inputs inputs_now : Inputs) (outputs outputs_now : Outputs) : Type 0 where
  -- the bits that the leaves gave
  pub given : ℕ → List Bool
  pub gives : Gives m plan 0 to given inputs inputs_now
  -- nothing stood in their way
  pub free : IsFree m plan 0 to inputs
  -- the sender has made as many
  pub place : placed to
  -- for every supply that the sender stood for, the front of its line was put
  pub puts : (supply : Supply) → Stood m says old plan 0 given supply → Puts (as_line (front (m.line supply) to)) outputs outputs_now
  -- and the sender stands for it
  pub onward : (supply : Supply) → Stood m says old plan 0 given supply → new supply to

-- the sender stopped in a frame, and the whole frames before it were sent
pub record StopsSending (m : Meaning) (says : ℕ → Service) (old : Supply → ℕ → Type 0) (plan : Plan) (len frames : ℕ) (stop : TxStop) (inputs inputs_now : Inputs) (outputs outputs_now : Outputs) (faults now : ℕ) : Type 0 where
  -- how many frames were sent
  pub whole : ℕ
  pub fewer : whole < frames
  -- how many bits were made
  pub made : ℕ
  pub begun : whole * len ≤ made
  pub within : made < suc whole * len
  -- the bits that the leaves gave
  pub given : ℕ → List Bool
  pub at : StopsAt m plan 0 made given stop inputs inputs_now faults now
  -- for every supply that the sender stood for, these frames of its line were put
  pub puts : (supply : Supply) → Stood m says old plan 0 given supply → Puts (as_line (front (m.line supply) (whole * len))) outputs outputs_now

-- a frame was made, and a bit of it couldn't be put
pub record FailsToSend (m : Meaning) (says : ℕ → Service) (old : Supply → ℕ → Type 0) (plan : Plan) (len frames : ℕ) (inputs inputs_now : Inputs) (outputs outputs_now : Outputs) (faults now : ℕ) : Type 0 where
  -- how many frames were sent before
  pub whole : ℕ
  pub fewer : whole < frames
  -- the bits that the leaves gave
  pub given : ℕ → List Bool
  pub gives : Gives m plan 0 (suc whole * len) given inputs inputs_now
  -- nothing stood in the way of the frame
  pub free : IsFree m plan 0 (suc whole * len) inputs
  -- the count of faults rose
  pub rose : Rose faults now
  -- for every supply that the sender stood for, a prefix of its line was put, at most to the end of this frame
  pub puts : (supply : Supply) → Stood m says old plan 0 given supply → PutsPart (as_line (front (m.line supply) (suc whole * len))) outputs outputs_now

-- a call that takes bits failed in a frame, and the whole frames before it were sent
pub record FailsToTake (m : Meaning) (says : ℕ → Service) (old : Supply → ℕ → Type 0) (plan : Plan) (len frames : ℕ) (inputs inputs_now : Inputs) (outputs outputs_now : Outputs) (faults now : ℕ) : Type 0 where
  -- how many frames were sent
  pub whole : ℕ
  pub fewer : whole < frames
  -- the bits that the leaves gave
  pub given : ℕ → List Bool
  pub takes : Takes given inputs inputs_now
  -- none of other leaves
  pub others : (k : ℕ) → m.leaves k ≡ false → given k ≡ []
  -- no fewer than these frames take, and no more than one frame more
  pub no_fewer : (k : ℕ) → m.leaves k ≡ true → m.given plan (whole * len) k ≤ m.given plan 0 k + length (given k)
  pub no_more : (k : ℕ) → m.leaves k ≡ true → m.given plan 0 k + length (given k) ≤ m.given plan (suc whole * len) k
  -- nothing stood in the way of these frames
  pub free : IsFree m plan 0 (whole * len) inputs
  -- the count of faults rose
  pub rose : Rose faults now
  -- for every supply that the sender stood for, these frames of its line were put
  pub puts : (supply : Supply) → Stood m says old plan 0 given supply → Puts (as_line (front (m.line supply) (whole * len))) outputs outputs_now

-- ---- why sending stopped

-- why frames weren't all sent: the sender stopped, a call for the bits of a frame in whose way nothing stands failed, or one that puts
-- bits did
abbrev pub IsSendStop : Meaning → (ℕ → Service) → (Supply → ℕ → Type 0) → Plan → ℕ → ℕ → Inputs → Inputs → Outputs → Outputs → ℕ → ℕ → ℕ → ℕ → SendStop → Type 0
IsSendStop m says old plan len frames inputs inputs_now outputs outputs_now reads reads_now writes writes_now (Sender stop) = StopsSending m says old plan len frames stop inputs inputs_now outputs outputs_now reads reads_now
IsSendStop m says old plan len frames inputs inputs_now outputs outputs_now reads reads_now writes writes_now TakeFailed = FailsToTake m says old plan len frames inputs inputs_now outputs outputs_now reads reads_now
IsSendStop m says old plan len frames inputs inputs_now outputs outputs_now reads reads_now writes writes_now WriteFailed = FailsToSend m says old plan len frames inputs inputs_now outputs outputs_now writes writes_now
