-- What the service bits of the frames of a chain's top say. Those of all multiplexers below it are idle.
use Rattle.std.specs.Prelude.{◌≡◌, ℕ, Option, Some, None, Bool}
use Rattle.pdh_shape.specs.declared.role.Service.{Service}
use Rattle.pdh_shape.specs.Frame.{idle}
use Rattle.pdh_cbit.specs.Feac.{feac_bit}
use Rattle.pdh_cbit.specs.Channel.{Sending, HasSent}

-- all that is idle says, but this bit of the far end alarm and control channel
abbrev pub idle_with : Bool → Service
idle_with feac = record { alarm = idle.alarm; feac = feac; febe = idle.febe; link = idle.link }

-- what frame n says: where a code is sent over the far end alarm and control channel, its bit n, and else that it is idle
abbrev pub says_of : Option ℕ → ℕ → Service
says_of None n = idle
says_of (Some code) n = idle_with (feac_bit code n)

-- a sender of this code, if there is one, that has sent so many bits
abbrev pub HasSaid : Option Sending → Option ℕ → ℕ → Type 0
HasSaid None None n = Unit {0}
HasSaid (Some sender) (Some code) n = (sender.code ≡ code) × HasSent sender n
HasSaid _ _ n = ⊥
