-- What an end has received after some ticks, and what it says by that.
use Rattle.std.specs.Prelude.{ℕ, ◌+◌, if◌then◌else◌, Bool, false, not, List, [], ◌++◌}
use Rattle.std.specs.List.{list_any}
use Rattle.pdh_shape.specs.declared.role.Service.{Service}
use Rattle.pdh_shape.specs.Frame.{FrameShape, idle}
use Rattle.pdh_line.specs.Paths.{top}
use Rattle.pdh_events.specs.Chain.{bit_events, bits_events}
use Rattle.pdh_duplex.specs.Top.{tells_error, is_aligned}

-- what an end has received after some ticks
pub record Heard : Type 0 where
  -- the bits
  pub got : List Bool
  -- in how many ticks the parity of a frame of the top was wrong
  pub errors : ℕ
  -- whether it was in the last one
  pub in_error : Bool

-- before the first tick
abbrev pub nothing_heard : Heard
nothing_heard = record { got = []; errors = 0; in_error = false }

-- what an end says in its next frame: an alarm where no alignment holds, and a far end block error where its last tick was in error
abbrev pub next_say : List FrameShape → Heard → Service
next_say shapes heard = record { alarm = not (is_aligned shapes heard.got); feac = idle.feac; febe = not heard.in_error; link = idle.link }

-- the bits of one more tick
abbrev pub hears : List FrameShape → List Bool → Heard → Heard
hears shapes more heard =
    let in_error = list_any tells_error (bits_events (bit_events shapes top) heard.got more) in
    record { got = heard.got ++ more; errors = heard.errors + (if in_error then 1 else 0); in_error = in_error }
