-- What an end has received, in memory.
use Rattle.std.specs.Prelude.{◌≡◌, Bool, List}
use Rattle.pdh_shape.specs.Frame.{FrameShape}
use Rattle.pdh_line.specs.Paths.{top}
use Rattle.pdh_watch.specs.declared.kind.TheConstants.Kind.{ALARM_ON, FEBE}
use Rattle.pdh_watch.specs.declared.watch.Watch as watch
use Rattle.pdh_events.specs.Chain.{bit_events, chain_events}
use Rattle.pdh_rx.specs.declared.rx.Rx as rx
use Rattle.pdh_chain.specs.Demuxes.{top_delivered}
use Rattle.pdh_duplex.specs.Top.{counted, count_of, is_aligned}
use Rattle.pdh_duplex.specs.Hearing.{Heard}
use Rattle.pdh_duplex.specs.declared.incoming.Incoming.{Incoming}

-- A receiver of a chain with these frames has got these bits; its watch, which was as `first`, saw their events, and the tally is
-- that of the top's.
pub record HasHeard {R W : Type 0} (receiver : rx.Ghosts R) (watches : watch.Ghosts W) (shapes : List FrameShape) (heard : Heard) (first : W) (i : Incoming R W) : Type 0 where
  pub notes_are : (line : List Bool) (bit : Bool) → (receiver.meaning i.receiver).notes line bit ≡ bit_events shapes top line bit
  pub delivered_is : (line : List Bool) → (receiver.meaning i.receiver).delivered line ≡ counted (top_delivered shapes line)
  pub stands : receiver.stands i.receiver heard.got
  pub saw : watches.saw first (chain_events shapes heard.got) i.watch.watch
  pub aligned_is : i.watch.tally.aligned ≡ is_aligned shapes heard.got
  pub in_error_is : i.watch.tally.in_error ≡ heard.in_error
  pub alarms_are : i.watch.tally.alarms ≡ count_of ALARM_ON (chain_events shapes heard.got)
  pub febe_are : i.watch.tally.febe ≡ count_of FEBE (chain_events shapes heard.got)
  pub errors_are : i.errors ≡ heard.errors
