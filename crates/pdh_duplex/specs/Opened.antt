-- A way between the ends, before a watch sees its events.
use Rattle.std.specs.Prelude.{◌≡◌, List, []}
use Rattle.pdh_line.specs.Paths.{top}
use Rattle.pdh_nesting.specs.Chains.{top_len}
use Rattle.pdh_clock.specs.Contents.{Contents}
use Rattle.pdh_tx.specs.declared.tx.Tx as tx
use Rattle.pdh_rx.specs.declared.rx.Rx as rx
use Rattle.pdh_script.specs.Scripts.{Row}
use Rattle.pdh_chain.specs.Chains.{shapes_of}
use Rattle.pdh_chain.specs.Trees.{receiver_of}
use Rattle.pdh_duplex.specs.Session.{Setting}
use Rattle.pdh_duplex.specs.Lines.{HasRoom}
use Rattle.pdh_duplex.specs.Sending.{HasSent}
use Rattle.pdh_duplex.specs.declared.unwatched.Unwatched.{Unwatched}

-- nothing was sent on it, nor received
pub record IsUnwatched {T R : Type 0} (sender : tx.Ghosts T) (receiver : rx.Ghosts R) (z : Setting) (clock : Contents) (rows : List Row) (way : Unwatched T R) : Type 0 where
  pub sent : HasSent sender z clock 0 [] way.outgoing
  pub bender_is : way.line.bender ≡ record { rows = rows; place = 0 }
  pub room : HasRoom (top_len (shapes_of z.chain)) rows way.line.came
  pub means : receiver.meaning way.receiver ≡ receiver_of (shapes_of z.chain) top 0
  pub stands : receiver.stands way.receiver []
