-- What `duplex` takes memory for, and what it answers.
use Rattle.std.specs.Prelude.{◌≡◌, ℕ, ◌≤◌, IfOk, OnErr}
use Rattle.pdh_watch.specs.declared.watch.Watch as watch
use Rattle.pdh_tx.specs.declared.tx.Tx as tx
use Rattle.pdh_rx.specs.declared.rx.Rx as rx
use Rattle.pdh_chain.specs.declared.chain.Chain.{Chain}
use Rattle.pdh_patterns.specs.Leaves.{IsClockOf}
use Rattle.pdh_duplex.specs.Session.{Setting, ends_of, events_of, session_of, setting_with}
use Rattle.pdh_duplex.specs.Opened.{IsUnwatched}
use Rattle.pdh_duplex.specs.declared.linking.Opened.{Opened}
use Rattle.pdh_duplex.specs.declared.linking.Terminals.{Terminals}
use Rattle.pdh_duplex.specs.declared.session.Duplex.{Duplex}

-- the setting of these terminals of a chain
abbrev pub setting_of : {W E : Type 0} → Chain → Terminals W E → Setting
setting_of chain terminals = setting_with chain terminals.seed terminals.frames terminals.to_east.now terminals.to_west.now

-- the schedule, both ways, and room for a frame of so many bits
pub record IsOpened {T R : Type 0} (sender : tx.Ghosts T) (receiver : rx.Ghosts R) (z : Setting) (len : ℕ) (opened : Opened T R) : Type 0 where
  pub clock_is : IsClockOf z.chain z.frames opened.clock
  pub room : len ≤ opened.frame.capacity
  pub east_is : IsUnwatched sender receiver z opened.clock z.to_east opened.to_east
  pub west_is : IsUnwatched sender receiver z opened.clock z.to_west opened.to_west

-- the counts of the session, and both watches, which saw the events of their ends; or memory was wanting, and they are as they were
pub record Answers {W E : Type 0} (wests : watch.Ghosts W) (easts : watch.Ghosts E) (z : Setting) (west : W) (east : E) (done : Duplex W E) : Type 0 where
  pub session_is : IfOk done.session (λ session. session ≡ session_of z)
  pub west_saw : IfOk done.session (λ session. wests.saw west (events_of z (ends_of z).west) done.west)
  pub east_saw : IfOk done.session (λ session. easts.saw east (events_of z (ends_of z).east) done.east)
  pub unseen : OnErr done.session ((done.west ≡ west) × (done.east ≡ east))
