-- Both ways of a link in memory.
use Rattle.std.specs.Prelude.{◌≡◌, ℕ, ◌≤◌}
use Rattle.pdh_shape.specs.OwnNumbers.{most_frames}
use Rattle.pdh_nesting.specs.Chains.{top_len}
use Rattle.pdh_clock.specs.Contents.{Contents}
use Rattle.pdh_watch.specs.declared.watch.Watch as watch
use Rattle.pdh_tx.specs.declared.tx.Tx as tx
use Rattle.pdh_rx.specs.declared.rx.Rx as rx
use Rattle.pdh_chain.specs.Chains.{shapes_of}
use Rattle.pdh_patterns.specs.Leaves.{IsClockOf}
use Rattle.pdh_duplex.specs.Session.{Setting, ends_after}
use Rattle.pdh_duplex.specs.Heard.{HasHeard}
use Rattle.pdh_duplex.specs.Ways.{IsWay}
use Rattle.pdh_duplex.specs.declared.link.Link.{Link}

-- the link after n ticks; its watches were as `west` and `east`
pub record IsLink {T R W E : Type 0} (sender : tx.Ghosts T) (receiver : rx.Ghosts R) (wests : watch.Ghosts W) (easts : watch.Ghosts E) (z : Setting) (clock : Contents) (n : ℕ) (west : W) (east : E) (link : Link T R W E) : Type 0 where
  pub east_is : IsWay sender receiver easts z clock z.to_east n (ends_after z n).west.says (ends_after z n).east.heard east link.to_east
  pub west_is : IsWay sender receiver wests z clock z.to_west n (ends_after z n).east.says (ends_after z n).west.heard west link.to_west

-- what both ends have heard after n ticks
pub record HaveHeard {T R W E : Type 0} (receiver : rx.Ghosts R) (wests : watch.Ghosts W) (easts : watch.Ghosts E) (z : Setting) (n : ℕ) (west : W) (east : E) (link : Link T R W E) : Type 0 where
  pub east_is : HasHeard receiver easts (shapes_of z.chain) (ends_after z n).east.heard east link.to_east.incoming
  pub west_is : HasHeard receiver wests (shapes_of z.chain) (ends_after z n).west.heard west link.to_west.incoming

-- a session's schedule, and how many frames of how many bits each end sends
pub record IsReady (z : Setting) (clock : Contents) (len frames : ℕ) : Type 0 where
  pub clock_is : IsClockOf z.chain z.frames clock
  pub few : z.frames ≤ most_frames
  pub len_is : len ≡ top_len (shapes_of z.chain)
  pub frames_are : frames ≡ z.frames
