-- A way from one end to the other in memory.
use Rattle.std.specs.Prelude.{◌≡◌, ℕ, suc, ◌*◌, ◌<◌, ◌≤◌, ◌==◌, Bool, List, [], ◌∷◌, ◌++◌}
use Rattle.pdh_shape.specs.declared.role.Service.{Service}
use Rattle.pdh_shape.specs.OwnNumbers.{most_frames}
use Rattle.pdh_nesting.specs.Chains.{top_len}
use Rattle.pdh_clock.specs.Contents.{Contents}
use Rattle.pdh_watch.specs.declared.watch.Watch as watch
use Rattle.pdh_tx.specs.declared.tx.Tx as tx
use Rattle.pdh_rx.specs.declared.rx.Rx as rx
use Rattle.pdh_script.specs.Scripts.{Row}
use Rattle.pdh_chain.specs.Chains.{shapes_of}
use Rattle.pdh_patterns.specs.Leaves.{IsClockOf}
use Rattle.pdh_duplex.specs.Session.{Setting, disturbed_frame, frame_of}
use Rattle.pdh_duplex.specs.Hearing.{Heard, hears}
use Rattle.pdh_duplex.specs.Heard.{HasHeard}
use Rattle.pdh_duplex.specs.Lines.{HasRoom}
use Rattle.pdh_duplex.specs.Sending.{HasSent}
use Rattle.pdh_duplex.specs.declared.way.Way.{Way}

-- one end has sent so many frames, which said this; these rows disturb the line, and the other end has heard this
pub record IsWay {T R W : Type 0} (sender : tx.Ghosts T) (receiver : rx.Ghosts R) (watches : watch.Ghosts W) (z : Setting) (clock : Contents) (rows : List Row) (frames : ℕ) (says : List Service) (heard : Heard) (first : W) (way : Way T R W) : Type 0 where
  pub sent : HasSent sender z clock frames says way.outgoing
  pub bender_is : way.line.bender ≡ record { rows = rows; place = frames * top_len (shapes_of z.chain) }
  pub room : HasRoom (top_len (shapes_of z.chain)) rows way.line.came
  pub has_heard : HasHeard receiver watches (shapes_of z.chain) heard first way.incoming
  pub few_errors : way.incoming.errors ≤ frames

-- frame n of so many bits can go, and whether it is the last
pub record IsNext (z : Setting) (clock : Contents) (n len : ℕ) (last : Bool) : Type 0 where
  pub clock_is : IsClockOf z.chain z.frames clock
  pub few : z.frames ≤ most_frames
  pub len_is : len ≡ top_len (shapes_of z.chain)
  pub fewer : n < z.frames
  pub last_is : last ≡ (suc n == z.frames)

-- what the other end has heard then, with frame n of the line whose frames say this
abbrev pub hears_frame : Setting → List Row → ℕ → List Service → Heard → Heard
hears_frame z rows n says heard = hears (shapes_of z.chain) (disturbed_frame z rows n (frame_of z says n)) heard

-- whatever a way was before, it is that with one frame more, which says this
abbrev pub GoesOn : {T R W : Type 0} → tx.Ghosts T → rx.Ghosts R → watch.Ghosts W → Contents → ℕ → Bool → Service → Way T R W → Way T R W → Type 0
GoesOn {T} {R} {W} sender receiver watches clock len last say old new =
    (z : Setting) (rows : List Row) (n : ℕ) (says : List Service) (heard : Heard) (first : W) → IsNext z clock n len last → IsWay sender receiver watches z clock rows n says heard first old
    → IsWay sender receiver watches z clock rows (suc n) (says ++ say ∷ []) (hears_frame z rows n (says ++ say ∷ []) heard) first new
