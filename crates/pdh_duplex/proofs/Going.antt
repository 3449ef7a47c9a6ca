-- A way that goes one frame more.
use Rattle.std.proofs.Common.{◌≡◌, ℕ, suc, ◌+◌, ◌<◌, ◌==◌, Bool, List, [], ◌∷◌, ◌++◌, ap, ◌∙◌, subst, arith}
use Rattle.pdh_shape.specs.declared.role.Service.{Service}
use Rattle.pdh_clock.specs.Contents.{Contents}
use Rattle.pdh_watch.specs.declared.watch.Watch as watch
use Rattle.pdh_tx.specs.declared.tx.Tx as tx
use Rattle.pdh_rx.specs.declared.rx.Rx as rx
use Rattle.pdh_script.specs.Scripts.{Row}
use Rattle.pdh_duplex.specs.Session.{Setting, ends_after}
use Rattle.pdh_duplex.specs.Hearing.{Heard, nothing_heard}
use Rattle.pdh_duplex.specs.Sending.{CanSend}
use Rattle.pdh_duplex.specs.Ways.{IsNext, IsWay, hears_frame}
use Rattle.pdh_duplex.specs.Links.{IsLink, IsReady}
use Rattle.pdh_duplex.specs.declared.link.Link.{Link}
use Rattle.pdh_duplex.specs.declared.way.Way.{Way}

-- its sender can make one more
pub can_send : {T R W : Type 0} (sender : tx.Ghosts T) (receiver : rx.Ghosts R) (watches : watch.Ghosts W) (z : Setting) (clock : Contents) (rows : List Row) (n : ℕ) (says : List Service) (heard : Heard) (first : W) (len : ℕ) (last : Bool) (way : Way T R W)
    → IsNext z clock n len last → IsWay sender receiver watches z clock rows n says heard first way → CanSend sender z clock n says len way.outgoing
can_send sender receiver watches z clock rows n says heard first len last way next is = record { clock_is = next.clock_is; len_is = next.len_is; fewer = next.fewer; sent = is.sent }

-- a tick of a session that is ready
pub next_of : (z : Setting) (clock : Contents) (n len frames : ℕ) (last : Bool) → IsReady z clock len frames → n < frames → last ≡ (n + 1 == frames) → IsNext z clock n len last
next_of z clock n len frames last ready less is = record {
  clock_is = ready.clock_is;
  few = ready.few;
  len_is = ready.len_is;
  fewer = omega (arith, less, ready.frames_are);
  last_is = is ∙ ap (λ m. m == frames) (let e : n + 1 ≡ suc n = omega arith in e) ∙ ap (λ f. suc n == f) ready.frames_are;
}

-- what was said, by another name of the same
pub said_as : {T R W : Type 0} (sender : tx.Ghosts T) (receiver : rx.Ghosts R) (watches : watch.Ghosts W) (z : Setting) (clock : Contents) (rows : List Row) (n : ℕ) (says : List Service) (say say' : Service) (heard : Heard) (first : W) (way : Way T R W) → say ≡ say'
    → IsWay sender receiver watches z clock rows (suc n) (says ++ say ∷ []) (hears_frame z rows n (says ++ say ∷ []) heard) first way
    → IsWay sender receiver watches z clock rows (suc n) (says ++ say' ∷ []) (hears_frame z rows n (says ++ say' ∷ []) heard) first way
said_as sender receiver watches z clock rows n says say say' heard first way same is =
    subst (λ say. IsWay sender receiver watches z clock rows (suc n) (says ++ say ∷ []) (hears_frame z rows n (says ++ say ∷ []) heard) first way) same is

-- a link after so many ticks, by another name of their number
pub link_at : {T R W E : Type 0} (sender : tx.Ghosts T) (receiver : rx.Ghosts R) (wests : watch.Ghosts W) (easts : watch.Ghosts E) (z : Setting) (clock : Contents) (m n : ℕ) (west : W) (east : E) (link : Link T R W E) → m ≡ n
    → IsLink sender receiver wests easts z clock m west east link → IsLink sender receiver wests easts z clock n west east link
link_at sender receiver wests easts z clock m n west east link same is = subst (λ n. IsLink sender receiver wests easts z clock n west east link) same is

-- a link before the first tick
pub first_link : {T R W E : Type 0} (sender : tx.Ghosts T) (receiver : rx.Ghosts R) (wests : watch.Ghosts W) (easts : watch.Ghosts E) (z : Setting) (clock : Contents) (west : W) (east : E) (link : Link T R W E)
    → IsWay sender receiver easts z clock z.to_east 0 [] nothing_heard east link.to_east → IsWay sender receiver wests z clock z.to_west 0 [] nothing_heard west link.to_west → IsLink sender receiver wests easts z clock 0 west east link
unfolding ends_after
first_link sender receiver wests easts z clock west east link east_is west_is = record { east_is = east_is; west_is = west_is }
