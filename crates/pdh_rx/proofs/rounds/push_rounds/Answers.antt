use Rattle.std.proofs.Common.{◌≡◌, ◌<◌, ℕ, List, ap, arith}
use Rattle.pdh_events.specs.Acts.{Act, round_acts, rounds_acts}
use Rattle.pdh_events.specs.laws.ActsLaws.{acts_push, acts_left, acts_begin}
use Rattle.pdh_rx.proofs.Keeping.{gives_ready}
use Rattle.pdh_rx.proofs.Acting.{acted_nothing, acted_same, acted_more, acted_up_to, up_to_ok, up_to_failed}
use Rattle.pdh_rx.proofs.rounds.push_rounds.Goals as goal

pub loop-round-init : goal.loop-round-init
loop-round-init g c = acted_nothing _ _ _ (g.met.D.Drain.drained_same _) (g.met.W.Watch.saw_nothing _)

pub push_round-requires : goal.push_round-requires
push_round-requires g c = record { ready = gives_ready g.D.Drain.outputs g.met.D.Drain.drained_holds c.requires.ready c.loop-round.invariant.kept c.loop-round.invariant.played.gives }

pub loop-round-preserved : goal.loop-round-preserved
loop-round-preserved g c =
    let f : ℕ → List Act = λ round. round_acts g.S.Shape.shape in
    acted_more g.met.W.Watch.saw_join g.met.D.Drain.drained_join (acts_push f c.loop-round._round) c.loop-round.invariant (acted_up_to g.met.W.Watch.saw_join g.met.D.Drain.drained_join g.met.C.Rx.sound _ c.in_ok-push_round.ensures)

pub returns-in_err-push_round : goal.returns-in_err-push_round
returns-in_err-push_round g c =
    let f : ℕ → List Act = λ round. round_acts g.S.Shape.shape in
    let t = c.loop-round._round in
    let inside : t < g.S.Shape.LOW = omega arith in
    up_to_failed g.met.W.Watch.saw_join g.met.D.Drain.drained_join _ (acts_left f t g.S.Shape.LOW) c.from_residual.result c.from_residual.ensures.1 (acts_begin f t g.S.Shape.LOW inside) c.loop-round.invariant c.in_err-push_round.ensures

pub returns : goal.returns
returns g c =
    let all : g.S.Shape.LOW ≡ c.loop-round._round = omega arith in
    up_to_ok (acted_same (ap (rounds_acts g.S.Shape.shape) all) c.loop-round.invariant)
