use Rattle.std.proofs.Common.{◌≡◌, ◌<◌, ℕ, ap, arith, true, List, [], ◌∷◌}
use Rattle.std.specs.Prelude.{flat_map}
use Rattle.std.specs.List.{range_with_len}
use Rattle.pdh_events.specs.Acts.{Act}
use Rattle.pdh_events.specs.Acts.Act.{Give}
use Rattle.pdh_events.specs.laws.ActsLaws.{acts_push, acts_left, acts_begin}
use Rattle.pdh_rx.proofs.Keeping.{gives_ready}
use Rattle.pdh_rx.proofs.Acting.{acted_nothing, acted_same, acted_more, acted_one, up_to_ok, up_to_failed}
use Rattle.pdh_rx.proofs.rounds.push_round.Goals as goal

abbrev one : ℕ → List Act
one j = Give j true ∷ []

pub loop-trib-init : goal.loop-trib-init
loop-trib-init g c = acted_nothing _ _ _ (g.met.D.Drain.drained_same _) (g.met.W.Watch.saw_nothing _)

pub push-requires-clause-ready : goal.push-requires-clause-ready
push-requires-clause-ready g c = gives_ready g.D.Drain.outputs g.met.D.Drain.drained_holds c.requires.ready c.loop-trib.invariant.kept c.loop-trib.invariant.played.gives

pub loop-trib-preserved : goal.loop-trib-preserved
loop-trib-preserved g c = acted_more g.met.W.Watch.saw_join g.met.D.Drain.drained_join (acts_push one c.loop-trib.trib) c.loop-trib.invariant c.in_ok-push.ensures

pub returns-in_err-push : goal.returns-in_err-push
returns-in_err-push g c =
    let t = c.loop-trib.trib in
    let inside : t < g.S.Shape.shape.tribs = omega (arith, g.met.S.Shape.tribs_is) in
    up_to_failed g.met.W.Watch.saw_join g.met.D.Drain.drained_join _ (acts_left one t g.S.Shape.shape.tribs) c.from_residual.result c.from_residual.ensures.1 (acts_begin one t g.S.Shape.shape.tribs inside)
    c.loop-trib.invariant (acted_one _ (g.met.W.Watch.saw_nothing _) c.in_err-push.ensures)

pub returns : goal.returns
returns g c =
    let all : g.S.Shape.shape.tribs ≡ c.loop-trib.trib = omega (arith, g.met.S.Shape.tribs_is) in
    up_to_ok (acted_same (ap (λ n. flat_map one (range_with_len 0 n)) all) c.loop-trib.invariant)
