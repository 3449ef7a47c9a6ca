use Rattle.std.proofs.Common.{rules, ◌≡◌, ◌<◌, suc, map, refl, ◌∙◌, arith, Err}
use Rattle.pdh_line.specs.Sending.{came_before}
use Rattle.pdh_tx.specs.Meaning.{plan_in}
use Rattle.pdh_tx.specs.Tributary.{placed_in, held_in, meaning_in, share_in}
use Rattle.pdh_tx.specs.Node.{IsShare, came_to, arrival_at, arrival_slips}
use Rattle.pdh_tx.specs.Slipping.{arriving_to}
use Rattle.pdh_tx.proofs.Feeding.{still_fed}
use Rattle.pdh_tx.proofs.Lists.{transfer_one}
use Rattle.pdh_tx.proofs.Gaining.{if_err_from}
use Rattle.pdh_tx.proofs.Telling.{tells_err, tells_ok, all_none, loop_tells, loop_tells_front, loop_tells_all}
use Rattle.pdh_tx.proofs.Advancing.{advance_none, loop_step, loop_stop, loop_end}
use Rattle.pdh_tx.proofs.tributaries.Tributaries.take_arrivals.Goals as goal

pub loop-trib-init : goal.loop-trib-init
loop-trib-init g c = record {
  advance = advance_none (placed_in g.C.Tx) (held_in g.C.Tx) (meaning_in g.C.Tx) (plan_in c.args.clock.now g.G.SlipLog.takes) _ _ _ _ _ c.requires.placed;
  unfailed = refl;
  fed = g.met.F.Feed.fed_same _;
  same = refl;
  shares = refl;
  told = all_none g.G.SlipLog (record { nothing = g.met.G.SlipLog.logged_nothing; joins = g.met.G.SlipLog.logged_join; breaks = g.met.G.SlipLog.broken_join }) c.args.log.now;
}

pub returns-in_err-take_arrival-clause-err : goal.returns-in_err-take_arrival-clause-err
returns-in_err-take_arrival-clause-err g c =
    let plan = plan_in c.args.clock.now g.G.SlipLog.takes in
    let e : c.from_residual.result ≡ Err c.in_err-take_arrival.field-0.0 = search rules in
    let inside : c.loop-trib.trib < g.S.Shape.shape.tribs = (let h = c.loop-trib-test.true in let k = g.met.S.Shape.tribs_is in omega arith) in
    if_err_from c.from_residual.result _ c.in_err-take_arrival.field-0.0 e
    (loop_stop (placed_in g.C.Tx) (held_in g.C.Tx) (meaning_in g.C.Tx) (plan_in c.args.clock.now g.G.SlipLog.takes) (came_to g.S.Shape.shape c.args.path (plan_in c.args.clock.now g.G.SlipLog.takes) c.args.frame c.args.slot) (arriving_to g.S.Shape.shape c.args.path (plan_in c.args.clock.now g.G.SlipLog.takes) c.args.frame c.args.slot)
    (λ ms size. arrival_at g.S.Shape.shape c.args.path (plan_in c.args.clock.now g.G.SlipLog.takes) ms size c.args.frame c.args.slot) (map (meaning_in g.C.Tx) c.args.self.now.list.items) _ c.loop-trib.invariant.same _ _ c.loop-trib.trib _ _ c.loop-trib.invariant.advance
    (λ j. came_before g.S.Shape.shape (plan.counts c.args.path j) c.args.frame (suc c.args.slot)) g.S.Shape.shape.tribs _ _ _ _ _ inside c.loop-trib.invariant.unfailed c.in_err-take_arrival.ensures.err)

pub loop-trib-preserved : goal.loop-trib-preserved
loop-trib-preserved g c =
    let inv = c.loop-trib.invariant in
    let ok = c.in_ok-take_arrival.ensures in
    record {
      advance = loop_step (placed_in g.C.Tx) (held_in g.C.Tx) (meaning_in g.C.Tx) (plan_in c.args.clock.now g.G.SlipLog.takes) (came_to g.S.Shape.shape c.args.path (plan_in c.args.clock.now g.G.SlipLog.takes) c.args.frame c.args.slot) (arriving_to g.S.Shape.shape c.args.path (plan_in c.args.clock.now g.G.SlipLog.takes) c.args.frame c.args.slot)
          (λ ms size. arrival_at g.S.Shape.shape c.args.path (plan_in c.args.clock.now g.G.SlipLog.takes) ms size c.args.frame c.args.slot) (map (meaning_in g.C.Tx) c.args.self.now.list.items) _ c.loop-trib.invariant.same _ _ c.loop-trib.trib _ _ c.loop-trib.invariant.advance _ _ ok.ok;
      unfailed = ok.fed.unfailed ∙ inv.unfailed;
      fed = g.met.F.Feed.fed_join _ _ _ inv.fed ok.fed.fed;
      same = ok.same ∙ inv.same;
      shares = ok.shares ∙ inv.shares;
      told = loop_tells g.G.SlipLog (record { nothing = g.met.G.SlipLog.logged_nothing; joins = g.met.G.SlipLog.logged_join; breaks = g.met.G.SlipLog.broken_join }) (λ ms. arrival_slips g.S.Shape.shape c.args.path (plan_in c.args.clock.now g.G.SlipLog.takes) ms c.args.frame c.args.slot) (map (meaning_in g.C.Tx) c.args.self.now.list.items) _ inv.same c.loop-trib.trib _ _ inv.told _ ok.told.all;
    }

pub returns-in_err-take_arrival-clause-told : goal.returns-in_err-take_arrival-clause-told
returns-in_err-take_arrival-clause-told g c =
    let inv = c.loop-trib.invariant in
    let stop = c.in_err-take_arrival.field-0.0 in
    let e : c.from_residual.result ≡ Err stop = search rules in
    let inside : c.loop-trib.trib < g.S.Shape.shape.tribs = (let h = c.loop-trib-test.true in let k = g.met.S.Shape.tribs_is in omega arith) in
    tells_err c.from_residual.result stop e
    (loop_tells_front g.G.SlipLog (record { nothing = g.met.G.SlipLog.logged_nothing; joins = g.met.G.SlipLog.logged_join; breaks = g.met.G.SlipLog.broken_join }) (λ ms. arrival_slips g.S.Shape.shape c.args.path (plan_in c.args.clock.now g.G.SlipLog.takes) ms c.args.frame c.args.slot) (map (meaning_in g.C.Tx) c.args.self.now.list.items) _ inv.same c.loop-trib.trib _ _ inv.told g.S.Shape.shape.tribs stop _ inside c.in_err-take_arrival.ensures.told.front)

pub returns-clause-told : goal.returns-clause-told
returns-clause-told g c =
    let inv = c.loop-trib.invariant in
    let end : c.loop-trib.trib ≡ g.S.Shape.TRIBS = (let a = c.loop-trib-test.false in let b = c.loop-trib.auto in omega arith) in
    tells_ok tt
    (loop_tells_all g.G.SlipLog (record { nothing = g.met.G.SlipLog.logged_nothing; joins = g.met.G.SlipLog.logged_join; breaks = g.met.G.SlipLog.broken_join }) (λ ms. arrival_slips g.S.Shape.shape c.args.path (plan_in c.args.clock.now g.G.SlipLog.takes) ms c.args.frame c.args.slot) (map (meaning_in g.C.Tx) c.args.self.now.list.items) _ inv.same c.loop-trib.trib _ _ inv.told g.S.Shape.TRIBS g.S.Shape.shape.tribs end g.met.S.Shape.tribs_is)

pub returns-clause-ok : goal.returns-clause-ok
returns-clause-ok g c =
    let end : c.loop-trib.trib ≡ g.S.Shape.TRIBS = (let a = c.loop-trib-test.false in let b = c.loop-trib.auto in omega arith) in
    loop_end (placed_in g.C.Tx) (held_in g.C.Tx) (meaning_in g.C.Tx) (plan_in c.args.clock.now g.G.SlipLog.takes) (came_to g.S.Shape.shape c.args.path (plan_in c.args.clock.now g.G.SlipLog.takes) c.args.frame c.args.slot) (arriving_to g.S.Shape.shape c.args.path (plan_in c.args.clock.now g.G.SlipLog.takes) c.args.frame c.args.slot)
    (λ ms size. arrival_at g.S.Shape.shape c.args.path (plan_in c.args.clock.now g.G.SlipLog.takes) ms size c.args.frame c.args.slot) (map (meaning_in g.C.Tx) c.args.self.now.list.items) _ c.loop-trib.invariant.same _ _ c.loop-trib.trib _ _ c.loop-trib.invariant.advance
    g.S.Shape.TRIBS g.S.Shape.shape.tribs end g.met.S.Shape.tribs_is

pub take_arrival-requires-clause-decided : goal.take_arrival-requires-clause-decided
take_arrival-requires-clause-decided g c =
    transfer_one share_in (λ share j. IsShare (plan_in c.args.clock.now g.G.SlipLog.takes).mode g.S.Shape.shape j ((plan_in c.args.clock.now g.G.SlipLog.takes).counts c.args.path j) c.args.frame share) c.args.self.now.list.items c.loop-trib.self.list.items c.loop-trib.invariant.shares c.requires.decided

pub take_arrival-requires-clause-fed : goal.take_arrival-requires-clause-fed
take_arrival-requires-clause-fed g c =
    let inv = c.loop-trib.invariant in
    still_fed c.args.self.now c.loop-trib.self c.args.path c.args.clock.now (g.F.Feed.inputs c.args.feed.now) (g.F.Feed.inputs c.loop-trib.feed) inv.same (g.met.F.Feed.fed_holds c.args.feed.now c.loop-trib.feed inv.fed) c.requires.fed
