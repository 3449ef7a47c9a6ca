use Rattle.std.proofs.Common.{rules, ◌≡◌, ◌<◌, ℕ, refl, ◌∙◌, arith, Err}
use Rattle.pdh_shape.specs.OwnNumbers.{lead}
use Rattle.pdh_tx.specs.Meaning.{plan_in}
use Rattle.pdh_tx.specs.Held.{unslipped}
use Rattle.pdh_tx.specs.Tributary.{placed_in, held_in, meaning_in}
use Rattle.pdh_tx.specs.Tributaries.{meanings}
use Rattle.pdh_tx.specs.Node.{led_to, lead_at, lead_slips}
use Rattle.pdh_tx.proofs.Feeding.{still_fed}
use Rattle.pdh_tx.proofs.Gaining.{if_err_from}
use Rattle.pdh_tx.proofs.Telling.{tells_err, tells_ok, all_none, loop_tells, loop_tells_front, loop_tells_all}
use Rattle.pdh_tx.proofs.Advancing.{advance_none, loop_step, loop_stop, loop_end}
use Rattle.pdh_tx.proofs.tributaries.Tributaries.take_leads.Goals as goal

pub loop-trib-init : goal.loop-trib-init
loop-trib-init g c = record {
  advance = advance_none (placed_in g.C.Tx) (held_in g.C.Tx) (meaning_in g.C.Tx) (plan_in c.args.clock.now g.G.SlipLog.takes) _ _ _ _ _ c.requires.placed;
  unfailed = refl;
  fed = g.met.F.Feed.fed_same _;
  same = refl;
  told = all_none g.G.SlipLog (record { nothing = g.met.G.SlipLog.logged_nothing; joins = g.met.G.SlipLog.logged_join; breaks = g.met.G.SlipLog.broken_join }) c.args.log.now;
}

pub returns-in_err-take_lead-clause-err : goal.returns-in_err-take_lead-clause-err
returns-in_err-take_lead-clause-err g c =
    let e : c.from_residual.result ≡ Err c.in_err-take_lead.field-0.0 = search rules in
    let inside : c.loop-trib.trib < g.S.Shape.shape.tribs = (let h = c.loop-trib-test.true in let k = g.met.S.Shape.tribs_is in omega arith) in
    if_err_from c.from_residual.result _ c.in_err-take_lead.field-0.0 e
    (loop_stop (placed_in g.C.Tx) (held_in g.C.Tx) (meaning_in g.C.Tx) (plan_in c.args.clock.now g.G.SlipLog.takes) led_to (λ (i j : ℕ). unslipped 0) (lead_at (plan_in c.args.clock.now g.G.SlipLog.takes)) (meanings c.args.self.now) _ c.loop-trib.invariant.same _ _ c.loop-trib.trib _ _ c.loop-trib.invariant.advance
    (λ (j : ℕ). lead) g.S.Shape.shape.tribs _ _ _ _ _ inside c.loop-trib.invariant.unfailed c.in_err-take_lead.ensures.err)

pub loop-trib-preserved : goal.loop-trib-preserved
loop-trib-preserved g c =
    let inv = c.loop-trib.invariant in
    let ok = c.in_ok-take_lead.ensures in
    record {
      advance = loop_step (placed_in g.C.Tx) (held_in g.C.Tx) (meaning_in g.C.Tx) (plan_in c.args.clock.now g.G.SlipLog.takes) led_to (λ (i j : ℕ). unslipped 0) (lead_at (plan_in c.args.clock.now g.G.SlipLog.takes)) (meanings c.args.self.now) _ c.loop-trib.invariant.same _ _ c.loop-trib.trib _ _ c.loop-trib.invariant.advance
          _ _ ok.ok;
      unfailed = ok.fed.unfailed ∙ inv.unfailed;
      fed = g.met.F.Feed.fed_join _ _ _ inv.fed ok.fed.fed;
      same = ok.same ∙ inv.same;
      told = loop_tells g.G.SlipLog (record { nothing = g.met.G.SlipLog.logged_nothing; joins = g.met.G.SlipLog.logged_join; breaks = g.met.G.SlipLog.broken_join }) (lead_slips (plan_in c.args.clock.now g.G.SlipLog.takes)) (meanings c.args.self.now) _ inv.same c.loop-trib.trib _ _ inv.told _ ok.told.all;
    }

pub returns-in_err-take_lead-clause-told : goal.returns-in_err-take_lead-clause-told
returns-in_err-take_lead-clause-told g c =
    let inv = c.loop-trib.invariant in
    let stop = c.in_err-take_lead.field-0.0 in
    let e : c.from_residual.result ≡ Err stop = search rules in
    let inside : c.loop-trib.trib < g.S.Shape.shape.tribs = (let h = c.loop-trib-test.true in let k = g.met.S.Shape.tribs_is in omega arith) in
    tells_err c.from_residual.result stop e
    (loop_tells_front g.G.SlipLog (record { nothing = g.met.G.SlipLog.logged_nothing; joins = g.met.G.SlipLog.logged_join; breaks = g.met.G.SlipLog.broken_join }) (lead_slips (plan_in c.args.clock.now g.G.SlipLog.takes)) (meanings c.args.self.now) _ inv.same c.loop-trib.trib _ _ inv.told g.S.Shape.shape.tribs stop _ inside c.in_err-take_lead.ensures.told.front)

pub returns-clause-told : goal.returns-clause-told
returns-clause-told g c =
    let inv = c.loop-trib.invariant in
    let end : c.loop-trib.trib ≡ g.S.Shape.TRIBS = (let a = c.loop-trib-test.false in let b = c.loop-trib.auto in omega arith) in
    tells_ok tt
    (loop_tells_all g.G.SlipLog (record { nothing = g.met.G.SlipLog.logged_nothing; joins = g.met.G.SlipLog.logged_join; breaks = g.met.G.SlipLog.broken_join }) (lead_slips (plan_in c.args.clock.now g.G.SlipLog.takes)) (meanings c.args.self.now) _ inv.same c.loop-trib.trib _ _ inv.told g.S.Shape.TRIBS g.S.Shape.shape.tribs end g.met.S.Shape.tribs_is)

pub returns-clause-ok : goal.returns-clause-ok
returns-clause-ok g c =
    let end : c.loop-trib.trib ≡ g.S.Shape.TRIBS = (let a = c.loop-trib-test.false in let b = c.loop-trib.auto in omega arith) in
    loop_end (placed_in g.C.Tx) (held_in g.C.Tx) (meaning_in g.C.Tx) (plan_in c.args.clock.now g.G.SlipLog.takes) led_to (λ (i j : ℕ). unslipped 0) (lead_at (plan_in c.args.clock.now g.G.SlipLog.takes)) (meanings c.args.self.now) _ c.loop-trib.invariant.same _ _ c.loop-trib.trib _ _ c.loop-trib.invariant.advance
    g.S.Shape.TRIBS g.S.Shape.shape.tribs end g.met.S.Shape.tribs_is

pub take_lead-requires-clause-fed : goal.take_lead-requires-clause-fed
take_lead-requires-clause-fed g c =
    let inv = c.loop-trib.invariant in
    still_fed c.args.self.now c.loop-trib.self c.args.path c.args.clock.now (g.F.Feed.inputs c.args.feed.now) (g.F.Feed.inputs c.loop-trib.feed) inv.same (g.met.F.Feed.fed_holds c.args.feed.now c.loop-trib.feed inv.fed) c.requires.fed
