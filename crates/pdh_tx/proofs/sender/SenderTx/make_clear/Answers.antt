use Rattle.std.proofs.Common.{ℕ, ◌+◌, ◌<◌, Bool, [], refl, sym, ◌∙◌, subst, arith}
use Rattle.std.specs.Prelude.{All, IsTrue}
use Rattle.pdh_packed.specs.Gaining.{gained}
use Rattle.pdh_packed.proofs.GainingLaws.{gained_none, grown_none, gained_then, grown_then}
use Rattle.pdh_tx.specs.Meaning.{Meaning, IsNodeOf, plan_in}
use Rattle.pdh_tx.proofs.NodeSteps.{fed_below}
use Rattle.pdh_tx.proofs.Telling.{all_none, all_join}
use Rattle.pdh_tx.proofs.MakingAll.{all_none as made_none, all_more, all_end, clear_next, halts_within}
use Rattle.pdh_tx.proofs.sender.SenderTx.make_clear.Goals as goal

pub loop-made-init : goal.loop-made-init
loop-made-init g c =
    record {
      upto = omega arith;
      grown = grown_none c.args.into.now;
      running = c.requires.running;
      same = refl;
      same_says = refl;
      unfailed = refl;
      fed = g.met.F.Feed.fed_same _;
      told = all_none g.G.SlipLog (record { nothing = g.met.G.SlipLog.logged_nothing; joins = g.met.G.SlipLog.logged_join; breaks = g.met.G.SlipLog.broken_join }) c.args.log.now;
      makes = λ x was. made_none _ _ _ _ x (x + 0) (gained c.args.into.now c.args.into.now) _ (omega arith) (gained_none c.args.into.now) was;
    }

pub batch-requires-clause-fed : goal.batch-requires-clause-fed
batch-requires-clause-fed g c =
    let inv = c.loop-made.invariant in
    let self = c.loop-made.self in
    let P : (ℕ → Bool) → ℕ → Type 0 = λ holds k. IsTrue (holds k) in
    fed_below g.S.Shape.shape self.path (g.B.Body.meanings self.body) c.args.clock.now (g.F.Feed.inputs c.loop-made.feed)
    (λ k leaf. subst (λ (holds : ℕ → Bool). P holds k) (sym (g.met.F.Feed.fed_holds c.args.feed.now c.loop-made.feed inv.fed)) (c.requires.fed.lists k (subst (λ (m : Meaning). IsTrue (m.leaves k)) inv.same leaf)))
    (subst (λ (m : Meaning). All (IsNodeOf c.args.clock.now.levels) m.nodes) (sym inv.same) c.requires.fed.nodes)

pub batch-requires-clause-few : goal.batch-requires-clause-few
batch-requires-clause-few g c = record {
  some = omega (arith, c.min-len.ensures, c.LEN.ensures, g.met.S.Shape.len_is, g.met.S.Shape.is_frame.some_slots, c.loop-made-test.true);
  few = omega (arith, c.min-len.ensures, c.LEN.ensures);
}

pub batch-requires-clause-clear : goal.batch-requires-clause-clear
batch-requires-clause-clear g c =
    let inv = c.loop-made.invariant in
    let made : ℕ = c.requires.clear.0 + c.loop-made.made in
    let here = inv.makes c.requires.clear.0 c.requires.clear.1 in
    (made, here.place, clear_next _ _ _ _ _ _ _ _ (made + c.min-len.result) _ _ _ _ inv.same here (omega (arith, inv.upto, c.min-len.ensures)) c.requires.clear.2)

pub returns-in-Err-clause-halts : goal.returns-in-Err-clause-halts
returns-in-Err-clause-halts g c x was =
    let inv = c.loop-made.invariant in
    let made : ℕ = x + c.loop-made.made in
    let before = inv.makes x was in
    halts_within _ _ _ _ _ _ x made (made + c.min-len.result) (x + c.args.count) _ _ _ _ _ inv.same (omega (arith, inv.upto, c.min-len.ensures))
    (λ n k. g.met.B.Body.grows c.args.self.now.body c.args.self.now.path (plan_in c.args.clock.now g.G.SlipLog.takes) n k) before (c.in-Err.ensures.halts made before.place)

pub returns-in-Err-clause-told : goal.returns-in-Err-clause-told
returns-in-Err-clause-told g c = all_join g.G.SlipLog (record { nothing = g.met.G.SlipLog.logged_nothing; joins = g.met.G.SlipLog.logged_join; breaks = g.met.G.SlipLog.broken_join }) _ _ _ [] [] c.loop-made.invariant.told c.batch.ensures.told

pub loop-made-smaller : goal.loop-made-smaller
loop-made-smaller g c =
    let inv = c.loop-made.invariant in
    let some : 0 < c.min-len.result = omega (arith, c.min-len.ensures, c.LEN.ensures, g.met.S.Shape.len_is, g.met.S.Shape.is_frame.some_slots, c.loop-made-test.true) in
    omega (arith, some, inv.upto, c.min-len.ensures)

pub loop-made-preserved : goal.loop-made-preserved
loop-made-preserved g c =
    let inv = c.loop-made.invariant in
    let old = c.args.into.now in
    let mid = c.loop-made.into in
    let new = c.batch.new.into in
    let ok = c.in-Ok.ensures in
    record {
      upto = omega (arith, inv.upto, c.min-len.ensures);
      grown = grown_then old mid new c.loop-made.made c.min-len.result inv.grown ok.appended.grown;
      running = c.batch.ensures.running ∙ inv.running;
      same = c.batch.ensures.kept.same ∙ inv.same;
      same_says = c.batch.ensures.kept.same_says ∙ inv.same_says;
      unfailed = ok.fed.cause ∙ inv.unfailed;
      fed = g.met.F.Feed.fed_join _ _ _ inv.fed c.batch.ensures.fed.fed;
      told = all_join g.G.SlipLog (record { nothing = g.met.G.SlipLog.logged_nothing; joins = g.met.G.SlipLog.logged_join; breaks = g.met.G.SlipLog.broken_join }) _ _ _ [] [] inv.told c.batch.ensures.told;
      makes = λ x was.
          let before = inv.makes x was in
          all_more _ _ _ _ _ _ _ _ x (x + c.loop-made.made) (x + c.loop-made.made + c.min-len.result) (x + (c.loop-made.made + c.min-len.result)) (gained old mid) (gained mid new) _ _ _ _ inv.same inv.same_says (omega arith)
          (gained_then old mid new c.loop-made.made c.min-len.result inv.grown ok.appended.grown) before (ok.made (x + c.loop-made.made) before.place);
    }

pub returns-clause-made : goal.returns-clause-made
returns-clause-made g c x was =
    let inv = c.loop-made.invariant in
    all_end _ _ _ _ _ x (x + c.loop-made.made) (x + c.args.count) _ _ _ (omega (arith, inv.upto, c.loop-made-test.false)) (inv.makes x was)
