use Rattle.std.proofs.Common.{◌≡◌, ◌+◌, ℕ, suc, List, [], refl, sym, ap, ◌∙◌, subst, arith, slice_get}
use Rattle.pdh_tx.specs.declared.tx.TxStop.TheVariants.{Failed}
use Rattle.pdh_tx.specs.Meaning.{plan_in, Plan, Meaning}
use Rattle.pdh_tx.specs.Tributary.{meaning_in}
use Rattle.pdh_tx.specs.Node.{Stays}
use Rattle.pdh_tx.specs.Passing.{Passes}
use Rattle.pdh_tx.specs.Tributaries.{meanings}
use Rattle.pdh_tx.specs.Gathered.{placed_by, held_by, gathered_made, gathered_progress, made_before, made_behind, pairs, HaveGathered, GatherOn, AreEmptied, GatherAll}
use Rattle.pdh_tx.proofs.Feeding.{still_fed}
use Rattle.pdh_tx.proofs.Gaining.{on_err_from}
use Rattle.pdh_tx.proofs.Telling.{all_none, all_join}
use Rattle.pdh_tx.proofs.PassingAll.{passes_none, passes_join, clear_kept, stays_after}
use Rattle.pdh_tx.proofs.tributaries.Tributaries.gather_all.Goals as goal

pub loop-trib-init : goal.loop-trib-init
loop-trib-init g c = record {
  placed = c.requires.placed;
  gathers = passes_none (placed_by g.C.Tx) (held_by g.C.Tx) (λ p. meaning_in g.C.Tx p.0) c.args.next.path (plan_in c.args.clock.now g.G.SlipLog.takes) _ _ _ _ _ (λ source. Unit {0}) (λ source. tt);
  emptied = record { stores = λ j w less e. absurd (omega (arith, less)); few = λ j queue less e. absurd (omega (arith, less)) };
  unfailed = refl;
  fed = g.met.F.Feed.fed_same _;
  told = all_none g.G.SlipLog (record { nothing = g.met.G.SlipLog.logged_nothing; joins = g.met.G.SlipLog.logged_join; breaks = g.met.G.SlipLog.broken_join }) c.args.log.now;
  same = refl;
  shares = refl;
}

pub gather_one-requires-clause-fed : goal.gather_one-requires-clause-fed
gather_one-requires-clause-fed g c =
    let inv = c.loop-trib.invariant in
    still_fed c.args.self.now c.loop-trib.self c.args.next.path c.args.clock.now (g.F.Feed.inputs c.args.feed.now) (g.F.Feed.inputs c.loop-trib.feed) inv.same (g.met.F.Feed.fed_holds c.args.feed.now c.loop-trib.feed inv.fed) c.requires.fed

pub gather_one-requires-clause-clear : goal.gather_one-requires-clause-clear
gather_one-requires-clause-clear g c m here =
    let i : ℕ = c.loop-trib.trib in
    let inv = c.loop-trib.invariant in
    let plan : Plan = plan_in c.args.clock.now g.G.SlipLog.takes in
    let next = c.args.next in
    let maker = ap (λ (ms : List Meaning). slice_get ms i) (sym inv.same) ∙ here in
    let can = c.requires.clear i m maker in
    record {
      clear = clear_kept (held_by g.C.Tx) next.path plan (meanings c.args.self.now) _ _ (made_before g.S.Shape.shape plan next) (made_behind g.S.Shape.shape plan next) _ _ _ _ _ i i _ m c.args.self.now.disjoint (omega arith) maker inv.gathers can.clear;
      few = can.few;
    }

pub returns-in_err-gather_one-clause-halts : goal.returns-in_err-gather_one-clause-halts
returns-in_err-gather_one-clause-halts g c =
    let plan : Plan = plan_in c.args.clock.now g.G.SlipLog.takes in
    let inv = c.loop-trib.invariant in
    let s = g.S.Shape.shape in
    let P : List Meaning → Type 0 = λ ms. Stays ms plan (gathered_made s plan c.args.next c.loop-trib.trib) (made_behind s plan c.args.next) Failed (g.F.Feed.inputs c.loop-trib.feed) (g.F.Feed.inputs c.gather_one.new.feed) in
    on_err_from c.from_residual.result
    (stays_after (held_by g.C.Tx) c.args.next.path plan _ _ _ _ _ _ _ _ _ _ _ _ _ inv.gathers (subst P inv.same c.in_err-gather_one.ensures.halts))

pub loop-trib-preserved : goal.loop-trib-preserved
loop-trib-preserved g c =
    let s = g.S.Shape.shape in
    let plan : Plan = plan_in c.args.clock.now g.G.SlipLog.takes in
    let next = c.args.next in
    let i : ℕ = c.loop-trib.trib in
    let inv = c.loop-trib.invariant in
    let ok = c.in_ok-gather_one.ensures in
    let e : suc i ≡ i + 1 = omega arith in
    let after = c.gather_one.new.self in
    let inputs = g.F.Feed.inputs in
    let P : List Meaning → Type 0 = λ ms. Passes (held_by g.C.Tx) next.path ms plan (pairs c.loop-trib.self) (pairs after) (gathered_made s plan next i) (gathered_made s plan next (suc i)) (gathered_progress s plan next i) (gathered_progress s plan next (suc i))
    (inputs c.loop-trib.feed) (inputs c.gather_one.new.feed) (λ source. Unit {0}) in
    let Q : ℕ → Type 0 = λ k. GatherOn c.args.self.now after plan next 0 k (inputs c.args.feed.now) (inputs c.gather_one.new.feed) in
    record {
      placed = subst (λ (k : ℕ). HaveGathered after plan next k) e ok.ok.placed;
      gathers = subst Q e (passes_join (placed_by g.C.Tx) (held_by g.C.Tx) (λ p. meaning_in g.C.Tx p.0) next.path plan (meanings c.args.self.now) _ _ _ _ _ _ _ _ _ _ _ _
          (λ source. Unit {0}) (λ source. Unit {0}) (λ source. Unit {0}) (λ supply is was now. tt) inv.gathers (subst P inv.same ok.ok.gathers));
      emptied = subst (λ (k : ℕ). AreEmptied after k) e (ok.ok.emptied inv.emptied);
      unfailed = ok.fed.cause ∙ inv.unfailed;
      fed = g.met.F.Feed.fed_join _ _ _ inv.fed ok.fed.fed;
      told = all_join g.G.SlipLog (record { nothing = g.met.G.SlipLog.logged_nothing; joins = g.met.G.SlipLog.logged_join; breaks = g.met.G.SlipLog.broken_join }) _ _ _ [] [] inv.told ok.told;
      same = ok.same ∙ inv.same;
      shares = ok.shares ∙ inv.shares;
    }

pub returns-clause-ok : goal.returns-clause-ok
returns-clause-ok g c =
    let inv = c.loop-trib.invariant in
    let plan : Plan = plan_in c.args.clock.now g.G.SlipLog.takes in
    let all : GatherAll c.args.self.now c.loop-trib.self plan c.args.next c.loop-trib.trib (g.F.Feed.inputs c.args.feed.now) (g.F.Feed.inputs c.loop-trib.feed) = record { placed = inv.placed; gathers = inv.gathers; emptied = inv.emptied } in
    let end : c.loop-trib.trib ≡ g.S.Shape.TRIBS = omega (arith, c.loop-trib.auto.trib-end, c.loop-trib-test.false, c.TRIBS-trib-end.ensures) in
    subst (λ (k : ℕ). GatherAll c.args.self.now c.loop-trib.self plan c.args.next k (g.F.Feed.inputs c.args.feed.now) (g.F.Feed.inputs c.loop-trib.feed)) end all

pub returns-in_err-gather_one-clause-told : goal.returns-in_err-gather_one-clause-told
returns-in_err-gather_one-clause-told g c = all_join g.G.SlipLog (record { nothing = g.met.G.SlipLog.logged_nothing; joins = g.met.G.SlipLog.logged_join; breaks = g.met.G.SlipLog.broken_join }) _ _ _ [] [] c.loop-trib.invariant.told c.in_err-gather_one.ensures.told
