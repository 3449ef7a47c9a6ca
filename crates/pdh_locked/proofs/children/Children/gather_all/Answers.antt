use Rattle.std.proofs.Common.{◌≡◌, ◌+◌, ℕ, suc, List, [], refl, sym, ap, ◌∙◌, subst, arith, slice_get}
use Rattle.pdh_shape.specs.declared.place.Path.{Path}
use Rattle.pdh_tx.specs.declared.tx.TxStop.TheVariants.{Failed}
use Rattle.pdh_tx.specs.Meaning.{plan_in, Plan, Meaning}
use Rattle.pdh_tx.specs.Node.{Stays}
use Rattle.pdh_tx.specs.Passing.{Passes}
use Rattle.pdh_tx.proofs.Gaining.{on_err_from}
use Rattle.pdh_tx.proofs.Telling.{all_none, all_join}
use Rattle.pdh_tx.proofs.PassingAll.{passes_none, passes_join, clear_kept, stays_after}
use Rattle.pdh_locked.specs.Children.{meanings}
use Rattle.pdh_locked.specs.Gathered.{placed_by, held_by, gathered_made, gathered_progress, read_before, read_behind, pairs, HaveGathered, GatherOn, GatherAll}
use Rattle.pdh_locked.proofs.Filled.{still_fed}
use Rattle.pdh_locked.proofs.children.Children.gather_all.Goals as goal

-- the path of no node, where none matters
no_path : Path
no_path = record { depth = 0; first = 0; second = 0 }

pub loop-trib-init : goal.loop-trib-init
loop-trib-init g c = record {
  placed = c.requires.placed;
  gathers = λ path. passes_none (placed_by g.C.Tx) (held_by g.C.Tx) (λ p. g.C.Tx.meaning p.0) path (plan_in c.args.clock.now g.G.SlipLog.takes) _ _ _ _ _ (λ source. Unit {0}) (λ source. tt);
  unfailed = refl;
  fed = g.met.F.Feed.fed_same _;
  told = all_none g.G.SlipLog (record { nothing = g.met.G.SlipLog.logged_nothing; joins = g.met.G.SlipLog.logged_join; breaks = g.met.G.SlipLog.broken_join }) c.args.log.now;
  same = refl;
}

pub gather_one-requires-clause-fed : goal.gather_one-requires-clause-fed
gather_one-requires-clause-fed g c =
    let inv = c.loop-trib.invariant in
    still_fed c.args.self.now c.loop-trib.self c.args.clock.now (g.F.Feed.inputs c.args.feed.now) (g.F.Feed.inputs c.loop-trib.feed) inv.same (g.met.F.Feed.fed_holds c.args.feed.now c.loop-trib.feed inv.fed) c.requires.fed

pub gather_one-requires-clause-clear : goal.gather_one-requires-clause-clear
gather_one-requires-clause-clear g c m here =
    let i : ℕ = c.loop-trib.trib in
    let inv = c.loop-trib.invariant in
    let plan : Plan = plan_in c.args.clock.now g.G.SlipLog.takes in
    let slots = c.args.slots in
    let maker = ap (λ (ms : List Meaning). slice_get ms i) (sym inv.same) ∙ here in
    clear_kept (held_by g.C.Tx) no_path plan (meanings c.args.self.now) _ _ (read_before g.S.Shape.shape slots) (read_behind g.S.Shape.shape slots) _ _ _ _ _ i i _ m c.args.self.now.disjoint (omega arith) maker (inv.gathers no_path) (c.requires.clear i m maker)

pub returns-in_err-gather_one-clause-halts : goal.returns-in_err-gather_one-clause-halts
returns-in_err-gather_one-clause-halts g c =
    let plan : Plan = plan_in c.args.clock.now g.G.SlipLog.takes in
    let inv = c.loop-trib.invariant in
    let s = g.S.Shape.shape in
    let P : List Meaning → Type 0 = λ ms. Stays ms plan (gathered_made s c.args.slots c.loop-trib.trib) (read_behind s c.args.slots) Failed (g.F.Feed.inputs c.loop-trib.feed) (g.F.Feed.inputs c.gather_one.new.feed) in
    on_err_from c.from_residual.result
    (stays_after (held_by g.C.Tx) no_path plan _ _ _ _ _ _ _ _ _ _ _ _ _ (inv.gathers no_path) (subst P inv.same c.in_err-gather_one.ensures.halts))

pub loop-trib-preserved : goal.loop-trib-preserved
loop-trib-preserved g c =
    let s = g.S.Shape.shape in
    let plan : Plan = plan_in c.args.clock.now g.G.SlipLog.takes in
    let slots = c.args.slots in
    let i : ℕ = c.loop-trib.trib in
    let inv = c.loop-trib.invariant in
    let ok = c.in_ok-gather_one.ensures in
    let e : suc i ≡ i + 1 = omega arith in
    let after = c.gather_one.new.self in
    let inputs = g.F.Feed.inputs in
    let P : Path → List Meaning → Type 0 = λ path ms. Passes (held_by g.C.Tx) path ms plan (pairs c.loop-trib.self) (pairs after) (gathered_made s slots i) (gathered_made s slots (suc i)) (gathered_progress s slots i) (gathered_progress s slots (suc i))
    (inputs c.loop-trib.feed) (inputs c.gather_one.new.feed) (λ source. Unit {0}) in
    let Q : ℕ → Type 0 = λ k. GatherOn c.args.self.now after plan slots 0 k (inputs c.args.feed.now) (inputs c.gather_one.new.feed) in
    record {
      placed = subst (λ (k : ℕ). HaveGathered after plan slots k) e ok.ok.placed;
      gathers = subst Q e (λ path. passes_join (placed_by g.C.Tx) (held_by g.C.Tx) (λ p. g.C.Tx.meaning p.0) path plan (meanings c.args.self.now) _ _ _ _ _ _ _ _ _ _ _ _
          (λ source. Unit {0}) (λ source. Unit {0}) (λ source. Unit {0}) (λ supply is was now. tt) (inv.gathers path) (subst (P path) inv.same (ok.ok.gathers path)));
      unfailed = ok.fed.cause ∙ inv.unfailed;
      fed = g.met.F.Feed.fed_join _ _ _ inv.fed ok.fed.fed;
      told = all_join g.G.SlipLog (record { nothing = g.met.G.SlipLog.logged_nothing; joins = g.met.G.SlipLog.logged_join; breaks = g.met.G.SlipLog.broken_join }) _ _ _ [] [] inv.told ok.told;
      same = ok.same ∙ inv.same;
    }

pub returns-clause-ok : goal.returns-clause-ok
returns-clause-ok g c =
    let inv = c.loop-trib.invariant in
    let plan : Plan = plan_in c.args.clock.now g.G.SlipLog.takes in
    let all : GatherAll c.args.self.now c.loop-trib.self plan c.args.slots c.loop-trib.trib (g.F.Feed.inputs c.args.feed.now) (g.F.Feed.inputs c.loop-trib.feed) = record { placed = inv.placed; gathers = inv.gathers } in
    let end : c.loop-trib.trib ≡ g.S.Shape.TRIBS = omega (arith, c.loop-trib.auto.trib-end, c.loop-trib-test.false, c.TRIBS-trib-end.ensures) in
    subst (λ (k : ℕ). GatherAll c.args.self.now c.loop-trib.self plan c.args.slots k (g.F.Feed.inputs c.args.feed.now) (g.F.Feed.inputs c.loop-trib.feed)) end all

pub returns-in_err-gather_one-clause-told : goal.returns-in_err-gather_one-clause-told
returns-in_err-gather_one-clause-told g c = all_join g.G.SlipLog (record { nothing = g.met.G.SlipLog.logged_nothing; joins = g.met.G.SlipLog.logged_join; breaks = g.met.G.SlipLog.broken_join }) _ _ _ [] [] c.loop-trib.invariant.told c.in_err-gather_one.ensures.told
