use Rattle.std.proofs.Common.{◌≡◌, ◌+◌, ℕ, suc, Bool, List, [], refl, sym, ap, ◌∙◌, subst, arith, slice_get}
use Rattle.pdh_shape.specs.Frame.{FrameShape}
use Rattle.pdh_line.specs.Sending.{Source}
use Rattle.pdh_tx.specs.declared.tx.TxStop.TheVariants.{Failed}
use Rattle.pdh_tx.specs.Meaning.{plan_in, mode_of, Plan, Meaning}
use Rattle.pdh_tx.specs.Tributary.{placed_in, held_in, meaning_in, share_in}
use Rattle.pdh_tx.specs.Node.{source_of, IsShare, Stays, came_at}
use Rattle.pdh_tx.specs.Passing.{made_through, read_through, HoldsBits, HoldsBitsOf, HasRows, Passes}
use Rattle.pdh_tx.specs.Tributaries.{meanings, columns, HavePassed, PassOn, PassAll}
use Rattle.pdh_tx.proofs.Feeding.{still_fed}
use Rattle.pdh_tx.proofs.Lists.{transfer_one}
use Rattle.pdh_tx.proofs.Gaining.{on_err_from}
use Rattle.pdh_tx.proofs.Telling.{all_none, all_join}
use Rattle.pdh_tx.proofs.PassingAll.{passes_none, passes_join, holds_more, rows_more, passable_kept, stays_after}
use Rattle.pdh_tx.proofs.tributaries.Tributaries.pass_all.Goals as goal

pub loop-trib-init : goal.loop-trib-init
loop-trib-init g c = record {
  placed = c.requires.placed;
  passes = passes_none (placed_in g.C.Tx) (held_in g.C.Tx) (meaning_in g.C.Tx) c.args.at.path (plan_in c.args.clock.now g.G.SlipLog.takes) _ _ _ _ _
      (λ (source : Source). HoldsBits g.S.Shape.shape source c.args.at.frame c.args.at.slot c.args.at.len (columns c.args.self.now) 0) (λ source j less. absurd (omega arith));
  rows = λ j less. absurd (omega arith);
  unfailed = refl;
  fed = g.met.F.Feed.fed_same _;
  told = all_none g.G.SlipLog (record { nothing = g.met.G.SlipLog.logged_nothing; joins = g.met.G.SlipLog.logged_join; breaks = g.met.G.SlipLog.broken_join }) c.args.log.now;
  same = refl;
  shares = refl;
  overhead = refl;
}

pub pass_one-requires-clause-decided : goal.pass_one-requires-clause-decided
pass_one-requires-clause-decided g c =
    transfer_one share_in (λ share j. IsShare (mode_of g.G.SlipLog.takes) g.S.Shape.shape j ((plan_in c.args.clock.now g.G.SlipLog.takes).counts c.args.at.path j) c.args.at.frame share) c.args.self.now.list.items c.loop-trib.self.list.items c.loop-trib.invariant.shares c.requires.decided

pub pass_one-requires-clause-fed : goal.pass_one-requires-clause-fed
pass_one-requires-clause-fed g c =
    let inv = c.loop-trib.invariant in
    still_fed c.args.self.now c.loop-trib.self c.args.at.path c.args.clock.now (g.F.Feed.inputs c.args.feed.now) (g.F.Feed.inputs c.loop-trib.feed) inv.same (g.met.F.Feed.fed_holds c.args.feed.now c.loop-trib.feed inv.fed) c.requires.fed

pub pass_one-requires-clause-clear : goal.pass_one-requires-clause-clear
pass_one-requires-clause-clear g c m here =
    let i : ℕ = c.loop-trib.trib in
    let inv = c.loop-trib.invariant in
    let maker = ap (λ ms. slice_get ms i) (sym inv.same) ∙ here in
    passable_kept (held_in g.C.Tx) g.S.Shape.shape (plan_in c.args.clock.now g.G.SlipLog.takes) c.args.at (meanings c.args.self.now) _ _ _ _ _ _ _ i i m c.args.self.now.disjoint (omega arith) maker inv.passes (c.requires.clear i m maker)

pub returns-in_err-pass_one-clause-halts : goal.returns-in_err-pass_one-clause-halts
returns-in_err-pass_one-clause-halts g c =
    let plan : Plan = plan_in c.args.clock.now g.G.SlipLog.takes in
    let at = c.args.at in
    let inv = c.loop-trib.invariant in
    let P : List Meaning → Type 0 = λ ms. Stays ms plan (made_through g.S.Shape.shape plan at c.loop-trib.trib) (came_at g.S.Shape.shape at.path plan at.frame (at.slot + at.len)) Failed (g.F.Feed.inputs c.loop-trib.feed) (g.F.Feed.inputs c.pass_one.new.feed) in
    on_err_from c.from_residual.result
    (stays_after (held_in g.C.Tx) at.path plan _ _ _ _ _ _ _ _ _ _ _ _ _ inv.passes (subst P inv.same c.in_err-pass_one.ensures.halts))

pub loop-trib-preserved : goal.loop-trib-preserved
loop-trib-preserved g c =
    let s : FrameShape = g.S.Shape.shape in
    let plan : Plan = plan_in c.args.clock.now g.G.SlipLog.takes in
    let at = c.args.at in
    let i : ℕ = c.loop-trib.trib in
    let inv = c.loop-trib.invariant in
    let ok = c.in_ok-pass_one.ensures in
    let e : suc i ≡ i + 1 = omega arith in
    let after = c.pass_one.new.self in
    let old : List (List Bool) = columns c.loop-trib.self in
    let new : List (List Bool) = columns after in
    let inputs = g.F.Feed.inputs in
    let P : List Meaning → Type 0 = λ ms. Passes (held_in g.C.Tx) at.path ms plan c.loop-trib.self.list.items after.list.items (made_through s plan at i) (made_through s plan at (suc i)) (read_through s plan at i) (read_through s plan at (suc i))
    (inputs c.loop-trib.feed) (inputs c.pass_one.new.feed) (λ source. HoldsBitsOf s source at.frame at.slot at.len new i) in
    let Q : ℕ → Type 0 = λ k. PassOn c.args.self.now after plan at 0 k (inputs c.args.feed.now) (inputs c.pass_one.new.feed) (λ source. HoldsBits s source at.frame at.slot at.len new k) in
    record {
      placed = subst (λ (k : ℕ). HavePassed after plan at k) e ok.ok.placed;
      passes = subst Q e (passes_join (placed_in g.C.Tx) (held_in g.C.Tx) (meaning_in g.C.Tx) at.path plan (meanings c.args.self.now) _ _ _ _ _ _ _ _ _ _ _ _
          (λ source. HoldsBits s source at.frame at.slot at.len old i) (λ source. HoldsBitsOf s source at.frame at.slot at.len new i) (λ source. HoldsBits s source at.frame at.slot at.len new (suc i))
          (λ supply is was now. holds_more s (source_of at.path (meanings c.args.self.now) supply) at.frame at.slot at.len i old new ok.kept.earlier was now) inv.passes (subst P inv.same ok.ok.passes));
      rows = subst (λ (k : ℕ). HasRows s at.slot at.len new k) e (rows_more s at.slot at.len i old new ok.kept.earlier inv.rows ok.ok.rows);
      unfailed = ok.fed.cause ∙ inv.unfailed;
      fed = g.met.F.Feed.fed_join _ _ _ inv.fed ok.fed.fed;
      told = all_join g.G.SlipLog (record { nothing = g.met.G.SlipLog.logged_nothing; joins = g.met.G.SlipLog.logged_join; breaks = g.met.G.SlipLog.broken_join }) _ _ _ [] [] inv.told ok.told;
      same = ok.kept.all.same ∙ inv.same;
      shares = ok.kept.all.same_shares ∙ inv.shares;
      overhead = ok.kept.all.overhead ∙ inv.overhead;
    }

pub returns-clause-ok : goal.returns-clause-ok
returns-clause-ok g c =
    let inv = c.loop-trib.invariant in
    let all : PassAll c.args.self.now c.loop-trib.self (plan_in c.args.clock.now g.G.SlipLog.takes) c.args.at c.loop-trib.trib (g.F.Feed.inputs c.args.feed.now) (g.F.Feed.inputs c.loop-trib.feed) = record { placed = inv.placed; passes = inv.passes; rows = inv.rows } in
    let end : c.loop-trib.trib ≡ g.S.Shape.TRIBS = omega (arith, c.loop-trib.auto.trib-end, c.loop-trib-test.false, c.TRIBS-trib-end.ensures) in
    subst (λ (k : ℕ). PassAll c.args.self.now c.loop-trib.self (plan_in c.args.clock.now g.G.SlipLog.takes) c.args.at k (g.F.Feed.inputs c.args.feed.now) (g.F.Feed.inputs c.loop-trib.feed)) end all

pub returns-in_err-pass_one-clause-told : goal.returns-in_err-pass_one-clause-told
returns-in_err-pass_one-clause-told g c = all_join g.G.SlipLog (record { nothing = g.met.G.SlipLog.logged_nothing; joins = g.met.G.SlipLog.logged_join; breaks = g.met.G.SlipLog.broken_join }) _ _ _ [] [] c.loop-trib.invariant.told c.in_err-pass_one.ensures.told
