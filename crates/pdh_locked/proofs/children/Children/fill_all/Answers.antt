use Rattle.std.proofs.Common.{◌≡◌, ◌+◌, ℕ, suc, Bool, List, [], refl, sym, ap, ◌∙◌, subst, arith, slice_get}
use Rattle.pdh_shape.specs.declared.place.Path.{Path}
use Rattle.pdh_shape.specs.Frame.{FrameShape}
use Rattle.pdh_line.specs.Sending.{Source}
use Rattle.pdh_tx.specs.declared.tx.TxStop.TheVariants.{Failed}
use Rattle.pdh_tx.specs.Meaning.{plan_in, Plan, Meaning}
use Rattle.pdh_tx.specs.Node.{source_of, Stays}
use Rattle.pdh_tx.specs.Passing.{up_to, HoldsBits, HoldsBitsOf, HasRows, Passes}
use Rattle.pdh_tx.specs.Locked.{locked_to}
use Rattle.pdh_tx.proofs.Gaining.{on_err_from}
use Rattle.pdh_tx.proofs.Telling.{all_none, all_join}
use Rattle.pdh_tx.proofs.PassingAll.{passes_none, passes_join, holds_more, rows_more, clear_kept, stays_after}
use Rattle.pdh_locked.specs.Children.{placed_in, held_in, meanings, columns, HaveFilled, FillOn, FillAll}
use Rattle.pdh_locked.proofs.Filled.{still_fed}
use Rattle.pdh_locked.proofs.children.Children.fill_all.Goals as goal

-- the path of no node, where none matters
no_path : Path
no_path = record { depth = 0; first = 0; second = 0 }

pub loop-trib-init : goal.loop-trib-init
loop-trib-init g c = record {
  placed = c.requires.placed;
  fills = λ path. passes_none (placed_in g.C.Tx) (held_in g.C.Tx) g.C.Tx.meaning path (plan_in c.args.clock.now g.G.SlipLog.takes) _ _ _ _ _
      (λ (source : Source). HoldsBits g.S.Shape.shape source c.args.frame c.args.slot c.args.len (columns c.args.self.now) 0) (λ source j less. absurd (omega arith));
  rows = λ j less. absurd (omega arith);
  unfailed = refl;
  fed = g.met.F.Feed.fed_same _;
  told = all_none g.G.SlipLog (record { nothing = g.met.G.SlipLog.logged_nothing; joins = g.met.G.SlipLog.logged_join; breaks = g.met.G.SlipLog.broken_join }) c.args.log.now;
  same = refl;
  overhead = refl;
}

pub fill_one-requires-clause-fed : goal.fill_one-requires-clause-fed
fill_one-requires-clause-fed g c =
    let inv = c.loop-trib.invariant in
    still_fed c.args.self.now c.loop-trib.self c.args.clock.now (g.F.Feed.inputs c.args.feed.now) (g.F.Feed.inputs c.loop-trib.feed) inv.same (g.met.F.Feed.fed_holds c.args.feed.now c.loop-trib.feed inv.fed) c.requires.fed

pub fill_one-requires-clause-clear : goal.fill_one-requires-clause-clear
fill_one-requires-clause-clear g c m here =
    let s : FrameShape = g.S.Shape.shape in
    let plan : Plan = plan_in c.args.clock.now g.G.SlipLog.takes in
    let i : ℕ = c.loop-trib.trib in
    let n : ℕ = c.args.frame in
    let t : ℕ = c.args.slot in
    let u : ℕ = t + c.args.len in
    let inv = c.loop-trib.invariant in
    let maker = ap (λ ms. slice_get ms i) (sym inv.same) ∙ here in
    clear_kept (held_in g.C.Tx) no_path plan (meanings c.args.self.now) _ _ (locked_to s n t) (locked_to s n u) _ _ _ _ _ i i (locked_to s n u i) m c.args.self.now.disjoint (omega arith) maker (inv.fills no_path) (c.requires.clear i m maker)

pub returns-in_err-fill_one-clause-halts : goal.returns-in_err-fill_one-clause-halts
returns-in_err-fill_one-clause-halts g c =
    let s : FrameShape = g.S.Shape.shape in
    let plan : Plan = plan_in c.args.clock.now g.G.SlipLog.takes in
    let n : ℕ = c.args.frame in
    let t : ℕ = c.args.slot in
    let u : ℕ = t + c.args.len in
    let inv = c.loop-trib.invariant in
    let P : List Meaning → Type 0 = λ ms. Stays ms plan (up_to (locked_to s n t) (locked_to s n u) c.loop-trib.trib) (locked_to s n u) Failed (g.F.Feed.inputs c.loop-trib.feed) (g.F.Feed.inputs c.fill_one.new.feed) in
    on_err_from c.from_residual.result (stays_after (held_in g.C.Tx) no_path plan _ _ _ _ _ _ _ _ _ _ _ _ _ (inv.fills no_path) (subst P inv.same c.in_err-fill_one.ensures.halts))

pub loop-trib-preserved : goal.loop-trib-preserved
loop-trib-preserved g c =
    let s : FrameShape = g.S.Shape.shape in
    let plan : Plan = plan_in c.args.clock.now g.G.SlipLog.takes in
    let n : ℕ = c.args.frame in
    let t : ℕ = c.args.slot in
    let len : ℕ = c.args.len in
    let u : ℕ = t + len in
    let i : ℕ = c.loop-trib.trib in
    let inv = c.loop-trib.invariant in
    let ok = c.in_ok-fill_one.ensures in
    let e : suc i ≡ i + 1 = omega arith in
    let after = c.fill_one.new.self in
    let old : List (List Bool) = columns c.loop-trib.self in
    let new : List (List Bool) = columns after in
    let inputs = g.F.Feed.inputs in
    let ms : List Meaning = meanings c.args.self.now in
    let P : Path → List Meaning → Type 0 = λ path ms. Passes (held_in g.C.Tx) path ms plan c.loop-trib.self.list.items after.list.items
    (up_to (locked_to s n t) (locked_to s n u) i) (up_to (locked_to s n t) (locked_to s n u) (suc i)) (up_to (locked_to s n t) (locked_to s n u) i) (up_to (locked_to s n t) (locked_to s n u) (suc i))
    (inputs c.loop-trib.feed) (inputs c.fill_one.new.feed) (λ source. HoldsBitsOf s source n t len new i) in
    let Q : ℕ → Type 0 = λ k. FillOn c.args.self.now after plan n t len 0 k (inputs c.args.feed.now) (inputs c.fill_one.new.feed) (λ source. HoldsBits s source n t len new k) in
    record {
      placed = subst (λ (k : ℕ). HaveFilled after plan n t len k) e ok.ok.placed;
      fills = subst Q e
          (λ path. passes_join (placed_in g.C.Tx) (held_in g.C.Tx) g.C.Tx.meaning path plan ms _ _ _ _ _ _ _ _ _ _ _ _
          (λ source. HoldsBits s source n t len old i) (λ source. HoldsBitsOf s source n t len new i) (λ source. HoldsBits s source n t len new (suc i))
          (λ supply is was now. holds_more s (source_of path ms supply) n t len i old new ok.kept.earlier was now) (inv.fills path) (subst (P path) inv.same (ok.ok.fills path)));
      rows = subst (λ (k : ℕ). HasRows s t len new k) e (rows_more s t len i old new ok.kept.earlier inv.rows ok.ok.rows);
      unfailed = ok.fed.cause ∙ inv.unfailed;
      fed = g.met.F.Feed.fed_join _ _ _ inv.fed ok.fed.fed;
      told = all_join g.G.SlipLog (record { nothing = g.met.G.SlipLog.logged_nothing; joins = g.met.G.SlipLog.logged_join; breaks = g.met.G.SlipLog.broken_join }) _ _ _ [] [] inv.told ok.told;
      same = ok.kept.all.same ∙ inv.same;
      overhead = ok.kept.all.overhead ∙ inv.overhead;
    }

pub returns-clause-ok : goal.returns-clause-ok
returns-clause-ok g c =
    let inv = c.loop-trib.invariant in
    let P : ℕ → Type 0 = λ k. FillAll c.args.self.now c.loop-trib.self (plan_in c.args.clock.now g.G.SlipLog.takes) c.args.frame c.args.slot c.args.len k (g.F.Feed.inputs c.args.feed.now) (g.F.Feed.inputs c.loop-trib.feed) in
    let all : P c.loop-trib.trib = record { placed = inv.placed; fills = inv.fills; rows = inv.rows } in
    let end : c.loop-trib.trib ≡ g.S.Shape.TRIBS = omega (arith, c.loop-trib.auto.trib-end, c.loop-trib-test.false, c.TRIBS-trib-end.ensures) in
    subst P end all

pub returns-in_err-fill_one-clause-told : goal.returns-in_err-fill_one-clause-told
returns-in_err-fill_one-clause-told g c = all_join g.G.SlipLog (record { nothing = g.met.G.SlipLog.logged_nothing; joins = g.met.G.SlipLog.logged_join; breaks = g.met.G.SlipLog.broken_join }) _ _ _ [] [] c.loop-trib.invariant.told c.in_err-fill_one.ensures.told
