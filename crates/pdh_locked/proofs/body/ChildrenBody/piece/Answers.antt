use Rattle.std.proofs.Common.{◌≡◌, ◌+◌, ◌<◌, ◌≤◌, ℕ, List, Bool, length, map, sym, ◌∙◌, subst, arith}
use Rattle.std.specs.Prelude.{All}
use Rattle.std.proofs.lemmas.List.{length-map}
use Rattle.pdh_bits.specs.BitOut.{BoundedBits}
use Rattle.pdh_packed.specs.Gaining.{gained}
use Rattle.pdh_shape.specs.Frame.{FrameShape}
use Rattle.pdh_runs.specs.Pieces.{rows, Assembled}
use Rattle.pdh_tx.specs.declared.tx.TxStop.TheVariants.{Failed}
use Rattle.pdh_tx.specs.Meaning.{plan_in, Plan}
use Rattle.pdh_tx.specs.Node.{Stays}
use Rattle.pdh_tx.specs.Passing.{HoldsBits, HasRows}
use Rattle.pdh_tx.specs.Locked.{locked_to}
use Rattle.pdh_tx.proofs.Gaining.{on_err_from}
use Rattle.pdh_tx.proofs.Moving.{inside}
use Rattle.pdh_tx.proofs.PassingAll.{rows_all}
use Rattle.pdh_locked.specs.Children.{meanings, columns, HaveMade, HaveFilled, FillOn}
use Rattle.pdh_locked.proofs.Clearing.{passable, scheduled}
use Rattle.pdh_locked.proofs.Filled.{upto_none, filled_gives}
use Rattle.pdh_locked.proofs.body.ChildrenBody.piece.Goals as goal

pub fill_all-requires-clause-fed : goal.fill_all-requires-clause-fed
fill_all-requires-clause-fed g c = record { lists = c.requires.fed.lists; nodes = c.requires.fed.nodes }

pub fill_all-requires-clause-placed : goal.fill_all-requires-clause-placed
fill_all-requires-clause-placed g c =
    let s : FrameShape = g.S.Shape.shape in
    let P : (ℕ → ℕ) → Type 0 = λ made. HaveMade c.args.self.now (plan_in c.args.clock.now g.G.SlipLog.takes) made in
    subst P (sym (upto_none (locked_to s c.args.at.frame c.args.at.slot) (locked_to s c.args.at.frame (c.args.at.slot + c.args.at.len)))) c.requires.placed.made

pub fill_all-requires-clause-clear : goal.fill_all-requires-clause-clear
fill_all-requires-clause-clear g c j m maker =
    let cs = c.args.self.now in
    let known = inside (meanings cs) j m maker in
    passable g.C.Tx g.S.Shape.shape c.args.at.path (plan_in c.args.clock.now g.G.SlipLog.takes) cs.list.items c.args.at.frame c.args.at.slot c.args.at.len _ c.requires.clear j m cs.disjoint (omega (arith, known, length-map cs.list.items g.C.Tx.meaning, cs.count, g.met.S.Shape.tribs_is)) maker

pub returns-in_err-fill_all-clause-halts : goal.returns-in_err-fill_all-clause-halts
returns-in_err-fill_all-clause-halts g c =
    let s : FrameShape = g.S.Shape.shape in
    let f : ℕ → ℕ = locked_to s c.args.at.frame c.args.at.slot in
    let f' : ℕ → ℕ = locked_to s c.args.at.frame (c.args.at.slot + c.args.at.len) in
    let P : (ℕ → ℕ) → Type 0 = λ made. Stays (meanings c.args.self.now) (plan_in c.args.clock.now g.G.SlipLog.takes) made f' Failed (g.F.Feed.inputs c.args.feed.now) (g.F.Feed.inputs c.fill_all.new.feed) in
    on_err_from c.from_residual.result (subst P (upto_none f f') c.in_err-fill_all.ensures.halts)

pub assemble-requires-clause-rows : goal.assemble-requires-clause-rows
assemble-requires-clause-rows g c =
    let new = c.fill_all.new.self in
    let P : List BoundedBits → Type 0 = λ columns. All (λ column. length column.bits ≡ rows g.S.Shape.shape c.args.at.slot c.args.at.len) columns in
    subst P (sym c.deref-3.ensures.value)
    (rows_all g.S.Shape.shape c.args.at.slot c.args.at.len new.scratch.columns.items (subst (λ (k : ℕ). HasRows g.S.Shape.shape c.args.at.slot c.args.at.len (columns new) k) (sym new.room.count) c.in_ok-fill_all.ensures.ok.rows))

pub returns-clause-made : goal.returns-clause-made
returns-clause-made g c =
    let s : FrameShape = g.S.Shape.shape in
    let plan : Plan = plan_in c.args.clock.now g.G.SlipLog.takes in
    let n : ℕ = c.args.at.frame in
    let t : ℕ = c.args.at.slot in
    let len : ℕ = c.args.at.len in
    let cs = c.args.self.now in
    let overhead = c.write_overhead.new.into in
    let new = c.fill_all.new.self in
    let ok = c.in_ok-fill_all.ensures in
    let bits : List Bool = gained c.args.into.now c.assemble.new.into in
    let inputs = g.F.Feed.inputs in
    let all : g.S.Shape.TRIBS ≡ s.tribs = sym g.met.S.Shape.tribs_is in
    let within : t + len ≤ s.len = omega (arith, c.requires.piece.inside, g.met.S.Shape.len_is) in
    let A : List Bool → List BoundedBits → Type 0 = λ overhead lists. Assembled s t len overhead (map (λ (column : BoundedBits). column.bits) lists) bits in
    let assembled : A overhead.bits new.scratch.columns.items = subst (λ (overhead : BoundedBits). A overhead.bits new.scratch.columns.items) ok.kept.overhead (subst (A new.scratch.overhead.bits) c.deref-3.ensures.value c.assemble.ensures.assembled) in
    let F : ℕ → Type 0 = λ k. FillOn cs new plan n t len 0 k (inputs c.args.feed.now) (inputs c.fill_all.new.feed) (λ source. HoldsBits s source n t len (columns new) k) in
    let fills = subst F all ok.ok.fills in
    let begun : n < plan.frames c.args.at.path = scheduled g.C.Tx s c.args.at.path plan cs.list.items n t len _ c.requires.clear c.requires.piece.some c.requires.placed.scheduled in
    record {
      gives = filled_gives g.C.Tx s g.met.S.Shape.has_tributaries cs.locked c.args.at.path plan cs.list.items new.list.items n t (t + len) c.args.say.now c.args.odd len overhead.bits bits (columns new) _ _ (cs.count ∙ all) (new.count ∙ all) c.assemble.ensures.grown.count within
          begun (omega (arith, begun, c.frames-fits.ensures)) c.write_overhead.ensures.bits assembled (subst (λ (k : ℕ). HaveFilled new plan n t len k) all ok.ok.placed) (fills c.args.at.path);
      odd_is = c.assemble.ensures.odd;
    }
