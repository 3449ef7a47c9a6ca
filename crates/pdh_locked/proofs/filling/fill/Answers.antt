use Rattle.std.proofs.Common.{◌≡◌, ◌+◌, ℕ, List, Bool, false, ◌++◌, sym, ap, ◌∙◌, subst, arith}
use Rattle.pdh_packed.specs.Gaining.{gained}
use Rattle.pdh_runs.specs.Pieces.{FillsColumn}
use Rattle.pdh_tx.specs.Meaning.{plan_in}
use Rattle.pdh_tx.specs.Held.{Gains}
use Rattle.pdh_tx.specs.Making.{IsClear}
use Rattle.pdh_tx.specs.Passing.{carried_in}
use Rattle.pdh_tx.proofs.Passing.{carried_is}
use Rattle.pdh_locked.specs.Children.{Stands, held_in, filled_in}
use Rattle.pdh_locked.proofs.Filled.{fill_gains}
use Rattle.pdh_locked.proofs.filling.fill.Goals as goal

pub make_clear-requires-clause-clear : goal.make_clear-requires-clause-clear
make_clear-requires-clause-clear g c =
    let same : c.carried-carried.result ≡ carried_in g.S.Shape.shape c.args.trib false c.args.first c.args.len = omega (arith, carried_is g.S.Shape.shape c.args.trib false c.args.first c.args.len, c.carried-carried.ensures) in
    let P : ℕ → Type 0 = λ k. IsClear (g.C.Tx.meaning c.args.child.now) (plan_in c.args.clock.now g.G.SlipLog.takes) c.requires.clear.made (c.requires.clear.made + k) (g.F.Feed.inputs c.args.feed.now) in
    (c.requires.clear.made, c.requires.clear.stands.place, subst P (sym same) c.requires.clear.clear)

pub returns-clause-ok : goal.returns-clause-ok
returns-clause-ok g c = record {
  rows = c.fill_column.ensures.rows;
  bits = λ made was.
      let s = g.S.Shape.shape in
      let plan = plan_in c.args.clock.now g.G.SlipLog.takes in
      let j : ℕ = c.args.trib in
      let first : ℕ = c.args.first in
      let len : ℕ = c.args.len in
      let child = c.args.child.now in
      let new = c.make_clear.new.self in
      let queue = c.make_clear.new.into in
      let bits : List Bool = gained c.clear.new.self queue in
      let column : List Bool = c.fill_column.new.column.bits in
      let gone : ℕ = carried_in s j false first len in
      let ok = c.in_ok-make_clear.ensures in
      let makes = ok.made made was.place in
      let same : c.carried-carried.result ≡ gone = omega (arith, carried_is s j false first len, c.carried-carried.ensures) in
      let is : queue.bits ≡ bits = ok.appended.grown.bits ∙ ap (λ list. list.bits ++ bits) c.clear.ensures in
      let fills : FillsColumn s j false first len bits column = subst (λ (l : List Bool). FillsColumn s j false first len l column) is c.fill_column.ensures.fills in
      let P : ℕ → Type 0 = λ k. Gains (g.C.Tx.meaning child) plan (held_in g.C.Tx child) (filled_in g.C.Tx s j first len made child new column) made (made + k) made made (g.F.Feed.inputs c.args.feed.now) (g.F.Feed.inputs c.make_clear.new.feed) in
      let Q : ℕ → Type 0 = λ k. Stands g.C.Tx new plan (made + k) in
      record {
        placed = subst Q same (record { runs = ok.stopped; idles = ok.kept.same_says ∙ was.idles; place = makes.place });
        gains = subst P same (fill_gains g.C.Tx child new plan s j first len made bits column _ _ _ was (ok.appended.grown.count ∙ same) makes fills);
      };
}
