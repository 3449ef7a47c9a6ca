use Rattle.std.proofs.Common.{◌≡◌, ◌+◌, ◌≤◌, ℕ, Bool, false, List, [], length, map, slice_set, refl, sym, ap, ◌∙◌, subst, arith}
use Rattle.std.specs.List.{range_with_len}
use Rattle.std.proofs.lemmas.List.{length-set}
use Rattle.std.proofs.lemmas.List.Elements.{All-set}
use Rattle.std.proofs.lemmas.Option.{slice_get_read}
use Rattle.std.proofs.lemmas.Result.{on_ok_weaker, on_err_weaker}
use Rattle.std.proofs.Math.Seq.{map-set_same}
use Rattle.pdh_shape.specs.Frame.{FrameShape}
use Rattle.pdh_shape.specs.declared.place.Path.{Path}
use Rattle.pdh_line.specs.Edits.{Edit, edited}
use Rattle.pdh_bits.specs.BitOut.{BoundedBits}
use Rattle.pdh_shape.specs.Tributary.{reads_from}
use Rattle.pdh_runs.specs.Pieces.{FillsColumn}
use Rattle.pdh_runs.proofs.Counts.{before_most}
use Rattle.pdh_tx.specs.declared.tx.TxStop.TheVariants.{Failed}
use Rattle.pdh_tx.specs.Meaning.{plan_in, Plan, Supply, Meaning}
use Rattle.pdh_tx.specs.Held.{Gains, Halts}
use Rattle.pdh_tx.specs.Making.{IsClear}
use Rattle.pdh_tx.specs.Node.{IsDisjoint, below}
use Rattle.pdh_tx.specs.Slipping.{read_to}
use Rattle.pdh_tx.specs.Passing.{up_to, edits_by, carried_in, HoldsBitsOf}
use Rattle.pdh_tx.specs.Locked.{locked_to}
use Rattle.pdh_tx.specs.laws.Growing.{given_more}
use Rattle.pdh_tx.proofs.Moving.{stays_one}
use Rattle.pdh_tx.proofs.Advancing.{upto_here, upto_most}
use Rattle.pdh_tx.proofs.Passing.{carried_is}
use Rattle.pdh_tx.proofs.PassingAll.{placed_one, passes_one, holds_from, column_same, column_other}
use Rattle.pdh_locked.specs.Children.{Stands, placed_in, held_in, filled_in}
use Rattle.pdh_locked.specs.laws.LockedLaws.{below_grows}
use Rattle.pdh_locked.proofs.OneSlot.{more_by, edits_none, read_by}
use Rattle.pdh_locked.proofs.Filled.{next_one, fed_one}
use Rattle.pdh_locked.proofs.children.Children.fill_one.Goals as goal

pub fill-requires-clause-fed : goal.fill-requires-clause-fed
fill-requires-clause-fed g c =
    let here = slice_get_read _ _ c.args.trib _ refl (omega (arith, c.requires.trib, c.args.self.now.count)) c.index_mut.ensures.value in
    let one = next_one g.C.Tx g.S.Shape.shape c.args.self.now.list.items (plan_in c.args.clock.now g.G.SlipLog.takes) c.args.frame c.args.slot _ c.args.trib _ c.args.len here refl c.requires.placed in
    fed_one c.args.self.now c.args.clock.now (g.F.Feed.inputs c.args.feed.now) c.args.trib _ one.maker c.requires.fed

pub fill-requires-clause-room : goal.fill-requires-clause-room
fill-requires-clause-room g c =
    let s : FrameShape = g.S.Shape.shape in
    let most = before_most (λ t. reads_from c.args.trib false (s.role t)) (c.args.slot + c.args.len) in
    let P : BoundedBits → Type 0 = λ column. g.S.Shape.LOW + 1 ≤ column.capacity in
    record {
      queue_room = omega (arith, most, c.requires.inside, c.args.self.now.room.queue);
      column_room = subst P (sym c.index_mut-2.ensures.value) (c.args.self.now.room.columns c.args.trib _ (omega (arith, c.requires.trib, c.args.self.now.room.count)));
    }

pub fill-requires-clause-clear : goal.fill-requires-clause-clear
fill-requires-clause-clear g c =
    let plan : Plan = plan_in c.args.clock.now g.G.SlipLog.takes in
    let here = slice_get_read _ _ c.args.trib _ refl (omega (arith, c.requires.trib, c.args.self.now.count)) c.index_mut.ensures.value in
    let one = next_one g.C.Tx g.S.Shape.shape c.args.self.now.list.items (plan_in c.args.clock.now g.G.SlipLog.takes) c.args.frame c.args.slot _ c.args.trib _ c.args.len here refl c.requires.placed in
    let f : ℕ = locked_to g.S.Shape.shape c.args.frame c.args.slot c.args.trib in
    let K : ℕ → Type 0 = λ k. IsClear (g.C.Tx.meaning c.index_mut.result.now) plan f k (g.F.Feed.inputs c.args.feed.now) in
    record { made = f; stands = one.was; clear = subst K (sym one.left) (c.requires.clear _ one.maker) }

-- the path of no node, where none matters
no_path : Path
no_path = record { depth = 0; first = 0; second = 0 }

pub returns-clause-ok : goal.returns-clause-ok
returns-clause-ok g c =
    let s : FrameShape = g.S.Shape.shape in
    let plan : Plan = plan_in c.args.clock.now g.G.SlipLog.takes in
    let i : ℕ = c.args.trib in
    let n : ℕ = c.args.frame in
    let t : ℕ = c.args.slot in
    let len : ℕ = c.args.len in
    let column : List Bool = c.fill.new.column.bits in
    let after : List (List Bool) = map (λ (column : BoundedBits). column.bits) (slice_set c.args.self.now.scratch.columns.items i c.fill.new.column) in
    let own = column_same c.args.self.now.scratch.columns.items i c.fill.new.column (omega (arith, c.requires.trib, c.args.self.now.room.count)) in
    let cs = c.args.self.now.list.items in
    let w = c.index_mut.result.now in
    let w' = c.fill.new.child in
    let here = slice_get_read _ _ i _ refl (omega (arith, c.requires.trib, c.args.self.now.count)) c.index_mut.ensures.value in
    let f : ℕ → ℕ = locked_to s n t in
    let f' : ℕ → ℕ = locked_to s n (t + len) in
    let one = next_one g.C.Tx s cs plan n t _ i w len here refl c.requires.placed in
    let new : Supply → ℕ → ℕ → Type 0 = filled_in g.C.Tx s i t len (f i) w w' column in
    let X : ℕ → Type 0 = λ v. Gains (g.C.Tx.meaning w) plan (held_in g.C.Tx w) new (f i) v (f i) (f i) (g.F.Feed.inputs c.args.feed.now) (g.F.Feed.inputs c.fill.new.feed) in
    on_ok_weaker c.fill.result
    (λ ok.
    let now = ok.bits (f i) one.was in
    record {
      placed = placed_one (placed_in g.C.Tx) (held_in g.C.Tx) g.C.Tx.meaning no_path plan cs i w' f f' f f' c.requires.placed (subst (Stands g.C.Tx w' plan) one.left now.placed);
      fills = λ path. passes_one (placed_in g.C.Tx) (held_in g.C.Tx) g.C.Tx.meaning path plan cs i w w' f f' f f' new (λ source. HoldsBitsOf s source n t len after i) _ _ c.args.self.now.disjoint here (subst X one.left now.gains)
          (λ supply is both.
          let locked = c.args.self.now.locked in
          let counts : ℕ → ℕ = plan.counts path i in
          let Y : List Edit → ℕ → Type 0 = λ e v. FillsColumn s i false t len (map (edited e ((g.C.Tx.meaning w).line (below supply))) (range_with_len v (carried_in s i false t len))) column in
          let none : (u : ℕ) → edits_by s path plan n u i ≡ [] = λ u. edits_none s locked plan.mode i counts n u in (
            both.0,
            holds_from s path (map g.C.Tx.meaning cs) plan supply n t len i (carried_in s i false t len) false (g.C.Tx.meaning w) after column is (sym (more_by s locked plan.mode i counts n)) one.maker own (carried_is s i false t len) (λ v h. none (t + v) ∙ sym (none t))
                (subst (λ e. Y e (read_to s path plan n t i).read) (sym (none t)) (subst (Y []) (sym (read_by s locked plan.mode i counts n t)) both.1)),
          ));
      rows = ap length own ∙ ok.rows;
    })
    c.fill.ensures.ok

pub returns-clause-halts : goal.returns-clause-halts
returns-clause-halts g c =
    let s : FrameShape = g.S.Shape.shape in
    let plan : Plan = plan_in c.args.clock.now g.G.SlipLog.takes in
    let i : ℕ = c.args.trib in
    let n : ℕ = c.args.frame in
    let t : ℕ = c.args.slot in
    let u : ℕ = t + c.args.len in
    let cs = c.args.self.now.list.items in
    let w = c.index_mut.result.now in
    let here = slice_get_read _ _ i _ refl (omega (arith, c.requires.trib, c.args.self.now.count)) c.index_mut.ensures.value in
    let f : ℕ → ℕ = locked_to s n t in
    let f' : ℕ → ℕ = locked_to s n u in
    let one = next_one g.C.Tx s cs plan n t u i w (c.args.len) here refl c.requires.placed in
    let m : Meaning = g.C.Tx.meaning w in
    let X : ℕ → Type 0 = λ v. Halts m plan (f i) v Failed (g.F.Feed.inputs c.args.feed.now) (g.F.Feed.inputs c.fill.new.feed) in
    let Y : ℕ → Type 0 = λ v. Halts m plan v (f' i) Failed (g.F.Feed.inputs c.args.feed.now) (g.F.Feed.inputs c.fill.new.feed) in
    on_err_weaker c.fill.result
    (λ halts. stays_one (held_in g.C.Tx) g.C.Tx.meaning plan (map g.C.Tx.meaning cs) i m (up_to f f' i) f' Failed _ _ c.args.self.now.disjoint one.maker
    (λ k leaf. given_more g.C.Tx.meaning plan cs (up_to f f' i) f' k (λ v n k. g.met.C.Tx.grows v plan n k) (λ j. upto_most f f' i j (let b = below_grows s j t u (omega arith) in omega arith)))
    (subst Y (sym (upto_here f f' i)) (subst X one.left (halts (f i) one.was))))
    c.fill.ensures.halts

pub returns-clause-kept : goal.returns-clause-kept
returns-clause-kept g c = record {
  all = record {
    same = map-set_same g.C.Tx.meaning c.args.self.now.list.items c.args.trib c.fill.new.child c.index_mut.result.now (c.fill.ensures.same ∙ ap g.C.Tx.meaning c.index_mut.ensures.value);
    overhead = refl;
  };
  earlier = λ j less. column_other c.args.self.now.scratch.columns.items c.args.trib j c.fill.new.column (omega (arith, less));
}

pub invariant_of-self-clause-count : goal.invariant_of-self-clause-count
invariant_of-self-clause-count g c = length-set c.args.self.now.list.items c.args.trib c.fill.new.child ∙ c.args.self.now.count

pub invariant_of-self-clause-disjoint : goal.invariant_of-self-clause-disjoint
invariant_of-self-clause-disjoint g c =
    subst IsDisjoint (sym (map-set_same g.C.Tx.meaning c.args.self.now.list.items c.args.trib c.fill.new.child c.index_mut.result.now (c.fill.ensures.same ∙ ap g.C.Tx.meaning c.index_mut.ensures.value))) c.args.self.now.disjoint

pub invariant_of-self-clause-room : goal.invariant_of-self-clause-room
invariant_of-self-clause-room g c =
    let columns = c.args.self.now.scratch.columns.items in
    let P : BoundedBits → Type 0 = λ column. g.S.Shape.LOW + 1 ≤ column.capacity in
    let was : P c.index_mut-2.result.now = subst P (sym c.index_mut-2.ensures.value) (c.args.self.now.room.columns c.args.trib _ (omega (arith, c.requires.trib, c.args.self.now.room.count))) in
    record {
      queue = omega (arith, c.args.self.now.room.queue, c.fill.ensures.room.queue_room);
      count = length-set columns c.args.trib c.fill.new.column ∙ c.args.self.now.room.count;
      columns = All-set P columns c.args.trib c.fill.new.column (omega (arith, was, c.fill.ensures.room.column_room)) c.args.self.now.room.columns;
      overhead = c.args.self.now.room.overhead;
      payload = c.args.self.now.room.payload;
    }
