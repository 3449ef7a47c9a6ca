use Rattle.std.proofs.Common.{◌≡◌, ◌+◌, ◌≤◌, ℕ, Bool, List, length, map, slice_set, refl, sym, ap, ◌∙◌, subst, arith, Some}
use Rattle.pdh_bits.specs.BitOut.{BoundedBits}
use Rattle.std.proofs.lemmas.List.{length-set}
use Rattle.std.proofs.lemmas.List.Elements.{All-set}
use Rattle.std.proofs.lemmas.Option.{slice_get_read}
use Rattle.std.proofs.lemmas.Result.{on_ok_weaker, on_err_weaker}
use Rattle.std.proofs.Math.Seq.{map-set_same}
use Rattle.pdh_shape.specs.Frame.{FrameShape}
use Rattle.pdh_tx.specs.declared.tx.TxStop.TheVariants.{Failed}
use Rattle.pdh_tx.specs.Meaning.{plan_in, Plan, Supply, Meaning}
use Rattle.pdh_tx.specs.Held.{Readout, with_read, Gains, Halts}
use Rattle.pdh_tx.specs.Making.{IsClear}
use Rattle.pdh_tx.specs.Tributary.{placed_in, held_in, meaning_in, share_in}
use Rattle.pdh_tx.specs.Node.{IsDisjoint, below, came_at}
use Rattle.pdh_tx.specs.Slipping.{read_to}
use Rattle.pdh_tx.specs.Passing.{carried_in, passed_in, made_through, HoldsBitsOf}
use Rattle.pdh_tx.specs.laws.Growing.{given_more}
use Rattle.pdh_tx.proofs.Feeding.{fed_one}
use Rattle.pdh_tx.proofs.Moving.{stays_one}
use Rattle.pdh_tx.proofs.Advancing.{upto_here, upto_most}
use Rattle.pdh_tx.proofs.Passing.{carried_is}
use Rattle.pdh_tx.proofs.PassingAll.{placed_one, passes_one, holds_from, came_grows, column_same, column_other}
use Rattle.pdh_tx.proofs.OnePasses.{next_one}
use Rattle.pdh_tx.proofs.tributaries.Tributaries.pass_one.Goals as goal

pub pass-requires-clause-fed : goal.pass-requires-clause-fed
pass-requires-clause-fed g c =
    let here = slice_get_read _ _ c.args.trib _ refl (omega (arith, c.requires.trib, c.args.self.now.count)) c.index_mut-tributary.ensures.value in
    fed_one c.args.self.now c.args.at.path c.args.clock.now (g.F.Feed.inputs c.args.feed.now) c.args.trib _ here c.requires.fed

pub pass-requires-clause-room : goal.pass-requires-clause-room
pass-requires-clause-room g c =
    let here = slice_get_read _ _ c.args.trib _ refl (omega (arith, c.requires.trib, c.args.self.now.count)) c.index_mut-tributary.ensures.value in
    let one = next_one g.met.S.Shape.is_frame c.args.self.now (plan_in c.args.clock.now g.G.SlipLog.takes) c.args.at c.args.trib _ c.arriving-arriving.result here (omega (arith, c.requires.inside, g.met.S.Shape.len_is)) c.requires.decided c.requires.placed c.arriving-arriving.ensures in
    let P : BoundedBits → Type 0 = λ column. g.S.Shape.LOW + 1 ≤ column.capacity in
    record {
      queue_room = omega (arith, c.args.self.now.room.queue, one.few, g.met.S.Shape.len_is);
      column_room = subst P (sym c.index_mut.ensures.value) (c.args.self.now.room.columns c.args.trib _ (omega (arith, c.requires.trib, c.args.self.now.room.count)));
    }

pub pass-requires-clause-clear : goal.pass-requires-clause-clear
pass-requires-clause-clear g c =
    let plan : Plan = plan_in c.args.clock.now g.G.SlipLog.takes in
    let here = slice_get_read _ _ c.args.trib _ refl (omega (arith, c.requires.trib, c.args.self.now.count)) c.index_mut-tributary.ensures.value in
    let one = next_one g.met.S.Shape.is_frame c.args.self.now (plan_in c.args.clock.now g.G.SlipLog.takes) c.args.at c.args.trib _ c.arriving-arriving.result here (omega (arith, c.requires.inside, g.met.S.Shape.len_is)) c.requires.decided c.requires.placed c.arriving-arriving.ensures in
    let f : ℕ = came_at g.S.Shape.shape c.args.at.path plan c.args.at.frame c.args.at.slot c.args.trib in
    let can = c.requires.clear _ one.maker in
    let left = one.left (can.unchanged c.args.at.len (omega arith)) in
    let K : ℕ → Type 0 = λ k. IsClear (meaning_in g.C.Tx c.index_mut-tributary.result.now) plan f k (g.F.Feed.inputs c.args.feed.now) in
    record {
      made = f;
      out = read_to g.S.Shape.shape c.args.at.path plan c.args.at.frame c.args.at.slot c.args.trib;
      placed = one.was;
      clear = subst K (sym one.came) can.clear;
      enough = omega (arith, can.enough, one.was.count, left.gone, left.put);
      few = λ held. (let few = can.few (omega (arith, one.was.count, held)) in omega (arith, few, one.was.count, left.gone, left.put));
    }

pub returns-clause-ok : goal.returns-clause-ok
returns-clause-ok g c =
    let s : FrameShape = g.S.Shape.shape in
    let plan : Plan = plan_in c.args.clock.now g.G.SlipLog.takes in
    let at = c.args.at in
    let i : ℕ = c.args.trib in
    let ws = c.args.self.now.list.items in
    let w = c.index_mut-tributary.result.now in
    let w' = c.pass.new.self in
    let here = slice_get_read _ _ i _ refl (omega (arith, c.requires.trib, c.args.self.now.count)) c.index_mut-tributary.ensures.value in
    let one = next_one g.met.S.Shape.is_frame c.args.self.now plan at i w c.arriving-arriving.result here (omega (arith, c.requires.inside, g.met.S.Shape.len_is)) c.requires.decided c.requires.placed c.arriving-arriving.ensures in
    let u : ℕ = at.slot + at.len in
    let f : ℕ → ℕ = came_at s at.path plan at.frame at.slot in
    let f' : ℕ → ℕ = came_at s at.path plan at.frame u in
    let h : ℕ → Readout = read_to s at.path plan at.frame at.slot in
    let h' : ℕ → Readout = read_to s at.path plan at.frame u in
    let can = c.requires.clear _ one.maker in
    let left = one.left (can.unchanged at.len (omega arith)) in
    let column = c.pass.new.column in
    let after : List (List Bool) = map (λ (column : BoundedBits). column.bits) (slice_set c.args.self.now.scratch.columns.items i column) in
    let own = column_same c.args.self.now.scratch.columns.items i column (omega (arith, c.requires.trib, c.args.self.now.room.count)) in
    let gone : ℕ = carried_in s i w.share.more at.slot at.len in
    let new : Supply → ℕ → Readout → Type 0 = passed_in g.C.Tx s i at.slot at.len w w' column.bits in
    let X : ℕ → Type 0 = λ v. placed_in g.C.Tx w' plan v (with_read gone (h i)) in
    let Y : Readout → Type 0 = λ v. placed_in g.C.Tx w' plan (f' i) v in
    let Z : ℕ → Type 0 = λ v. Gains (meaning_in g.C.Tx w) plan (held_in g.C.Tx w) new (f i) v (h i) (h i) (g.F.Feed.inputs c.args.feed.now) (g.F.Feed.inputs c.pass.new.feed) in
    let same : meaning_in g.C.Tx w' ≡ meaning_in g.C.Tx w = c.pass.ensures.kept.same in
    on_ok_weaker c.pass.result
    (λ ok.
    let now = ok.bits (f i) (h i) one.was in
    record {
      placed = placed_one (placed_in g.C.Tx) (held_in g.C.Tx) (meaning_in g.C.Tx) at.path plan ws i w' f f' h h' c.requires.placed (subst Y left.out (subst X one.came now.placed));
      passes = passes_one (placed_in g.C.Tx) (held_in g.C.Tx) (meaning_in g.C.Tx) at.path plan ws i w w' f f' h h' new (λ source. HoldsBitsOf s source at.frame at.slot at.len after i) _ _ c.args.self.now.disjoint here (subst Z one.came now.gains)
          (λ supply is both.
          let V : Readout → Type 0 = λ v. held_in g.C.Tx w' (below supply) (f' i) v in (
            subst V left.out both.0,
            holds_from s at.path (map (meaning_in g.C.Tx) ws) plan supply at.frame at.slot at.len i gone w.share.more (meaning_in g.C.Tx w') after column.bits is one.share.more (one.maker ∙ ap Some (sym same)) own (carried_is s i w.share.more at.slot at.len) can.unchanged both.1,
          ));
      rows = ap length own ∙ ok.rows;
    })
    c.pass.ensures.ok

pub returns-clause-halts : goal.returns-clause-halts
returns-clause-halts g c =
    let s : FrameShape = g.S.Shape.shape in
    let plan : Plan = plan_in c.args.clock.now g.G.SlipLog.takes in
    let at = c.args.at in
    let i : ℕ = c.args.trib in
    let ws = c.args.self.now.list.items in
    let w = c.index_mut-tributary.result.now in
    let here = slice_get_read _ _ i _ refl (omega (arith, c.requires.trib, c.args.self.now.count)) c.index_mut-tributary.ensures.value in
    let one = next_one g.met.S.Shape.is_frame c.args.self.now plan at i w c.arriving-arriving.result here (omega (arith, c.requires.inside, g.met.S.Shape.len_is)) c.requires.decided c.requires.placed c.arriving-arriving.ensures in
    let u : ℕ = at.slot + at.len in
    let f : ℕ → ℕ = came_at s at.path plan at.frame at.slot in
    let f' : ℕ → ℕ = came_at s at.path plan at.frame u in
    let m : Meaning = meaning_in g.C.Tx w in
    let X : ℕ → Type 0 = λ v. Halts m plan (f i) v Failed (g.F.Feed.inputs c.args.feed.now) (g.F.Feed.inputs c.pass.new.feed) in
    let Y : ℕ → Type 0 = λ v. Halts m plan v (f' i) Failed (g.F.Feed.inputs c.args.feed.now) (g.F.Feed.inputs c.pass.new.feed) in
    on_err_weaker c.pass.result
    (λ halts. stays_one (held_in g.C.Tx) (meaning_in g.C.Tx) plan (map (meaning_in g.C.Tx) ws) i m (made_through s plan at i) f' Failed _ _ c.args.self.now.disjoint one.maker
    (λ k leaf. given_more (meaning_in g.C.Tx) plan ws (made_through s plan at i) f' k (λ v n k. g.met.C.Tx.grows v.child plan n k) (λ j. upto_most f f' i j (came_grows s (plan.counts at.path j) at.frame at.slot u g.met.S.Shape.is_frame (omega arith))))
    (subst Y (sym (upto_here f f' i)) (subst X one.came (halts (f i) (read_to s at.path plan at.frame at.slot i) one.was))))
    c.pass.ensures.halts

pub returns-clause-kept : goal.returns-clause-kept
returns-clause-kept g c = record {
  all = record {
    same = map-set_same (meaning_in g.C.Tx) c.args.self.now.list.items c.args.trib c.pass.new.self c.index_mut-tributary.result.now (c.pass.ensures.kept.same ∙ ap (meaning_in g.C.Tx) c.index_mut-tributary.ensures.value);
    same_shares = map-set_same share_in c.args.self.now.list.items c.args.trib c.pass.new.self c.index_mut-tributary.result.now (c.pass.ensures.kept.share ∙ ap share_in c.index_mut-tributary.ensures.value);
    overhead = refl;
  };
  earlier = λ j less. column_other c.args.self.now.scratch.columns.items c.args.trib j c.pass.new.column (omega (arith, less));
}

pub invariant_of-self-clause-count : goal.invariant_of-self-clause-count
invariant_of-self-clause-count g c = length-set c.args.self.now.list.items c.args.trib c.pass.new.self ∙ c.args.self.now.count

pub invariant_of-self-clause-disjoint : goal.invariant_of-self-clause-disjoint
invariant_of-self-clause-disjoint g c =
    subst IsDisjoint (sym (map-set_same (meaning_in g.C.Tx) c.args.self.now.list.items c.args.trib c.pass.new.self c.index_mut-tributary.result.now (c.pass.ensures.kept.same ∙ ap (meaning_in g.C.Tx) c.index_mut-tributary.ensures.value))) c.args.self.now.disjoint

pub invariant_of-self-clause-room : goal.invariant_of-self-clause-room
invariant_of-self-clause-room g c =
    let columns = c.args.self.now.scratch.columns.items in
    let P : BoundedBits → Type 0 = λ column. g.S.Shape.LOW + 1 ≤ column.capacity in
    let was : P c.index_mut.result.now = subst P (sym c.index_mut.ensures.value) (c.args.self.now.room.columns c.args.trib _ (omega (arith, c.requires.trib, c.args.self.now.room.count))) in
    record {
      queue = omega (arith, c.args.self.now.room.queue, c.pass.ensures.room.queue_room);
      count = length-set columns c.args.trib c.pass.new.column ∙ c.args.self.now.room.count;
      columns = All-set P columns c.args.trib c.pass.new.column (omega (arith, was, c.pass.ensures.room.column_room)) c.args.self.now.room.columns;
      overhead = c.args.self.now.room.overhead;
      payload = c.args.self.now.room.payload;
    }
