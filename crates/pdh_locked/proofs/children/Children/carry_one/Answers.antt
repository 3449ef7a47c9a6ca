use Rattle.std.proofs.Common.{◌≡◌, inl, inr, ◌+◌, ◌*◌, ◌≤◌, ℕ, Bool, false, List, [], length, map, slice_set, refl, sym, ap, ◌∙◌, subst, arith}
use Rattle.std.specs.List.{slice_index_or}
use Rattle.pdh_bits.specs.BitOut.{BoundedBits}
use Rattle.std.proofs.lemmas.List.{length-set, length-drop}
use Rattle.std.proofs.lemmas.List.Elements.{All-set}
use Rattle.std.proofs.lemmas.Option.{slice_get_read}
use Rattle.pdh_shape.specs.OwnNumbers.{lead, store_size}
use Rattle.pdh_runs.specs.Pieces.{FillsColumn}
use Rattle.pdh_tx.specs.declared.queue.Queue.{Queue}
use Rattle.pdh_tx.specs.Batches.{batch}
use Rattle.pdh_tx.specs.Gathered.{waiting_in}
use Rattle.pdh_tx.proofs.Lists.{some_same, get_other}
use Rattle.pdh_tx.proofs.Moving.{slice_get_set}
use Rattle.pdh_tx.proofs.Passing.{carried_is}
use Rattle.pdh_tx.proofs.PassingAll.{column_same, column_other}
use Rattle.pdh_locked.specs.Gathered.{CarriesBits}
use Rattle.pdh_locked.proofs.children.Children.carry_one.Goals as goal

pub fill_column_at-requires-clause-within : goal.fill_column_at-requires-clause-within
fill_column_at-requires-clause-within g c =
    let there = slice_get_read _ _ c.args.trib _ refl (omega (arith, c.requires.trib, c.args.self.now.queue_count)) c.index_mut-queue.ensures.value in
    omega (arith, c.requires.can _ there)

pub fill_column_at-requires-clause-held : goal.fill_column_at-requires-clause-held
fill_column_at-requires-clause-held g c =
    let there = slice_get_read _ _ c.args.trib _ refl (omega (arith, c.requires.trib, c.args.self.now.queue_count)) c.index_mut-queue.ensures.value in
    omega (arith, c.requires.can _ there, carried_is g.S.Shape.shape c.args.trib false c.args.at.slot c.args.at.len, length-drop c.index_mut-queue.result.now.gone c.index_mut-queue.result.now.bits.bits)

pub fill_column_at-requires-clause-room : goal.fill_column_at-requires-clause-room
fill_column_at-requires-clause-room g c =
    let P : BoundedBits → Type 0 = λ column. g.S.Shape.LOW + 1 ≤ column.capacity in
    subst P (sym c.index_mut.ensures.value) (c.args.self.now.room.columns c.args.trib _ (omega (arith, c.requires.trib, c.args.self.now.room.count)))

pub returns-clause-carried : goal.returns-clause-carried
returns-clause-carried g c queue next there' now =
    let i : ℕ = c.args.trib in
    let s = g.S.Shape.shape in
    let at = c.args.at in
    let queues = c.args.self.now.queues.items in
    let q0 = c.index_mut-queue.result.now in
    let column = c.fill_column_at.new.column in
    let there = slice_get_read _ _ i _ refl (omega (arith, c.requires.trib, c.args.self.now.queue_count)) c.index_mut-queue.ensures.value in
    let q' : Queue = record { bits = q0.bits; gone = q0.gone + c.fill_column_at.result; fill = q0.fill } in
    let same_q : q0 ≡ queue = some_same (sym there ∙ there') in
    let same_next : q' ≡ next = elim (slice_get_set queues i i q' next now) [
      | inl p ↦ p.1
      | inr p ↦ absurd (p.0 refl)
    ] in
    let after : List (List Bool) = map (λ (column : BoundedBits). column.bits) (slice_set c.args.self.now.scratch.columns.items i column) in
    let got : List Bool = slice_index_or after i [] in
    let own : got ≡ column.bits = column_same c.args.self.now.scratch.columns.items i column (omega (arith, c.requires.trib, c.args.self.now.room.count)) in
    let F : List Bool → Type 0 = λ l. FillsColumn s i false at.slot at.len (waiting_in q0) l in
    let carries : CarriesBits s i at.slot at.len q0 q' got = record {
      bits = refl;
      gone = omega (arith, c.fill_column_at.ensures.carried, carried_is s i false at.slot at.len);
      fills = subst F (sym own) c.fill_column_at.ensures.fills;
      rows = ap length own ∙ c.fill_column_at.ensures.rows;
    } in
    let Y : Queue → Type 0 = λ v. CarriesBits s i at.slot at.len v next got in
    let Z : Queue → Type 0 = λ v. CarriesBits s i at.slot at.len q0 v got in
    subst Y same_q (subst Z same_next carries)

pub returns-clause-others : goal.returns-clause-others
returns-clause-others g c = record {
  queues = λ j other. get_other c.args.self.now.queues.items c.args.trib j _ other;
  others = λ j other. column_other c.args.self.now.scratch.columns.items c.args.trib j c.fill_column_at.new.column other;
}

pub invariant_of-self-clause-room : goal.invariant_of-self-clause-room
invariant_of-self-clause-room g c =
    let columns = c.args.self.now.scratch.columns.items in
    let P : BoundedBits → Type 0 = λ column. g.S.Shape.LOW + 1 ≤ column.capacity in
    let was : P c.index_mut.result.now = subst P (sym c.index_mut.ensures.value) (c.args.self.now.room.columns c.args.trib _ (omega (arith, c.requires.trib, c.args.self.now.room.count))) in
    record {
      queue = c.args.self.now.room.queue;
      count = length-set columns c.args.trib c.fill_column_at.new.column ∙ c.args.self.now.room.count;
      columns = All-set P columns c.args.trib c.fill_column_at.new.column (omega (arith, was, c.fill_column_at.ensures.capacity)) c.args.self.now.room.columns;
      overhead = c.args.self.now.room.overhead;
      payload = c.args.self.now.room.payload;
    }

pub invariant_of-self-clause-queue_count : goal.invariant_of-self-clause-queue_count
invariant_of-self-clause-queue_count g c = length-set c.args.self.now.queues.items c.args.trib _ ∙ c.args.self.now.queue_count

pub invariant_of-self-clause-queue_room : goal.invariant_of-self-clause-queue_room
invariant_of-self-clause-queue_room g c =
    let P : Queue → Type 0 = λ queue. batch * g.S.Shape.LEN + lead + store_size ≤ queue.bits.capacity in
    let was : P c.index_mut-queue.result.now = subst P (sym c.index_mut-queue.ensures.value) (c.args.self.now.queue_room c.args.trib _ (omega (arith, c.requires.trib, c.args.self.now.queue_count))) in
    All-set P c.args.self.now.queues.items c.args.trib _ was c.args.self.now.queue_room
