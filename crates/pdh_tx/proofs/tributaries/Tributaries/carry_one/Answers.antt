use Rattle.std.proofs.Common.{◌≡◌, inl, inr, ◌+◌, ◌*◌, ◌≤◌, ℕ, Bool, List, [], length, map, slice_set, refl, sym, ap, ◌∙◌, subst, arith}
use Rattle.std.specs.List.{slice_index_or}
use Rattle.pdh_bits.specs.BitOut.{BoundedBits}
use Rattle.std.proofs.lemmas.List.{length-set}
use Rattle.std.proofs.lemmas.List.Elements.{All-set}
use Rattle.std.proofs.lemmas.Option.{slice_get_read}
use Rattle.pdh_shape.specs.OwnNumbers.{lead, store_size}
use Rattle.pdh_runs.specs.Pieces.{FillsColumn}
use Rattle.pdh_tx.specs.declared.queue.Queue.{Queue}
use Rattle.pdh_tx.specs.declared.tributary.Tributary.{Tributary}
use Rattle.pdh_tx.specs.Batches.{batch}
use Rattle.pdh_tx.specs.Gathered.{CarriesBits, waiting_in}
use Rattle.pdh_tx.proofs.Lists.{some_same, get_at, get_other}
use Rattle.pdh_tx.proofs.Moving.{slice_get_set}
use Rattle.pdh_tx.proofs.PassingAll.{column_same, column_other}
use Rattle.pdh_tx.proofs.tributaries.Tributaries.carry_one.Goals as goal

pub arriving-arriving-requires-clause-fits : goal.arriving-arriving-requires-clause-fits
arriving-arriving-requires-clause-fits g c =
    let i : ℕ = c.args.trib in
    let here = slice_get_read _ _ i _ refl (omega (arith, c.requires.trib, c.args.self.now.count)) c.index.ensures in
    let queue = get_at c.args.self.now.queues.items i (omega (arith, c.requires.trib, c.args.self.now.queue_count)) in
    omega (arith, (c.requires.can _ queue.0 here queue.1).fits, g.met.S.Shape.len_is)

pub pass-requires-clause-held : goal.pass-requires-clause-held
pass-requires-clause-held g c =
    let i : ℕ = c.args.trib in
    let here = slice_get_read _ _ i _ refl (omega (arith, c.requires.trib, c.args.self.now.count)) c.index.ensures in
    let there = slice_get_read _ _ i _ refl (omega (arith, c.requires.trib, c.args.self.now.queue_count)) c.index_mut.ensures.value in
    omega (arith, (c.requires.can _ _ here there).held, c.arriving-arriving.ensures)

pub pass-requires-clause-enough : goal.pass-requires-clause-enough
pass-requires-clause-enough g c =
    let i : ℕ = c.args.trib in
    let here = slice_get_read _ _ i _ refl (omega (arith, c.requires.trib, c.args.self.now.count)) c.index.ensures in
    let there = slice_get_read _ _ i _ refl (omega (arith, c.requires.trib, c.args.self.now.queue_count)) c.index_mut.ensures.value in
    omega (arith, (c.requires.can _ _ here there).enough, c.arriving-arriving.ensures)

pub pass-requires-clause-room : goal.pass-requires-clause-room
pass-requires-clause-room g c =
    let P : BoundedBits → Type 0 = λ column. g.S.Shape.LOW + 1 ≤ column.capacity in
    subst P (sym c.index_mut-2.ensures.value) (c.args.self.now.room.columns c.args.trib _ (omega (arith, c.requires.trib, c.args.self.now.room.count)))

pub returns-clause-carried : goal.returns-clause-carried
returns-clause-carried g c w queue next here' there' now =
    let i : ℕ = c.args.trib in
    let s = g.S.Shape.shape in
    let at = c.args.at in
    let queues = c.args.self.now.queues.items in
    let w0 = c.index.result.now in
    let q0 = c.index_mut.result.now in
    let q' = c.pass.new.self in
    let column = c.pass.new.column in
    let here = slice_get_read _ _ i _ refl (omega (arith, c.requires.trib, c.args.self.now.count)) c.index.ensures in
    let there = slice_get_read _ _ i _ refl (omega (arith, c.requires.trib, c.args.self.now.queue_count)) c.index_mut.ensures.value in
    let same_w : w0 ≡ w = some_same (sym here ∙ here') in
    let same_q : q0 ≡ queue = some_same (sym there ∙ there') in
    let same_next : q' ≡ next = elim (slice_get_set queues i i q' next now) [
      | inl p ↦ p.1
      | inr p ↦ absurd (p.0 refl)
    ] in
    let after : List (List Bool) = map (λ (column : BoundedBits). column.bits) (slice_set c.args.self.now.scratch.columns.items i column) in
    let got : List Bool = slice_index_or after i [] in
    let own : got ≡ column.bits = column_same c.args.self.now.scratch.columns.items i column (omega (arith, c.requires.trib, c.args.self.now.room.count)) in
    let passed = c.pass.ensures in
    let F : List Bool → Type 0 = λ l. FillsColumn s i w0.share.more at.slot at.len (waiting_in q0) l in
    let carries : CarriesBits s i w0.share at.slot at.len q0 q' got = record {
      bits = passed.bits;
      gone = passed.gone;
      fill = omega (arith, passed.fill, c.arriving-arriving.ensures);
      fills = subst F (sym own) passed.fills;
      rows = ap length own ∙ passed.rows;
    } in
    let X : Tributary _ → Type 0 = λ v. CarriesBits s i v.share at.slot at.len queue next got in
    let Y : Queue → Type 0 = λ v. CarriesBits s i w0.share at.slot at.len v next got in
    let Z : Queue → Type 0 = λ v. CarriesBits s i w0.share at.slot at.len q0 v got in
    subst X same_w (subst Y same_q (subst Z same_next carries))

pub returns-clause-others : goal.returns-clause-others
returns-clause-others g c = record {
  queues = λ j other. get_other c.args.self.now.queues.items c.args.trib j c.pass.new.self other;
  others = λ j other. column_other c.args.self.now.scratch.columns.items c.args.trib j c.pass.new.column other;
}

pub invariant_of-self-clause-room : goal.invariant_of-self-clause-room
invariant_of-self-clause-room g c =
    let columns = c.args.self.now.scratch.columns.items in
    let P : BoundedBits → Type 0 = λ column. g.S.Shape.LOW + 1 ≤ column.capacity in
    let was : P c.index_mut-2.result.now = subst P (sym c.index_mut-2.ensures.value) (c.args.self.now.room.columns c.args.trib _ (omega (arith, c.requires.trib, c.args.self.now.room.count))) in
    record {
      queue = c.args.self.now.room.queue;
      count = length-set columns c.args.trib c.pass.new.column ∙ c.args.self.now.room.count;
      columns = All-set P columns c.args.trib c.pass.new.column (omega (arith, was, c.pass.ensures.capacity)) c.args.self.now.room.columns;
      overhead = c.args.self.now.room.overhead;
      payload = c.args.self.now.room.payload;
    }

pub invariant_of-self-clause-queue_count : goal.invariant_of-self-clause-queue_count
invariant_of-self-clause-queue_count g c = length-set c.args.self.now.queues.items c.args.trib c.pass.new.self ∙ c.args.self.now.queue_count

pub invariant_of-self-clause-queue_room : goal.invariant_of-self-clause-queue_room
invariant_of-self-clause-queue_room g c =
    let P : Queue → Type 0 = λ queue. batch * g.S.Shape.LEN + lead + store_size ≤ queue.bits.capacity in
    let was : P c.index_mut.result.now = subst P (sym c.index_mut.ensures.value) (c.args.self.now.queue_room c.args.trib _ (omega (arith, c.requires.trib, c.args.self.now.queue_count))) in
    All-set P c.args.self.now.queues.items c.args.trib c.pass.new.self (omega (arith, was, ap (λ bits. bits.capacity) c.pass.ensures.bits)) c.args.self.now.queue_room
