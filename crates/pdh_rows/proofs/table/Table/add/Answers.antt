use Rattle.std.proofs.Common.{◌≡◌, ◌∙◌, ◌<◌, ◌+◌, ◌-◌, ◌++◌, ◌∷◌, [], ℕ, ap, refl, arith, length, slice_index}
use Rattle.pdh_rows.specs.declared.table.Table.{Table}
use Rattle.pdh_rows.specs.Flows.{flowed, flow_in}
use Rattle.pdh_rows.specs.Stored.{rows_of, row_bits}
use Rattle.pdh_rows.proofs.Tabled.{last_before, node_frame_count-row_frames}
use Rattle.pdh_rows.proofs.Adding.{Adds, rows_added, IsTable_added}
use Rattle.pdh_rows.proofs.table.Table.add.Goals as goal

-- the sums before the end of the rows, where as many stand there as the row has counts
last_sum : (c : goal.After-push_sums-arg-2-1) (k : ℕ) → k < length c.args.numbers.now
    → slice_index c.args.self.now.before.items (length c.args.self.now.before.items - length c.args.numbers.now + k)
    ≡ row_bits (rows_of c.args.self.now) k
last_sum c k l = ap (λ n. slice_index c.args.self.now.before.items (length c.args.self.now.before.items - n + k)) c.requires.tribs
    ∙ last_before c.args.self.now k c.requires.table (omega (arith, l, c.requires.tribs))

pub push_sums-requires-clause-fits : goal.push_sums-requires-clause-fits
push_sums-requires-clause-fits c = λ k l. omega (arith, last_sum c k l, c.requires.bits_fit k (omega (arith, l, c.requires.tribs)))

pub push_sums-requires-clause-flows : goal.push_sums-requires-clause-flows
push_sums-requires-clause-flows c = λ k l. c.requires.flows k (omega (arith, l, c.requires.tribs))

pub overflow_add-frames : goal.overflow_add-frames
overflow_add-frames c = omega (arith, node_frame_count-row_frames c.args.self.now, c.requires.frames_fit)

-- the table at the return
abbrev table_after : goal.In_ok-push-3 → Table
table_after c = record {
  tribs = c.args.self.now.tribs;
  ratio = c.args.self.now.ratio;
  repeats = c.push-3.new.self;
  firsts = c.push-2.new.self;
  says = c.push.new.self;
  numbers = c.extend_from_slice.new.self;
  before = c.push_sums.new.before;
}

adds : (c : goal.In_ok-push-3) → Adds c.args.self.now (table_after c) c.args.repeat c.args.says c.args.numbers.now
adds c = record {
  tribs = refl;
  ratio = refl;
  len = c.requires.tribs;
  repeats = c.in_ok-push-3.ensures.items;
  says_is = c.in_ok-push.ensures.items;
  numbers_is = c.in_ok-extend_from_slice.ensures.items;
  flows = c.requires.flows;
  firsts = c.in_ok-push-2.ensures.items
      ∙ ap (λ n. c.args.self.now.firsts.items ++ n ∷ []) (omega (arith, node_frame_count-row_frames c.args.self.now));
  before_len = c.in_ok-push_sums.ensures.len ∙ ap (λ n. length c.args.self.now.before.items + n) c.requires.tribs;
  before_kept = c.in_ok-push_sums.ensures.kept;
  before_sums = λ trib m.
      let l : trib < length c.args.numbers.now = omega (arith, m, c.requires.tribs) in
      c.in_ok-push_sums.ensures.sums trib l ∙ ap (λ n. n + flowed (flow_in c.args.self.now.ratio c.args.says (slice_index c.args.numbers.now trib)) c.args.repeat)
      (ap (λ n. slice_index c.args.self.now.before.items (length c.args.self.now.before.items - n + trib)) c.requires.tribs
      ∙ last_before c.args.self.now trib c.requires.table m);
}

pub returns-clause-table : goal.returns-clause-table
returns-clause-table c = IsTable_added c.args.self.now (table_after c) c.args.repeat c.args.says c.args.numbers.now c.requires.table (adds c)

pub returns-clause-rows : goal.returns-clause-rows
returns-clause-rows c = rows_added c.args.self.now (table_after c) c.args.repeat c.args.says c.args.numbers.now c.requires.table (adds c)
