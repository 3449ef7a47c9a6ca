use Rattle.std.proofs.Common.{◌≡◌, ◌≤◌, ◌∙◌, ◌<◌, ◌+◌, ◌-◌, ◌*◌, ◌^◌, refl, sym, ap, subst, arith, length, slice_index}
use Rattle.std.proofs.lemmas.List.{get_or_default}
use Rattle.pdh_line.specs.Progress.{arrived}
use Rattle.pdh_rows.specs.Flows.{flowed}
use Rattle.pdh_rows.specs.Stored.{stored_flow}
use Rattle.pdh_rows.proofs.FlowLaws.{product-fits}
use Rattle.pdh_rows.proofs.Tabled.{firsts_rise, last_first, total_in_row, total_below_next, frames_so_far}
use Rattle.pdh_rows.proofs.table.Table.total.Goals as goal

pub returns-then-frames-eq0 : goal.returns-then-frames-eq0
unfolding arrived
returns-then-frames-eq0 c = rw c.if-frames-eq0.true refl

pub row_with-row-requires-clause-rising : goal.row_with-row-requires-clause-rising
row_with-row-requires-clause-rising c = rw c.deref.ensures.value (firsts_rise c.args.self.now c.requires.table)

pub row_with-row-requires-clause-ended : goal.row_with-row-requires-clause-ended
row_with-row-requires-clause-ended c = rw c.deref.ensures.value
    (last_first c.args.self.now _ c.requires.table (omega (arith, c.requires.scheduled)))

-- what the search found, and the value that is read there
record IsFound (c : goal.After-from) : Type 0 where
  row : c.row_with-row.result < length c.args.self.now.repeats.items
  low : slice_index c.args.self.now.firsts.items c.row_with-row.result ≤ c.args.frames
  high : c.args.frames ≤ slice_index c.args.self.now.firsts.items (c.row_with-row.result + 1)
  first : c.index.result.now ≡ slice_index c.args.self.now.firsts.items c.row_with-row.result

found : (c : goal.After-from) → IsFound c
found c =
    let t = c.args.self.now in
    let search = rw c.deref.ensures.value at c.row_with-row.ensures in
    record {
      row = omega (arith, search.row, c.requires.table.firsts_len);
      low = omega (arith, search.first);
      high = omega (arith, search.next);
      first = c.index.ensures ∙ get_or_default t.firsts.items _ c.index.result.now 0 (omega (arith, search.row));
    }

pub arrived-so_far-requires-clause-few : goal.arrived-so_far-requires-clause-few
arrived-so_far-requires-clause-few c =
    let t = c.args.self.now in
    let f = found c in
    let inside : c.from.result ≤ slice_index t.repeats.items c.row_with-row.result =
    omega (arith, c.from.ensures, f.first, frames_so_far t c.row_with-row.result c.args.frames c.requires.table f.row f.high) in
    let fits = product-fits (stored_flow t c.row_with-row.result c.args.trib) (slice_index t.repeats.items c.row_with-row.result)
    c.from.result (c.requires.table.fits c.row_with-row.result c.args.trib f.row c.requires.in_range) inside in
    subst (λ flow. c.from.result * flow.bits < 2 ^ 128) (sym c.flow.ensures) (omega (arith, fits))

-- the bits in the row
so_far : (c : goal.After-arrived-so_far) → c.arrived-so_far.result
    ≡ flowed (stored_flow c.args.self.now c.row_with-row.result c.args.trib) (c.args.frames - slice_index c.args.self.now.firsts.items c.row_with-row.result)
so_far c =
    let t = c.args.self.now in
    let f = found c.before in
    c.arrived-so_far.ensures ∙ ap (flowed c.flow.result) (c.from.ensures ∙ ap (λ n. c.args.frames - n) f.first)
    ∙ ap (λ flow. flowed flow (c.args.frames - slice_index t.firsts.items c.row_with-row.result)) c.flow.ensures

-- the sum is no more than the bits before the next row
below_next : (c : goal.After-arrived-so_far)
    → slice_index c.as_slice.result.now (c.row_with-row.result * c.args.self.now.tribs + c.args.trib) + c.arrived-so_far.result
    ≤ slice_index c.as_slice.result.now ((c.row_with-row.result + 1) * c.args.self.now.tribs + c.args.trib)
below_next c =
    let f = found c.before in
    rw (so_far c, c.as_slice.ensures.value)
    (total_below_next c.args.self.now c.row_with-row.result c.args.trib c.args.frames c.requires.table f.row c.requires.in_range f.high)

pub overflow_cast-result : goal.overflow_cast-result
overflow_cast-result c = let below = below_next c in grind arith

pub overflow_add-result : goal.overflow_add-result
overflow_add-result c = let below = below_next c in grind arith

pub returns : goal.returns
returns c =
    let f = found c.before in
    rw (so_far c, c.as_slice.ensures.value)
    (sym (total_in_row c.args.self.now c.row_with-row.result c.args.trib c.args.frames c.requires.table f.row c.requires.in_range
    f.low f.high))
