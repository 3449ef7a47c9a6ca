use Rattle.std.proofs.Common.{◌≡◌, ◌<◌, ◌≤◌, ◌∙◌, ◌+◌, ◌-◌, ◌*◌, ◌^◌, suc, sym, ap, subst, arith, slice_index}
use Rattle.pdh_rows.specs.Flows.{flowed, flow_count}
use Rattle.pdh_rows.specs.Stored.{stored_flow}
use Rattle.pdh_rows.proofs.Found.{IsFound, found, product_found, count_found, total_found, total_found_below}
use Rattle.pdh_rows.proofs.Tabled.{firsts_rise, last_first}
use Rattle.pdh_rows.proofs.table.Table.total_and_count.Goals as goal

pub row_with-row-requires-clause-rising : goal.row_with-row-requires-clause-rising
row_with-row-requires-clause-rising c = rw c.deref.ensures.value (firsts_rise c.args.self.now c.requires.table)

pub row_with-row-requires-clause-ended : goal.row_with-row-requires-clause-ended
row_with-row-requires-clause-ended c = rw c.deref.ensures.value
    (last_first c.args.self.now c.args.frame c.requires.table c.requires.scheduled)

row : (c : goal.After-from) → IsFound c.args.self.now c.args.frame c.row_with-row.result c.index.result.now
row c =
    let search = rw c.deref.ensures.value at c.row_with-row.ensures in
    found c.args.self.now c.args.frame c.row_with-row.result c.index.result.now c.requires.table search.row search.first search.next c.index.ensures

product : (c : goal.After-from) → suc (c.args.frame - c.index.result.now) * c.flow-flow.result.bits < 2 ^ 127
product c = subst (λ flow. suc (c.args.frame - c.index.result.now) * flow.bits < 2 ^ 127) (sym c.flow-flow.ensures)
    (product_found c.args.self.now c.args.frame c.row_with-row.result c.index.result.now c.args.trib c.requires.table c.requires.in_range (row c))

pub arrived-so_far-requires-clause-few : goal.arrived-so_far-requires-clause-few
arrived-so_far-requires-clause-few c = subst (λ n. n * c.flow-flow.result.bits < 2 ^ 128) (sym c.from.ensures) (omega (arith, product c))

so_far : (c : goal.After-arrived-so_far) → c.arrived-so_far.result ≡ flowed (stored_flow c.args.self.now c.row_with-row.result c.args.trib) (c.args.frame - c.index.result.now)
so_far c = c.arrived-so_far.ensures ∙ ap (flowed c.flow-flow.result) c.from.ensures ∙ ap (λ flow. flowed flow (c.args.frame - c.index.result.now)) c.flow-flow.ensures

-- the sum is no more than the bits before the next row
below_next : (c : goal.After-arrived-so_far)
    → slice_index c.as_slice.result.now (c.row_with-row.result * c.args.self.now.tribs + c.args.trib) + c.arrived-so_far.result
    ≤ slice_index c.as_slice.result.now ((c.row_with-row.result + 1) * c.args.self.now.tribs + c.args.trib)
below_next c = rw (so_far c, c.as_slice.ensures.value)
    (total_found_below c.args.self.now c.args.frame c.row_with-row.result c.index.result.now c.args.trib c.requires.table c.requires.in_range (row c.before))

pub overflow_cast-so_far : goal.overflow_cast-so_far
overflow_cast-so_far c = let below = below_next c in grind arith

pub overflow_add-result : goal.overflow_add-result
overflow_add-result c = let below = below_next c in grind arith

pub count-requires-clause-few : goal.count-requires-clause-few
count-requires-clause-few c = omega (arith, product c.before)

pub returns-clause-before : goal.returns-clause-before
returns-clause-before c = rw (so_far c.before, c.as_slice.ensures.value)
    (total_found c.args.self.now c.args.frame c.row_with-row.result c.index.result.now c.args.trib c.requires.table c.requires.in_range (row c.before.before))

pub returns-clause-count : goal.returns-clause-count
returns-clause-count c =
    c.count.ensures
    ∙ ap (λ flow. flow_count flow (c.args.frame - c.index.result.now)) c.flow-flow.ensures
    ∙ count_found c.args.self.now c.args.frame c.row_with-row.result c.index.result.now c.args.trib c.requires.table c.requires.in_range (row c.before.before)
