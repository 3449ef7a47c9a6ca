use Rattle.std.proofs.Common.{◌<◌, ◌∙◌, ◌-◌, ◌*◌, ◌^◌, suc, sym, ap, subst, arith}
use Rattle.pdh_rows.specs.Flows.{flow_count}
use Rattle.pdh_rows.proofs.Found.{IsFound, found, product_found, count_found}
use Rattle.pdh_rows.proofs.Tabled.{firsts_rise, last_first}
use Rattle.pdh_rows.proofs.table.Table.count.Goals as goal
use Rattle.pdh_rows.proofs.table.Table.count.Goals.{After-index}

pub row_with-row-requires-clause-rising : goal.row_with-row-requires-clause-rising
row_with-row-requires-clause-rising c = rw c.deref.ensures.value (firsts_rise c.args.self.now c.requires.table)

pub row_with-row-requires-clause-ended : goal.row_with-row-requires-clause-ended
row_with-row-requires-clause-ended c = rw c.deref.ensures.value
    (last_first c.args.self.now c.args.frame c.requires.table c.requires.scheduled)

row : (c : After-index) → IsFound c.args.self.now c.args.frame c.row_with-row.result c.index.result.now
row c =
    let search = rw c.deref.ensures.value at c.row_with-row.ensures in
    found c.args.self.now c.args.frame c.row_with-row.result c.index.result.now c.requires.table search.row search.first search.next c.index.ensures

pub count-requires-clause-few : goal.count-requires-clause-few
count-requires-clause-few c =
    let product = product_found c.args.self.now c.args.frame c.row_with-row.result c.index.result.now c.args.trib c.requires.table c.requires.in_range (row c.before) in
    subst (λ flow. suc (c.args.frame - c.index.result.now) * flow.bits < 2 ^ 128) (sym c.flow.ensures) (omega (arith, product))

pub returns : goal.returns
returns c =
    c.count.ensures
    ∙ ap (λ flow. flow_count flow (c.args.frame - c.index.result.now)) c.flow.ensures
    ∙ count_found c.args.self.now c.args.frame c.row_with-row.result c.index.result.now c.args.trib c.requires.table c.requires.in_range (row c.before.before)
