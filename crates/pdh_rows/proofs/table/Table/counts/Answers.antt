use Rattle.std.proofs.Common.{◌≡◌, ◌<◌, ◌∙◌, ◌-◌, ◌*◌, ◌^◌, suc, sym, ap, subst, arith}
use Rattle.std.proofs.lemmas.Grind.{common_steps}
use Rattle.pdh_rows.specs.Flows.{flow_count}
use Rattle.pdh_rows.specs.Rows.{node_counts}
use Rattle.pdh_rows.specs.Stored.{rows_of}
use Rattle.pdh_rows.proofs.Found.{IsFound, found, product_found, count_found}
use Rattle.pdh_rows.proofs.Tabled.{firsts_rise, last_first}
use Rattle.pdh_rows.proofs.table.Table.counts.Goals as goal

pub row_with-row-requires-clause-rising : goal.row_with-row-requires-clause-rising
row_with-row-requires-clause-rising c = rw c.deref.ensures.value (firsts_rise c.args.self.now c.requires.table)

pub row_with-row-requires-clause-ended : goal.row_with-row-requires-clause-ended
row_with-row-requires-clause-ended c = rw c.deref.ensures.value
    (last_first c.args.self.now c.args.frame c.requires.table c.requires.scheduled)

row : (c : goal.After-flow) → IsFound c.args.self.now c.args.frame c.row_with-row.result c.index.result.now
row c =
    let search = rw c.deref.ensures.value at c.row_with-row.ensures in
    found c.args.self.now c.args.frame c.row_with-row.result c.index.result.now c.requires.table search.row search.first search.next c.index.ensures

pub count-requires-clause-few : goal.count-requires-clause-few
count-requires-clause-few c =
    let product = product_found c.args.self.now c.args.frame c.row_with-row.result c.index.result.now c.loop-trib.trib c.requires.table c.loop-trib-test.true (row c) in
    subst (λ flow. suc (c.args.frame - c.index.result.now) * flow.bits < 2 ^ 128) (sym c.flow.ensures) (omega (arith, product))

pub loop-trib-preserved : goal.loop-trib-preserved
loop-trib-preserved c =
    let count : c.count.result ≡ node_counts (rows_of c.args.self.now) c.loop-trib.trib c.args.frame =
    c.count.ensures ∙ ap (λ flow. flow_count flow (c.args.frame - c.index.result.now)) c.flow.ensures
    ∙ count_found c.args.self.now c.args.frame c.row_with-row.result c.index.result.now c.loop-trib.trib c.requires.table c.loop-trib-test.true (row c.before) in
    record {
      read = λ k l. grind (arith, common_steps, c.loop-trib.invariant.read k);
      others = λ k l. grind (arith, common_steps, c.loop-trib.invariant.others k);
    }
