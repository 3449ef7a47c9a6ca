use Rattle.std.proofs.Common.{◌∙◌, ◌+◌, ◌<◌, ◌^◌, ◌∷◌, [], ◌++◌, ap, sym, subst, arith, take, slice_index}
use Rattle.pdh_rows.specs.declared.flow.Says.TheVariants.{Rates}
use Rattle.pdh_rows.specs.Flows.{flowed, flow_in}
use Rattle.pdh_rows.specs.Stored.{row_frames, row_bits, said_row}
use Rattle.pdh_clock.proofs.MadeRows.{SaysMade, made_rows-none, said-few, said-fits, said-made, says_made}
use Rattle.pdh_clock.proofs.made.made_table.Goals as goal

pub returns-then-frames-eq0-clause-rows : goal.returns-then-frames-eq0-clause-rows
returns-then-frames-eq0-clause-rows c =
    c.in_ok-table.ensures.rows ∙ sym (made_rows-none c.args.level.now c.args.clocks.bias c.args.clocks.height c.args.clocks.line c.args.frames c.if-frames-eq0.true)

-- what the row says
says : (c : goal.After-rates-1)
    → SaysMade c.args.level.now c.args.clocks.bias c.args.clocks.height c.args.clocks.line c.in_ok-table.table.ratio c.scale-line.result (take c.store_count-stores.result c.rates-rates.result)
says c = says_made c.args.level.now c.args.clocks.bias c.args.clocks.height c.args.clocks.line c.in_ok-table.table.ratio c.scale-line.result c.store_count-stores.result c.rates-rates.result
    c.requires.level (c.in_ok-table.ensures.ratio ∙ c.ratio_of.ensures) c.scale-line.ensures c.store_count-stores.ensures (omega (arith, c.rates-rates.type_inv)) c.rates-rates.ensures

pub add-requires-clause-flows : goal.add-requires-clause-flows
add-requires-clause-flows c = λ trib m.
    said-fits c.args.level.now c.args.clocks.bias c.args.clocks.height c.args.clocks.line _ _ _ c.args.frames trib (says c) c.requires.level c.requires.rated c.requires.few
    (omega (arith, m, c.in_ok-table.ensures.tribs, c.store_count-stores.ensures))

pub add-requires-clause-frames_fit : goal.add-requires-clause-frames_fit
add-requires-clause-frames_fit c = subst (λ rows. row_frames rows + c.args.frames < 2 ^ 64) (sym c.in_ok-table.ensures.rows) (let few = c.requires.few in omega arith)

pub add-requires-clause-bits_fit : goal.add-requires-clause-bits_fit
add-requires-clause-bits_fit c = λ trib m.
    let few = said-few c.args.level.now c.args.clocks.bias c.args.clocks.height c.args.clocks.line _ _ _ c.args.frames trib (says c) c.requires.level c.requires.rated c.requires.few
    (omega (arith, m, c.in_ok-table.ensures.tribs, c.store_count-stores.ensures)) in
    subst (λ rows. row_bits rows trib + flowed (flow_in c.in_ok-table.table.ratio (Rates c.scale-line.result) (slice_index (take c.store_count-stores.result c.rates-rates.result) trib)) c.args.frames < 2 ^ 64)
    (sym c.in_ok-table.ensures.rows) (omega (arith, few))

pub returns-clause-rows : goal.returns-clause-rows
returns-clause-rows c =
    let says = says_made c.args.level.now c.args.clocks.bias c.args.clocks.height c.args.clocks.line c.in_ok-table.table.ratio c.scale-line.result c.store_count-stores.result c.rates-rates.result
    c.requires.level (c.in_ok-table.ensures.ratio ∙ c.ratio_of.ensures) c.scale-line.ensures c.store_count-stores.ensures (omega (arith, c.rates-rates.type_inv)) c.rates-rates.ensures in
    c.in_ok-add.ensures.rows
    ∙ ap (λ rows. rows ++ said_row c.in_ok-table.table.ratio c.args.frames (Rates c.scale-line.result) (take c.store_count-stores.result c.rates-rates.result) ∷ []) c.in_ok-table.ensures.rows
    ∙ said-made c.args.level.now c.args.clocks.bias c.args.clocks.height c.args.clocks.line _ _ _ c.args.frames says c.if-frames-eq0.false
