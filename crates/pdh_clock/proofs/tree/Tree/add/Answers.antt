use Rattle.std.proofs.Common.{◌≡◌, ◌∙◌, ◌≤◌, ◌<◌, ◌+◌, ◌^◌, ◌∷◌, [], ◌++◌, ℕ, length, refl, ap, sym, subst, arith, set, slice_index}
use Rattle.std.proofs.lemmas.List.{length-map}
use Rattle.std.specs.Vec.{with_item}
use Rattle.pdh_rows.specs.Flows.{flowed, flow_in, each, FlowFits}
use Rattle.pdh_rows.specs.Rows.{NodeRow}
use Rattle.pdh_rows.specs.Stored.{rows_of, row_frames, row_bits, said_row}
use Rattle.pdh_rows.proofs.Storing.{said_flow}
use Rattle.pdh_line.specs.Paths.{steps_of}
use Rattle.pdh_levels.specs.Levels.{stores_at}
use Rattle.pdh_clock.specs.declared.tree.NodeRows.{NodeRows}
use Rattle.pdh_clock.specs.declared.tree.Tree.{Tree}
use Rattle.pdh_clock.specs.Stored.{ratio_at, row_bytes, most_node_frames}
use Rattle.pdh_clock.proofs.Trees.{IsNodeAt, PutsRow, node_found, place_inside, changes_put, IsTree_changed, rows_put}
use Rattle.pdh_clock.proofs.Growing.{AreFewRows, few_rows_at, few_rows, stores_least, frames_fit, frames_more, bits_fit}
use Rattle.pdh_clock.proofs.tree.Tree.add.Goals as goal

pub index_mut-requires : goal.index_mut-requires
index_mut-requires c = omega (arith, place_inside c.args.self.now (steps_of c.args.node.now) c.requires.tree c.requires.row.node, c.place-place.ensures)

-- the row, as it is stored
abbrev stored_row : goal.After-add-arg-1 → NodeRow
stored_row c = said_row (ratio_at c.args.self.now.levels.items (steps_of c.args.node.now)) c.args.repeat c.args.says c.args.numbers.now

found : (c : goal.After-add-arg-1) → IsNodeAt c.args.self.now (steps_of c.args.node.now) c.index_mut.result.now
found c = node_found c.args.self.now (steps_of c.args.node.now) c.index_mut.result.now c.place-place.result c.requires.tree c.requires.row.node c.place-place.ensures
    c.index_mut.ensures.value

-- the flow at the nominal rates
ratio : (c : goal.After-add-arg-1) → c.index_mut.result.now.table.ratio ≡ ratio_at c.args.self.now.levels.items (steps_of c.args.node.now)
ratio c = (found c).node_is.ratio ∙ ap (ratio_at c.args.self.now.levels.items) (found c).path_is

-- one number for each tributary
tribs : (c : goal.After-add-arg-1) → length c.args.numbers.now ≡ c.index_mut.result.now.table.tribs
tribs c = sym (length-map c.args.numbers.now (flow_in (ratio_at c.args.self.now.levels.items (steps_of c.args.node.now)) c.args.says)) ∙ c.requires.row.stores
    ∙ sym ((found c).node_is.tribs ∙ ap (stores_at c.args.self.now.levels.items) (found c).path_is)

pub add-requires-clause-table : goal.add-requires-clause-table
add-requires-clause-table c = (found c).node_is.stored

pub add-requires-clause-tribs : goal.add-requires-clause-tribs
add-requires-clause-tribs c = tribs c

-- the rows so far are few
rows_are : (c : goal.After-add-arg-1) → AreFewRows (rows_of c.index_mut.result.now.table) (row_bytes c.args.self.now.levels.items (steps_of c.args.node.now))
rows_are c = few_rows_at c.args.self.now (steps_of c.args.node.now) c.index_mut.result.now (found c) c.requires.all_small c.requires.few

pub add-requires-clause-frames_fit : goal.add-requires-clause-frames_fit
add-requires-clause-frames_fit c =
    let are = rows_are c in
    frames_fit (rows_of c.index_mut.result.now.table) c.args.repeat are.small c.requires.small.repeat_is (let few = are.few in omega arith)

pub add-requires-clause-flows : goal.add-requires-clause-flows
add-requires-clause-flows c = λ trib l.
    let nominal = ratio_at c.args.self.now.levels.items (steps_of c.args.node.now) in
    let inside : trib < length c.args.numbers.now = subst (λ (n : ℕ). trib < n) (sym (tribs c)) l in
    let flow = said_flow nominal c.args.repeat c.args.says c.args.numbers.now trib inside in
    let fits = c.requires.fits trib (each 0) (omega (arith, inside, length-map c.args.numbers.now (flow_in nominal c.args.says))) in
    subst (λ ratio. FlowFits c.args.repeat (flow_in ratio c.args.says (slice_index c.args.numbers.now trib))) (sym (ratio c)) (subst (FlowFits c.args.repeat) flow fits)

-- where there is a store there is one for each tributary
pub add-requires-clause-bits_fit : goal.add-requires-clause-bits_fit
add-requires-clause-bits_fit c = λ trib l.
    let levels = c.args.self.now.levels.items in
    let path = steps_of c.args.node.now in
    let are = rows_are c in
    let store : trib < stores_at levels path = omega (arith, ap (stores_at levels) (found c).path_is, (found c).node_is.tribs) in
    let fit = bits_fit (rows_of c.index_mut.result.now.table) (stored_row c) trib are.small c.requires.small
    (few_rows 11 (row_bytes levels path) (length (rows_of c.index_mut.result.now.table)) (stores_least levels path trib c.requires.tree.levels_are.each store) are.bytes_are) in
    let inside : trib < length c.args.numbers.now = subst (λ (n : ℕ). trib < n) (sym (tribs c)) l in
    let flow = said_flow (ratio_at levels path) c.args.repeat c.args.says c.args.numbers.now trib inside in
    subst (λ ratio. row_bits (rows_of c.index_mut.result.now.table) trib + flowed (flow_in ratio c.args.says (slice_index c.args.numbers.now trib)) c.args.repeat < 2 ^ 64) (sym (ratio c))
    (subst (λ flow. row_bits (rows_of c.index_mut.result.now.table) trib + flowed flow c.args.repeat < 2 ^ 64) flow fit)

-- the node with one more row
abbrev node_after : goal.In_ok-add → NodeRows
node_after c = record { path = c.index_mut.result.now.path; table = c.add.new.self }

abbrev row_after : goal.In_ok-add → NodeRow
row_after c = said_row (ratio_at c.args.self.now.levels.items (steps_of c.args.node.now)) c.args.repeat c.args.says c.args.numbers.now

puts : (c : goal.In_ok-add) → PutsRow c.args.self.now (steps_of c.args.node.now) c.index_mut.result.now (node_after c) (row_after c)
puts c =
    let levels = c.args.self.now.levels.items in
    let found = node_found c.args.self.now (steps_of c.args.node.now) c.index_mut.result.now c.place-place.result c.requires.tree c.requires.row.node c.place-place.ensures
    c.index_mut.ensures.value in
    let are = few_rows_at c.args.self.now (steps_of c.args.node.now) c.index_mut.result.now found c.requires.all_small c.requires.few in
    let nominal = found.node_is.ratio ∙ ap (ratio_at levels) found.path_is in
    let rows = c.in_ok-add.ensures.rows
    ∙ ap (λ ratio. rows_of c.index_mut.result.now.table ++ said_row ratio c.args.repeat c.args.says c.args.numbers.now ∷ []) nominal in
    record {
      some = c.requires.row.node;
      found = found;
      path_is = found.path_is;
      stored = c.in_ok-add.ensures.table;
      ratio = c.in_ok-add.ensures.ratio;
      tribs = c.in_ok-add.ensures.tribs;
      rows = rows;
      frames_few = subst (λ rows. row_frames rows ≤ most_node_frames) (sym rows)
          (frames_more (rows_of c.index_mut.result.now.table) (row_after c) are.small c.requires.small are.few);
      sound = c.requires.row;
    }

-- the tree with that node
abbrev tree_after : goal.In_ok-add → Tree
tree_after c = record { levels = c.args.self.now.levels; nodes = with_item c.args.self.now.nodes c.place-place.result (node_after c) }

pub returns-clause-tree : goal.returns-clause-tree
returns-clause-tree c = IsTree_changed c.args.self.now (tree_after c) _ (node_after c) c.requires.tree
    (changes_put c.args.self.now (tree_after c) (steps_of c.args.node.now) c.index_mut.result.now (node_after c) (row_after c) c.requires.tree (puts c)
    refl (ap (λ k. set c.args.self.now.nodes.items k (node_after c)) c.place-place.ensures))

pub returns-clause-rows : goal.returns-clause-rows
returns-clause-rows c = rows_put c.args.self.now (tree_after c) (steps_of c.args.node.now) c.index_mut.result.now (node_after c) (row_after c) c.requires.tree (puts c)
    refl (ap (λ k. set c.args.self.now.nodes.items k (node_after c)) c.place-place.ensures)
