use Rattle.std.proofs.Common.{◌≡◌, ◌∙◌, map, All, ap, sym, subst, arith}
use Rattle.std.specs.Option.{option_map_or}
use Rattle.std.proofs.lemmas.List.{take_all}
use Rattle.std.proofs.lemmas.List.Elements.{All-push}
use Rattle.pdh_clock.specs.declared.tree.NodeRows.{NodeRows}
use Rattle.pdh_levels.specs.Levels.{AreLevels, nodes_in}
use Rattle.pdh_line.specs.Paths.{steps_of}
use Rattle.pdh_clock.specs.Stored.{node_path}
use Rattle.pdh_levels.proofs.LevelLaws.{level_is, stores_count}
use Rattle.pdh_rows.specs.Flows.{each}
use Rattle.pdh_clock.specs.Row.{ratio_of}
use Rattle.pdh_clock.proofs.Laws.{rated_is}
use Rattle.pdh_clock.proofs.Trees.{IsEmptyNode, IsTree_empty, no_rows, paths_more}
use Rattle.pdh_clock.proofs.tree.Tree.new.Goals as goal

pub ratio_of-requires-clause-level : goal.ratio_of-requires-clause-level
ratio_of-requires-clause-level c = level_is c.args.levels.now (steps_of c.node_at-path.result) c.level_of-level.result c.requires.levels.each c.level_of-level.ensures

pub ratio_of-requires-clause-rated : goal.ratio_of-requires-clause-rated
ratio_of-requires-clause-rated c = rated_is c.args.levels.now (steps_of c.node_at-path.result) c.level_of-level.result c.requires.rated c.level_of-level.ensures

pub loop-place-preserved : goal.loop-place-preserved
loop-place-preserved c =
    let tribs = c.store_count.ensures ∙ sym (stores_count c.args.levels.now (steps_of c.node_at-path.result) c.level_of-level.result c.level_of-level.ensures) in
    let node : NodeRows = record { path = c.node_at-path.result; table = c.in_ok-table.table } in
    let empty : IsEmptyNode c.args.levels.now node = record {
      stored = c.in_ok-table.ensures.table;
      ratio = c.in_ok-table.ensures.ratio ∙ c.ratio_of.ensures ∙ ap (λ o. option_map_or ratio_of o (each 0)) (sym c.level_of-level.ensures);
      tribs = c.in_ok-table.ensures.tribs ∙ tribs;
      none = c.in_ok-table.ensures.rows;
    } in
    record {
      paths = ap (map node_path) c.in_ok-push.ensures.items
          ∙ paths_more c.args.levels.now c.loop-place.nodes.items node c.loop-place.place (omega (arith, c.node_count-place-end.ensures)) c.loop-place.invariant.paths c.node_at-path.ensures.steps;
      each = subst (All (IsEmptyNode c.args.levels.now)) (sym c.in_ok-push.ensures.items)
          (All-push (IsEmptyNode c.args.levels.now) c.loop-place.nodes.items node c.loop-place.invariant.each empty);
    }

-- all nodes are there
all_paths : (c : goal.In_ok-to_vec) → map node_path c.loop-place.nodes.items ≡ nodes_in c.args.levels.now
all_paths c = c.loop-place.invariant.paths
    ∙ take_all c.loop-place.place (nodes_in c.args.levels.now) (omega (arith, c.node_count-place-end.ensures))

pub returns-clause-tree : goal.returns-clause-tree
returns-clause-tree c =
    let same : c.in_ok-to_vec.field-0.items ≡ c.args.levels.now = c.in_ok-to_vec.ensures.items_if_clones_equal (λ x y h. h) in
    IsTree_empty _ (subst AreLevels (sym same) c.requires.levels) (all_paths c ∙ ap nodes_in (sym same))
    (subst (λ levels. All (IsEmptyNode levels) c.loop-place.nodes.items) (sym same) c.loop-place.invariant.each)

pub returns-clause-rows : goal.returns-clause-rows
returns-clause-rows c = no_rows c.args.levels.now c.loop-place.nodes.items c.loop-place.invariant.each
