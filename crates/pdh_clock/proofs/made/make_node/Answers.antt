use Rattle.std.proofs.Common.{◌≡◌, ◌∙◌, ◌≤◌, [], length, get_or, is_some, IsSome, refl, ap, sym, subst, arith}
use Rattle.std.specs.Vec.{with_item}
use Rattle.pdh_clock.specs.declared.tree.NodeRows.{NodeRows}
use Rattle.pdh_clock.specs.declared.tree.Tree.{Tree}
use Rattle.pdh_line.specs.Paths.{steps_of}
use Rattle.pdh_levels.specs.Levels.{nodes_in, level_at, place_of}
use Rattle.pdh_clock.specs.Begun.{NoneShort}
use Rattle.pdh_clock.specs.Made.{most_made}
use Rattle.pdh_clock.specs.Making.{line_at, made_rows}
use Rattle.pdh_clock.specs.Stored.{contents_of, node_path}
use Rattle.pdh_levels.proofs.LevelLaws.{level_is}
use Rattle.pdh_clock.proofs.Laws.{rated_is}
use Rattle.pdh_clock.proofs.Trees.{Changes, IsTree_changed, path_of_node, place_of_node, known_node}
use Rattle.pdh_clock.proofs.MadeTrees.{begun_is_made, made-few, none_short_made}
use Rattle.pdh_clock.proofs.MadeNodes.{IsMadeNode, changes_made, made_more}
use Rattle.pdh_clock.proofs.made.make_node.Goals as goal

pub level_of-level-requires : goal.level_of-level-requires
level_of-level-requires c =
    let tree = c.args.tree.now in
    subst (λ (node : NodeRows). IsSome (level_at tree.levels.items (node_path node))) (sym c.index.ensures) (known_node tree c.args.place _ c.requires.tree c.requires.inside)

pub begun-frames-requires-clause-enough : goal.begun-frames-requires-clause-enough
begun-frames-requires-clause-enough c =
    let tree = c.args.tree.now in
    let place = ap (λ node. place_of tree.levels.items (node_path node)) c.index.ensures ∙ place_of_node tree c.args.place _ c.requires.tree c.requires.inside in
    subst (NoneShort (contents_of tree) c.args.top_frames) (sym place) (none_short_made tree c.args.bias c.args.top_frames c.args.place c.requires.before)

pub clocks_of-clocks-requires : goal.clocks_of-clocks-requires
clocks_of-clocks-requires c =
    let path = steps_of c.index.result.now.path in
    ap (λ levels. is_some (level_at levels path)) c.deref.ensures.value ∙ ap is_some c.level_of-level.ensures

pub made_table-requires-clause-level : goal.made_table-requires-clause-level
made_table-requires-clause-level c =
    level_is c.args.tree.now.levels.items (steps_of c.index.result.now.path) c.level_of-level.result c.requires.tree.levels_are.each c.level_of-level.ensures

pub made_table-requires-clause-rated : goal.made_table-requires-clause-rated
made_table-requires-clause-rated c = rated_is c.args.tree.now.levels.items (steps_of c.index.result.now.path) c.level_of-level.result c.requires.rated c.level_of-level.ensures

pub made_table-requires-clause-few : goal.made_table-requires-clause-few
made_table-requires-clause-few c =
    let tree = c.args.tree.now in
    let path = steps_of c.index.result.now.path in
    let place : place_of tree.levels.items path ≡ c.args.place =
    ap (λ node. place_of tree.levels.items (node_path node)) c.index.ensures ∙ place_of_node tree c.args.place _ c.requires.tree c.requires.inside in
    let begun = begun_is_made tree c.args.bias c.args.top_frames c.args.place path c.level_of-level.result c.requires.before c.level_of-level.ensures (omega arith) in
    let few = made-few tree.levels.items c.args.bias c.args.top_frames path c.level_of-level.result c.requires.tree.levels_are c.requires.rated c.requires.few c.level_of-level.ensures in
    omega (arith, c.begun-frames.ensures, begun, few)

-- the node with its rows
abbrev node_after : goal.After-drop-index_mut-5 → NodeRows
node_after c = record { path = c.index_mut.result.now.path; table = c.in_ok-tree.field-0 }

abbrev tree_after : goal.After-drop-index_mut-5 → Tree
tree_after c = record { levels = c.args.tree.now.levels; nodes = with_item c.args.tree.now.nodes c.args.place (node_after c) }

makes : (c : goal.After-drop-index_mut-5) → IsMadeNode c.args.tree.now c.args.bias c.args.top_frames c.args.place (steps_of c.index.result.now.path) (node_after c)
    c.level_of-level.result c.clocks_of-clocks.result.height c.clocks_of-clocks.result.line c.begun-frames.result
makes c =
    let tree = c.args.tree.now in
    let path : steps_of c.index.result.now.path ≡ get_or (nodes_in tree.levels.items) c.args.place [] =
    ap node_path c.index.ensures ∙ path_of_node tree c.args.place _ [] c.requires.tree c.requires.inside in
    let path' : node_path (node_after c) ≡ get_or (nodes_in tree.levels.items) c.args.place [] =
    ap node_path c.index_mut.ensures.value ∙ path_of_node tree c.args.place _ [] c.requires.tree c.requires.inside in
    let place : place_of tree.levels.items (steps_of c.index.result.now.path) ≡ c.args.place =
    ap (λ node. place_of tree.levels.items (node_path node)) c.index.ensures ∙ place_of_node tree c.args.place _ c.requires.tree c.requires.inside in
    let begun = begun_is_made tree c.args.bias c.args.top_frames c.args.place (steps_of c.index.result.now.path) c.level_of-level.result c.requires.before c.level_of-level.ensures (omega arith) in
    let most = made-few tree.levels.items c.args.bias c.args.top_frames (steps_of c.index.result.now.path) c.level_of-level.result c.requires.tree.levels_are c.requires.rated c.requires.few c.level_of-level.ensures in
    let few : c.begun-frames.result ≤ most_made = omega (arith, c.begun-frames.ensures, begun, most) in
    record {
      inside = c.requires.inside;
      path_is = sym path;
      place_is = ap (λ node. place_of tree.levels.items (node_path node)) c.index.ensures ∙ place_of_node tree c.args.place _ c.requires.tree c.requires.inside;
      known_is = c.level_of-level.ensures;
      node_is = path' ∙ sym path;
      height_is = c.clocks_of-clocks.ensures.height ∙ ap length c.deref.ensures.value;
      line_is = c.clocks_of-clocks.ensures.line ∙ ap (λ levels. line_at levels c.args.bias (steps_of c.index.result.now.path)) c.deref.ensures.value;
      frames_are = c.begun-frames.ensures;
      stored = c.in_ok-tree.ensures.table;
      ratio = c.in_ok-tree.ensures.ratio;
      tribs = c.in_ok-tree.ensures.tribs;
      few = few;
      rows = c.in_ok-tree.ensures.rows ∙ ap (λ bias. made_rows c.level_of-level.result bias c.clocks_of-clocks.result.height c.clocks_of-clocks.result.line c.begun-frames.result) c.clocks_of-clocks.ensures.bias;
    }

changes : (c : goal.After-drop-index_mut-5) → Changes c.args.tree.now (tree_after c) c.args.place (node_after c)
changes c = changes_made c.args.tree.now (tree_after c) c.args.bias c.args.top_frames c.args.place (steps_of c.index.result.now.path) (node_after c)
    c.level_of-level.result c.clocks_of-clocks.result.height c.clocks_of-clocks.result.line c.begun-frames.result c.requires.tree c.requires.rated (makes c) refl refl

pub returns-clause-tree : goal.returns-clause-tree
returns-clause-tree c = IsTree_changed c.args.tree.now (tree_after c) c.args.place (node_after c) c.requires.tree (changes c)

pub returns-clause-made : goal.returns-clause-made
returns-clause-made c = made_more c.args.tree.now (tree_after c) c.args.bias c.args.top_frames c.args.place (steps_of c.index.result.now.path) (node_after c)
    c.level_of-level.result c.clocks_of-clocks.result.height c.clocks_of-clocks.result.line c.begun-frames.result c.requires.tree c.requires.before (makes c) (changes c)
