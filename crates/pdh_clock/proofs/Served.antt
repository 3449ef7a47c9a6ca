-- What a tree answers about its nodes.
use Rattle.std.proofs.Common.{◌≡◌, ℕ, ◌*◌, ◌<◌, ◌≤◌, List, [], ◌∷◌, length, get_or, All, IsSome, ap, sym, ◌∙◌, subst, arith, slice_index}
use Rattle.std.specs.List.{flat_map, slice_index_or}
use Rattle.std.proofs.lemmas.List.Elements.{All-nil, All-append, All-get_or, All-head, All-tail}
use Rattle.pdh_shape.specs.declared.place.Level.{Level}
use Rattle.pdh_line.specs.Progress.{arrived}
use Rattle.pdh_rows.specs.Rows.{node_frames, node_counts}
use Rattle.pdh_rows.specs.Stored.{rows_of}
use Rattle.pdh_rows.specs.declared.table.Table.{Table}
use Rattle.pdh_clock.specs.declared.tree.NodeRows.{NodeRows}
use Rattle.pdh_clock.specs.declared.tree.Tree.{Tree}
use Rattle.pdh_levels.specs.Levels.{IsLevel, len_at, level_at, stores_at, most_tributaries, nodes_in, place_of}
use Rattle.pdh_levels.proofs.LevelLaws.{has_level, level_is, stores_count, stores_few}
use Rattle.pdh_clock.specs.Contents.{IsRowOf, frames_of, frame_count, counts}
use Rattle.pdh_clock.specs.Stored.{IsNode, IsTree, node_path, node_rows, rows_in, most_node_frames}
use Rattle.pdh_clock.proofs.Laws.{counts_most, arrived_most}
use Rattle.pdh_clock.proofs.Trees.{length-nodes, known_node, path_of_node, frames_of_node, node_at, place_inside}
use Rattle.pdh_rows.proofs.Tabled.{node_frame_count-row_frames}

-- a node has few stores
pub stores_at_few : (levels : List Level) (path : List ℕ) → All IsLevel levels → IsSome (level_at levels path) → stores_at levels path ≤ most_tributaries
stores_at_few levels path each some =
    let has = has_level (level_at levels path) some in
    let most = (level_is levels path has.level each has.is).most in
    omega (arith, stores_count levels path has.level has.is, stores_few has.level, most)

-- nor has one that is stored
pub tribs_few : (tree : Tree) (k : ℕ) (d : NodeRows) → IsTree tree → k < length tree.nodes.items → (get_or tree.nodes.items k d).table.tribs ≤ most_tributaries
tribs_few tree k d h l =
    let node = get_or tree.nodes.items k d in
    let is = All-get_or (IsNode tree.levels.items) tree.nodes.items k d l h.each in
    omega (arith, is.tribs, stores_at_few tree.levels.items (node_path node) h.levels_are.each (known_node tree k d h l))

nodes_sound : (levels : List Level) (nodes : List NodeRows) → All (IsNode levels) nodes → All (IsRowOf levels) (flat_map node_rows nodes)
nodes_sound levels [] h = All-nil (IsRowOf levels)
nodes_sound levels (node ∷ nodes) h = All-append (IsRowOf levels) (node_rows node) (flat_map node_rows nodes)
    (All-head (IsNode levels) node nodes h).rows (nodes_sound levels nodes (All-tail (IsNode levels) node nodes h))

-- each row is one of a node of the levels
pub tree_sound : (tree : Tree) → IsTree tree → All (IsRowOf tree.levels.items) (rows_in tree)
tree_sound tree h = nodes_sound tree.levels.items tree.nodes.items h.each

-- what a table says is what the rows at a path say
pub same_counts : (tree : Tree) (path : List ℕ) (table : Table) (trib trib' : ℕ) → node_frames (rows_of table) ≡ frames_of (rows_in tree) path → trib' ≡ trib
    → node_counts (rows_of table) trib' ≡ counts (rows_in tree) path trib
same_counts tree path table trib trib' same e =
    ap (λ frames n. slice_index (slice_index_or frames n []) trib') same ∙ ap (counts (rows_in tree) path) e

pub count_most : (tree : Tree) (path : List ℕ) (table : Table) (trib trib' frame n : ℕ) → IsTree tree
    → node_frames (rows_of table) ≡ frames_of (rows_in tree) path → trib' ≡ trib → n ≡ node_counts (rows_of table) trib' frame
    → n ≤ len_at tree.levels.items path
count_most tree path table trib trib' frame n h same e value =
    subst (λ k. k ≤ len_at tree.levels.items path) (sym (value ∙ ap (λ f. f frame) (same_counts tree path table trib trib' same e)))
    (counts_most tree.levels.items (rows_in tree) path trib frame (tree_sound tree h))

pub total_most : (tree : Tree) (path : List ℕ) (table : Table) (trib trib' frames n : ℕ) → IsTree tree
    → node_frames (rows_of table) ≡ frames_of (rows_in tree) path → trib' ≡ trib → n ≡ arrived (node_counts (rows_of table) trib') frames
    → n ≤ frames * len_at tree.levels.items path
total_most tree path table trib trib' frames n h same e value =
    subst (λ k. k ≤ frames * len_at tree.levels.items path) (sym (value ∙ ap (λ f. arrived f frames) (same_counts tree path table trib trib' same e)))
    (arrived_most (counts (rows_in tree) path trib) (len_at tree.levels.items path)
    (λ frame. counts_most tree.levels.items (rows_in tree) path trib frame (tree_sound tree h)) frames)

-- the rows that were read at the place of a node
pub record IsReadAt (tree : Tree) (k : ℕ) (path : List ℕ) (node : NodeRows) : Type 0 where
  pub inside : k < length (nodes_in tree.levels.items)
  pub frames : node_frames (rows_of node.table) ≡ frames_of (rows_in tree) path

pub read_at : (tree : Tree) (k : ℕ) (path : List ℕ) (node : NodeRows) → IsTree tree → k < length tree.nodes.items
    → path ≡ get_or (nodes_in tree.levels.items) k [] → node ≡ get_or tree.nodes.items k node → IsReadAt tree k path node
read_at tree k path node h inside at read =
    record {
      inside = subst (λ n. k < n) (length-nodes tree h) inside;
      frames = ap (λ (node : NodeRows). node_frames (rows_of node.table)) read ∙ sym (frames_of_node tree k node h inside)
          ∙ ap (frames_of (rows_in tree)) (path_of_node tree k node [] h inside ∙ sym at);
    }

-- no node has many frames
pub frames_few : (tree : Tree) (path : List ℕ) → IsTree tree → IsSome (level_at tree.levels.items path) → frame_count (rows_in tree) path ≤ most_node_frames
frames_few tree path h some = go tree.nodes.items (place_inside tree path h some)
  where
    go : (nodes : List NodeRows) → place_of tree.levels.items path < length nodes → frame_count (rows_in tree) path ≤ most_node_frames
    go [] inside = absurd (omega arith)
    go (first ∷ nodes) inside =
        let node = get_or tree.nodes.items (place_of tree.levels.items path) first in
        let at = node_at tree path first h some in
        let few = at.node_is.frames_few in
        omega (arith, ap length at.frames_are, node_frame_count-row_frames node.table)
