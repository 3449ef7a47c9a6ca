-- The text of all nodes.
use Rattle.std.proofs.Common.{◌≡◌, ℕ, ◌<◌, List, [], ◌∷◌, ◌++◌, get_or, All, refl, ap, sym, ◌∙◌, subst, arith}
use Rattle.std.specs.List.{flat_map}
use Rattle.std.proofs.lemmas.List.{length-map, get_or-map}
use Rattle.std.proofs.lemmas.List.Concat.{flat_map-append}
use Rattle.pdh_rows.specs.Rows.{NodeRow, node_frames}
use Rattle.pdh_rows.specs.Stored.{rows_of}
use Rattle.pdh_shape.specs.declared.place.Level.{Level}
use Rattle.pdh_clock.specs.declared.tree.NodeRows.{NodeRows}
use Rattle.pdh_clock.specs.declared.tree.Tree.{Tree}
use Rattle.pdh_clock.specs.Row.{Row}
use Rattle.pdh_levels.specs.Levels.{nodes_in}
use Rattle.pdh_clock.specs.Contents.{frames_of}
use Rattle.pdh_clock.specs.Stored.{IsNode, IsTree, at_path, contents_of, node_path, rows_in}
use Rattle.pdh_clock.specs.Written.{longest_rows, row_line, text_of, text_with}
use Rattle.pdh_clock.proofs.Trees.{frames_of_node, joined_over}

-- the text of a node
abbrev pub node_text : NodeRows → List ℕ
node_text node = flat_map row_line (longest_rows (node_path node) (node_frames (rows_of node.table)))

-- its rows have frames
pub some_frames : (levels : List Level) (node : NodeRows) → IsNode levels node → All (λ (row : NodeRow). 0 < row.repeat) (rows_of node.table)
some_frames levels node h = λ k d l.
    let path = node_path node in
    let row = h.rows k (at_path path d) (omega (arith, l, length-map (rows_of node.table) (at_path path))) in
    subst (λ (row : Row). 0 < row.repeat) (get_or-map (at_path path) (rows_of node.table) k d (at_path path d) l) row.some_frames

joined_twice : {X Y Z : Type 0} (f : Y → List Z) (g : X → List Y) (xs : List X) → flat_map f (flat_map g xs) ≡ flat_map (λ x. flat_map f (g x)) xs
joined_twice f g [] = refl
joined_twice f g (x ∷ xs) = flat_map-append f (g x) (flat_map g xs) ∙ ap (λ ys. flat_map f (g x) ++ ys) (joined_twice f g xs)

-- the texts of the nodes in order are the text of the schedule
pub text_of_nodes : (tree : Tree) → IsTree tree → flat_map node_text tree.nodes.items ≡ text_of (contents_of tree)
unfolding text_with
text_of_nodes tree h =
    let written = λ (path : List ℕ). flat_map row_line (longest_rows path (frames_of (rows_in tree) path)) in
    joined_over node_text written tree.nodes.items
    (λ k d l. ap (λ frames. flat_map row_line (longest_rows (node_path (get_or tree.nodes.items k d)) frames)) (sym (frames_of_node tree k d h l)))
    ∙ ap (flat_map written) h.paths
    ∙ sym (joined_twice row_line (λ path. longest_rows path (frames_of (rows_in tree) path)) (nodes_in tree.levels.items))
