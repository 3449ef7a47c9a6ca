-- One more node of a made schedule, and the whole schedule.
use Rattle.std.proofs.Common.{◌≡◌, ℕ, ◌+◌, ◌*◌, ◌<◌, ◌≤◌, List, [], ◌∷◌, ◌++◌, length, get_or, map, set, Option, Some, None, is_some, IsSome, IsNone, All, inl, inr, refl, ap, sym, ◌∙◌, subst, arith}
use Rattle.std.specs.List.{flat_map}
use Rattle.std.specs.Option.{option_map_or}
use Rattle.std.proofs.lemmas.Bool.{cases_lt, false≢true}
use Rattle.std.proofs.lemmas.List.Elements.{All-head, All-tail, filter-append}
use Rattle.pdh_shape.specs.declared.place.Level.{Level}
use Rattle.pdh_shape.specs.Frame.{FrameShape}
use Rattle.pdh_line.specs.Tolerance.{IsWithin}
use Rattle.pdh_rows.specs.Flows.{each}
use Rattle.pdh_rows.specs.Rows.{node_frames}
use Rattle.pdh_rows.specs.Stored.{IsTable, rows_of, row_frames}
use Rattle.pdh_clock.specs.declared.bias.Bias.{Bias}
use Rattle.pdh_clock.specs.declared.bias.Offset.{Offset}
use Rattle.pdh_clock.specs.declared.tree.NodeRows.{NodeRows}
use Rattle.pdh_clock.specs.declared.tree.Tree.{Tree}
use Rattle.pdh_clock.specs.Row.{Row, ratio_of}
use Rattle.pdh_levels.specs.Levels.{IsLevel, AreLevels, nodes_in, level_at, level_stores, stores_at, low_at, place_of}
use Rattle.pdh_clock.specs.Contents.{IsRowOf, rows_at, frames_of_row, frames_of, frame_count, counts, same_path}
use Rattle.pdh_line.specs.Progress.{begun_by}
use Rattle.pdh_clock.specs.Begun.{frames_begun, shortage}
use Rattle.pdh_clock.specs.Made.{IsRated, made_frames, made, most_made}
use Rattle.pdh_clock.specs.Making.{AreMade, line_at, made_rows}
use Rattle.pdh_clock.specs.Stored.{IsTree, at_path, ratio_at, contents_of, node_path, node_rows, rows_in, most_node_frames}
use Rattle.pdh_levels.proofs.LevelLaws.{has_level, stores_count, known}
use Rattle.pdh_clock.proofs.Laws.{rated_is}
use Rattle.pdh_clock.proofs.Trees.{Changes, IsTree_changed, length-nodes, length-changed, path_of_node, frames_of_node, known_node, place_inside, node_changed, node_kept, rows_at_none, at_path-paths}
use Rattle.pdh_clock.proofs.Begins.{shortage_none, begun_by_whole}
use Rattle.pdh_clock.proofs.MadeRows.{made_rows-few, made_rows-sound, node_frames-made, length-made_frames}
use Rattle.pdh_clock.proofs.MadeRuns.{frame_counts, made-within}
use Rattle.pdh_clock.proofs.MadeTrees.{height_of, bits_of_made, made_is, made_none, made_at, begun_is_made, none_short_made}

-- ---- one more node

-- a node with the rows that were made for it
pub record IsMadeNode (tree : Tree) (bias : Bias) (frames place : ℕ) (path : List ℕ) (node : NodeRows) (level : Level) (height : ℕ) (line : Offset) (n : ℕ) : Type 0 where
  pub inside : place < length tree.nodes.items
  pub path_is : get_or (nodes_in tree.levels.items) place [] ≡ path
  pub place_is : place_of tree.levels.items path ≡ place
  pub known_is : level_at tree.levels.items path ≡ Some level
  pub node_is : node_path node ≡ path
  pub height_is : height + length path + 1 ≡ length tree.levels.items
  pub line_is : line ≡ line_at tree.levels.items bias path
  pub frames_are : n ≡ frames_begun (contents_of tree) frames path
  pub stored : IsTable node.table
  pub ratio : node.table.ratio ≡ ratio_of level
  pub tribs : node.table.tribs ≡ level_stores level
  pub few : n ≤ most_made
  pub rows : rows_of node.table ≡ made_rows level bias height line n

pub changes_made : (old new : Tree) (bias : Bias) (frames place : ℕ) (path : List ℕ) (node : NodeRows) (level : Level) (height : ℕ) (line : Offset) (n : ℕ)
    → IsTree old → All IsRated old.levels.items → IsMadeNode old bias frames place path node level height line n
    → new.levels.items ≡ old.levels.items → new.nodes.items ≡ set old.nodes.items place node → Changes old new place node
changes_made old new bias frames place path node level height line n h rated m levels nodes = record {
  levels = levels;
  nodes = nodes;
  inside = m.inside;
  path = λ d. m.node_is ∙ sym m.path_is ∙ sym (path_of_node old place d [] h m.inside);
  node_is = record {
    stored = m.stored;
    ratio = m.ratio ∙ ap (λ o. option_map_or ratio_of o (each 0)) (sym m.known_is) ∙ ap (ratio_at old.levels.items) (sym m.node_is);
    tribs = m.tribs ∙ sym (stores_count old.levels.items path level m.known_is) ∙ ap (stores_at old.levels.items) (sym m.node_is);
    frames_few = subst (λ rows. row_frames rows ≤ most_node_frames) (sym m.rows)
        (made_rows-few level bias height line n m.few);
    rows = subst (All (IsRowOf old.levels.items))
        (ap (λ p. map (at_path p) (made_rows level bias height line n)) (sym m.node_is) ∙ ap (map (at_path (node_path node))) (sym m.rows))
        (made_rows-sound old.levels.items path level bias height line n m.known_is (rated_is old.levels.items path level rated m.known_is));
  };
}

-- the other nodes keep their frames
frames_kept : (old new : Tree) (place k : ℕ) (node : NodeRows) → IsTree old → Changes old new place node → k < length old.nodes.items → (k ≡ place → ⊥)
    → frames_of (rows_in new) (get_or (nodes_in old.levels.items) k []) ≡ frames_of (rows_in old) (get_or (nodes_in old.levels.items) k [])
frames_kept old new place k node h c inside other =
    let tree = IsTree_changed old new place node h c in
    let inside' : k < length new.nodes.items = omega (arith, length-changed old new place node c) in
    let kept = node_kept old new place k node node c other in
    let path : node_path (get_or old.nodes.items k node) ≡ get_or (nodes_in old.levels.items) k [] = path_of_node old k node [] h inside in
    ap (frames_of (rows_in new)) (sym path ∙ ap node_path (sym kept)) ∙ frames_of_node new k node tree inside'
    ∙ ap (λ node. node_frames (rows_of node.table)) kept ∙ sym (frames_of_node old k node h inside) ∙ ap (frames_of (rows_in old)) path

-- and this one has the made ones
frames_here : (old new : Tree) (bias : Bias) (frames place : ℕ) (path : List ℕ) (node : NodeRows) (level : Level) (height : ℕ) (line : Offset) (n : ℕ)
    → IsTree old → AreMade old bias frames place → IsMadeNode old bias frames place path node level height line n → Changes old new place node
    → frames_of (rows_in new) path ≡ made old.levels.items bias frames path
frames_here old new bias frames place path node level height line n h before m c =
    let levels = old.levels.items in
    let tree = IsTree_changed old new place node h c in
    let inside : place < length new.nodes.items = omega (arith, length-changed old new place node c, m.inside) in
    let here = node_changed old new place node node c in
    let place_is = m.place_is in
    let begun : n ≡ begun_by level.len (bits_of_made levels bias frames path) = m.frames_are ∙ begun_is_made old bias frames place path level before m.known_is (omega arith) in
    let deep : height ≡ height_of levels path = (let total = m.height_is in omega arith) in
    ap (frames_of (rows_in new)) (sym m.node_is ∙ ap node_path (sym here)) ∙ frames_of_node new place node tree inside
    ∙ ap (λ node. node_frames (rows_of node.table)) here ∙ ap node_frames m.rows ∙ node_frames-made level bias height line n
    ∙ ap (λ h. made_frames level bias h line n) deep
    ∙ ap (λ line. made_frames level bias (height_of levels path) line n) m.line_is
    ∙ ap (made_frames level bias (height_of levels path) (line_at levels bias path)) begun
    ∙ sym (made_is levels bias frames path level m.known_is)

pub made_more : (old new : Tree) (bias : Bias) (frames place : ℕ) (path : List ℕ) (node : NodeRows) (level : Level) (height : ℕ) (line : Offset) (n : ℕ)
    → IsTree old → AreMade old bias frames place → IsMadeNode old bias frames place path node level height line n → Changes old new place node
    → AreMade new bias frames (place + 1)
made_more old new bias frames place path node level height line n h before m c =
    subst (λ levels. (k : ℕ) → k < place + 1 → k < length (nodes_in levels)
    → frames_of (rows_in new) (get_or (nodes_in levels) k []) ≡ made levels bias frames (get_or (nodes_in levels) k [])) (sym c.levels) (λ k l inside. elim (cases_lt k place) [
      | inl earlier ↦
          let inside' : k < length old.nodes.items = subst (λ n. k < n) (sym (length-nodes old h)) inside in
          frames_kept old new place k node h c inside' (λ e. omega arith) ∙ before k earlier inside
      | inr last ↦
          let same : k ≡ place = omega arith in
          let at : get_or (nodes_in old.levels.items) k [] ≡ path = ap (λ k. get_or (nodes_in old.levels.items) k []) same ∙ m.path_is in
          ap (frames_of (rows_in new)) at ∙ frames_here old new bias frames place path node level height line n h before m c ∙ ap (made old.levels.items bias frames) (sym at)
    ])

-- ---- the whole schedule

none_elsewhere : (levels : List Level) (path : List ℕ) (nodes : List NodeRows) → All (λ node. IsSome (level_at levels (node_path node))) nodes → level_at levels path ≡ None
    → rows_at (flat_map node_rows nodes) path ≡ []
none_elsewhere levels path [] known none = refl
none_elsewhere levels path (node ∷ nodes) known none =
    let first = All-head (λ node. IsSome (level_at levels (node_path node))) node nodes known in
    filter-append (λ row. same_path row.path path) (node_rows node) (flat_map node_rows nodes)
    ∙ ap (λ rows. rows ++ rows_at (flat_map node_rows nodes) path)
    (rows_at_none (node_path node) path (node_rows node) (at_path-paths (node_path node) (rows_of node.table))
    (λ same. false≢true (sym (ap is_some none) ∙ ap (λ p. is_some (level_at levels p)) (sym same) ∙ first)))
    ∙ none_elsewhere levels path nodes (All-tail (λ node. IsSome (level_at levels (node_path node))) node nodes known) none

no_frames : (tree : Tree) (path : List ℕ) → IsTree tree → level_at tree.levels.items path ≡ None → frames_of (rows_in tree) path ≡ []
unfolding frames_of
no_frames tree path h none = ap (flat_map frames_of_row)
    (none_elsewhere tree.levels.items path tree.nodes.items (λ k d l. known_node tree k d h l) none)

-- the rows of a made schedule, and what holds of them
pub record IsMade (levels : List Level) (bias : Bias) (frames : ℕ) (rows : List Row) : Type 0 where
  pub frames_is : (path : List ℕ) → frames_of rows path ≡ made levels bias frames path
  pub top : frame_count rows [] ≡ frames
  pub enough : IsNone (shortage (record { levels = levels; rows = rows }) frames)
  pub within : (path : List ℕ) (trib : ℕ) (shape : FrameShape) → trib < stores_at levels path → shape.low ≡ low_at levels path
      → IsWithin shape (counts rows path trib) (frame_count rows path)

all_made : (tree : Tree) (bias : Bias) (frames : ℕ) → IsTree tree → AreMade tree bias frames (length tree.nodes.items)
    → (path : List ℕ) → frames_of (rows_in tree) path ≡ made tree.levels.items bias frames path
all_made tree bias frames h m path = go (level_at tree.levels.items path) refl
  where
    go : (o : Option Level) → level_at tree.levels.items path ≡ o → frames_of (rows_in tree) path ≡ made tree.levels.items bias frames path
    go None is = no_frames tree path h is ∙ sym (made_none tree.levels.items bias frames path is)
    go (Some level) is = made_at tree bias frames (length tree.nodes.items) path m (ap is_some is) (place_inside tree path h (ap is_some is))

made_top : (levels : List Level) (bias : Bias) (frames : ℕ) → AreLevels levels → length (made levels bias frames []) ≡ frames
made_top [] bias frames h = absurd (let some = h.some in omega arith)
made_top (level ∷ below) bias frames h =
    let shortest = (All-head IsLevel level below h.each).shortest in
    ap length (made_is (level ∷ below) bias frames [] level refl)
    ∙ length-made_frames level bias (height_of (level ∷ below) []) (line_at (level ∷ below) bias []) (begun_by level.len (frames * level.len))
    ∙ begun_by_whole level.len frames (omega arith)

-- each tributary is within the tolerance
node_within : (levels : List Level) (bias : Bias) (frames : ℕ) (path : List ℕ) (trib : ℕ) (shape : FrameShape) → All IsLevel levels → All IsRated levels
    → trib < stores_at levels path → shape.low ≡ low_at levels path
    → IsWithin shape (frame_counts (made levels bias frames path) trib) (length (made levels bias frames path))
node_within levels bias frames path trib shape each rated inside low =
    let has = has_level (level_at levels path) (known levels path trib inside) in
    let level = has.level in
    let stores = stores_count levels path level has.is in
    let least : shape.low ≡ level.low = low ∙ ap (λ (o : Option Level). option_map_or (λ (level : Level). level.low) o 0) has.is in
    let offset = line_at levels bias path in
    subst (λ frames. IsWithin shape (frame_counts frames trib) (length frames)) (sym (made_is levels bias frames path level has.is))
    (made-within level bias (height_of levels path) offset (begun_by level.len (bits_of_made levels bias frames path)) trib shape
    (rated_is levels path level rated has.is) (omega (arith, stores)) least)

tree_is_made : (tree : Tree) (bias : Bias) (frames : ℕ) → IsTree tree → All IsRated tree.levels.items → AreMade tree bias frames (length tree.nodes.items)
    → IsMade tree.levels.items bias frames (rows_in tree)
tree_is_made tree bias frames h rated m =
    let all = all_made tree bias frames h m in
    record {
      frames_is = all;
      top = ap length (all []) ∙ made_top tree.levels.items bias frames h.levels_are;
      enough = ap is_some (shortage_none (contents_of tree) frames (length tree.nodes.items) (omega (arith, length-nodes tree h))
          (none_short_made tree bias frames (length tree.nodes.items) m));
      within = λ path trib shape inside low. subst (λ frames. IsWithin shape (frame_counts frames trib) (length frames)) (sym (all path))
          (node_within tree.levels.items bias frames path trib shape h.levels_are.each rated inside low);
    }

-- with the levels that the caller gave
pub is_made : (tree : Tree) (levels : List Level) (bias : Bias) (frames : ℕ) → IsTree tree → tree.levels.items ≡ levels → All IsRated levels
    → AreMade tree bias frames (length tree.nodes.items) → IsMade levels bias frames (rows_in tree)
is_made tree levels bias frames h same rated m =
    subst (λ levels. IsMade levels bias frames (rows_in tree)) same (tree_is_made tree bias frames h (subst (All IsRated) (sym same) rated) m)
