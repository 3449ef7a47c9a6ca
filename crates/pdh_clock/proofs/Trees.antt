-- The rows of nodes, by node and all in order.
use Rattle.std.proofs.Common.{◌≡◌, ℕ, ◌+◌, ◌<◌, ◌≤◌, arith, ◌==◌, Bool, true, false, cond, List, [], ◌∷◌, ◌++◌, length, get_or, take, map, set, IsSome, All, ◌⊎◌, inl, inr, refl, ap, sym, ◌∙◌, subst, append-nil}
use Rattle.std.specs.List.{flat_map}
use Rattle.std.proofs.lemmas.Bool.{cases_Bool, eq-eqb, eqb-true, eqb-false}
use Rattle.std.proofs.lemmas.List.{length-map, length-set, get_or-map, get_or-set_same, get_or-set_other, map-set, set-get_or, map_push, take_more}
use Rattle.std.proofs.lemmas.List.Elements.{All-nil, All-cons, All-push, All-head, All-tail, All-set, All-get_or, All-weaker, filter-append}
use Rattle.pdh_shape.specs.declared.place.Level.{Level}
use Rattle.pdh_rows.specs.Rows.{NodeRow, frames_in, node_frames}
use Rattle.pdh_rows.specs.Stored.{IsTable, rows_of, row_frames}
use Rattle.pdh_clock.specs.declared.tree.NodeRows.{NodeRows}
use Rattle.pdh_clock.specs.declared.tree.Tree.{Tree}
use Rattle.pdh_clock.specs.Row.{Row}
use Rattle.pdh_levels.specs.Levels.{AreLevels, level_at, nodes_in, stores_at, place_of}
use Rattle.pdh_clock.specs.Contents.{IsRowOf, rows_at, by_nodes, frames_of_row, frames_of, same_path}
use Rattle.pdh_clock.specs.Stored.{IsNode, IsTree, at_path, ratio_at, node_path, node_rows, rows_in, most_node_frames}
use Rattle.pdh_clock.proofs.Laws.{same_path-true}
use Rattle.pdh_levels.proofs.NodeOrder.{only_at, node_place, nodes_known, placed}

-- ---- rows at a path

pub same_path-same : (path : List ℕ) → same_path path path ≡ true
same_path-same [] = refl
same_path-same (step ∷ path) = rw (eq-eqb step step refl, same_path-same path) refl

pub same_path-other : (path other : List ℕ) → (path ≡ other → ⊥) → same_path path other ≡ false
same_path-other path other differ = elim (cases_Bool (same_path path other)) [
  | inl is ↦ absurd (differ (same_path-true path other is))
  | inr isnt ↦ isnt
]

pub rows_at-joined : {X : Type 0} (g : X → List Row) (xs : List X) (path : List ℕ) → rows_at (flat_map g xs) path ≡ flat_map (λ x. rows_at (g x) path) xs
rows_at-joined g [] path = refl
rows_at-joined g (x ∷ xs) path = filter-append (λ row. same_path row.path path) (g x) (flat_map g xs)
    ∙ ap (λ rows. rows_at (g x) path ++ rows) (rows_at-joined g xs path)

-- rows that are all at one path
abbrev pub AtPath : List ℕ → List Row → Type 0
AtPath path rows = All (λ row. row.path ≡ path) rows

pub rows_at_all : (path : List ℕ) (rows : List Row) → AtPath path rows → rows_at rows path ≡ rows
rows_at_all path [] h = refl
rows_at_all path (row ∷ rows) h =
    let is : same_path row.path path ≡ true = ap (λ p. same_path p path) (All-head (λ (row : Row). row.path ≡ path) row rows h) ∙ same_path-same path in
    rw is (ap (λ rows. row ∷ rows) (rows_at_all path rows (All-tail (λ (row : Row). row.path ≡ path) row rows h)))

pub rows_at_none : (path other : List ℕ) (rows : List Row) → AtPath path rows → (path ≡ other → ⊥) → rows_at rows other ≡ []
rows_at_none path other [] h differ = refl
rows_at_none path other (row ∷ rows) h differ =
    let isnt : same_path row.path other ≡ false =
    ap (λ p. same_path p other) (All-head (λ (row : Row). row.path ≡ path) row rows h) ∙ same_path-other path other differ in
    rw isnt (rows_at_none path other rows (All-tail (λ (row : Row). row.path ≡ path) row rows h) differ)

rows_at-paths : (path : List ℕ) (rows : List Row) → AtPath path (rows_at rows path)
rows_at-paths path [] = All-nil (λ (row : Row). row.path ≡ path)
rows_at-paths path (row ∷ rows) = elim (cases_Bool (same_path row.path path)) [
  | inl is ↦ rw is (All-cons (λ (row : Row). row.path ≡ path) row (rows_at rows path) (same_path-true row.path path is) (rows_at-paths path rows))
  | inr isnt ↦ rw isnt (rows_at-paths path rows)
]

pub at_path-paths : (path : List ℕ) (rows : List NodeRow) → AtPath path (map (at_path path) rows)
at_path-paths path [] = All-nil (λ (row : Row). row.path ≡ path)
at_path-paths path (row ∷ rows) = All-cons (λ (row : Row). row.path ≡ path) (at_path path row) (map (at_path path) rows) refl (at_path-paths path rows)

-- ---- rows in the order of nodes

-- a node's rows stay where all are put in the order of nodes
pub rows_at-by_nodes : (levels : List Level) (rows : List Row) (path : List ℕ) → IsSome (level_at levels path)
    → rows_at (by_nodes levels rows) path ≡ rows_at rows path
rows_at-by_nodes levels rows path some =
    let at = placed levels path some in
    let place = place_of levels path in
    let here : get_or (nodes_in levels) place [] ≡ path = at.node [] in
    rows_at-joined (rows_at rows) (nodes_in levels) path
    ∙ only_at (λ node. rows_at (rows_at rows node) path) (nodes_in levels) place [] at.inside
    (λ j l other. rows_at_none (get_or (nodes_in levels) j []) path (rows_at rows (get_or (nodes_in levels) j []))
    (rows_at-paths (get_or (nodes_in levels) j []) rows)
    (λ same. other (sym (node_place levels j [] l) ∙ ap (place_of levels) same)))
    ∙ ap (λ node. rows_at (rows_at rows node) path) here
    ∙ rows_at_all path (rows_at rows path) (rows_at-paths path rows)

-- and so do its frames
pub frames_of-by_nodes : (levels : List Level) (rows : List Row) (path : List ℕ) → IsSome (level_at levels path)
    → frames_of (by_nodes levels rows) path ≡ frames_of rows path
unfolding frames_of
frames_of-by_nodes levels rows path some =
    ap (flat_map frames_of_row) (rows_at-by_nodes levels rows path some)

-- ---- the rows of a tree

pub length-nodes : (tree : Tree) → IsTree tree → length tree.nodes.items ≡ length (nodes_in tree.levels.items)
length-nodes tree h = sym (length-map tree.nodes.items node_path) ∙ ap length h.paths

-- the path of the node at a place
pub path_of_node : (tree : Tree) (k : ℕ) (d : NodeRows) (e : List ℕ) → IsTree tree → k < length tree.nodes.items
    → node_path (get_or tree.nodes.items k d) ≡ get_or (nodes_in tree.levels.items) k e
path_of_node tree k d e h l =
    sym (get_or-map node_path tree.nodes.items k d e l) ∙ ap (λ paths. get_or paths k e) h.paths

pub place_of_node : (tree : Tree) (k : ℕ) (d : NodeRows) → IsTree tree → k < length tree.nodes.items
    → place_of tree.levels.items (node_path (get_or tree.nodes.items k d)) ≡ k
place_of_node tree k d h l =
    ap (place_of tree.levels.items) (path_of_node tree k d [] h l)
    ∙ node_place tree.levels.items k [] (subst (λ n. k < n) (length-nodes tree h) l)

-- each node has a level
pub known_node : (tree : Tree) (k : ℕ) (d : NodeRows) → IsTree tree → k < length tree.nodes.items
    → IsSome (level_at tree.levels.items (node_path (get_or tree.nodes.items k d)))
known_node tree k d h l =
    subst (λ path. IsSome (level_at tree.levels.items path)) (sym (path_of_node tree k d [] h l))
    (All-get_or (λ path. IsSome (level_at tree.levels.items path)) (nodes_in tree.levels.items) k []
    (subst (λ n. k < n) (length-nodes tree h) l) (nodes_known tree.levels.items))

cases_eq : (k n : ℕ) → (k ≡ n) ⊎ (k ≡ n → ⊥)
cases_eq k n = elim (cases_Bool (k == n)) [
  | inl is ↦ inl (eqb-true k n is)
  | inr isnt ↦ inr (eqb-false k n isnt)
]

-- the rows at a node's path are the node's
pub rows_of_node : (tree : Tree) (k : ℕ) (d : NodeRows) → IsTree tree → k < length tree.nodes.items
    → rows_at (rows_in tree) (node_path (get_or tree.nodes.items k d)) ≡ node_rows (get_or tree.nodes.items k d)
rows_of_node tree k d h l =
    let nodes = tree.nodes.items in
    let path = node_path (get_or nodes k d) in
    rows_at-joined node_rows nodes path
    ∙ only_at (λ node. rows_at (node_rows node) path) nodes k d l
    (λ j m other. rows_at_none (node_path (get_or nodes j d)) path (node_rows (get_or nodes j d))
    (at_path-paths (node_path (get_or nodes j d)) (rows_of (get_or nodes j d).table))
    (λ same. other (sym (place_of_node tree j d h m) ∙ ap (place_of tree.levels.items) same ∙ place_of_node tree k d h l)))
    ∙ rows_at_all path (node_rows (get_or nodes k d)) (at_path-paths path (rows_of (get_or nodes k d).table))

frames_at_path : (path : List ℕ) (rows : List NodeRow) → flat_map frames_of_row (map (at_path path) rows) ≡ node_frames rows
unfolding node_frames
frames_at_path path [] = refl
frames_at_path path (row ∷ rows) = ap (λ frames. frames_in row ++ frames) (frames_at_path path rows)

pub frames_of_node : (tree : Tree) (k : ℕ) (d : NodeRows) → IsTree tree → k < length tree.nodes.items
    → frames_of (rows_in tree) (node_path (get_or tree.nodes.items k d)) ≡ node_frames (rows_of (get_or tree.nodes.items k d).table)
unfolding frames_of
frames_of_node tree k d h l =
    ap (flat_map frames_of_row) (rows_of_node tree k d h l)
    ∙ frames_at_path (node_path (get_or tree.nodes.items k d)) (rows_of (get_or tree.nodes.items k d).table)

-- the node that is found at the place of a path
pub record IsNodeAt (tree : Tree) (path : List ℕ) (node : NodeRows) : Type 0 where
  pub path_is : node_path node ≡ path
  pub node_is : IsNode tree.levels.items node
  pub rows_are : rows_at (rows_in tree) path ≡ node_rows node
  pub frames_are : frames_of (rows_in tree) path ≡ node_frames (rows_of node.table)

pub place_inside : (tree : Tree) (path : List ℕ) → IsTree tree → IsSome (level_at tree.levels.items path)
    → place_of tree.levels.items path < length tree.nodes.items
place_inside tree path h some =
    subst (λ n. place_of tree.levels.items path < n) (sym (length-nodes tree h)) (placed tree.levels.items path some).inside

pub node_at : (tree : Tree) (path : List ℕ) (d : NodeRows) → IsTree tree → IsSome (level_at tree.levels.items path)
    → IsNodeAt tree path (get_or tree.nodes.items (place_of tree.levels.items path) d)
node_at tree path d h some =
    let place = place_of tree.levels.items path in
    let inside = place_inside tree path h some in
    let same = path_of_node tree place d path h inside ∙ (placed tree.levels.items path some).node path in
    record {
      path_is = same;
      node_is = All-get_or (IsNode tree.levels.items) tree.nodes.items place d inside h.each;
      rows_are = ap (rows_at (rows_in tree)) (sym same) ∙ rows_of_node tree place d h inside;
      frames_are = ap (frames_of (rows_in tree)) (sym same) ∙ frames_of_node tree place d h inside;
    }

-- a node that was read at its place
pub node_found : (tree : Tree) (path : List ℕ) (node : NodeRows) (place : ℕ) → IsTree tree → IsSome (level_at tree.levels.items path)
    → place ≡ place_of tree.levels.items path → node ≡ get_or tree.nodes.items place node → IsNodeAt tree path node
node_found tree path node place h some same read =
    subst (IsNodeAt tree path) (sym (read ∙ ap (λ k. get_or tree.nodes.items k node) same)) (node_at tree path node h some)

pub joined_over : {X : Type 0} (g : NodeRows → List X) (f : List ℕ → List X) (nodes : List NodeRows) → All (λ node. g node ≡ f (node_path node)) nodes
    → flat_map g nodes ≡ flat_map f (map node_path nodes)
joined_over g f [] h = refl
joined_over g f (node ∷ nodes) h =
    ap (λ rows. rows ++ flat_map g nodes) (All-head (λ node. g node ≡ f (node_path node)) node nodes h)
    ∙ ap (λ rows. f (node_path node) ++ rows) (joined_over g f nodes (All-tail (λ node. g node ≡ f (node_path node)) node nodes h))

-- the rows of all nodes, where those of each are known
pub rows_in_is : (tree : Tree) (f : List ℕ → List Row) → IsTree tree → All (λ node. node_rows node ≡ f (node_path node)) tree.nodes.items
    → rows_in tree ≡ flat_map f (nodes_in tree.levels.items)
rows_in_is tree f h each = joined_over node_rows f tree.nodes.items each ∙ ap (flat_map f) h.paths

-- ---- a tree with other rows at one node

pub record Changes (old new : Tree) (place : ℕ) (node : NodeRows) : Type 0 where
  pub levels : new.levels.items ≡ old.levels.items
  pub nodes : new.nodes.items ≡ set old.nodes.items place node
  pub inside : place < length old.nodes.items
  pub path : (d : NodeRows) → node_path node ≡ node_path (get_or old.nodes.items place d)
  pub node_is : IsNode old.levels.items node

pub IsTree_changed : (old new : Tree) (place : ℕ) (node : NodeRows) → IsTree old → Changes old new place node → IsTree new
IsTree_changed old new place node h c = record {
  levels_are = subst AreLevels (sym c.levels) h.levels_are;
  paths = ap (map node_path) c.nodes ∙ map-set node_path old.nodes.items place node
      ∙ ap (set (map node_path old.nodes.items) place) (c.path node ∙ sym (get_or-map node_path old.nodes.items place node [] c.inside))
      ∙ set-get_or (map node_path old.nodes.items) place []
      ∙ h.paths ∙ ap nodes_in (sym c.levels);
  each = subst (λ nodes. All (IsNode new.levels.items) nodes) (sym c.nodes)
      (subst (λ levels. All (IsNode levels) (set old.nodes.items place node)) (sym c.levels)
      (All-set (IsNode old.levels.items) old.nodes.items place node c.node_is h.each));
}

-- the nodes of a changed tree
pub node_changed : (old new : Tree) (place : ℕ) (node d : NodeRows) → Changes old new place node → get_or new.nodes.items place d ≡ node
node_changed old new place node d c = ap (λ nodes. get_or nodes place d) c.nodes ∙ get_or-set_same old.nodes.items place node d c.inside

pub node_kept : (old new : Tree) (place k : ℕ) (node d : NodeRows) → Changes old new place node → (k ≡ place → ⊥)
    → get_or new.nodes.items k d ≡ get_or old.nodes.items k d
node_kept old new place k node d c other = ap (λ nodes. get_or nodes k d) c.nodes ∙ get_or-set_other old.nodes.items place k node d other

pub length-changed : (old new : Tree) (place : ℕ) (node : NodeRows) → Changes old new place node → length new.nodes.items ≡ length old.nodes.items
length-changed old new place node c = ap length c.nodes ∙ length-set old.nodes.items place node

-- ---- one more row

-- the rows of each node, where the rows in order of lines have one more
more_at : (rows : List Row) (row : Row) (path : List ℕ) (b : Bool) → same_path row.path path ≡ b
    → rows_at (rows ++ row ∷ []) path ≡ rows_at rows path ++ cond b (row ∷ []) []
more_at rows row path b is = filter-append (λ row. same_path row.path path) rows (row ∷ []) ∙ ap (λ b. rows_at rows path ++ cond b (row ∷ []) []) is

pub rows_added : (old new : Tree) (path : List ℕ) (node : NodeRows) (row : Row) (rows : List Row) → IsTree old
    → Changes old new (place_of old.levels.items path) node → IsSome (level_at old.levels.items path) → row.path ≡ path
    → node_rows node ≡ rows_at (rows_in old) path ++ row ∷ []
    → rows_in old ≡ by_nodes old.levels.items rows → rows_in new ≡ by_nodes old.levels.items (rows ++ row ∷ [])
rows_added old new path node row rows h c some at more known =
    let levels = old.levels.items in
    let place = place_of levels path in
    let tree = IsTree_changed old new place node h c in
    let rows_of_path : (p : List ℕ) → IsSome (level_at levels p) → rows_at (rows_in old) p ≡ rows_at rows p =
    λ p some. ap (λ rs. rows_at rs p) known ∙ rows_at-by_nodes levels rows p some in
    rows_in_is new (rows_at (rows ++ row ∷ [])) tree (λ k d l. each rows_of_path tree k d l)
    ∙ ap (λ ls. flat_map (rows_at (rows ++ row ∷ [])) (nodes_in ls)) c.levels
  where
    each : ((p : List ℕ) → IsSome (level_at old.levels.items p) → rows_at (rows_in old) p ≡ rows_at rows p) → IsTree new
        → (k : ℕ) (d : NodeRows) → k < length new.nodes.items
        → node_rows (get_or new.nodes.items k d) ≡ rows_at (rows ++ row ∷ []) (node_path (get_or new.nodes.items k d))
    each rows_of_path tree k d l = elim (cases_eq k (place_of old.levels.items path)) [
      | inl same ↦ here rows_of_path same
      | inr other ↦ elsewhere rows_of_path other
    ]
      where
        inside : k < length old.nodes.items
        inside = subst (λ n. k < n) (length-changed old new (place_of old.levels.items path) node c) l

        here : ((p : List ℕ) → IsSome (level_at old.levels.items p) → rows_at (rows_in old) p ≡ rows_at rows p) → k ≡ place_of old.levels.items path → node_rows (get_or new.nodes.items k d) ≡ rows_at (rows ++ row ∷ []) (node_path (get_or new.nodes.items k d))
        here rows_of_path same =
            let is : get_or new.nodes.items k d ≡ node = ap (λ k. get_or new.nodes.items k d) same ∙ node_changed old new (place_of old.levels.items path) node d c in
            let path_is : node_path node ≡ path = c.path d ∙ (node_at old path d h some).path_is in
            subst (λ x. node_rows x ≡ rows_at (rows ++ row ∷ []) (node_path x)) (sym is) (more ∙ ap (λ rs. rs ++ row ∷ []) (rows_of_path path some)
            ∙ sym (more_at rows row path true (ap (λ p. same_path p path) at ∙ same_path-same path))
            ∙ ap (rows_at (rows ++ row ∷ [])) (sym path_is))

        elsewhere : ((p : List ℕ) → IsSome (level_at old.levels.items p) → rows_at (rows_in old) p ≡ rows_at rows p) → (k ≡ place_of old.levels.items path → ⊥) → node_rows (get_or new.nodes.items k d) ≡ rows_at (rows ++ row ∷ []) (node_path (get_or new.nodes.items k d))
        elsewhere rows_of_path other =
            let kept = node_kept old new (place_of old.levels.items path) k node d c other in
            let old_node = get_or old.nodes.items k d in
            let differ : row.path ≡ node_path old_node → ⊥ =
            λ same. other (sym (place_of_node old k d h inside) ∙ ap (place_of old.levels.items) (sym same ∙ at)) in
            subst (λ x. node_rows x ≡ rows_at (rows ++ row ∷ []) (node_path x)) (sym kept) (sym (rows_of_node old k d h inside) ∙ rows_of_path (node_path old_node) (known_node old k d h inside)
            ∙ sym (append-nil (rows_at rows (node_path old_node)))
            ∙ sym (more_at rows row (node_path old_node) false (same_path-other row.path (node_path old_node) differ)))

-- ---- nodes without rows

-- a node that has no row yet
pub record IsEmptyNode (levels : List Level) (node : NodeRows) : Type 0 where
  pub stored : IsTable node.table
  pub ratio : node.table.ratio ≡ ratio_at levels (node_path node)
  pub tribs : node.table.tribs ≡ stores_at levels (node_path node)
  pub none : rows_of node.table ≡ []

empty_is_node : (levels : List Level) (node : NodeRows) → IsEmptyNode levels node → IsNode levels node
empty_is_node levels node h = record {
  stored = h.stored;
  ratio = h.ratio;
  tribs = h.tribs;
  frames_few = subst (λ rows. row_frames rows ≤ most_node_frames) (sym h.none) (omega arith);
  rows = subst (λ rows. All (IsRowOf levels) (map (at_path (node_path node)) rows)) (sym h.none) (All-nil (IsRowOf levels));
}

-- all nodes, none of which has a row
pub IsTree_empty : (tree : Tree) → AreLevels tree.levels.items → map node_path tree.nodes.items ≡ nodes_in tree.levels.items
    → All (IsEmptyNode tree.levels.items) tree.nodes.items → IsTree tree
IsTree_empty tree levels paths each = record {
  levels_are = levels;
  paths = paths;
  each = All-weaker (IsEmptyNode tree.levels.items) (IsNode tree.levels.items) (empty_is_node tree.levels.items) tree.nodes.items each;
}

pub no_rows : (levels : List Level) (nodes : List NodeRows) → All (IsEmptyNode levels) nodes → flat_map node_rows nodes ≡ []
no_rows levels [] each = refl
no_rows levels (node ∷ nodes) each =
    let first = All-head (IsEmptyNode levels) node nodes each in
    ap (λ rows. map (at_path (node_path node)) rows ++ flat_map node_rows nodes) first.none
    ∙ no_rows levels nodes (All-tail (IsEmptyNode levels) node nodes each)

-- one more node
pub paths_more : (levels : List Level) (nodes : List NodeRows) (node : NodeRows) (k : ℕ) → k < length (nodes_in levels) → map node_path nodes ≡ take k (nodes_in levels)
    → node_path node ≡ get_or (nodes_in levels) k [] → map node_path (nodes ++ node ∷ []) ≡ take (k + 1) (nodes_in levels)
paths_more levels nodes node k inside paths at =
    map_push node_path nodes node ∙ ap (λ ps. ps ++ node_path node ∷ []) paths
    ∙ ap (λ p. take k (nodes_in levels) ++ p ∷ []) at ∙ sym (take_more (nodes_in levels) k [] inside)

-- ---- one more row at a node

-- the node is found, and a row is put behind its rows
pub record PutsRow (tree : Tree) (path : List ℕ) (node more : NodeRows) (row : NodeRow) : Type 0 where
  pub some : IsSome (level_at tree.levels.items path)
  pub found : IsNodeAt tree path node
  pub path_is : node_path more ≡ path
  pub stored : IsTable more.table
  pub ratio : more.table.ratio ≡ node.table.ratio
  pub tribs : more.table.tribs ≡ node.table.tribs
  pub rows : rows_of more.table ≡ rows_of node.table ++ row ∷ []
  pub frames_few : row_frames (rows_of more.table) ≤ most_node_frames
  pub sound : IsRowOf tree.levels.items (at_path path row)

pub node_put : (tree : Tree) (path : List ℕ) (node more : NodeRows) (row : NodeRow) → PutsRow tree path node more row
    → node_rows more ≡ node_rows node ++ at_path path row ∷ []
node_put tree path node more row p =
    ap (λ path. map (at_path path) (rows_of more.table)) (p.path_is ∙ sym p.found.path_is)
    ∙ ap (map (at_path (node_path node))) p.rows ∙ map_push (at_path (node_path node)) (rows_of node.table) row
    ∙ ap (λ path. node_rows node ++ at_path path row ∷ []) p.found.path_is

pub is_node_put : (tree : Tree) (path : List ℕ) (node more : NodeRows) (row : NodeRow) → PutsRow tree path node more row
    → IsNode tree.levels.items more
is_node_put tree path node more row p = record {
  stored = p.stored;
  ratio = p.ratio ∙ p.found.node_is.ratio ∙ ap (ratio_at tree.levels.items) (p.found.path_is ∙ sym p.path_is);
  tribs = p.tribs ∙ p.found.node_is.tribs ∙ ap (stores_at tree.levels.items) (p.found.path_is ∙ sym p.path_is);
  frames_few = p.frames_few;
  rows = subst (All (IsRowOf tree.levels.items)) (sym (node_put tree path node more row p))
      (All-push (IsRowOf tree.levels.items) (node_rows node) (at_path path row) p.found.node_is.rows p.sound);
}

pub changes_put : (tree new : Tree) (path : List ℕ) (node more : NodeRows) (row : NodeRow) → IsTree tree → PutsRow tree path node more row
    → new.levels.items ≡ tree.levels.items → new.nodes.items ≡ set tree.nodes.items (place_of tree.levels.items path) more
    → Changes tree new (place_of tree.levels.items path) more
changes_put tree new path node more row h p levels nodes = record {
  levels = levels;
  nodes = nodes;
  inside = place_inside tree path h p.some;
  path = λ d. p.path_is ∙ sym (node_at tree path d h p.some).path_is;
  node_is = is_node_put tree path node more row p;
}

-- a row is put behind the others of its node
pub rows_put : (tree new : Tree) (path : List ℕ) (node more : NodeRows) (row : NodeRow) → IsTree tree → PutsRow tree path node more row
    → new.levels.items ≡ tree.levels.items → new.nodes.items ≡ set tree.nodes.items (place_of tree.levels.items path) more
    → (rows : List Row) → rows_in tree ≡ by_nodes tree.levels.items rows
    → rows_in new ≡ by_nodes tree.levels.items (rows ++ at_path path row ∷ [])
rows_put tree new path node more row h p levels nodes rows known =
    rows_added tree new path more (at_path path row) rows h (changes_put tree new path node more row h p levels nodes) p.some refl
    (node_put tree path node more row p ∙ ap (λ rs. rs ++ at_path path row ∷ []) (sym p.found.rows_are)) known
