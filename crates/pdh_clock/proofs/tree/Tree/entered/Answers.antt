use Rattle.std.proofs.Common.{◌≡◌, ℕ, List, [], ◌+◌, ◌*◌, ap, ◌∙◌, length, arith, is_some}
use Rattle.pdh_shape.specs.OwnNumbers.{lead}
use Rattle.pdh_line.specs.Paths.{steps_of}
use Rattle.pdh_line.specs.Progress.{arrived}
use Rattle.pdh_line.specs.Nodes.{begun_at}
use Rattle.pdh_levels.specs.Levels.{numbers_of}
use Rattle.pdh_clock.specs.Begun.{top_len, frames_begun}
use Rattle.pdh_clock.specs.Contents.{Contents, counts}
use Rattle.pdh_clock.specs.Stored.{contents_of, rows_in}
use Rattle.pdh_clock.proofs.Served.{same_counts}
use Rattle.pdh_clock.proofs.Begins.{none_short, scheduled_at}
use Rattle.pdh_clock.proofs.Entered.{is_found, found_store, entered_is, enter_locked, enter_none, enter_some}
use Rattle.pdh_clock.proofs.tree.Tree.entered.Goals.{After-leaf_place-place}
use Rattle.pdh_clock.proofs.tree.Tree.entered.Goals as goal

-- the frames that the node begins
begun_is : (schedule : Contents) (n begun : ℕ) (path : List ℕ) → begun ≡ frames_begun schedule n path
    → begun ≡ begun_at (numbers_of schedule.levels) (counts schedule.rows) [] (n * top_len schedule.levels) path
unfolding frames_begun
begun_is schedule n begun path begins = begins

pub begun-begun-requires-clause-node : goal.begun-begun-requires-clause-node
begun-begun-requires-clause-node c =
    ap is_some (is_found c.args.self.now.levels.items c.deref.result.now c.args.leaf c.leaf_place-place.result.node c.leaf_place-place.result.trib c.requires.tree.levels_are c.requires.leaf c.deref.ensures.value c.leaf_place-place.ensures.node c.leaf_place-place.ensures.trib).at

pub begun-begun-requires-clause-enough : goal.begun-begun-requires-clause-enough
begun-begun-requires-clause-enough c = none_short (contents_of c.args.self.now) c.args.top_frames _ c.requires.enough

pub level_of-level-requires : goal.level_of-level-requires
level_of-level-requires c =
    ap is_some (is_found c.args.self.now.levels.items c.deref.result.now c.args.leaf c.leaf_place-place.result.node c.leaf_place-place.result.trib c.requires.tree.levels_are c.requires.leaf c.deref.ensures.value c.leaf_place-place.ensures.node c.leaf_place-place.ensures.trib).at

pub returns-then-level : goal.returns-then-level
returns-then-level c =
    let tree = c.args.self.now in
    let node = c.leaf_place-place.result.node in
    let trib = c.leaf_place-place.result.trib in
    let found = is_found c.args.self.now.levels.items c.deref.result.now c.args.leaf c.leaf_place-place.result.node c.leaf_place-place.result.trib c.requires.tree.levels_are c.requires.leaf c.deref.ensures.value c.leaf_place-place.ensures.node c.leaf_place-place.ensures.trib in
    let level = c.level_of-level.result in
    let bits : c.from.result * c.from-then-level.result ≡ c.begun-begun.result * level.low = ap (λ n. n * c.from-then-level.result) c.from.ensures ∙ ap (λ n. c.begun-begun.result * n) c.from-then-level.ensures in
    entered_is tree.levels.items (rows_in tree) (c.args.top_frames * top_len tree.levels.items) c.args.leaf c.begun-begun.result (c.from.result * c.from-then-level.result) node trib level found
    c.level_of-level.ensures (begun_is (contents_of tree) c.args.top_frames c.begun-begun.result (steps_of node) c.begun-begun.ensures)
    (bits ∙ enter_locked level (counts (rows_in tree) (steps_of node) trib) c.begun-begun.result c.if-level.true)

pub returns-then-begun-eq0 : goal.returns-then-begun-eq0
returns-then-begun-eq0 c =
    let tree = c.args.self.now in
    let node = c.leaf_place-place.result.node in
    let trib = c.leaf_place-place.result.trib in
    let found = is_found c.args.self.now.levels.items c.deref.result.now c.args.leaf c.leaf_place-place.result.node c.leaf_place-place.result.trib c.requires.tree.levels_are c.requires.leaf c.deref.ensures.value c.leaf_place-place.ensures.node c.leaf_place-place.ensures.trib in
    entered_is tree.levels.items (rows_in tree) (c.args.top_frames * top_len tree.levels.items) c.args.leaf c.begun-begun.result 0 node trib c.level_of-level.result found
    c.level_of-level.ensures (begun_is (contents_of tree) c.args.top_frames c.begun-begun.result (steps_of node) c.begun-begun.ensures)
    (enter_none c.level_of-level.result (counts (rows_in tree) (steps_of node) trib) c.begun-begun.result c.if-level.false c.if-begun-eq0.true)

pub table_of-table-requires-clause-node : goal.table_of-table-requires-clause-node
table_of-table-requires-clause-node c = ap is_some c.level_of-level.ensures

pub total-requires-clause-scheduled : goal.total-requires-clause-scheduled
total-requires-clause-scheduled c =
    let schedule = contents_of c.args.self.now in
    let path = steps_of c.leaf_place-place.result.node in
    let have = ap length c.table_of-table.ensures.frames in
    omega (arith, scheduled_at schedule c.args.top_frames path c.requires.enough (ap is_some c.level_of-level.ensures), have, c.begun-begun.ensures)

pub total-requires-clause-in_range : goal.total-requires-clause-in_range
total-requires-clause-in_range c =
    let node = c.leaf_place-place.result.node in
    let trib = c.leaf_place-place.result.trib in
    let found = is_found c.args.self.now.levels.items c.deref.result.now c.args.leaf c.leaf_place-place.result.node c.leaf_place-place.result.trib c.requires.tree.levels_are c.requires.leaf c.deref.ensures.value c.leaf_place-place.ensures.node c.leaf_place-place.ensures.trib in
    let store = found_store c.args.self.now.levels.items c.args.leaf node trib c.level_of-level.result found c.level_of-level.ensures c.if-level.false in
    omega (arith, store, c.table_of-table.ensures.tribs, c.from-2.ensures)

pub returns : goal.returns
returns c =
    let tree = c.args.self.now in
    let node = c.leaf_place-place.result.node in
    let path = steps_of node in
    let trib = c.leaf_place-place.result.trib in
    let found = is_found c.args.self.now.levels.items c.deref.result.now c.args.leaf c.leaf_place-place.result.node c.leaf_place-place.result.trib c.requires.tree.levels_are c.requires.leaf c.deref.ensures.value c.leaf_place-place.ensures.node c.leaf_place-place.ensures.trib in
    let sum : c.from-3.result ≡ arrived (counts (rows_in tree) path trib) c.begun-begun.result =
    c.from-3.ensures ∙ c.total.ensures ∙ ap (λ f. arrived f c.begun-begun.result) (same_counts tree path c.table_of-table.result.now trib c.from-2.result c.table_of-table.ensures.frames c.from-2.ensures) in
    entered_is tree.levels.items (rows_in tree) (c.args.top_frames * top_len tree.levels.items) c.args.leaf c.begun-begun.result (lead + c.from-3.result) node trib c.level_of-level.result found
    c.level_of-level.ensures (begun_is (contents_of tree) c.args.top_frames c.begun-begun.result path c.begun-begun.ensures)
    (enter_some c.level_of-level.result (counts (rows_in tree) path trib) c.begun-begun.result c.from-3.result c.if-level.false c.if-begun-eq0.false sum)
