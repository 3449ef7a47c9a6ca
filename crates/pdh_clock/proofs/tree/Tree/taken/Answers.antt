use Rattle.std.proofs.Common.{◌≡◌, ℕ, List, Some, true, is_some, ap, ◌/◌, ◌*◌, ◌≤◌, ◌^◌, arith}
use Rattle.std.proofs.Math.Nat.{mul-le-mul_right, mul-le-mul_left}
use Rattle.pdh_line.specs.Paths.{steps_of}
use Rattle.pdh_levels.proofs.LevelLaws.{level_is}
use Rattle.pdh_clock.proofs.Begins.{whole_frames-begun}
use Rattle.pdh_shape.specs.declared.place.Level.{Level}
use Rattle.pdh_line.specs.Progress.{begun_by}
use Rattle.pdh_levels.specs.Levels.{longest_frame, level_at}
use Rattle.pdh_clock.specs.declared.tree.Tree.{Tree}
use Rattle.pdh_clock.specs.Contents.{frame_count}
use Rattle.pdh_clock.specs.Stored.{IsTree, rows_in, most_node_frames}
use Rattle.pdh_clock.proofs.Served.{frames_few}
use Rattle.pdh_clock.proofs.tree.Tree.taken.Goals as goal

pub nonzero_div-result : goal.nonzero_div-result
nonzero_div-result c =
    let level = level_is c.args.self.now.levels.items (steps_of c.args.node.now) c.level_of-level.result c.requires.tree.levels_are.each c.level_of-level.ensures in
    omega (arith, level.shortest, c.from.ensures)

-- so many bits of so few frames, where no store stands between
whole_few : (tree : Tree) (path : List ℕ) (level : Level) (bits : ℕ) → IsTree tree → level_at tree.levels.items path ≡ Some level → level.locked ≡ true
    → begun_by level.len bits ≤ frame_count (rows_in tree) path → bits / level.len * level.low ≤ 2 ^ 70
whole_few tree path level bits h at locked enough =
    let is = level_is tree.levels.items path level h.levels_are.each at in
    let low : level.low ≤ longest_frame = omega (arith, is.carried locked, is.longest) in
    let few : bits / level.len ≤ most_node_frames = omega (arith, whole_frames-begun level.len bits, enough, frames_few tree path h (ap is_some at)) in
    omega (arith, mul-le-mul_right level.low few, mul-le-mul_left most_node_frames low)

pub overflow_mul-result : goal.overflow_mul-result
overflow_mul-result c =
    let level = c.level_of-level.result in
    let few = whole_few c.args.self.now (steps_of c.args.node.now) level c.args.bits c.requires.tree c.level_of-level.ensures c.if-level.true (c.requires.enough level c.level_of-level.ensures) in
    record { fits = omega (arith, ap (λ len. c.args.bits / len * c.from-then-level.result) c.from.ensures, ap (λ low. c.args.bits / level.len * low) c.from-then-level.ensures, few) }

pub returns-then-level-clause-few : goal.returns-then-level-clause-few
returns-then-level-clause-few c =
    let level = c.level_of-level.result in
    let few = whole_few c.args.self.now (steps_of c.args.node.now) level c.args.bits c.requires.tree c.level_of-level.ensures c.if-level.true (c.requires.enough level c.level_of-level.ensures) in
    omega (arith, ap (λ len. c.args.bits / len * c.from-then-level.result) c.from.ensures, ap (λ low. c.args.bits / level.len * low) c.from-then-level.ensures, few)

pub came_in-requires-clause-some : goal.came_in-requires-clause-some
came_in-requires-clause-some c =
    let level = level_is c.args.self.now.levels.items (steps_of c.args.node.now) c.level_of-level.result c.requires.tree.levels_are.each c.level_of-level.ensures in
    omega (arith, level.shortest)
