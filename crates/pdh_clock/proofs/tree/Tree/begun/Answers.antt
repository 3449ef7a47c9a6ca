use Rattle.std.proofs.Common.{◌≡◌, ◌∙◌, ◌<◌, ap, sym, arith}
use Rattle.pdh_line.specs.Paths.{steps_of}
use Rattle.pdh_line.specs.Progress.{begun_by}
use Rattle.pdh_clock.specs.Stored.{contents_of}
use Rattle.pdh_levels.proofs.LevelLaws.{level_is}
use Rattle.pdh_clock.proofs.Begins.{begun_by_ceil, begun_by-le, frames_begun_is}
use Rattle.pdh_clock.proofs.tree.Tree.begun.Goals as goal

pub div_ceil-requires : goal.div_ceil-requires
div_ceil-requires c =
    let level = level_is c.args.self.now.levels.items (steps_of c.args.node.now) c.level_of.result c.requires.tree.levels_are.each c.level_of.ensures in
    omega (arith, level.shortest, c.from-len.ensures)

value : (c : goal.After-div_ceil) → c.div_ceil.result ≡ begun_by c.level_of.result.len c.bits.result
value c = c.div_ceil.ensures ∙ begun_by_ceil c.from-len.result c.bits.result ∙ ap (λ len. begun_by len c.bits.result) c.from-len.ensures

pub overflow_cast-result : goal.overflow_cast-result
overflow_cast-result c =
    let level = level_is c.args.self.now.levels.items (steps_of c.args.node.now) c.level_of.result c.requires.tree.levels_are.each c.level_of.ensures in
    let some : 0 < c.level_of.result.len = omega (arith, level.shortest) in
    let few = begun_by-le c.level_of.result.len c.bits.result 18446744073709551615 some (c.bits.ensures.few c.level_of.result c.level_of.ensures) in
    record { fits = omega (arith, value c, few) }

pub returns : goal.returns
returns c = value c ∙ ap (begun_by c.level_of.result.len) c.bits.ensures.bits
    ∙ sym (frames_begun_is (contents_of c.args.self.now) c.args.top_frames (steps_of c.args.node.now) c.level_of.result c.level_of.ensures)
