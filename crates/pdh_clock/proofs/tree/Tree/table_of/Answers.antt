use Rattle.std.proofs.Common.{◌∙◌, ap, sym, subst, arith, get_or}
use Rattle.pdh_line.specs.Paths.{steps_of}
use Rattle.pdh_levels.specs.Levels.{stores_at}
use Rattle.pdh_clock.proofs.Trees.{IsNodeAt, node_at, place_inside}
use Rattle.pdh_clock.proofs.tree.Tree.table_of.Goals as goal

pub index-requires : goal.index-requires
index-requires c = omega (arith, place_inside c.args.self.now (steps_of c.args.node.now) c.requires.tree c.requires.node, c.place.ensures)

found : (c : goal.After-index) → IsNodeAt c.args.self.now (steps_of c.args.node.now) c.index.result.now
found c = subst (IsNodeAt c.args.self.now (steps_of c.args.node.now))
    (sym (c.index.ensures ∙ ap (λ k. get_or c.args.self.now.nodes.items k c.index.result.now) c.place.ensures))
    (node_at c.args.self.now (steps_of c.args.node.now) c.index.result.now c.requires.tree c.requires.node)

pub returns-clause-table : goal.returns-clause-table
returns-clause-table c = (found c).node_is.stored

pub returns-clause-tribs : goal.returns-clause-tribs
returns-clause-tribs c = (found c).node_is.tribs ∙ ap (stores_at c.args.self.now.levels.items) (found c).path_is

pub returns-clause-frames : goal.returns-clause-frames
returns-clause-frames c = sym (found c).frames_are
