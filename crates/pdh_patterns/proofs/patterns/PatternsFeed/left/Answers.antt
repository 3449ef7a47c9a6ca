use Rattle.std.proofs.Common.{◌≡◌, ◌<◌, length, Some, refl, arith, slice_get}
use Rattle.std.proofs.lemmas.Option.{slice_get_read}
use Rattle.pdh_edge.proofs.ListSteps.{within_lists}
use Rattle.pdh_patterns.specs.Patterns.{rest_of}
use Rattle.pdh_patterns.specs.declared.patterns.LeafPattern.{LeafPattern}
use Rattle.pdh_patterns.proofs.Giving.{left_is}
use Rattle.pdh_patterns.proofs.patterns.PatternsFeed.left.Goals as goal

pub returns : goal.returns
returns c =
    let leaves = c.args.self.now.leaves.items in
    let source : LeafPattern = c.index.result.now in
    let within : c.args.leaf < length leaves = within_lists rest_of leaves c.args.leaf c.requires in
    let at : slice_get leaves c.args.leaf ≡ Some source = slice_get_read _ _ c.args.leaf _ refl within c.index.ensures in
    omega (arith, left_is leaves c.args.leaf source at)
