use Rattle.std.proofs.Common.{◌≡◌, ◌<◌, ◌-◌, List, Bool, length, Some, refl, sym, ◌∙◌, subst, arith, slice_get, slice_set}
use Rattle.std.proofs.lemmas.Option.{slice_get_read}
use Rattle.pdh_packed.specs.Gaining.{gained}
use Rattle.pdh_packed.proofs.GainingLaws.{gained_is, grown_by}
use Rattle.pdh_edge.specs.Ports.{Takes, for_leaf}
use Rattle.pdh_edge.proofs.ListSteps.{within_lists}
use Rattle.pdh_edge.proofs.Waits.{gives_all}
use Rattle.pdh_patterns.specs.Pattern.{bits_from}
use Rattle.pdh_patterns.specs.Patterns.{rest_of, pattern_inputs}
use Rattle.pdh_patterns.specs.declared.patterns.LeafPattern.{LeafPattern}
use Rattle.pdh_patterns.proofs.Giving.{given_next}
use Rattle.pdh_patterns.proofs.patterns.PatternsFeed.bits.Goals as goal

pub returns-clause-ok : goal.returns-clause-ok
returns-clause-ok c =
    let leaves = c.args.self.now.leaves.items in
    let source : LeafPattern = c.index_mut-source.result.now in
    let count = c.min-count.result in
    let now : LeafPattern = record { pattern = c.word.new.self; left = source.left - count } in
    let within : c.args.leaf < length leaves = within_lists rest_of leaves c.args.leaf c.requires.held in
    let at : slice_get leaves c.args.leaf ≡ Some source = slice_get_read _ _ c.args.leaf _ refl within c.index_mut-source.ensures.value in
    let got : bits_from source.pattern count ≡ gained c.args.into.now c.append.new.self = sym (gained_is c.args.into.now c.append.new.self c.word.result c.append.ensures ∙ c.word.ensures.next) in
    subst (λ (bits : List Bool). Takes (for_leaf c.args.leaf bits) (pattern_inputs leaves) (pattern_inputs (slice_set leaves c.args.leaf now))) got
    (given_next leaves c.args.leaf count source now c.requires.held at c.word.ensures.state (omega (arith, c.min-count.ensures)))

pub returns-clause-grown : goal.returns-clause-grown
returns-clause-grown c = grown_by c.args.into.now c.append.new.self c.word.result c.min-count.result c.append.ensures c.word.ensures.count

pub returns-clause-waits : goal.returns-clause-waits
returns-clause-waits c = gives_all c.args.leaf (gained c.args.into.now c.append.new.self) (returns-clause-ok c)
