use Rattle.std.proofs.Common.{◌≡◌, ◌<◌, ◌-◌, List, Bool, [], ◌∷◌, length, Some, refl, sym, ap, ◌∙◌, subst, arith, slice_get, slice_set}
use Rattle.std.proofs.lemmas.Option.{slice_get_read}
use Rattle.pdh_edge.specs.Ports.{Takes, GivesWaiting, for_leaf}
use Rattle.pdh_edge.proofs.ListSteps.{within_lists, set_found}
use Rattle.pdh_edge.proofs.Waits.{gives_all, gives_none}
use Rattle.pdh_patterns.specs.Pattern.{bits_from}
use Rattle.pdh_patterns.specs.Patterns.{rest_of, pattern_inputs}
use Rattle.pdh_patterns.specs.declared.patterns.LeafPattern.{LeafPattern}
use Rattle.pdh_patterns.proofs.Register.{bits-one, state-one}
use Rattle.pdh_patterns.proofs.Giving.{given_next, left_is}
use Rattle.pdh_patterns.proofs.patterns.PatternsFeed.bit.Goals as goal

pub returns-clause-ok : goal.returns-clause-ok
returns-clause-ok c =
    let leaves = c.args.self.now.leaves.items in
    let source : LeafPattern = c.index_mut-source.result.now in
    let now : LeafPattern = record { pattern = c.next.new.self; left = source.left - 1 } in
    let within : c.args.leaf < length leaves = within_lists rest_of leaves c.args.leaf c.requires in
    let at : slice_get leaves c.args.leaf ≡ Some source = slice_get_read _ _ c.args.leaf _ refl within c.index_mut-source.ensures.value in
    let bit : bits_from source.pattern 1 ≡ c.next.result ∷ [] = bits-one source.pattern ∙ ap (λ b. b ∷ []) (sym c.next.ensures.bit) in
    subst (λ (bits : List Bool). Takes (for_leaf c.args.leaf bits) (pattern_inputs leaves) (pattern_inputs (slice_set leaves c.args.leaf now))) bit
    (given_next leaves c.args.leaf 1 source now c.requires at (c.next.ensures.state ∙ sym (state-one source.pattern)) (omega (arith, c.if-source-eq0.false)))

pub returns-clause-waits : goal.returns-clause-waits
returns-clause-waits c = gives_all c.args.leaf (c.next.result ∷ []) (returns-clause-ok c)

pub returns-then-source-eq0-clause-ended : goal.returns-then-source-eq0-clause-ended
returns-then-source-eq0-clause-ended c =
    let leaves = c.args.self.now.leaves.items in
    let source : LeafPattern = c.index_mut-source.result.now in
    let at : slice_get leaves c.args.leaf ≡ Some source = slice_get_read _ _ c.args.leaf _ refl (within_lists rest_of leaves c.args.leaf c.requires) c.index_mut-source.ensures.value in
    λ ended. omega (arith, left_is leaves c.args.leaf source at, c.if-source-eq0.true)

pub returns-then-source-eq0-clause-waits : goal.returns-then-source-eq0-clause-waits
returns-then-source-eq0-clause-waits c =
    let leaves = c.args.self.now.leaves.items in
    let source : LeafPattern = c.index_mut-source.result.now in
    let waits = (pattern_inputs leaves).left in
    let at : slice_get leaves c.args.leaf ≡ Some source = slice_get_read _ _ c.args.leaf _ refl (within_lists rest_of leaves c.args.leaf c.requires) c.index_mut-source.ensures.value in
    let none : waits c.args.leaf ≡ 0 = omega (arith, left_is leaves c.args.leaf source at, c.if-source-eq0.true) in
    subst (λ (all : List LeafPattern). GivesWaiting c.args.leaf 1 waits (pattern_inputs all).left) (sym (set_found leaves c.args.leaf source at)) (gives_none c.args.leaf 1 waits none)
