use Rattle.std.proofs.Common.{◌≡◌, ℕ, Bool, List, [], ◌∷◌, length, map, ap, ◌∙◌, arith}
use Rattle.std.specs.Prelude.{IsTrue}
use Rattle.std.proofs.lemmas.Grind.{common_steps}
use Rattle.pdh_bits.specs.BitOut.{BoundedBits}
use Rattle.pdh_edge.specs.Ports.{Inputs}
use Rattle.pdh_edge.specs.MemLists.{inputs_of, items_of}
use Rattle.pdh_tests_of_chains.proofs.inspect.ones.Goals as goal

-- lists of which one is all
one_list : (inputs : Inputs) (lists : List BoundedBits) (list : BoundedBits) → inputs ≡ inputs_of (map items_of lists) → lists ≡ list ∷ [] → inputs ≡ inputs_of (list.bits ∷ [])
one_list inputs lists list are one = are ∙ ap (λ l. inputs_of (map items_of l)) one

pub returns-clause-holds : goal.returns-clause-holds
returns-clause-holds c =
    let one : c.push.new.self.items ≡ c.in_ok-of_bits.field-0 ∷ [] = grind (arith, common_steps) in
    ap (λ (i : Inputs). i.holds 0) (one_list _ c.push.new.self.items c.in_ok-of_bits.field-0 c.in_ok-open.ensures.inputs one)

pub returns-clause-left : goal.returns-clause-left
returns-clause-left c =
    let one : c.push.new.self.items ≡ c.in_ok-of_bits.field-0 ∷ [] = grind (arith, common_steps) in
    let long : length c.in_ok-of_bits.field-0.bits ≡ c.args.bits = grind (arith, common_steps) in
    ap (λ (i : Inputs). i.left 0) (one_list _ c.push.new.self.items c.in_ok-of_bits.field-0 c.in_ok-open.ensures.inputs one) ∙ long
