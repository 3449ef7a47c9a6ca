use Rattle.std.proofs.Common.{◌≡◌, ◌∙◌, length, ap, arith}
use Rattle.std.proofs.lemmas.Result.{IfOk-weaker}
use Rattle.std.proofs.lemmas.List.{length_push}
use Rattle.pdh_edge.proofs.Holding.{inputs_hold}
use Rattle.pdh_tests_of_chains.proofs.slips.feed_of.Goals as goal

pub returns : goal.returns
returns c =
    let none : length c.new-lists.result.items ≡ 0 = ap length c.new-lists.ensures.items in
    let one = ap length c.in_ok-push.ensures.items ∙ length_push c.new-lists.result.items _ in
    let two = ap length c.in_ok-push-2.ensures.items ∙ length_push c.push.new.self.items _ in
    let three = ap length c.in_ok-push-3.ensures.items ∙ length_push c.push-2.new.self.items _ in
    let four = ap length c.in_ok-push-4.ensures.items ∙ length_push c.push-3.new.self.items _ in
    let long : length c.push-4.new.self.items ≡ 4 = omega (arith, none, one, two, three, four) in
    IfOk-weaker c.open.result _ _ (λ feed is k less. inputs_hold c.push-4.new.self.items 4 k is long less) c.open.ensures.inputs
