use Rattle.std.proofs.Common.{◌≡◌, ◌*◌, [], ◌∷◌, ◌++◌, length, map, nat_lt, slice_get, ap, ◌∙◌}
use Rattle.std.specs.Prelude.{IsTrue}
use Rattle.std.proofs.lemmas.Result.{IfOk-weaker}
use Rattle.pdh_bits.specs.BitOut.{BoundedBits}
use Rattle.pdh_bits.proofs.BitsLemmas.{length-bits_of}
use Rattle.pdh_edge.specs.MemLists.{items_of, length_of, inputs_of, mem_inputs}
use Rattle.pdh_tests_of_chains.proofs.show.port_of.Goals as goal

pub returns-clause-held : goal.returns-clause-held
returns-clause-held c =
    let lists = c.in_ok-push.ensures.items ∙ ap (λ l. l ++ c.in_ok-of_bytes.field-0 ∷ []) c.new-lists.ensures.items in
    IfOk-weaker c.open.result (λ port. mem_inputs port.inputs.items ≡ inputs_of (map items_of c.push.new.self.items)) (λ port. IsTrue ((mem_inputs port.inputs.items).holds 0))
    (λ port is. ap (λ i. i.holds 0) is ∙ ap (λ l. nat_lt 0 (length (map items_of l))) lists) c.open.ensures.inputs

pub returns-clause-left : goal.returns-clause-left
returns-clause-left c =
    let lists = c.in_ok-push.ensures.items ∙ ap (λ l. l ++ c.in_ok-of_bytes.field-0 ∷ []) c.new-lists.ensures.items in
    IfOk-weaker c.open.result (λ port. mem_inputs port.inputs.items ≡ inputs_of (map items_of c.push.new.self.items)) (λ port. (mem_inputs port.inputs.items).left 0 ≡ 8 * length c.args.line.now)
    (λ port is.
    ap (λ i. i.left 0) is ∙ ap (λ l. length_of (slice_get (map items_of l) 0)) lists ∙ ap (λ (b : BoundedBits). length b.bits) c.in_ok-of_bytes.ensures ∙ length-bits_of c.args.line.now)
    c.open.ensures.inputs
