use Rattle.std.proofs.Common.{◌≡◌, ◌<◌, ◌+◌, ◌-◌, ◌*◌, ◌^◌, ◌∙◌, ℕ, inl, inr, length, slice_index, sym, ap, subst, arith}
use Rattle.std.proofs.lemmas.Bool.{cases_lt}
use Rattle.std.proofs.lemmas.List.{get_or_append_left, get_or_default, get_or_push, length-append}
use Rattle.pdh_rows.specs.Flows.{flowed, flow_in}
use Rattle.pdh_rows.specs.Stored.{sum_with}
use Rattle.pdh_rows.proofs.FlowLaws.{product-fits}
use Rattle.pdh_rows.proofs.table.push_sums.Goals as goal

pub arrived-requires-clause-few : goal.arrived-requires-clause-few
arrived-requires-clause-few c =
    let fits = product-fits (flow_in c.args.ratio c.args.says (slice_index c.args.numbers.now c.loop-number.number-index)) c.args.repeat c.args.repeat
    (c.requires.flows c.loop-number.number-index c.loop-number-test.true) (omega arith) in
    subst (λ f. c.from.result * f.bits < 2 ^ 128) (sym c.flow-flow.ensures)
    (subst (λ n. n * (flow_in c.args.ratio c.args.says (slice_index c.args.numbers.now c.loop-number.number-index)).bits < 2 ^ 128) (sym c.from.ensures) (omega (arith, fits)))

pub loop-number-preserved : goal.loop-number-preserved
loop-number-preserved c =
    let i : ℕ = c.loop-number.number-index in
    let old = c.loop-number.before.items in
    let inv = c.loop-number.invariant in
    let numbers = c.args.numbers.now in
    let place : ℕ = length c.args.before.now.items - length numbers + i in
    let is_place : c.len.result - length numbers ≡ place = omega (arith, c.len.ensures, inv.len, c.requires.room, c.loop-number-test.true) in
    let inside : place < length c.args.before.now.items = omega (arith, c.requires.room, c.loop-number-test.true) in
    let summed : c.index-sum.result.now ≡ slice_index c.args.before.now.items place =
    c.index-sum.ensures ∙ get_or_default old _ c.index-sum.result.now 0 (omega (arith, is_place, inside, inv.len))
    ∙ ap (slice_index old) is_place ∙ inv.kept place inside in
    let more : c.arrived.result ≡ flowed (flow_in c.args.ratio c.args.says (slice_index numbers i)) c.args.repeat =
    c.arrived.ensures ∙ ap (flowed c.flow-flow.result) c.from.ensures ∙ ap (λ flow. flowed flow c.args.repeat) c.flow-flow.ensures in
    let sum : c.index-sum.result.now + c.arrived.result ≡ sum_with c.args.ratio c.args.before.now.items c.args.repeat c.args.says c.args.numbers.now i =
    ap (λ n. n + c.arrived.result) summed ∙ ap (λ n. slice_index c.args.before.now.items place + n) more in
    record {
      len = ap length c.in_ok-push.ensures.items ∙ length-append old _ ∙ omega (arith, inv.len);
      kept = λ k l. ap (λ xs. slice_index xs k) c.in_ok-push.ensures.items ∙ get_or_append_left old _ 0 k (omega (arith, inv.len)) ∙ inv.kept k l;
      sums = λ k l. ap (λ xs. slice_index xs (length c.args.before.now.items + k)) c.in_ok-push.ensures.items ∙ elim (cases_lt k i) [
        | inl below ↦ get_or_append_left old _ 0 (length c.args.before.now.items + k) (omega (arith, inv.len)) ∙ inv.sums k below
        | inr last ↦
            let here : k ≡ i = omega arith in
            get_or_push old _ 0 (length c.args.before.now.items + k) (omega (arith, inv.len)) ∙ sum
            ∙ ap (sum_with c.args.ratio c.args.before.now.items c.args.repeat c.args.says c.args.numbers.now) (sym here)
      ];
    }
