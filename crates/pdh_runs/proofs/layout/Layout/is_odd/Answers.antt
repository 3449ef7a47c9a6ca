use Rattle.std.proofs.Common.{◌≡◌, ◌%◌, ◌==◌, Bool, List, false, length, get_or, sym, ap, ◌∙◌, arith}
use Rattle.std.specs.Prelude.{count_by}
use Rattle.std.proofs.lemmas.List.{take_all}
use Rattle.pdh_runs.proofs.SlotLaws.{overhead_inside}
use Rattle.pdh_runs.proofs.TakingLaws.{ones_both}
use Rattle.pdh_runs.proofs.layout.Layout.is_odd.Goals as goal

pub count_ones-requires : goal.count_ones-requires
count_ones-requires g c = overhead_inside g.S.Shape.shape c.overhead_slots.result.now (length c.args.frame.now.bits) c.overhead_slots.ensures (g.met.S.Shape.len_is ∙ sym c.requires)

pub overflow_sub-result : goal.overflow_sub-result
overflow_sub-result g c =
    let s = g.S.Shape.shape in
    let frame : List Bool = c.args.frame.now.bits in
    let all : c.ones-ones.result ≡ count_by (λ (v : Bool). v) frame = c.ones-ones.ensures ∙ ap (count_by (λ (v : Bool). v)) (take_all c.len.result frame (omega (arith, c.len.ensures.count))) in
    let others = c.count_ones.ensures ∙ ap (count_by (λ slot. get_or frame slot false)) c.overhead_slots.ensures in
    omega (arith, all, others, ones_both s frame (c.requires ∙ sym g.met.S.Shape.len_is))

pub returns : goal.returns
returns g c =
    let s = g.S.Shape.shape in
    let frame : List Bool = c.args.frame.now.bits in
    let all : c.ones-ones.result ≡ count_by (λ (v : Bool). v) frame = c.ones-ones.ensures ∙ ap (count_by (λ (v : Bool). v)) (take_all c.len.result frame (omega (arith, c.len.ensures.count))) in
    let others = c.count_ones.ensures ∙ ap (count_by (λ slot. get_or frame slot false)) c.overhead_slots.ensures in
    ap (λ n. n % 2 == 1) (omega (arith, all, others, ones_both s frame (c.requires ∙ sym g.met.S.Shape.len_is)))
