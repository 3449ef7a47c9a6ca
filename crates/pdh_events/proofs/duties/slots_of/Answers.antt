use Rattle.std.proofs.Common.{◌<◌, true, false, length, sym, ◌∙◌, ap, arith}
use Rattle.std.proofs.lemmas.List.{append-nil}
use Rattle.pdh_events.specs.Duties.{has_duty}
use Rattle.pdh_events.proofs.DutyLaws.{has_slot, overhead_inside, slots_all, slots_more}
use Rattle.pdh_events.proofs.duties.slots_of.Goals as goal
use Rattle.pdh_events.proofs.duties.slots_of.Goals.{then-has_duty+in_ok-push, else-has_duty}

pub role-requires : goal.role-requires
role-requires g c = (let inside = overhead_inside g.S.Shape.shape c.args.overhead.now c.loop-slot.slot-index 0 c.requires (omega arith) in omega (arith, inside, c.from.ensures, g.met.S.Shape.len_is))

pub loop-slot-preserved : goal.loop-slot-preserved
loop-slot-preserved g c =
    let s = g.S.Shape.shape in
    let xs = c.args.overhead.now in
    let i = c.loop-slot.slot-index in
    let inside : i < length xs = omega arith in
    let test = c.has_duty.ensures ∙ ap (has_duty s c.args.duty) c.role.ensures ∙ ap (has_slot s c.args.duty) c.from.ensures in
    elim c.if-has_duty.branch [
      | then-has_duty+in_ok-push w ↦ slots_more (has_slot s c.args.duty) xs i true c.loop-slot.slots.items _ inside c.loop-slot.invariant (sym w.if-has_duty.true ∙ test) (ap (λ v. v.items) w.slots-is ∙ w.in_ok-push.ensures.items)
      | else-has_duty w ↦ slots_more (has_slot s c.args.duty) xs i false c.loop-slot.slots.items _ inside c.loop-slot.invariant (sym w.if-has_duty.false ∙ test) (ap (λ v. v.items) w.slots-is ∙ sym (append-nil c.loop-slot.slots.items))
    ]

pub returns : goal.returns
returns g c = c.loop-slot.invariant ∙ slots_all g.S.Shape.shape c.args.duty c.args.overhead.now c.loop-slot.slot-index c.requires (omega arith)
