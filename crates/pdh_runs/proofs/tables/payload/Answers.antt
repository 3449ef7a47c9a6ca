use Rattle.std.proofs.Common.{◌≡◌, ◌<◌, ℕ, suc, ◌+◌, true, false, map, sym, ap, ◌∙◌, arith}
use Rattle.std.specs.List.{range_with_len}
use Rattle.pdh_shape.specs.Payload.{is_payload, payload_before}
use Rattle.pdh_runs.proofs.Counts.{before_most, counted}
use Rattle.pdh_runs.proofs.SlotLaws.{one_more_payload}
use Rattle.pdh_runs.proofs.TableLaws.{role_at, roles_long}
use Rattle.pdh_runs.proofs.tables.payload.Goals as goal
use Rattle.pdh_runs.proofs.tables.payload.Goals.{then-is_payload, else-is_payload}

pub bounds-roles-slot : goal.bounds-roles-slot
bounds-roles-slot g c = omega (arith, roles_long g.S.Shape.shape c.args.roles.now c.requires, c.loop-slot-test.true, c.LEN-slot-end.ensures, g.met.S.Shape.len_is)

pub overflow_add-before : goal.overflow_add-before
overflow_add-before g c =
    omega (arith, c.loop-slot.invariant.before, before_most (λ slot. is_payload (g.S.Shape.shape.role slot)) c.loop-slot.slot, c.loop-slot-test.true, c.LEN-slot-end.ensures, g.met.S.Shape.len_is, g.met.S.Shape.is_frame.few_slots)

pub loop-slot-preserved : goal.loop-slot-preserved
loop-slot-preserved g c =
    let s = g.S.Shape.shape in
    let k : ℕ = c.loop-slot.slot in
    let within : k < s.len = omega (arith, c.loop-slot-test.true, c.LEN-slot-end.ensures, g.met.S.Shape.len_is) in
    let is : c.is_payload.result ≡ is_payload (s.role k) = c.is_payload.ensures ∙ ap is_payload (role_at s c.args.roles.now k _ c.requires within) in
    record {
      payload = c.in_ok-push.ensures.items ∙ one_more_payload s k c.loop-slot.before c.loop-slot.payload.items c.loop-slot.invariant.payload c.loop-slot.invariant.before;
      before = elim c.if-is_payload.branch [
        | then-is_payload w ↦ counted (λ slot. is_payload (s.role slot)) k c.loop-slot.before _ true c.loop-slot.invariant.before (sym is ∙ w.if-is_payload.true) w.before-is
        | else-is_payload w ↦ counted (λ slot. is_payload (s.role slot)) k c.loop-slot.before _ false c.loop-slot.invariant.before (sym is ∙ w.if-is_payload.false) (w.before-is ∙ omega arith)
      ];
    }

pub returns : goal.returns
returns g c =
    let s = g.S.Shape.shape in
    let past : c.loop-slot.slot + 1 ≡ suc s.len = omega (arith, c.loop-slot-test.false, c.loop-slot.auto.slot-end, c.LEN-slot-end.ensures, g.met.S.Shape.len_is) in
    c.in_ok-push-2.ensures.items ∙ one_more_payload s c.loop-slot.slot c.loop-slot.before c.loop-slot.payload.items c.loop-slot.invariant.payload c.loop-slot.invariant.before ∙ ap (λ n. map (payload_before s) (range_with_len 0 n)) past
