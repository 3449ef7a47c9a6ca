use Rattle.std.proofs.Common.{◌≡◌, ◌<◌, ℕ, true, false, not, sym, ap, ◌∙◌, arith}
use Rattle.std.proofs.lemmas.List.{append-nil}
use Rattle.pdh_shape.specs.Payload.{is_payload}
use Rattle.pdh_runs.specs.Tables.{is_overhead}
use Rattle.pdh_runs.proofs.TableLaws.{role_at, roles_long, pick_next}
use Rattle.pdh_runs.proofs.tables.overhead.Goals as goal
use Rattle.pdh_runs.proofs.tables.overhead.Goals.{then-not-is_payload+in_ok-push, else-not-is_payload}

pub bounds-roles-slot : goal.bounds-roles-slot
bounds-roles-slot g c = omega (arith, roles_long g.S.Shape.shape c.args.roles.now c.requires, c.loop-slot-test.true, c.LEN-slot-end.ensures, g.met.S.Shape.len_is)

pub loop-slot-preserved : goal.loop-slot-preserved
loop-slot-preserved g c =
    let s = g.S.Shape.shape in
    let k : ℕ = c.loop-slot.slot in
    let within : k < s.len = omega (arith, c.loop-slot-test.true, c.LEN-slot-end.ensures, g.met.S.Shape.len_is) in
    let is : not c.is_payload.result ≡ is_overhead s k = ap not (c.is_payload.ensures ∙ ap is_payload (role_at s c.args.roles.now k _ c.requires within)) in
    elim c.if-not-is_payload.branch [
      | then-not-is_payload+in_ok-push w ↦ pick_next (is_overhead s) k true c.loop-slot.overhead.items _ c.loop-slot.invariant (ap not (sym w.if-not-is_payload.true) ∙ is) (ap (λ v. v.items) w.overhead-is ∙ w.in_ok-push.ensures.items)
      | else-not-is_payload w ↦ pick_next (is_overhead s) k false c.loop-slot.overhead.items _ c.loop-slot.invariant (ap not (sym w.if-not-is_payload.false) ∙ is) (ap (λ v. v.items) w.overhead-is ∙ sym (append-nil c.loop-slot.overhead.items))
    ]
