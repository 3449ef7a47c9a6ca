use Rattle.std.proofs.Common.{◌≡◌, ◌<◌, ℕ, Bool, true, false, sym, ap, ◌∙◌, arith}
use Rattle.std.proofs.lemmas.List.{append-nil}
use Rattle.pdh_shape.specs.Tributary.{controls}
use Rattle.pdh_runs.proofs.TableLaws.{role_at, roles_long, pick_next}
use Rattle.pdh_runs.proofs.tables.control.Goals as goal
use Rattle.pdh_runs.proofs.tables.control.Goals.{then-controls+in_ok-push, else-controls}

pub bounds-roles-slot : goal.bounds-roles-slot
bounds-roles-slot g c = omega (arith, roles_long g.S.Shape.shape c.args.roles.now c.requires, c.loop-slot-test.true, c.LEN-slot-end.ensures, g.met.S.Shape.len_is)

pub loop-slot-preserved : goal.loop-slot-preserved
loop-slot-preserved g c =
    let s = g.S.Shape.shape in
    let k : ℕ = c.loop-slot.slot in
    let p : ℕ → Bool = λ t. controls c.args.trib (s.role t) in
    let within : k < s.len = omega (arith, c.loop-slot-test.true, c.LEN-slot-end.ensures, g.met.S.Shape.len_is) in
    let is : c.controls.result ≡ p k = c.controls.ensures ∙ ap (controls c.args.trib) (role_at s c.args.roles.now k _ c.requires within) in
    elim c.if-controls.branch [
      | then-controls+in_ok-push w ↦ pick_next p k true c.loop-slot.control.items _ c.loop-slot.invariant (sym w.if-controls.true ∙ is) (ap (λ v. v.items) w.control-is ∙ w.in_ok-push.ensures.items)
      | else-controls w ↦ pick_next p k false c.loop-slot.control.items _ c.loop-slot.invariant (sym w.if-controls.false ∙ is) (ap (λ v. v.items) w.control-is ∙ sym (append-nil c.loop-slot.control.items))
    ]
