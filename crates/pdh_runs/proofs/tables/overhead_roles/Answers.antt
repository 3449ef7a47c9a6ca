use Rattle.std.proofs.Common.{◌≡◌, ◌<◌, ℕ, true, false, not, sym, ap, ◌∙◌, arith}
use Rattle.pdh_shape.specs.Payload.{is_payload}
use Rattle.pdh_runs.specs.Tables.{is_overhead}
use Rattle.pdh_runs.proofs.Counts.{made_fail}
use Rattle.pdh_runs.proofs.TableLaws.{role_at, roles_long, make_next}
use Rattle.pdh_runs.proofs.tables.overhead_roles.Goals as goal
use Rattle.pdh_runs.proofs.tables.overhead_roles.Goals.{then-not-is_payload+in_ok-push, else-not-is_payload}

pub bounds-roles-slot : goal.bounds-roles-slot
bounds-roles-slot g c = omega (arith, roles_long g.S.Shape.shape c.args.roles.now c.requires, c.loop-slot-test.true, c.LEN-slot-end.ensures, g.met.S.Shape.len_is)

pub loop-slot-preserved : goal.loop-slot-preserved
loop-slot-preserved g c =
    let s = g.S.Shape.shape in
    let k : ℕ = c.loop-slot.slot in
    let within : k < s.len = omega (arith, c.loop-slot-test.true, c.LEN-slot-end.ensures, g.met.S.Shape.len_is) in
    let own = role_at s c.args.roles.now k _ c.requires within in
    let is : not c.is_payload.result ≡ is_overhead s k = ap not (c.is_payload.ensures ∙ ap is_payload own) in
    elim c.if-not-is_payload.branch [
      | then-not-is_payload+in_ok-push w ↦ make_next s.role (is_overhead s) k _ c.loop-slot.list.items _ (sym is ∙ ap not w.if-not-is_payload.true) c.loop-slot.invariant own (ap (λ v. v.items) w.list-is ∙ w.in_ok-push.ensures.items)
      | else-not-is_payload w ↦ ap (λ v. v.items) w.list-is ∙ c.loop-slot.invariant ∙ sym (made_fail (is_overhead s) s.role k (sym is ∙ ap not w.if-not-is_payload.false))
    ]
