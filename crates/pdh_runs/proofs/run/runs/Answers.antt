use Rattle.std.proofs.Common.{◌≡◌, ℕ, Bool, true, false, sym, ap, ◌∙◌, arith}
use Rattle.pdh_shape.specs.Payload.{is_payload}
use Rattle.pdh_runs.specs.declared.run.Run.{Run}
use Rattle.pdh_runs.proofs.RunLaws.{longer, begun}
use Rattle.pdh_runs.proofs.run.runs.Goals as goal
use Rattle.pdh_runs.proofs.run.runs.Goals.{then-not-is_payload+then-run-gt0+in_ok-push, else-not-is_payload, else-not-is_payload-via-then-not-is_payload+else-run-gt0, else-not-is_payload-via-else-not-is_payload}

differ : true ≡ false → ⊥
differ h = cc

pub loop-slot-preserved : goal.loop-slot-preserved
loop-slot-preserved g c =
    let s = g.S.Shape.shape in
    let k : ℕ = c.loop-slot.slot in
    let here : Bool = c.is_payload-is_payload.result in
    let next : Run = c.if-not-is_payload.run in
    let is : here ≡ is_payload (s.role k) = c.is_payload-is_payload.ensures ∙ ap is_payload c.role.ensures in
    elim c.if-not-is_payload.branch [
      | then-not-is_payload+then-run-gt0+in_ok-push w ↦
          begun s k c.loop-slot.runs.items c.if-not-is_payload.runs.items c.loop-slot.run next here (ap (λ v. v.items) w.runs-is ∙ w.in_ok-push.ensures.items) is w.if-not-is_payload.true w.if-run-gt0.true w.run-is c.loop-slot.invariant
      | else-not-is_payload w ↦
          let none : here ≡ false → c.loop-slot.run.payload ≡ 0 = λ overhead. elim w.else-not-is_payload.branch [
            | else-not-is_payload-via-then-not-is_payload+else-run-gt0 w' ↦ omega (arith, w'.if-run-gt0.false)
            | else-not-is_payload-via-else-not-is_payload w' ↦ absurd (differ (sym w'.if-not-is_payload.false ∙ overhead))
          ] in
          longer s k c.loop-slot.runs.items c.if-not-is_payload.runs.items c.loop-slot.run next here (ap (λ v. v.items) w.runs-is) is none (ap (λ r. r.overhead) w.run-is ∙ w.with_slot-run.ensures.overhead) (ap (λ r. r.payload) w.run-is ∙ w.with_slot-run.ensures.payload) c.loop-slot.invariant
    ]
