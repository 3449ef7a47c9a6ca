use Rattle.std.proofs.Common.{◌≡◌, ◌<◌, ◌≤◌, ◌+◌, ◌-◌, ℕ, Bool, true, false, get_or, slice_set, refl, sym, ap, ◌∙◌, inl, inr, subst, arith}
use Rattle.std.specs.Bool.{beq}
use Rattle.std.proofs.lemmas.Bool.{cases_eq}
use Rattle.std.proofs.lemmas.List.{get_or_read, get_or-set_same, get_or-set_other, length-set}
use Rattle.pdh_shape.specs.Payload.{is_payload}
use Rattle.pdh_runs.specs.Tables.{EndsStretch}
use Rattle.pdh_runs.proofs.TableLaws.{role_at, roles_long, same_stretch, own_stretch}
use Rattle.pdh_runs.proofs.tables.ends.Goals as goal
use Rattle.pdh_runs.proofs.tables.ends.Goals.{then-is_payload, else-is_payload}

pub bounds-roles-slot : goal.bounds-roles-slot
bounds-roles-slot g c = omega (arith, roles_long g.S.Shape.shape c.args.roles.now c.requires, c.loop-done-test.true, c.LEN-len.ensures, g.met.S.Shape.len_is)

pub bounds-roles-slot-in-loop-done : goal.bounds-roles-slot-in-loop-done
bounds-roles-slot-in-loop-done g c = omega (arith, roles_long g.S.Shape.shape c.args.roles.now c.requires, c.loop-done-test.true, c.loop-done.auto.done, c.LEN-len.ensures, g.met.S.Shape.len_is)

pub loop-done-preserved : goal.loop-done-preserved
loop-done-preserved g c =
    let s = g.S.Shape.shape in
    let len = c.LEN-len.result in
    let all : len ≡ s.len = c.LEN-len.ensures ∙ sym g.met.S.Shape.len_is in
    let done = c.loop-done.done in
    let slot : ℕ = len - 1 - done in
    let next : ℕ = slot + 1 in
    let ends = c.loop-done.ends.items in
    let end : ℕ = c.if-is_payload.end in
    let some : 1 ≤ done = omega (arith, c.loop-done.auto.done) in
    let less : done < len = omega (arith, c.loop-done-test.true) in
    let here : c.is_payload.result ≡ is_payload (s.role slot) = c.is_payload.ensures ∙ ap is_payload (role_at s c.args.roles.now slot _ c.requires (omega (arith, all, less))) in
    let after : c.is_payload-in-loop-done.result ≡ is_payload (s.role next) = c.is_payload-in-loop-done.ensures ∙ ap is_payload (role_at s c.args.roles.now next _ c.requires (omega (arith, all, less, some))) in
    let is : EndsStretch s slot end = elim c.if-is_payload.branch [
      | then-is_payload w ↦
          let same : is_payload (s.role slot) ≡ is_payload (s.role next) = sym here ∙ equal c.is_payload.result c.is_payload-in-loop-done.result w.if-is_payload.true ∙ after in
          let at : end ≡ get_or ends next 0 = w.end-is ∙ get_or_read ends next w.index.result.now (omega (arith, c.loop-done.invariant.count, less, some)) w.index.ensures 0 in
          subst (EndsStretch s slot) (sym at) (same_stretch s slot next (get_or ends next 0) refl same (c.loop-done.invariant.each next (omega (arith, less, some)) (omega (arith, less, some))))
      | else-is_payload w ↦
          let at : end ≡ next = w.end-is in
          let differ : beq (is_payload (s.role slot)) (is_payload (s.role next)) ≡ false = ap (λ b. beq b (is_payload (s.role next))) (sym here) ∙ ap (beq c.is_payload.result) (sym after) ∙ w.if-is_payload.false in
          subst (EndsStretch s slot) (sym at) (own_stretch s slot next refl (omega (arith, all, less, some)) differ)
    ] in
    record {
      count = length-set ends slot end ∙ c.loop-done.invariant.count;
      each = λ t from within. elim (cases_eq t slot) [
        | inl same ↦ subst (λ t. EndsStretch s t (get_or (slice_set ends slot end) t 0)) (sym same) (subst (EndsStretch s slot) (sym (get_or-set_same ends slot end 0 (omega (arith, c.loop-done.invariant.count, less, some)))) is)
        | inr other ↦ subst (EndsStretch s t) (sym (get_or-set_other ends slot t end 0 other)) (c.loop-done.invariant.each t (omega (arith, from, other, less)) within)
      ];
    }
  where
    equal : (a b : Bool) → beq a b ≡ true → a ≡ b
    equal true true h = refl
    equal true false h = sym h
    equal false true h = h
    equal false false h = refl
