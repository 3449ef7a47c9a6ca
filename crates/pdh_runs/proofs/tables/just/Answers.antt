use Rattle.std.proofs.Common.{◌≡◌, ◌<◌, ◌/◌, ℕ, true, false, get_or, sym, ap, ◌∙◌, inl, inr, arith}
use Rattle.std.proofs.lemmas.Bool.{cases_eq}
use Rattle.pdh_shape.specs.Tributary.{is_just}
use Rattle.pdh_runs.specs.Pieces.{turn}
use Rattle.pdh_runs.proofs.TableLaws.{role_at, roles_long, count_at, counts_long, just_once, role_just}
use Rattle.pdh_runs.proofs.tables.just.Goals as goal

pub bounds-roles-slot : goal.bounds-roles-slot
bounds-roles-slot g c = omega (arith, roles_long g.S.Shape.shape c.args.roles.now c.requires.roles, c.loop-slot-test.true, c.LEN-slot-end.ensures, g.met.S.Shape.len_is)

pub bounds-payload-slot : goal.bounds-payload-slot
bounds-payload-slot g c = omega (arith, counts_long g.S.Shape.shape c.args.payload.now c.requires.payload, c.loop-slot-test.true, c.LEN-slot-end.ensures, g.met.S.Shape.len_is)

pub returns-then-is_just : goal.returns-then-is_just
returns-then-is_just g c = λ t within is.
    let s = g.S.Shape.shape in
    let j = c.args.trib in
    let k : ℕ = c.loop-slot.slot in
    let inside : k < s.len = omega (arith, c.loop-slot-test.true, c.LEN-slot-end.ensures, g.met.S.Shape.len_is) in
    let known : j < s.tribs = omega (arith, c.requires.known, g.met.S.Shape.tribs_is) in
    let here : is_just j (s.role k) ≡ true = sym (c.is_just.ensures ∙ ap (is_just j) (role_at s c.args.roles.now k _ c.requires.roles inside)) ∙ c.if-is_just.true in
    let same : k ≡ t = just_once s g.met.S.Shape.has_tributaries j known k t inside (omega (arith, within, g.met.S.Shape.len_is)) here (role_just j (s.role t) is) in
    let tribs : c.from.result ≡ s.tribs = c.from.ensures ∙ c.TRIBS.ensures ∙ sym g.met.S.Shape.tribs_is in
    ap (λ n. get_or c.args.payload.now k 0 / n) tribs ∙ ap (λ p. p / s.tribs) (count_at s c.args.payload.now k 0 c.requires.payload (omega (arith, inside))) ∙ ap (turn s) same

pub loop-slot-preserved : goal.loop-slot-preserved
loop-slot-preserved g c = λ t before.
    let s = g.S.Shape.shape in
    let j = c.args.trib in
    let k : ℕ = c.loop-slot.slot in
    let inside : k < s.len = omega (arith, c.loop-slot-test.true, c.LEN-slot-end.ensures, g.met.S.Shape.len_is) in
    let here : is_just j (s.role k) ≡ false = sym (c.is_just.ensures ∙ ap (is_just j) (role_at s c.args.roles.now k _ c.requires.roles inside)) ∙ c.if-is_just.false in
    elim (cases_eq t k) [
      | inl same ↦ ap (λ t. is_just j (s.role t)) same ∙ here
      | inr other ↦ c.loop-slot.invariant t (omega (arith, before, other))
    ]

pub returns : goal.returns
returns g c = λ t within is.
    let s = g.S.Shape.shape in
    absurd (differ (sym (role_just c.args.trib (s.role t) is) ∙ c.loop-slot.invariant t (omega (arith, within, c.loop-slot-test.false, c.LEN-slot-end.ensures))))
  where
    differ : true ≡ false → ⊥
    differ h = cc
