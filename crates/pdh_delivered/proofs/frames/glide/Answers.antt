use Rattle.std.proofs.Common.{◌≡◌, ◌+◌, ◌++◌, inl, inr, take, drop, sym, ap, ◌∙◌, subst, arith}
use Rattle.std.proofs.Math.Seq.{take-add}
use Rattle.std.proofs.lemmas.Bool.{cases_lt}
use Rattle.std.proofs.lemmas.List.{drop-drop}
use Rattle.pdh_align.specs.Aligning.{Held}
use Rattle.pdh_delivered.specs.Deliveries.{Glides}
use Rattle.pdh_delivered.proofs.Growing.{glides_waits, glides_passes, glides_join}
use Rattle.pdh_delivered.proofs.frames.glide.Goals as goal

pub returns-clause-glides : goal.returns-clause-glides
returns-clause-glides g c front stands =
    let s = g.S.Shape.shape in
    let rest = drop c.args.from c.args.line.now.bits in
    let n = c.take-taken.result in
    let k = c.pass-passed.result in
    let between = c.take-taken.new.self in
    let after = c.pass-passed.new.self in
    let first : Glides s between front (take n rest) = glides_waits s between front (take n rest) (c.take-taken.ensures.waits front stands) in
    let there : take k (drop (c.args.from + n) c.args.line.now.bits) ≡ take k (drop n rest) = ap (λ l. take k l) (sym (drop-drop n c.args.from c.args.line.now.bits)) in
    let parts : take n rest ++ take k (drop (c.args.from + n) c.args.line.now.bits) ≡ take (n + k) rest = ap (λ l. take n rest ++ l) there ∙ sym (take-add n k rest) in
    elim (cases_lt 0 k) [
      | inl some ↦ glides_join s between after front (take n rest) _ (take (n + k) rest) parts first
          (glides_passes s after (front ++ take n rest) (take k (drop (c.args.from + n) c.args.line.now.bits)) (c.pass-passed.ensures.passes some (front ++ take n rest) first.stands))
      | inr none ↦
          let zero_is : k ≡ 0 = omega (arith, none) in
          let same : after ≡ between = c.pass-passed.ensures.none zero_is in
          let count : n ≡ n + k = omega (arith, zero_is) in
          subst (λ m. Glides s after front (take m rest)) count (subst (λ (h : Held). Glides s h front (take n rest)) (sym same) first)
    ]
