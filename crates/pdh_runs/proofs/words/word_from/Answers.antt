use Rattle.std.proofs.Common.{◌<◌, ◌+◌, ◌-◌, ℕ, get_or, refl, inl, inr, arith}
use Rattle.std.proofs.lemmas.Bool.{cases_lt}
use Rattle.pdh_runs.specs.Tables.{EndsStretch}
use Rattle.pdh_runs.proofs.WordLaws.{one_stretch, two_stretches}
use Rattle.pdh_runs.proofs.words.word_from.Goals as goal
use Rattle.pdh_runs.proofs.words.word_from.Goals.{then-first-size-via-then-first-size, then-first-size-via-else-first-size+then-end-len, else-next-len-via-then-next-len+else-ends-next, else-next-len-via-else-next-len}

pub returns-then-first-size : goal.returns-then-first-size
returns-then-first-size g c =
    let s = g.S.Shape.shape in
    let slot = c.args.slot in
    let within : slot < s.len = omega (arith, c.requires.inside, g.met.S.Shape.len_is) in
    let end : ℕ = get_or c.args.ends.now slot 0 in
    one_stretch s g.met.S.Shape.in_turn slot end c.args.size c.requires.payload within (c.requires.ends.each slot within) c.requires.small
    (elim c.then-first-size.branch [
      | then-first-size-via-then-first-size w ↦ inl (omega (arith, w.if-first-size.true))
      | then-first-size-via-else-first-size+then-end-len w ↦ inr (omega (arith, w.if-end-len.true, c.LEN-len.ensures, g.met.S.Shape.len_is))
    ])

pub returns : goal.returns
returns g c =
    let s = g.S.Shape.shape in
    let slot = c.args.slot in
    let within : slot < s.len = omega (arith, c.requires.inside, g.met.S.Shape.len_is) in
    let end : ℕ = get_or c.args.ends.now slot 0 in
    let next : ℕ = get_or c.args.ends.now end 0 in
    let last : ℕ = get_or c.args.ends.now next 0 in
    let ends : EndsStretch s slot end = c.requires.ends.each slot within in
    let other : end < s.len = omega (arith, ends.within, c.if-end-len.false, c.LEN-len.ensures, g.met.S.Shape.len_is) in
    two_stretches s g.met.S.Shape.in_turn slot end next last (end - slot) c.args.size c.requires.payload within ends other (c.requires.ends.each end other) (c.requires.ends.each next)
    (λ h. elim c.else-next-len.branch [
      | else-next-len-via-then-next-len+else-ends-next w ↦
          let rest : EndsStretch s next last = c.requires.ends.each next h in
          elim (cases_lt last (next + (c.args.size - (end - slot)))) [
            | inl short ↦ inr (omega (arith, short, rest.within, w.min.ensures, w.if-ends-next.false, c.LEN-len.ensures, g.met.S.Shape.len_is))
            | inr far ↦ inl far
          ]
      | else-next-len-via-else-next-len w ↦ absurd (omega (arith, h, w.if-next-len.false, c.LEN-len.ensures, g.met.S.Shape.len_is))
    ])
    refl (omega (arith, c.if-first-size.false)) c.requires.small
