use Rattle.std.proofs.Common.{◌≡◌, ◌<◌, ◌≤◌, inl, inr, subst, ℕ, arith}
use Rattle.std.proofs.lemmas.Bool.{cases_lt}
use Rattle.pdh_smoothing.specs.Again.{lists_in, count_marked}
use Rattle.pdh_smoothing.proofs.MarkLaws.{counts_alike, counts_differ}
use Rattle.pdh_smoothing.proofs.rows.are_alike.Goals as goal

pub loop-trib-init : goal.loop-trib-init
loop-trib-init g c = λ j less. absurd (omega (arith, less))

pub loop-trib-preserved : goal.loop-trib-preserved
loop-trib-preserved g c = λ j less.
    let s = g.S.Shape.shape in
    let lists = lists_in c.args.marks.now in
    let t = c.loop-trib.trib in
    let here : count_marked s lists c.args.one t ≡ count_marked s lists c.args.other t = omega (arith, c.count_at-here.ensures, c.count_at-there.ensures, c.if-here-there.false) in
    elim (cases_lt j t) [
      | inl before ↦ c.loop-trib.invariant j before
      | inr at ↦ (let is : t ≡ j = omega (arith, less, at) in subst (λ (k : ℕ). count_marked s lists c.args.one k ≡ count_marked s lists c.args.other k) is here)
    ]

pub returns-then-here-there-clause-other : goal.returns-then-here-there-clause-other
returns-then-here-there-clause-other g c = λ is.
    let s = g.S.Shape.shape in
    let t = c.loop-trib.trib in
    let known : t < s.tribs = omega (arith, g.met.S.Shape.tribs_is) in
    counts_differ s (lists_in c.args.marks.now) c.args.one c.args.other t known (λ same. omega (arith, same, c.count_at-here.ensures, c.count_at-there.ensures, c.if-here-there.true))

pub returns-clause-alike : goal.returns-clause-alike
returns-clause-alike g c = λ is.
    let s = g.S.Shape.shape in
    let all : s.tribs ≤ c.loop-trib.trib = omega (arith, g.met.S.Shape.tribs_is) in
    counts_alike s (lists_in c.args.marks.now) c.args.one c.args.other c.loop-trib.trib all c.loop-trib.invariant
