use Rattle.std.proofs.Common.{◌≡◌, ◌<◌, ◌+◌, length, take, drop, length-drop, refl, sym, subst, arith}
use Rattle.std.proofs.lemmas.List.{length-take-le}
use Rattle.pdh_align.specs.Aligning.{Held, StandsFor}
use Rattle.pdh_desync.proofs.SmoothSteps.{wait_takes, pass_takes}
use Rattle.pdh_desync.proofs.unwatched.Unwatched.idle.Goals as goal

pub returns-then-passed-gt0-clause-taken : goal.returns-then-passed-gt0-clause-taken
returns-then-passed-gt0-clause-taken g c =
    let s = g.S.Shape.shape in
    let rest = drop c.args.from c.args.bits.now.bits in
    let k = c.pass-passed.result in
    let count : length (take k rest) ≡ k = length-take-le k rest (omega (arith, length-drop c.args.from c.args.bits.now.bits, c.pass-passed.ensures.count)) in
    let short : c.self.inside.gap + length (take k rest) < s.len = omega (arith, count, c.pass-passed.ensures.most, c.min-short.ensures, c.self.invariant, c.LEN.ensures, g.met.S.Shape.len_is) in
    rw (← c.self.view_is) (λ o. pass_takes s g.met.S.Shape.is_frame _ _ _ (take k rest) o (c.pass-passed.ensures.passes c.if-passed-gt0.true) short (omega (arith, count)))

pub returns-then-passed-gt0-clause-same : goal.returns-then-passed-gt0-clause-same
returns-then-passed-gt0-clause-same g c = rw (← c.self.view_is) (record { path = refl; leaves = refl })

pub returns-clause-taken : goal.returns-clause-taken
returns-clause-taken g c =
    let s = g.S.Shape.shape in
    let none : c.pass-passed.result ≡ 0 = omega (arith, c.if-passed-gt0.false) in
    rw (← c.self.view_is) (λ o. wait_takes s _ _ (take c.take.result (drop c.args.from c.args.bits.now.bits)) o
    (λ line h. c.take.ensures.waits line (subst (λ (held : Held). StandsFor s held line) (sym (c.pass-passed.ensures.none none)) h)))

pub returns-clause-same : goal.returns-clause-same
returns-clause-same g c = rw (← c.self.view_is) (record { path = refl; leaves = refl })
