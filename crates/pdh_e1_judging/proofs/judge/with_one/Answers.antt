use Rattle.std.proofs.Common.{◌≡◌, ◌+◌, ◌-◌, ◌^◌, Bool, true, false, cond, refl, ap, ◌∙◌}
use Rattle.std.specs.Prelude.{min}
use mir.Val.{bool_byte}
use Rattle.pdh_e1_judging.specs.Judged.{is_right}
use Rattle.pdh_e1_judging.proofs.judge.with_one.Goals as goal

-- one where it is right
one_of : (b : Bool) → bool_byte b ≡ 0 + cond b 1 0
one_of true = refl
one_of false = refl

pub returns : goal.returns
returns c frames is =
    let right : c.saturating_add-2.result ≡ min (c.args.judged.right + (0 + cond (is_right frames) 1 0)) (2 ^ 64 - 1) =
    c.saturating_add-2.ensures ∙ ap (λ n. min (c.args.judged.right + n) (2 ^ 64 - 1)) (c.from.ensures ∙ ap bool_byte is ∙ one_of (is_right frames)) in
    λ i. record { frames = c.saturating_add.ensures i; right = right i }
