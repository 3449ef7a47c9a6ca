use Rattle.std.proofs.Common.{◌≡◌, Bool, true, false, sym, ap, ◌∙◌}
use Rattle.std.specs.Prelude.{if◌then◌else◌}
use Rattle.std.proofs.lemmas.Bool.{false≢true}
use Rattle.pdh_g706.specs.declared.align.E1Align.{E1Align}
use Rattle.pdh_g706.specs.View as view
use Rattle.pdh_g706.specs.View.{phase}
use Rattle.pdh_e1_judging.specs.Judging.{is_framed}
use Rattle.pdh_e1_judging.proofs.PushLaws.{framed_is}
use Rattle.pdh_e1_judging.proofs.judge.Judging.begin.Goals as goal

told : (align : E1Align) (is : Bool) → is ≡ view.is_framed align.stage → is_framed (phase align) ≡ is
told align is e = framed_is align.stage align.held.bits align.group ∙ sym e

pub returns-then-is_framed-clause-more : goal.returns-then-is_framed-clause-more
returns-then-is_framed-clause-more c = sym (ap (λ b. if b then 0 else 3072) (told c.args.self.now.align c.is_framed.result c.is_framed.ensures ∙ c.if-is_framed.true))

pub returns-then-is_framed-clause-unframed : goal.returns-then-is_framed-clause-unframed
returns-then-is_framed-clause-unframed c other = absurd (false≢true (sym other ∙ told c.args.self.now.align c.is_framed.result c.is_framed.ensures ∙ c.if-is_framed.true))

pub returns-clause-more : goal.returns-clause-more
returns-clause-more c = sym (ap (λ b. if b then 0 else 3072) (told c.args.self.now.align c.is_framed.result c.is_framed.ensures ∙ c.if-is_framed.false))

pub returns-clause-framed : goal.returns-clause-framed
returns-clause-framed c holds = absurd (false≢true (sym (told c.args.self.now.align c.is_framed.result c.is_framed.ensures ∙ c.if-is_framed.false) ∙ holds))
