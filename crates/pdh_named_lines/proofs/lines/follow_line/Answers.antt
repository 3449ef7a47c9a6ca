use Rattle.std.proofs.Common.{ℕ, [], Bool, List, IfOk, ◌∙◌, subst}
use Rattle.pdh_health.specs.declared.plan.NodePlan.{NodePlan}
use Rattle.pdh_placed.specs.Lines.{LineMeaning}
use Rattle.pdh_recording.specs.Given.{bits_left}
use Rattle.pdh_following.specs.Following.{AreAll, IsFollowed}
use Rattle.pdh_named_lines.specs.Levels.{top_level, plans_of as plans_by}
use Rattle.pdh_named_lines.proofs.lines.follow_line.Goals as goal

pub returns : goal.returns
returns g c =
    let m : LineMeaning = g.L.Recorded.meaning c.args.line in
    let wanted = c.args.wanted in
    let given = bits_left g.R.Read.remaining wanted.order c.args.recording.now in
    let R : ℕ → Type 0 = λ rate. IfOk c.follow.result
    (λ followed. (bits : List Bool) × AreAll given bits × IsFollowed g.W.Write.contents m rate wanted.from c.deref.result.now wanted.events bits followed) in
    let P : List NodePlan → Type 0 = λ plans. IfOk c.follow.result
    (λ followed. (bits : List Bool) × AreAll given bits × IsFollowed g.W.Write.contents m (top_level wanted.word).rate wanted.from plans wanted.events bits followed) in
    subst P {y = plans_by wanted.word (m.counted [])} (c.deref.ensures.value ∙ c.in_ok-plans.ensures [] c.requires) (subst R {y = (top_level wanted.word).rate} c.top_of.ensures.facts.rate_is c.follow.ensures)
