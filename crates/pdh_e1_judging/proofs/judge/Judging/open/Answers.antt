use Rattle.std.proofs.Common.{false, [], sym, ap, ◌∙◌, arith}
use Rattle.std.proofs.lemmas.Bool.{false≢true}
use Rattle.pdh_e1_judging.specs.Judging.{is_framed}
use Rattle.pdh_e1_judging.proofs.FollowsLaws.{follows_empty, in_phase, judged_empty}
use Rattle.pdh_g706.specs.View.{phase}
use Rattle.pdh_g706.specs.Machine.Phase.{Searching}
use Rattle.pdh_e1_judging.proofs.judge.Judging.open.Goals as goal

pub returns : goal.returns
returns c =
    let align = c.in_ok-align.align in
    let opened = c.in_ok-align.ensures in
    record {
      follows = in_phase (Searching []) (phase align) [] (sym opened.phase) follows_empty;
      room = opened.stands.room;
      counts = opened.stands.counts.multiframes_are;
      came_is = λ holds. absurd (false≢true (sym (ap is_framed opened.phase) ∙ holds));
      few_came = omega arith;
      judged_is = judged_empty;
    }
