use Rattle.std.proofs.Common.{subst}
use Rattle.pdh_clock.specs.Contents.{Contents}
use Rattle.pdh_clock.specs.Judged.{Gives, schedule_of}
use Rattle.pdh_claims_of_schedules.proofs.ReadAgain.{read_again}
use Rattle.pdh_claims_of_schedules.proofs.clock.text_joins_unequal_frames.Goals as goal

pub returns : goal.returns
returns c =
    let levels = c.args.levels.now in
    read_again c.args.schedule.now c.in_ok-text.text.items levels c.read.result c.requires.same c.requires.few c.in_ok-text.ensures.read_back
    (subst (λ text. Gives (λ (again : Contents). again.rows) c.read.result (schedule_of levels text)) c.deref.ensures.value c.read.ensures.rows)
