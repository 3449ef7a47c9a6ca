use Rattle.std.proofs.Common.{◌∙◌, ap}
use Rattle.std.specs.Prelude.{count_by}
use Rattle.std.specs.List.{range_with_len}
use Rattle.pdh_line.specs.Sending.{frames_found}
use Rattle.pdh_telling.specs.Saying.{alarm_begins}
use Rattle.pdh_claims_of_events.proofs.telling.frames_told_that_are_not_found.Goals as goal

pub returns : goal.returns
returns c s below source bits frame says two =
    c.a_sent_line_tells_its_alarms.ensures s below source bits frame says
    ∙ ap (λ frames. count_by (alarm_begins (λ n. (source.says n).alarm)) (range_with_len 0 (frames_found frames))) two
