use Rattle.std.proofs.Common.{IfOk, subst}
use Rattle.pdh_rx.specs.Meaning.{Meaning}
use Rattle.pdh_placed.specs.Lines.{line_meaning}
use Rattle.pdh_recording.specs.Given.{bits_left}
use Rattle.pdh_named_lines.specs.Lines.{IsFollowedAs}
use Rattle.pdh_named_lines.proofs.lines.follow_chain.Goals as goal

pub returns : goal.returns
returns g c =
    let wanted = c.args.wanted in
    let P : Meaning → Type 0 = λ m. IfOk c.follow_line.result
    (λ followed. IsFollowedAs g.W.Write.contents (line_meaning m) wanted.word wanted.from (bits_left g.R.Read.remaining wanted.order c.args.recording.now) wanted.events followed) in
    subst P c.in_ok-receiver.ensures.meaning c.follow_line.ensures
