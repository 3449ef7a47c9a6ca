use Rattle.std.proofs.Common.{[], subst}
use Rattle.std.proofs.lemmas.Result.{IfOk-weaker}
use Rattle.pdh_placed.specs.Lines.{LineMeaning}
use Rattle.pdh_recording.specs.Given.{bits_left}
use Rattle.pdh_following.specs.Telling.{Ends}
use Rattle.pdh_following.proofs.Blocks.{gives_all}
use Rattle.pdh_following.proofs.Ending.{followed_all}
use Rattle.pdh_following.proofs.following.follow.Goals as goal

pub returns : goal.returns
returns g c =
    let m : LineMeaning = g.L.Recorded.meaning c.args.line in
    let wanted = c.args.wanted in
    let read = c.in_ok-read_all.ensures in
    let at = read.followed [] c.requires in
    let given = bits_left g.R.Read.remaining wanted.order c.args.recording.now in
    let left = bits_left g.R.Read.remaining wanted.order c.read_all.new.recording in
    let stands = g.L.Recorded.stands c.read_all.new.line in
    IfOk-weaker c.end.result _ _
    (λ followed ends.
    let E : LineMeaning → Type 0 = λ m. Ends g.W.Write.contents m.counted stands c.read_all.new.watch followed in (
      at.0,
      gives_all given left at.0 at.2.gives read.ended,
      followed_all g.W.Write.contents m wanted.rate wanted.from wanted.plans.now wanted.events at.0 given left stands c.in_ok-watch.watch c.read_all.new.watch followed c.in_ok-watch.ensures at.2
          read.written (subst E read.same ends) at.1,
    ))
    c.end.ensures
