use Rattle.std.proofs.Common.{[], true, subst}
use Rattle.pdh_events.specs.Telling.{ais_kinds, ones_at_end, tell}
use Rattle.pdh_claims_of_events.proofs.events.ais_at_the_first_one.Goals as goal

pub returns : goal.returns
unfolding ones_at_end
returns g c =
    subst (λ long. g.W.Watch.saw c.args.watch.now (tell c.args.path 0 (ais_kinds long [] true)) c.note.new.watch) c.new-run.ensures.long (c.note.ensures.seen [] c.new-run.ensures.none)
