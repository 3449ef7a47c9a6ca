use Rattle.std.proofs.Common.{List, refl, sym, subst}
use Rattle.pdh_watch.specs.declared.event.Event.{Event}
use Rattle.pdh_g706.proofs.TakeLaws.{events_more}
use Rattle.pdh_inspect.proofs.Given.{not_failed, at_ok}
use Rattle.pdh_inspect.proofs.framed.push_all.Goals as goal

pub take-requires : goal.take-requires
take-requires g c = record { stands = c.requires; list = refl }

pub returns-clause-done : goal.returns-clause-done
returns-clause-done g c = not_failed c.take.result c.take.ensures.cause

pub returns-clause-stands : goal.returns-clause-stands
returns-clause-stands g c = at_ok c.take.result (not_failed c.take.result c.take.ensures.cause) c.take.ensures.stands

pub returns-clause-seen : goal.returns-clause-seen
returns-clause-seen g c first line h saw =
    let seen = at_ok c.take.result (not_failed c.take.result c.take.ensures.cause) c.take.ensures.seen in
    subst (λ (events : List Event). g.W.Watch.saw first events c.take.new.watch) (sym (events_more line c.args.bits.now.bits))
    (g.met.W.Watch.saw_join first c.args.watch.now c.take.new.watch _ _ saw (seen line h))

pub returns-clause-feed : goal.returns-clause-feed
returns-clause-feed g c = c.take.ensures.drained.0
