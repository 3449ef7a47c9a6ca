use Rattle.std.proofs.Common.{◌≡◌, List, Bool, ap, map, sym, ◌∙◌}
use Rattle.pdh_g706.specs.Tracking.{multiframes_in, counted}
use Rattle.pdh_g706.specs.Events.{e1_events}
use Rattle.pdh_watch.specs.Monitors.{SawEach}
use Rattle.pdh_inspect.specs.declared.framed.FramedSeen.{FramedSeen}
use Rattle.pdh_inspect.specs.Seen.{SeesFramed, events_counted}
use Rattle.pdh_inspect.proofs.Given.{sees_also, sees_events}
use Rattle.pdh_inspect.proofs.framed.inspect_framed.Goals as goal

pub returns-in-Ok-clause-ok : goal.returns-in-Ok-clause-ok
returns-in-Ok-clause-ok g c =
    let old = map g.M.Monitor.state c.args.monitors.now.items in
    let new = map g.M.Monitor.state c.into_list.result.items in
    let seen : FramedSeen = record { multiframes = c.in-Ok.multiframes; events = c.count-events.result } in
    let are = λ (given : List Bool). c.in-Ok.multiframes ≡ counted (multiframes_in given) in
    sees_also (λ given. SawEach old (e1_events given) new × (c.count-events.result ≡ events_counted (e1_events given)) × are given) (λ given. SeesFramed given old new seen) _ _ _
    (λ given h. record { each = h.0; multiframes_are = h.2; events_are = h.1 })
    (sees_events e1_events are _ old _ new _ _ c.count-events.result _ _ _ _ _
    (ap (λ l. map g.M.Monitor.state l.items) (c.new-members.ensures.list ∙ c.replace.ensures.value)) c.new-members.ensures.count
    (ap (λ l. map g.M.Monitor.state l.items) (sym c.into_list.ensures)) c.count-events.ensures (ap g.F.Feed.inputs c.new-port.ensures.feed) (ap g.F.Feed.inputs c.into_feed-feed.ensures) c.in-Ok.ensures.ok)
