use Rattle.std.proofs.Common.{◌≡◌, List, Bool, ap, map, sym, ◌∙◌}
use Rattle.pdh_watch.specs.Monitors.{SawEach}
use Rattle.pdh_chain.specs.Chains.{shapes_of}
use Rattle.pdh_chain.specs.Demuxes.{top_delivered}
use Rattle.pdh_inspect.specs.declared.line.LineSeen.{LineSeen}
use Rattle.pdh_inspect.specs.Seen.{line_bits_events, SeesLine, events_counted}
use Rattle.pdh_inspect.proofs.Given.{sees_also, sees_events}
use Rattle.pdh_inspect.proofs.line.inspect_line.Goals as goal

pub returns-in-Ok-clause-ok : goal.returns-in-Ok-clause-ok
returns-in-Ok-clause-ok g c =
    let old = map g.M.Monitor.state c.args.monitors.now.items in
    let new = map g.M.Monitor.state c.into_list.result.items in
    let seen : LineSeen = record { frames = c.in-Ok.frames; events = c.count-events.result } in
    let events_of = line_bits_events c.args.chain in
    let are = λ (given : List Bool). c.in-Ok.frames ≡ top_delivered (shapes_of c.args.chain) given in
    sees_also (λ given. SawEach old (events_of given) new × (c.count-events.result ≡ events_counted (events_of given)) × are given) (λ given. SeesLine c.args.chain given old new seen) _ _ _
    (λ given h. record { each = h.0; frames_are = h.2; events_are = h.1 })
    (sees_events events_of are _ old _ new _ _ c.count-events.result _ _ _ _ _
    (ap (λ l. map g.M.Monitor.state l.items) (c.new-members.ensures.list ∙ c.replace.ensures.value)) c.new-members.ensures.count
    (ap (λ l. map g.M.Monitor.state l.items) (sym c.into_list.ensures)) c.count-events.ensures (ap g.F.Feed.inputs c.new-port.ensures.feed) (ap g.F.Feed.inputs c.into_feed-feed.ensures) c.in-Ok.ensures.ok)
