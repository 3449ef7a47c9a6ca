use Rattle.pdh_chain.specs.Chains.{shapes_of}
use Rattle.pdh_duplex.specs.Session.{ends_after}
use Rattle.pdh_duplex.proofs.Going.{said_as}
use Rattle.pdh_duplex.proofs.link.Link.tick.Goals as goal

pub returns-clause-ticked : goal.returns-clause-ticked
unfolding ends_after
returns-clause-ticked g c z n west east next link =
    let shapes = shapes_of z.chain in
    let ends = ends_after z n in
    let west_says = c.next_say-west_says.ensures shapes ends.west.heard west link.west_is.has_heard in
    let east_says = c.next_say-east_says.ensures shapes ends.east.heard east link.east_is.has_heard in
    record {
      east_is = said_as g.T.Tx g.R.Rx g.E.Watch z c.args.clock.now z.to_east n ends.west.says _ _ ends.east.heard east _ west_says (c.go.ensures.went z z.to_east n ends.west.says ends.east.heard east next link.east_is);
      west_is = said_as g.T.Tx g.R.Rx g.W.Watch z c.args.clock.now z.to_west n ends.east.says _ _ ends.west.heard west _ east_says (c.go-2.ensures.went z z.to_west n ends.east.says ends.west.heard west next link.west_is);
    }
