use Rattle.std.proofs.Common.{Bool, List, subst}
use Rattle.pdh_placed.specs.Places.{placed_events}
use Rattle.pdh_claims_of_placed_events.proofs.placed.one_place_for_all.Goals as goal

pub returns : goal.returns
returns g c line one two stands is =
    let notes = (g.R.Recorded.meaning c.args.recorded.now).notes in
    let old = c.args.watch.now in
    subst (λ (bits : List Bool). g.W.PlacedWatch.saw old.watch (placed_events notes line old.place bits) c.take.new.watch.watch) is (c.take.ensures.seen line stands)
