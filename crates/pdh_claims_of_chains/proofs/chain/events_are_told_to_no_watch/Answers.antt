use Rattle.std.proofs.Common.{◌∷◌, subst}
use Rattle.std.proofs.lemmas.Result.{IfOk-weaker}
use Rattle.pdh_events.specs.Chain.{chain_events}
use Rattle.pdh_claims_of_chains.proofs.Lines.{taken_first}
use Rattle.pdh_claims_of_chains.proofs.chain.events_are_told_to_no_watch.Goals as goal

pub returns : goal.returns
returns g c =
    IfOk-weaker c.demux_with.result _ _ (λ frames d list told.
    subst (λ line. g.W.Watch.saw c.args.watch.now (chain_events (g.S.Shape.shape ∷ g.C.ChainRx.shapes) line) c.demux_with.new.watch) (taken_first list d.given c.args.bits d.line.takes d.count told) d.seen) c.demux_with.ensures.ok
