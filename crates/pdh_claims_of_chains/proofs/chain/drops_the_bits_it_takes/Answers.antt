use Rattle.std.proofs.Common.{subst}
use Rattle.pdh_chain.specs.Calls.{ReceivesBy, ReceiveStopsBy}
use Rattle.pdh_claims_of_chains.proofs.Lines.{does_ok, taken_first}
use Rattle.pdh_claims_of_chains.proofs.chain.drops_the_bits_it_takes.Goals as goal

pub returns : goal.returns
returns g c =
    let m = g.R.Rx.meaning c.args.receiver.now in
    does_ok (ReceivesBy g.P.Feed g.P.Drain m (g.R.Rx.stands c.receive.new.receiver) (λ events. g.W.Watch.saw c.args.watch.now events c.receive.new.watch) c.args.bits)
    (λ stop old new. ReceiveStopsBy g.P.Feed g.P.Drain m (λ events. g.W.Watch.saw c.args.watch.now events c.receive.new.watch) c.args.bits old new stop)
    c.args.port.now c.receive.new.port c.receive.result _
    (λ taken list told. subst (g.R.Rx.stands c.receive.new.receiver) (taken_first list taken.given c.args.bits taken.takes taken.count told) taken.stood) c.receive.ensures.received.does
