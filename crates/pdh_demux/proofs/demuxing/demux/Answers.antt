use Rattle.std.proofs.lemmas.Result.{IfOk-weaker}
use Rattle.pdh_chain.proofs.Recovered.{chain_recovered}
use Rattle.pdh_demux.proofs.demuxing.demux.Goals as goal

pub returns-clause-comes_back : goal.returns-clause-comes_back
returns-clause-comes_back g c =
    IfOk-weaker c.demux_by_types.result _ _ (λ frames demuxes. chain_recovered c.args.chain _ c.args.bits frames _ _ _ _ demuxes) c.demux_by_types.ensures.ok
