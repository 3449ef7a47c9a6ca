use Rattle.std.proofs.Common.{sym, ap, ◌∙◌, subst}
use Rattle.std.proofs.lemmas.Result.{IfErr-weaker}
use Rattle.pdh_tx.specs.Meaning.{mode_of}
use Rattle.pdh_chain.specs.Calls.{MuxStopsBy}
use Rattle.pdh_chain.specs.declared.stop.MuxStop.{MuxStop}
use Rattle.pdh_line.specs.Sending.{Mode}
use Rattle.pdh_line.specs.Sending.Mode.{Plain, Slipping}
use Rattle.pdh_claims_of_chains.proofs.chain.plain_mode_at_the_second_frame.Goals as goal

-- a mode is that of slips
abbrev Slips : Mode → Type 0
Slips Plain = ⊥
Slips Slipping = Unit {0}

pub returns : goal.returns
returns g c =
    let Why : MuxStop → Type 0 = MuxStopsBy g.P.Feed g.P.Drain (mode_of g.G.SlipLog.takes) g.T.ChainTx.shapes c.args.clock.now c.args.feac c.args.frames c.args.port.now c.mux_with.new.port in
    IfErr-weaker c.mux_with.result _ _ (λ stop why over place is. subst Slips (ap mode_of (sym c.requires.slips) ∙ (subst Why is why).0) tt) c.mux_with.ensures.err
