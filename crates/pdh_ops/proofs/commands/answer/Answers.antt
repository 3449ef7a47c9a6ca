use Rattle.std.proofs.Common.{Option, Some, map, sym, ap, subst, ◌∙◌}
use Rattle.pdh_watch.specs.contracts.members.BoxDynMonitorMonitor.TheImpl.{state-value}
use Rattle.pdh_words.specs.declared.commands.Command.{Command}
use Rattle.pdh_answers.specs.SlipLines.{log_state}
use Rattle.pdh_ops.specs.Run.{Watches, Hears}
use Rattle.pdh_ops.proofs.commands.answer.Goals as goal

-- the slips of the command that the words are
pub returns-in-MuxSlip-clause-hears : goal.returns-in-MuxSlip-clause-hears
returns-in-MuxSlip-clause-hears g c =
    subst (λ (command : Option Command). Hears command (g.S.Shelf.state c.args.shelf) c.perform-in-MuxSlip.result.answer (log_state (g.K.Sink.state c.args.log.now.out) c.args.log.now.told) (log_state (g.K.Sink.state c.perform-in-MuxSlip.new.audience.out) c.perform-in-MuxSlip.new.audience.told))
    (sym (ap Some c.in-MuxSlip.is) ∙ sym c.in-Some.is ∙ c.command_for.ensures.is) c.perform-in-MuxSlip.ensures.hears

-- and what it shows
pub returns-in-Duplex-clause-watches : goal.returns-in-Duplex-clause-watches
returns-in-Duplex-clause-watches g c =
    let states = map (state-value g.dyn-1).it in
    rw (c.new-in-Duplex.ensures.back, c.new-in-Duplex.ensures.answer)
    (subst (λ (command : Option Command). Watches command (g.S.Shelf.state c.args.shelf) (g.S.Shelf.state c.duplex-answer.new.shelf) c.duplex-answer.result (states c.args.monitors.now.items) (states c.duplex-answer.new.monitors.items))
    (sym (ap Some c.in-Duplex.is) ∙ sym c.in-Some.is ∙ c.command_for.ensures.is) c.duplex-answer.ensures.watches)
