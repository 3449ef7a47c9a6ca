use Rattle.std.proofs.Common.{map, ap, subst}
use Rattle.std.specs.String.{string_bytes}
use Rattle.pdh_words.specs.Commands.{command_of}
use Rattle.pdh_answers.specs.SlipLines.{log_state}
use Rattle.pdh_ops.specs.Run.{Hears}
use Rattle.pdh_ops.proofs.ToldBehind.{told_by, fresh_log}
use Rattle.pdh_ops.proofs.SlipsComeBack.{are_slipped, has_no_slip}
use Rattle.pdh_watch.specs.contracts.members.BoxDynMonitorMonitor.TheImpl.{state-value}
use Rattle.pdh_answers.specs.Lines.{IsTold}
use Rattle.pdh_ops.proofs.Completing.{completes}
use Rattle.pdh_ops.proofs.MuxGivesBack.{gives_back}
use Rattle.pdh_ops.proofs.MuxTolerated.{has_no_event, is_delayed}
use Rattle.pdh_ops.proofs.DemuxRejoins.{are_rejoined}
use Rattle.pdh_ops.proofs.StreamsPacked.{packs}
use Rattle.pdh_ops.proofs.DrillInTime.{are_in_time}
use Rattle.pdh_ops.proofs.program.run.Goals as goal

pub returns-clause-runs : goal.returns-clause-runs
returns-clause-runs g c = record {
  answer = c.answer-ended.result.answer;
  does = c.answer-ended.ensures.does;
  watches = c.answer-ended.ensures.watches;
  told = told_by (command_of (map string_bytes c.args.words.now)) _ _ _ _ _ _ _
      (subst (λ log. Hears (command_of (map string_bytes c.args.words.now)) (g.S.Shelf.state c.args.shelf) c.answer-ended.result.answer log (log_state (g.K.Sink.state c.answer-ended.new.log.out) c.answer-ended.new.log.told)) (fresh_log _ _ _ _ (ap g.K.Sink.state c.new-log.ensures.out) c.new-log.ensures.told) c.answer-ended.ensures.hears)
      (subst (λ monitors. IsTold (map (state-value g.dyn-1).it monitors) c.answer-ended.result.answer (g.K.Sink.state c.answer-ended.new.log.out) (g.K.Sink.state c.report-status.new.out) c.report-status.result) c.deref.ensures.value c.report-status.ensures);
}

pub answer-ended-requires : goal.answer-ended-requires
answer-ended-requires g c = record { fresh = c.new-log.ensures.told }

pub returns-clause-slipped : goal.returns-clause-slipped
returns-clause-slipped g c = are_slipped _ _ _ _ _ _ _ _ (returns-clause-runs g c)

pub returns-clause-no_slip : goal.returns-clause-no_slip
returns-clause-no_slip g c = has_no_slip _ _ _ _ _ _ _ _ (returns-clause-runs g c)

pub returns-clause-completes : goal.returns-clause-completes
returns-clause-completes g c = completes _ _ _ _ _ _ _ _ (returns-clause-runs g c)

pub returns-clause-gives_back : goal.returns-clause-gives_back
returns-clause-gives_back g c = gives_back _ _ _ _ _ _ _ _ (returns-clause-runs g c)

pub returns-clause-no_event : goal.returns-clause-no_event
returns-clause-no_event g c = has_no_event _ _ _ _ _ _ _ _ (returns-clause-runs g c)

pub returns-clause-delay : goal.returns-clause-delay
returns-clause-delay g c = is_delayed _ _ _ _ _ _ _ _ (returns-clause-runs g c)

pub returns-clause-packs : goal.returns-clause-packs
returns-clause-packs g c = packs _ _ _ _ _ _ _ _ (returns-clause-runs g c)

pub returns-clause-in_time : goal.returns-clause-in_time
returns-clause-in_time g c = are_in_time _ _ _ _ _ _ _ _ (returns-clause-runs g c)

pub returns-clause-rejoined : goal.returns-clause-rejoined
returns-clause-rejoined g c = are_rejoined _ _ _ _ _ _ _ _ (returns-clause-runs g c)
