use Rattle.pdh_answers.specs.SlipLines.{TellsLines, BreaksLines}
use Rattle.pdh_runner.proofs.Heard.{heard_so, heard_refused}
use Rattle.pdh_runner.proofs.Refusing.{refuses_performs}
use Rattle.std.proofs.Common.{refl}
use Rattle.pdh_runner.proofs.performing.perform.Goals as goal

pub returns-in-Ok-clause-performs : goal.returns-in-Ok-clause-performs
returns-in-Ok-clause-performs g c = c.work_over.ensures.performs _ c.prepare.ensures.looks c.in-Ok.ensures.counted

pub returns-in-Ok-clause-watches : goal.returns-in-Ok-clause-watches
returns-in-Ok-clause-watches g c = c.work_over.ensures.watches _ c.prepare.ensures.looks c.in-Ok.ensures.counted

pub returns-in-Ok-clause-hears : goal.returns-in-Ok-clause-hears
returns-in-Ok-clause-hears g c = c.work_over.ensures.hears _ c.prepare.ensures.looks c.in-Ok.ensures.counted

pub returns-in-Err-clause-performs : goal.returns-in-Err-clause-performs
returns-in-Err-clause-performs g c =
    let operation = g.C.PortCommand.operation c.args.command.now in
    rw (c.new.ensures.back, c.new.ensures.answer) (refuses_performs operation _ _ _ c.prepare.ensures.looks c.in-Err.ensures.err c.in-Err.ensures.counted)

pub returns-in-Err-clause-watches : goal.returns-in-Err-clause-watches
returns-in-Err-clause-watches g c = rw (c.new.ensures.back, c.new.ensures.answer) (c.in-Err.ensures.unseen _)

pub returns-in-Err-clause-hears : goal.returns-in-Err-clause-hears
returns-in-Err-clause-hears g c =
    let operation = g.C.PortCommand.operation c.args.command.now in
    heard_so TellsLines BreaksLines operation.tells operation _ _ _ _ _ c.new.ensures.answer (heard_refused TellsLines BreaksLines operation.tells operation _ _ _ _ _ c.in-Err.ensures.err refl)
