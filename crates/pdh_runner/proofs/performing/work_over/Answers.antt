use Rattle.std.proofs.Common.{refl, sym, ap, subst, ◌∙◌}
use Rattle.pdh_answers.specs.SlipLines.{TellsLines, BreaksLines}
use Rattle.pdh_runner.specs.PortFiles.{HasFiles}
use Rattle.pdh_runner.specs.Running.{IsGiven}
use Rattle.pdh_runner.proofs.PortOpen.{has_files}
use Rattle.pdh_runner.proofs.Finished.{files_kept, watched_so}
use Rattle.pdh_runner.proofs.Heard.{heard_ends, heard_so, heard_memory}
use Rattle.pdh_runner.proofs.performing.work_over.Goals as goal

pub files-requires : goal.files-requires
files-requires g c = (g.S.Shelf.state c.args.shelf, c.requires.planned)

pub finished-answer-requires-clause-files : goal.finished-answer-requires-clause-files
finished-answer-requires-clause-files g c =
    let reads = c.in-Ok.files.inputs.items in
    let writes = c.in-Ok.files.outputs.items in
    files_kept reads writes c.work-port.ensures.kept (subst (HasFiles reads writes) (sym c.in-Ok-open.ensures.opened) (has_files (g.S.Shelf.state c.args.shelf) reads writes))

pub returns-in-Ok-open-clause-performs : goal.returns-in-Ok-open-clause-performs
returns-in-Ok-open-clause-performs g c = λ begun looks same.
    let reads = c.in-Ok.files.inputs.items in
    let prepared = c.in-Ok.ensures (g.S.Shelf.state c.args.shelf) c.requires.planned in
    let operation = g.C.PortCommand.operation c.args.command.now in
    let given = subst (IsGiven operation begun reads) (sym c.in-Ok-open.ensures.opened) (prepared.given begun looks same) in
    let gives = subst (g.C.PortCommand.gives c.args.command.now c.args.plan.now begun) (sym c.in-Ok-open.ensures.opened) (prepared.lists begun looks same) in
    rw (c.new-in-Ok-open.ensures.back, c.close.ensures, c.new-in-Ok-open.ensures.answer)
    (c.finished-answer.ensures.performs operation begun _ given c.work-port.ensures.kept (c.work-port.ensures.comes begun gives))

pub returns-in-Ok-open-clause-watches : goal.returns-in-Ok-open-clause-watches
returns-in-Ok-open-clause-watches g c = λ begun looks same.
    let reads = c.in-Ok.files.inputs.items in
    let prepared = c.in-Ok.ensures (g.S.Shelf.state c.args.shelf) c.requires.planned in
    let operation = g.C.PortCommand.operation c.args.command.now in
    let given = subst (IsGiven operation begun reads) (sym c.in-Ok-open.ensures.opened) (prepared.given begun looks same) in
    let gives = subst (g.C.PortCommand.gives c.args.command.now c.args.plan.now begun) (sym c.in-Ok-open.ensures.opened) (prepared.lists begun looks same) in
    watched_so operation begun _ _ _ _ _ _ (ap g.S.Shelf.state (c.new-in-Ok-open.ensures.back ∙ c.close.ensures)) c.new-in-Ok-open.ensures.answer
    (c.finished-answer.ensures.watches operation begun _ _ _ given c.work-port.ensures.kept (c.work-port.ensures.comes begun gives) (c.work-port.ensures.seen begun gives))

pub returns-in-Ok-open-clause-hears : goal.returns-in-Ok-open-clause-hears
returns-in-Ok-open-clause-hears g c = λ begun looks same.
    let reads = c.in-Ok.files.inputs.items in
    let prepared = c.in-Ok.ensures (g.S.Shelf.state c.args.shelf) c.requires.planned in
    let operation = g.C.PortCommand.operation c.args.command.now in
    let gives = subst (g.C.PortCommand.gives c.args.command.now c.args.plan.now begun) (sym c.in-Ok-open.ensures.opened) (prepared.lists begun looks same) in
    heard_so TellsLines BreaksLines operation.tells operation begun _ _ _ _ c.new-in-Ok-open.ensures.answer
    (heard_ends TellsLines BreaksLines operation begun _ _ _ _ _ _ (c.work-port.ensures.comes begun gives) (c.work-port.ensures.heard begun gives) c.finished-answer.ensures.ends)

-- memory was wanting before the work
pub returns-in_default-clause-hears : goal.returns-in_default-clause-hears
returns-in_default-clause-hears g c = λ begun looks same.
    let operation = g.C.PortCommand.operation c.args.command.now in
    heard_so TellsLines BreaksLines operation.tells operation begun _ _ _ _ c.new.ensures.answer (heard_memory TellsLines BreaksLines operation.tells operation begun _ _ refl)

pub returns-clause-hears : goal.returns-clause-hears
returns-clause-hears g c = λ begun looks same.
    let operation = g.C.PortCommand.operation c.args.command.now in
    heard_so TellsLines BreaksLines operation.tells operation begun _ _ _ _ c.new-in-Err.ensures.answer (heard_memory TellsLines BreaksLines operation.tells operation begun _ _ refl)
