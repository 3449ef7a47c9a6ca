use Rattle.std.proofs.Common.{inl, inr, refl}
use Rattle.std.proofs.lemmas.Result.{err_from_is_err_and}
use Rattle.pdh_runner.proofs.Finished.{files_kept, memory_ends, memory_watched, unheard_ends, unheard_watched, failed_ends, failed_watched, whole_ends, whole_watched, append_ends, append_watched}
use Rattle.pdh_runner.proofs.running.finished.Goals as goal

pub returns-in_err-finish-in-Whole-clause-performs : goal.returns-in_err-finish-in-Whole-clause-performs
returns-in_err-finish-in-Whole-clause-performs g c = λ operation begun old given kept done.
    let error = err_from_is_err_and c.from_residual.result c.from_residual.ensures.1 in
    let failed = c.in_err-finish-in-Whole.ensures in
    rw (error.1, error.2) (append_ends given kept c.finish.new.port.port failed.drained c.in-Whole.answer (rw c.in-Whole.is at done) c.args.files.now.outputs.items _ (files_kept c.args.files.now.inputs.items c.args.files.now.outputs.items failed.drained.keeps c.requires.files) failed.err failed.cause failed.part)

pub returns-in_err-finish-in-Whole-clause-watches : goal.returns-in_err-finish-in-Whole-clause-watches
returns-in_err-finish-in-Whole-clause-watches g c = λ operation begun old before after given kept done seen.
    let error = err_from_is_err_and c.from_residual.result c.from_residual.ensures.1 in
    let failed = c.in_err-finish-in-Whole.ensures in
    rw (error.1, error.2) (append_watched given kept c.finish.new.port.port failed.drained c.in-Whole.answer (rw c.in-Whole.is at done) c.args.files.now.outputs.items _ (files_kept c.args.files.now.inputs.items c.args.files.now.outputs.items failed.drained.keeps c.requires.files) failed.err failed.cause before after (rw c.in-Whole.is at seen))

pub returns-in_ok-finish-in-Whole-clause-performs : goal.returns-in_ok-finish-in-Whole-clause-performs
returns-in_ok-finish-in-Whole-clause-performs g c = λ operation begun old given kept done.
    let ended = c.in_ok-finish-in-Whole.ensures in
    whole_ends given kept c.finish.new.port.port ended.drained c.in-Whole.answer (rw c.in-Whole.is at done) ended.cause ended.same ended.written

pub returns-in_ok-finish-in-Whole-clause-watches : goal.returns-in_ok-finish-in-Whole-clause-watches
returns-in_ok-finish-in-Whole-clause-watches g c = λ operation begun old before after given kept done seen.
    whole_watched operation begun _ _ c.in-Whole.answer before after (rw c.in-Whole.is at done).behind (rw c.in-Whole.is at seen)

pub returns-in-Memory-clause-performs : goal.returns-in-Memory-clause-performs
returns-in-Memory-clause-performs g c = λ operation begun old given kept is. memory_ends given kept c.args.port.now.port (rw c.in-Memory.is at is)

pub returns-in-Memory-clause-watches : goal.returns-in-Memory-clause-watches
returns-in-Memory-clause-watches g c = λ operation begun old before after given kept is seen. memory_watched operation begun _ _ before after (rw c.in-Memory.is at seen)

pub returns-in-Failed-clause-performs : goal.returns-in-Failed-clause-performs
returns-in-Failed-clause-performs g c = λ operation begun old given kept stops. failed_ends given kept c.args.files.now.outputs.items c.stop.result c.args.port.now.port c.requires.files c.stop.ensures.of (rw c.in-Failed.is at stops)

pub returns-in-Failed-clause-watches : goal.returns-in-Failed-clause-watches
returns-in-Failed-clause-watches g c = λ operation begun old before after given kept stops seen. failed_watched given kept c.args.files.now.outputs.items before after c.stop.result c.args.port.now.port c.requires.files c.stop.ensures.of (rw c.in-Failed.is at stops) (rw c.in-Failed.is at seen)

pub returns-in-Unheard-clause-performs : goal.returns-in-Unheard-clause-performs
returns-in-Unheard-clause-performs g c = λ operation begun old given kept stops. unheard_ends given kept c.args.port.now.port (rw c.in-Unheard.is at stops)

pub returns-in-Unheard-clause-watches : goal.returns-in-Unheard-clause-watches
returns-in-Unheard-clause-watches g c = λ operation begun old before after given kept stops seen. unheard_watched operation begun _ _ before after (rw c.in-Unheard.is at seen)

-- ---- how it ends

pub returns-in_err-finish-in-Whole-clause-ends : goal.returns-in_err-finish-in-Whole-clause-ends
returns-in_err-finish-in-Whole-clause-ends g c =
    let error = err_from_is_err_and c.from_residual.result c.from_residual.ensures.1 in
    rw (c.in-Whole.is, error.1, error.2) (inr c.in_err-finish-in-Whole.ensures.call)

pub returns-in_ok-finish-in-Whole-clause-ends : goal.returns-in_ok-finish-in-Whole-clause-ends
returns-in_ok-finish-in-Whole-clause-ends g c = rw (c.in-Whole.is) (inl refl)

pub returns-in-Memory-clause-ends : goal.returns-in-Memory-clause-ends
returns-in-Memory-clause-ends g c = rw (c.in-Memory.is) refl

pub returns-in-Failed-clause-ends : goal.returns-in-Failed-clause-ends
returns-in-Failed-clause-ends g c = rw (c.in-Failed.is) c.stop.ensures.call

pub returns-in-Unheard-clause-ends : goal.returns-in-Unheard-clause-ends
returns-in-Unheard-clause-ends g c = rw (c.in-Unheard.is) refl
