use Rattle.std.proofs.Common.{◌∙◌}
use Rattle.std.specs.Prelude.{None}
use Rattle.std.proofs.lemmas.Result.{err_from_is_err_and}
use Rattle.pdh_making.specs.Mux.{muxed, making_line}
use Rattle.pdh_making.specs.Mux.Job.{Plainly}
use Rattle.pdh_runner.proofs.Touching.{looks_then}
use Rattle.pdh_runner.proofs.Refusing.{refuses_since}
use Rattle.pdh_making.proofs.ScheduleComes.{schedule_refuses}
use Rattle.pdh_making.proofs.MuxComes.{enough_refuses, sizes_since, all_are_held, has_schedule, mux_begins, has_rows, of_inputs_since}
use Rattle.pdh_making.proofs.MuxFiles.{is_planned}
use Rattle.pdh_making.proofs.muxing.read_plan.Goals as goal

pub returns-in_err-clock-clause-err : goal.returns-in_err-clock-clause-err
returns-in_err-clock-clause-err g c =
    let error = err_from_is_err_and c.from_residual-in_err-clock.result c.from_residual-in_err-clock.ensures.1 in
    let b = g.S.Shelf.state c.read_sizes.new.shelf in
    let sizes = c.in_ok-sizes.ensures in
    rw (error.1, error.2) (λ job. refuses_since (making_line c.args.chain job) _ b _ _ c.read_sizes.ensures.looks sizes.counted
    (schedule_refuses c.args.chain (making_line c.args.chain job) (muxed c.args.chain job) 0 b _ _ (mux_begins c.args.chain job b c.in_ok-sizes.sizes.schedule sizes.held sizes.ok.schedule) (has_schedule c.args.chain job c.in_ok-sizes.sizes b sizes.ok) c.in_err-clock.ensures.err))

pub returns-in_err-frames-clause-err : goal.returns-in_err-frames-clause-err
returns-in_err-frames-clause-err g c =
    let error = err_from_is_err_and c.from_residual-in_err-frames.result c.from_residual-in_err-frames.ensures.1 in
    let b = g.S.Shelf.state c.read_sizes.new.shelf in
    let d = g.S.Shelf.state c.read_schedule.new.shelf in
    let sizes = c.in_ok-sizes.ensures in
    let looks = looks_then _ b d c.read_sizes.ensures.looks c.read_schedule.ensures.looks in
    let same = c.in_ok-clock.ensures.counted ∙ sizes.counted in
    rw (error.1, error.2) (λ job.
    let rows = of_inputs_since c.args.chain job _ _ d c.read_schedule.ensures.looks (has_rows c.args.chain job b c.in_ok-sizes.sizes.schedule c.in_ok-clock.clock.rows sizes.ok.schedule c.in_ok-clock.ensures.rows) in
    refuses_since (making_line c.args.chain job) _ d d _ looks same
    (enough_refuses c.args.chain job c.in_ok-sizes.sizes c.in_ok-clock.clock.rows d d _ (sizes_since c.args.chain c.in_ok-sizes.sizes b d c.read_schedule.ensures.looks sizes.ok) rows c.in_err-frames.ensures.err))

pub returns-clause-ok : goal.returns-clause-ok
returns-clause-ok g c =
    let b = g.S.Shelf.state c.read_sizes.new.shelf in
    let d = g.S.Shelf.state c.read_schedule.new.shelf in
    let sizes = sizes_since c.args.chain c.in_ok-sizes.sizes b d c.read_schedule.ensures.looks c.in_ok-sizes.ensures.ok in
    let rows = of_inputs_since c.args.chain (Plainly None) _ _ d c.read_schedule.ensures.looks (has_rows c.args.chain (Plainly None) b c.in_ok-sizes.sizes.schedule c.in_ok-clock.clock.rows c.in_ok-sizes.ensures.ok.schedule c.in_ok-clock.ensures.rows) in
    let clock = c.in_ok-clock.ensures in
    is_planned c.args.chain (record { clock = c.in_ok-clock.clock; frames = c.in_ok-frames.frames }) c.in_ok-sizes.sizes d clock.levels clock.sound (all_are_held c.args.chain (Plainly None) c.in_ok-sizes.sizes d sizes) rows sizes c.in_ok-frames.ensures.ok
