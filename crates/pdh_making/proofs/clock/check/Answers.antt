use Rattle.std.proofs.lemmas.Result.{err_from_is_err_and}
use Rattle.pdh_making.proofs.ClockComes.{check_schedule_refused, check_done}
use Rattle.pdh_making.proofs.clock.check.Goals as goal

pub returns-in_err-clock : goal.returns-in_err-clock
returns-in_err-clock g c =
    let p = err_from_is_err_and c.from_residual-in_err-clock.result c.from_residual-in_err-clock.ensures.1 in
    rw (p.1, p.2) (check_schedule_refused c.args.chain _ (g.S.Shelf.state c.size.new.shelf) _ c.in_ok-bytes.bytes _ c.size.ensures.looks c.in_ok-bytes.ensures.counted c.in_ok-bytes.ensures.ok c.read_schedule.ensures.looks c.in_err-clock.ensures.counted c.in_err-clock.ensures.err)

pub returns : goal.returns
returns g c =
    rw (c.checked.ensures) (check_done c.args.chain _ (g.S.Shelf.state c.size.new.shelf) _ c.in_ok-bytes.bytes c.in_ok-clock.clock.rows c.size.ensures.looks c.in_ok-bytes.ensures.counted c.in_ok-bytes.ensures.ok c.read_schedule.ensures.looks c.in_ok-clock.ensures.counted c.in_ok-clock.ensures.rows)
