use Rattle.std.proofs.Common.{refl, inl}
use Rattle.pdh_blocks.specs.State.{over}
use Rattle.pdh_recorded.proofs.ShowRun.{shown_comes}
use Rattle.pdh_runner.proofs.Finished.{fed_done, fed_unstarted, fed_stops}
use Rattle.pdh_recorded.proofs.showing.ShowPortCommandNobody.work.Goals.{in-Ok, in-Err-Memory, in-Err-Failed}
use Rattle.pdh_recorded.proofs.showing.ShowPortCommandNobody.work.Goals as goal

pub returns-clause-comes : goal.returns-clause-comes
returns-clause-comes g c = λ begun is.
    let command = c.args.self.now in
    let p = over (g.S.Shelf.state c.args.port.shelf) c.args.port.blocks in
    let q = over (g.S.Shelf.state c.show.new.feed.shelf) c.show.new.feed.blocks in
    elim c.match-show.branch [
      | in-Ok w ↦ rw (w.outcome-is, w.new.ensures) (fed_done is.open_for refl c.show.ensures.fed _ w.in-Ok.ensures.faults (shown_comes command.chain command.frame begun p q is c.args.port.port c.requires.opened.line w.in-Ok.text.items w.in-Ok.ensures.ok) refl)
      | in-Err-Memory w ↦ rw w.outcome-is (fed_unstarted is.open_for refl c.show.ensures.fed (rw w.in-Err-Memory.field-0-is at w.in-Err-Memory.ensures.faults))
      | in-Err-Failed w ↦ rw w.outcome-is (inl (fed_stops is.open_for refl c.show.ensures.fed (rw w.in-Err-Failed.field-0-is at w.in-Err-Failed.ensures.faults)))
    ]
