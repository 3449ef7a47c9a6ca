use Rattle.std.proofs.Common.{refl, inl, sym, ap, ◌∙◌}
use Rattle.std.specs.Prelude.{Err}
use Rattle.pdh_blocks.specs.State.{over}
use Rattle.pdh_g706.specs.Events.{e1_events}
use Rattle.pdh_runner.proofs.LineRun.{given_all, all_seen, first_seen}
use Rattle.pdh_streams.proofs.InspectFramed.{framed_comes}
use Rattle.pdh_runner.proofs.Finished.{fed_done, fed_unstarted, fed_stops}
use Rattle.pdh_streams.proofs.inspecting.InspectE1PortCommandVec.work.Goals.{in-Ok, in-Err-Memory, in-Err-Failed}
use Rattle.pdh_streams.proofs.inspecting.InspectE1PortCommandVec.work.Goals as goal

pub returns-clause-comes : goal.returns-clause-comes
returns-clause-comes g c = λ begun is.
    let p = over (g.S.Shelf.state c.args.port.shelf) c.args.port.blocks in
    let q = over (g.S.Shelf.state c.inspect_framed-seen.result.feed.shelf) c.inspect_framed-seen.result.feed.blocks in
    let seen = c.inspect_framed-seen.ensures in
    elim c.match-seen.branch [
      | in-Ok w ↦
          let sees = rw w.in-Ok.is at seen.ok in
          rw (w.outcome-is, w.says_of_e1-done.ensures) (fed_done is.open_for refl seen.fed _ (rw w.in-Ok.is at seen.faults) (λ files told. framed_comes _ sees.given _ _ w.in-Ok.found (given_all is q sees.given sees.count sees.takes files told) sees.seen ∙ sym (is.comes files told)) refl)
      | in-Err-Memory w ↦
          let stop = rw w.in-Err-Memory.is at w.in-Err-Memory.field-0-is in
          rw w.outcome-is (fed_unstarted is.open_for refl seen.fed (rw (w.in-Err-Memory.is, stop) at seen.faults))
      | in-Err-Failed w ↦
          let stop = rw w.in-Err-Failed.is at w.in-Err-Failed.field-0-is in
          rw w.outcome-is (inl (fed_stops is.open_for refl seen.fed (rw (w.in-Err-Failed.is, stop) at seen.faults)))
    ]

pub returns-clause-seen : goal.returns-clause-seen
returns-clause-seen g c = λ begun is.
    let q = over (g.S.Shelf.state c.inspect_framed-seen.result.feed.shelf) c.inspect_framed-seen.result.feed.blocks in
    let seen = c.inspect_framed-seen.ensures in
    elim c.match-seen.branch [
      | in-Ok w ↦
          let sees = rw w.in-Ok.is at seen.ok in
          rw w.outcome-is (all_seen is q (e1_events) _ _ sees.given sees.count sees.takes sees.seen.each)
      | in-Err-Memory w ↦
          let stop = rw w.in-Err-Memory.is at w.in-Err-Memory.field-0-is in
          rw w.outcome-is ((rw (w.in-Err-Memory.is, stop) at seen.err).1)
      | in-Err-Failed w ↦
          let stop = rw w.in-Err-Failed.is at w.in-Err-Failed.field-0-is in
          let sees = rw (w.in-Err-Failed.is, stop) at seen.err in
          rw w.outcome-is (first_seen is q seen.fed c.inspect_framed-seen.result.feed.port (e1_events) _ _ sees.given sees.takes sees.seen (seen.unread (w.in-Err-Failed.is ∙ ap Err stop)))
    ]
