use Rattle.std.proofs.Common.{◌≡◌, Ok, Err, cond, refl, inl, inr, sym, subst, arith}
use Rattle.pdh_line.specs.Sending.Mode.{Plain, Slipping}
use Rattle.pdh_blocks.specs.State.{over}
use Rattle.pdh_chain.specs.Muxes.{place_of}
use Rattle.pdh_answers.specs.declared.answer.Stop.{Stop}
use Rattle.pdh_answers.specs.declared.answer.Stop.TheVariants.{Overflow, Underflow}
use Rattle.pdh_making.specs.Mux.{muxing}
use Rattle.pdh_runner.specs.Running.{IsDone}
use Rattle.pdh_answers.specs.declared.answer.Done.{Done}
use Rattle.pdh_making.proofs.Stopping.{mux_kinds}
use Rattle.pdh_making.proofs.MuxFiles.{kind_reaches}
use Rattle.pdh_making.proofs.MuxSent.{has_frames, has_bits}
use Rattle.pdh_making.proofs.MuxRun.{muxed_all, muxed_comes, event_all, event_comes, event_stop, fewer_front, prefix_front}
use Rattle.pdh_making.proofs.muxing.MuxPortCommandNobody.work.Goals as goal

-- a line of plain mode tells no log
plain_tells_none : Plain ≡ Slipping → ⊥
plain_tells_none is = cc

pub outcome_of-requires-clause-frames : goal.outcome_of-requires-clause-frames
outcome_of-requires-clause-frames g c node is =
    let plan = c.args.plan.now in
    let stops = rw is at c.in-Err.ensures.err in
    has_frames c.args.self.now.chain plan.clock.rows plan.frames _ _ c.requires.opened.sends stops.0

pub outcome_of-requires-clause-leaves : goal.outcome_of-requires-clause-leaves
outcome_of-requires-clause-leaves g c leaf is =
    let plan = c.args.plan.now in
    let stops = rw is at c.in-Err.ensures.err in
    has_bits c.args.self.now.chain plan.clock.rows plan.frames _ _ _ c.requires.opened.sends stops.0

pub returns-in-Ok-clause-comes : goal.returns-in-Ok-clause-comes
returns-in-Ok-clause-comes g c = λ begun is.
    let command = c.args.self.now in
    let plan = c.args.plan.now in
    let rows = plan.clock.rows in
    let p = over (g.S.Shelf.state c.args.port.shelf) c.args.port.blocks in
    let q = over (g.S.Shelf.state c.mux.new.port.shelf) c.mux.new.port.blocks in
    let ran = c.in-Ok.ensures in
    subst (λ (done : Done). IsDone (muxing command.chain command.feac) begun p q (Ok done)) (sym c.says.ensures)
    (record {
      unread = ran.reads;
      unwritten = ran.writes;
      started = inl ran.ready;
      puts = muxed_all command.chain command.feac rows begun p q is plan.frames c.requires.opened.sends.frames_are ran.ok;
      comes = muxed_comes command.chain command.feac rows begun p q is plan.frames c.requires.opened.sends.frames_are ran.ok;
      behind = refl;
    })

pub returns-in-Err-clause-counted : goal.returns-in-Err-clause-counted
returns-in-Err-clause-counted g c =
    let plan = c.args.plan.now in
    let ran = c.in-Err.ensures in
    elim (mux_kinds c.in-Err.stop (λ log. let stops = rw log at c.in-Err.ensures.err in plain_tells_none stops.0)
    (λ node is. let stops = rw is at ran.err in has_frames c.args.self.now.chain plan.clock.rows plan.frames _ _ c.requires.opened.sends stops.0)
    (λ leaf is. let stops = rw is at ran.err in has_bits c.args.self.now.chain plan.clock.rows plan.frames _ _ _ c.requires.opened.sends stops.0)) [
      | inl event ↦ rw (c.outcome_of.ensures.event event.over event.place event.is) tt
      | inr other ↦ elim other [
        | inl is ↦ rw (c.outcome_of.ensures.memory is) tt
        | inr failed ↦ elim failed [
          | inl is ↦ rw (c.outcome_of.ensures.failed (inl is)) (λ none. (let counted = rw is at ran.reads in omega (arith, none, counted)))
          | inr is ↦ rw (c.outcome_of.ensures.failed (inr is)) (λ none. (let counted = rw is at ran.writes in omega (arith, none, counted)))
        ]
      ]
    ]

pub returns-in-Err-clause-comes : goal.returns-in-Err-clause-comes
returns-in-Err-clause-comes g c = λ begun is.
    let command = c.args.self.now in
    let plan = c.args.plan.now in
    let rows = plan.clock.rows in
    let p = over (g.S.Shelf.state c.args.port.shelf) c.args.port.blocks in
    let q = over (g.S.Shelf.state c.mux.new.port.shelf) c.mux.new.port.blocks in
    let ran = c.in-Err.ensures in
    elim (mux_kinds c.in-Err.stop (λ log. let stops = rw log at c.in-Err.ensures.err in plain_tells_none stops.0)
    (λ node stop. let stops = rw stop at ran.err in has_frames command.chain rows plan.frames _ _ c.requires.opened.sends stops.0)
    (λ leaf stop. let stops = rw stop at ran.err in has_bits command.chain rows plan.frames _ _ _ c.requires.opened.sends stops.0)) [
      | inl event ↦ rw (c.outcome_of.ensures.event event.over event.place event.is) (
          let stops = (rw event.is at ran.err).1 in
          let ends : Stop = cond event.over (Overflow event.place) (Underflow event.place) in
          subst (λ (stop : Stop). IsDone (muxing command.chain command.feac) begun p q (Err stop)) (sym (event_stop event.over event.place stops.event ends refl stops.kind stops.place_is))
          (record {
            unread = rw event.is at ran.reads;
            unwritten = rw event.is at ran.writes;
            started = inl (rw event.is at ran.ready);
            puts = event_all command.chain command.feac rows begun p q is plan.frames event.over event.place c.requires.opened.sends.frames_are stops;
            comes = event_comes command.chain command.feac rows begun p q is plan.frames event.over event.place c.requires.opened.sends.frames_are stops;
            behind = kind_reaches stops.event.kind (place_of stops.event);
          })
          )
      | inr other ↦ elim other [
        | inl stop ↦ rw (c.outcome_of.ensures.memory stop) (record { fresh = rw stop at ran.ready; unread = rw stop at ran.reads })
        | inr failed ↦ elim failed [
          | inl stop ↦ rw (c.outcome_of.ensures.failed (inl stop)) (
              inl (
              let stops = rw stop at ran.err in
              record {
                failed = rw stop at ran.reads;
                unwritten = rw stop at ran.writes;
                started = inl (rw stop at ran.ready);
                puts = fewer_front command.chain command.feac rows begun p q is plan.frames c.requires.opened.sends.frames_are stops.1;
              }
              )
              )
          | inr stop ↦ rw (c.outcome_of.ensures.failed (inr stop)) (
              inr (
              let stops = rw stop at ran.err in
              record {
                unread = rw stop at ran.reads;
                failed = rw stop at ran.writes;
                left = rw stop at ran.ready;
                puts = prefix_front command.chain command.feac rows begun p q is plan.frames (omega (arith, c.requires.opened.sends.frames_are)) stops.1;
              }
              )
              )
        ]
      ]
    ]
