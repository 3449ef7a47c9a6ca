use Rattle.std.proofs.Common.{◌≡◌, ◌≤◌, Ok, Err, refl, ap, inl, inr, sym, subst, ◌∙◌, arith}
use Rattle.pdh_shape.specs.OwnNumbers.{most_frames}
use Rattle.pdh_line.specs.Sending.Mode.{Plain, Slipping}
use Rattle.pdh_blocks.specs.State.{over}
use Rattle.pdh_answers.specs.declared.answer.Done.{Done}
use Rattle.pdh_answers.specs.SlipLines.{log_state, TellsLines}
use Rattle.pdh_runner.specs.Running.{IsDone}
use Rattle.pdh_making.specs.Mux.{muxing_slips}
use Rattle.pdh_making.proofs.Stopping.{slipping_kinds}
use Rattle.pdh_making.proofs.MuxSent.{has_frames, has_bits}
use Rattle.pdh_making.proofs.MuxSlipRun.{tells_some, slipping_all, slipping_fewer, slipping_prefix, slips_all, heard_all, heard_front, breaks_at, slips_come}
use Rattle.pdh_making.proofs.FewSlips.{few_slips}
use Rattle.pdh_making.proofs.slipping.MuxSlipPortCommandSinkLog.work.Goals as goal

-- a line whose stores slip ends at no event
slipping_goes_on : Slipping ≡ Plain → ⊥
slipping_goes_on is = cc

pub outcome_of-requires-clause-frames : goal.outcome_of-requires-clause-frames
outcome_of-requires-clause-frames g c node is =
    let plan = c.args.plan.now in
    let stops = rw is at c.in-Err.ensures.err in
    has_frames c.args.self.now.chain plan.clock.rows plan.frames _ _ c.requires.opened.sends stops.0

pub outcome_of-requires-clause-leaves : goal.outcome_of-requires-clause-leaves
outcome_of-requires-clause-leaves g c leaf is =
    let plan = c.args.plan.now in
    let stops = rw is at c.in-Err.ensures.err in
    has_bits c.args.self.now.chain plan.clock.rows plan.frames _ _ _ c.requires.opened.sends stops.0

pub returns-in-Ok-clause-comes : goal.returns-in-Ok-clause-comes
returns-in-Ok-clause-comes g c = λ begun is.
    let command = c.args.self.now in
    let plan = c.args.plan.now in
    let rows = plan.clock.rows in
    let p = over (g.S.Shelf.state c.args.port.shelf) c.args.port.blocks in
    let q = over (g.S.Shelf.state c.mux_slips.new.port.shelf) c.mux_slips.new.port.blocks in
    let old = log_state (g.K.Sink.state c.args.log.now.out) c.args.log.now.told in
    let new = log_state (g.K.Sink.state c.mux_slips.new.log.out) c.mux_slips.new.log.told in
    let ran = c.in-Ok.ensures in
    let all = slips_all command.chain rows begun p q is plan.frames c.requires.opened.sends.frames_are in
    let told = subst (λ slips. TellsLines old slips new) all ran.told.all.logs_them in
    subst (λ (done : Done). IsDone (muxing_slips command.chain) begun p q (Ok done)) (sym c.says.ensures)
    (record {
      unread = ran.reads;
      unwritten = ran.writes;
      started = inl ran.ready;
      puts = slipping_all command.chain rows begun p q is plan.frames c.requires.opened.sends.frames_are ran.ok;
      comes = slips_come command.chain rows begun p q is old new plan.frames c.requires.opened.sends.frames_are (few_slips command.chain rows (subst (λ n. n ≤ most_frames) c.requires.opened.sends.frames_are c.requires.opened.few)) c.requires.fresh told;
      behind = refl;
    })

pub returns-in-Ok-clause-heard : goal.returns-in-Ok-clause-heard
returns-in-Ok-clause-heard g c = λ begun is.
    let command = c.args.self.now in
    let plan = c.args.plan.now in
    let rows = plan.clock.rows in
    let p = over (g.S.Shelf.state c.args.port.shelf) c.args.port.blocks in
    let q = over (g.S.Shelf.state c.mux_slips.new.port.shelf) c.mux_slips.new.port.blocks in
    let old = log_state (g.K.Sink.state c.args.log.now.out) c.args.log.now.told in
    let new = log_state (g.K.Sink.state c.mux_slips.new.log.out) c.mux_slips.new.log.told in
    let all = slips_all command.chain rows begun p q is plan.frames c.requires.opened.sends.frames_are in
    heard_all command.chain rows begun p q is old new (subst (λ slips. TellsLines old slips new) all c.in-Ok.ensures.told.all.logs_them)

pub returns-in-Err-clause-counted : goal.returns-in-Err-clause-counted
returns-in-Err-clause-counted g c =
    let plan = c.args.plan.now in
    let ran = c.in-Err.ensures in
    elim (slipping_kinds c.in-Err.stop (λ over place is. let stops = rw is at ran.err in slipping_goes_on stops.0)
    (λ node is. let stops = rw is at ran.err in has_frames c.args.self.now.chain plan.clock.rows plan.frames _ _ c.requires.opened.sends stops.0)
    (λ leaf is. let stops = rw is at ran.err in has_bits c.args.self.now.chain plan.clock.rows plan.frames _ _ _ c.requires.opened.sends stops.0)) [
      | inl is ↦ rw (c.outcome_of.ensures.memory is) tt
      | inr other ↦ elim other [
        | inl is ↦ rw (c.outcome_of.ensures.log is) tt
        | inr failed ↦ elim failed [
          | inl is ↦ rw (c.outcome_of.ensures.failed (inl is)) (λ none. (let counted = rw is at ran.reads in omega (arith, none, counted)))
          | inr is ↦ rw (c.outcome_of.ensures.failed (inr is)) (λ none. (let counted = rw is at ran.writes in omega (arith, none, counted)))
        ]
      ]
    ]

pub returns-in-Err-clause-comes : goal.returns-in-Err-clause-comes
returns-in-Err-clause-comes g c = λ begun is.
    let command = c.args.self.now in
    let plan = c.args.plan.now in
    let rows = plan.clock.rows in
    let p = over (g.S.Shelf.state c.args.port.shelf) c.args.port.blocks in
    let q = over (g.S.Shelf.state c.mux_slips.new.port.shelf) c.mux_slips.new.port.blocks in
    let ran = c.in-Err.ensures in
    elim (slipping_kinds c.in-Err.stop (λ over place stop. let stops = rw stop at ran.err in slipping_goes_on stops.0)
    (λ node stop. let stops = rw stop at ran.err in has_frames command.chain rows plan.frames _ _ c.requires.opened.sends stops.0)
    (λ leaf stop. let stops = rw stop at ran.err in has_bits command.chain rows plan.frames _ _ _ c.requires.opened.sends stops.0)) [
      | inl stop ↦ rw (c.outcome_of.ensures.memory stop) (record { fresh = rw stop at ran.ready; unread = rw stop at ran.reads })
      | inr other ↦ elim other [
        | inl stop ↦ rw (c.outcome_of.ensures.log stop) (
            let stops = rw stop at ran.err in
            record {
              tells = tells_some command.chain;
              unread = rw stop at ran.reads;
              unwritten = rw stop at ran.writes;
              started = inl (rw stop at ran.ready);
              puts = slipping_fewer command.chain rows begun p q is plan.frames c.requires.opened.sends.frames_are stops.1;
            }
            )
        | inr failed ↦ elim failed [
          | inl stop ↦ rw (c.outcome_of.ensures.failed (inl stop)) (
              inl (
              let stops = rw stop at ran.err in
              record {
                failed = rw stop at ran.reads;
                unwritten = rw stop at ran.writes;
                started = inl (rw stop at ran.ready);
                puts = slipping_fewer command.chain rows begun p q is plan.frames c.requires.opened.sends.frames_are stops.1;
              }
              )
              )
          | inr stop ↦ rw (c.outcome_of.ensures.failed (inr stop)) (
              inr (
              let stops = rw stop at ran.err in
              record {
                unread = rw stop at ran.reads;
                failed = rw stop at ran.writes;
                left = rw stop at ran.ready;
                puts = slipping_prefix command.chain rows begun p q is plan.frames c.requires.opened.sends.frames_are stops.1;
              }
              )
              )
        ]
      ]
    ]

pub returns-in-Err-clause-heard : goal.returns-in-Err-clause-heard
returns-in-Err-clause-heard g c = λ begun is.
    let command = c.args.self.now in
    let plan = c.args.plan.now in
    let rows = plan.clock.rows in
    let p = over (g.S.Shelf.state c.args.port.shelf) c.args.port.blocks in
    let q = over (g.S.Shelf.state c.mux_slips.new.port.shelf) c.mux_slips.new.port.blocks in
    let old = log_state (g.K.Sink.state c.args.log.now.out) c.args.log.now.told in
    let new = log_state (g.K.Sink.state c.mux_slips.new.log.out) c.mux_slips.new.log.told in
    let ran = c.in-Err.ensures in
    let all = slips_all command.chain rows begun p q is plan.frames c.requires.opened.sends.frames_are in
    let front = ran.told.front in
    elim (slipping_kinds c.in-Err.stop (λ over place stop. let stops = rw stop at ran.err in slipping_goes_on stops.0)
    (λ node stop. let stops = rw stop at ran.err in has_frames command.chain rows plan.frames _ _ c.requires.opened.sends stops.0)
    (λ leaf stop. let stops = rw stop at ran.err in has_bits command.chain rows plan.frames _ _ _ c.requires.opened.sends stops.0)) [
      | inl stop ↦ rw (c.outcome_of.ensures.memory stop) (ap (λ log. log_state (g.K.Sink.state log.out) log.told) (ran.untold (ap Err stop)))
      | inr other ↦ elim other [
        | inl stop ↦ rw (c.outcome_of.ensures.log stop) (breaks_at command.chain rows begun p q is old new front.told front.rest (front.front ∙ all) (let told = rw stop at front.logs_them in told.broken))
        | inr failed ↦ elim failed [
          | inl stop ↦ rw (c.outcome_of.ensures.failed (inl stop)) (heard_front command.chain rows begun p q is old new front.told front.rest (front.front ∙ all) (rw stop at front.logs_them))
          | inr stop ↦ rw (c.outcome_of.ensures.failed (inr stop)) (heard_front command.chain rows begun p q is old new front.told front.rest (front.front ∙ all) (rw stop at front.logs_them))
        ]
      ]
    ]
