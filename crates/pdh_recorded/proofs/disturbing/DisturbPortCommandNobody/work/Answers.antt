use Rattle.std.proofs.Common.{Ok, refl, sym, subst, inl, inr, arith}
use Rattle.pdh_blocks.specs.State.{over}
use Rattle.pdh_answers.specs.declared.answer.Done.{Done}
use Rattle.pdh_recorded.specs.Disturb.{disturbing}
use Rattle.pdh_runner.specs.Running.{IsDone}
use Rattle.pdh_recorded.proofs.Stopping.{apply_kinds}
use Rattle.pdh_recorded.proofs.DisturbRun.{long, bent_all, bent_comes, bent_front}
use Rattle.pdh_recorded.proofs.disturbing.DisturbPortCommandNobody.work.Goals as goal

pub returns-in-Ok-clause-comes : goal.returns-in-Ok-clause-comes
returns-in-Ok-clause-comes g c = λ begun is.
    let chain = c.args.self.now.chain in
    let plan = c.args.plan.now in
    let p = over (g.S.Shelf.state c.args.port.shelf) c.args.port.blocks in
    let q = over (g.S.Shelf.state c.apply.new.port.shelf) c.apply.new.port.blocks in
    let all = long chain plan.script begun p q is plan.bits c.args.port.port c.requires.opened.line in
    let ran = c.in-Ok.ensures in
    subst (λ (done : Done). IsDone (disturbing chain) begun p q (Ok done)) (sym c.says.ensures)
    (record {
      unread = ran.reads;
      unwritten = ran.writes;
      started = inl ran.ready;
      puts = bent_all chain plan.script begun p q is plan.bits all ran.ok;
      comes = bent_comes chain plan.script begun p q is plan.bits c.bits_of-bent.result c.args.port.port c.requires.opened.line c.bits_of-bent.ensures;
      behind = refl;
    })

pub outcome_of-requires : goal.outcome_of-requires
outcome_of-requires g c is = let stops = rw is at c.in-Err.ensures.err in omega (arith, stops.0, c.requires.opened.line.left)

pub returns-clause-counted : goal.returns-clause-counted
returns-clause-counted g c =
    elim (apply_kinds c.in-Err.stop (λ is. let stops = rw is at c.in-Err.ensures.err in omega (arith, stops.0, c.requires.opened.line.left))) [
      | inl is ↦ rw c.outcome_of.ensures (λ none. (let counted = rw is at c.in-Err.ensures.reads in omega (arith, none, counted)))
      | inr is ↦ rw c.outcome_of.ensures (λ none. (let counted = rw is at c.in-Err.ensures.writes in omega (arith, none, counted)))
    ]

pub returns-clause-comes : goal.returns-clause-comes
returns-clause-comes g c = λ begun is.
    let chain = c.args.self.now.chain in
    let plan = c.args.plan.now in
    let p = over (g.S.Shelf.state c.args.port.shelf) c.args.port.blocks in
    let q = over (g.S.Shelf.state c.apply.new.port.shelf) c.apply.new.port.blocks in
    let all = long chain plan.script begun p q is plan.bits c.args.port.port c.requires.opened.line in
    let ran = c.in-Err.ensures in
    elim (apply_kinds c.in-Err.stop (λ stop. let stops = rw stop at ran.err in omega (arith, stops.0, c.requires.opened.line.left))) [
      | inl stop ↦ rw c.outcome_of.ensures (
          inl (
          let stops = rw stop at ran.err in
          record {
            failed = rw stop at ran.reads;
            unwritten = rw stop at ran.writes;
            started = inl (rw stop at ran.ready);
            puts = bent_front chain plan.script begun p q is plan.bits all stops.1;
          }
          )
          )
      | inr stop ↦ rw c.outcome_of.ensures (
          inr (
          let stops = rw stop at ran.err in
          record {
            unread = rw stop at ran.reads;
            failed = rw stop at ran.writes;
            left = rw stop at ran.ready;
            puts = bent_front chain plan.script begun p q is plan.bits all stops.1;
          }
          )
          )
    ]
