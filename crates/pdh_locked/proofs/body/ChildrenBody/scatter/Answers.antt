use Rattle.std.proofs.Common.{◌+◌, ◌*◌, refl, subst, arith}
use Rattle.pdh_tx.specs.Node.{below}
use Rattle.pdh_tx.proofs.Lists.{get_at}
use Rattle.pdh_tx.proofs.Moving.{inside}
use Rattle.pdh_locked.specs.laws.LockedLaws.{locked_is}
use Rattle.pdh_locked.proofs.body.ChildrenBody.scatter.Goals as goal

pub returns-clause-placed : goal.returns-clause-placed
returns-clause-placed g c path plan n t within was =
    let old = c.args.self.now in
    record {
      made = λ j child here.
          let queue = get_at old.queues.items j (omega (arith, inside old.list.items j child here, old.count, old.queue_count)) in
          let is = was.made j child queue.0 here queue.1 in
          record { runs = is.runs; idles = is.idles; place = subst (λ k. g.C.Tx.stands_at child plan k) (locked_is g.S.Shape.shape n t (n * g.S.Shape.shape.len + t) refl within old.locked (plan.counts path j) j) is.place };
      scheduled = was.scheduled;
      bounded = λ inside. omega (arith, was.scheduled inside, was.bounded);
    }

pub returns-clause-held : goal.returns-clause-held
returns-clause-held g c path plan supply n t within was held j child here =
    let old = c.args.self.now in
    let queue = get_at old.queues.items j (omega (arith, inside old.list.items j child here, old.count, old.queue_count)) in
    let is = held j child queue.0 here queue.1 in
    record { quiet = is.quiet; made_for = subst (λ k. g.C.Tx.stands_for child (below supply) k) (locked_is g.S.Shape.shape n t (n * g.S.Shape.shape.len + t) refl within old.locked (plan.counts path j) j) is.made_for }
