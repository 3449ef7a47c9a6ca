use Rattle.std.proofs.Common.{◌≡◌, ◌+◌, ℕ, subst, sym, ap, ◌∙◌, arith, Some, slice_get}
use Rattle.pdh_shape.specs.Frame.{FrameShape}
use Rattle.pdh_tx.specs.Held.{gone_with, put_with}
use Rattle.pdh_tx.specs.Meaning.{plan_in, Plan}
use Rattle.pdh_tx.specs.Slipping.{read_to}
use Rattle.pdh_tx.specs.Node.{came_at}
use Rattle.pdh_tx.specs.Tributaries.{meanings}
use Rattle.pdh_tx.proofs.BatchSlots.{begins_scheduled}
use Rattle.pdh_tx.proofs.Lists.{get_at}
use Rattle.pdh_tx.proofs.Moving.{inside}
use Rattle.pdh_tx.proofs.Readouts.{more-by}
use Rattle.pdh_tx.proofs.tributaries.Tributaries.begin_gathered.Goals as goal

pub decide_gathered-requires-clause-scheduled : goal.decide_gathered-requires-clause-scheduled
decide_gathered-requires-clause-scheduled g c =
    let s : FrameShape = g.S.Shape.shape in
    let at = c.args.at in
    let was = c.requires.placed.1 in
    let start : at.slot ≡ 0 = omega (arith, c.if-at-gt0.false) in
    begins_scheduled s g.met.S.Shape.is_frame at.path (plan_in c.args.clock.now g.G.SlipLog.takes) (meanings c.args.self.now) was.size at.frame at.slot c.requires.placed.0 was.slots at.frame
    (record { inside = g.met.S.Shape.is_frame.some_slots; from = omega (arith, start); to = omega (arith, start, c.requires.placed.2, c.requires.piece.some) })

pub returns-then-at-gt0-clause-decided : goal.returns-then-at-gt0-clause-decided
returns-then-at-gt0-clause-decided g c = c.requires.placed.1.decided (omega (arith, c.if-at-gt0.true))

pub returns-clause-decided : goal.returns-clause-decided
returns-clause-decided g c j w e =
    let s : FrameShape = g.S.Shape.shape in
    let at = c.args.at in
    let old = c.args.self.now in
    let new = c.decide_gathered.new.self in
    let plan : Plan = plan_in c.args.clock.now g.G.SlipLog.takes in
    let was = c.requires.placed.1 in
    let start : at.slot ≡ 0 = omega (arith, c.if-at-gt0.false) in
    let known = inside new.list.items j w e in
    let queue = get_at new.queues.items j (omega (arith, known, new.count, new.queue_count)) in
    let one = get_at old.list.items j (omega (arith, known, new.count, old.count)) in
    let there : slice_get old.queues.items j ≡ Some queue.0 = ap (λ queues. slice_get queues.items j) (sym c.decide_gathered.ensures.queues) ∙ queue.1 in
    let is = was.made j one.0 queue.0 one.1 there in
    let share = c.decide_gathered.ensures.decided j w queue.0 e queue.1 in
    let P : ℕ → Type 0 = λ t. gone_with (read_to s at.path plan at.frame t j).edits (read_to s at.path plan at.frame t j).read + queue.0.fill ≡ put_with (read_to s at.path plan at.frame t j).edits (came_at s at.path plan at.frame t j) in
    record {
      arriving = ap (λ share. share.arriving) share.0;
      fits = share.1;
      more = ap (λ share. share.more) share.0 ∙ more-by s j (plan.counts at.path j) plan.mode at.frame queue.0.fill g.met.S.Shape.is_frame old.stores (subst P start is.count);
    }
