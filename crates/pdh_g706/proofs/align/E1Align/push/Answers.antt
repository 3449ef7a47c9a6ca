-- A turn of the machine tracks the line, and its events come after those of AIS.
use Rattle.pdh_g706.proofs.AlignSteps.{on_ok, on_err, stands_push, gains_push, gains_part, seen_push, seen_part}
use Rattle.pdh_g706.proofs.align.E1Align.push.Goals as goal

pub returns-clause-stands : goal.returns-clause-stands
returns-clause-stands g c =
    on_ok c.turn-result.result _ _ (λ b line h. stands_push c.args.self.now c.turn-result.new.self c.note.new.self _ c.args.bit line b c.saturating_add-self.ensures c.note.ensures.long (c.note.ensures.counts line) h) c.turn-result.ensures.becomes

pub returns-clause-put : goal.returns-clause-put
returns-clause-put g c =
    on_ok c.turn-result.result _ _ (λ p line h. gains_push c.args.self.now c.args.bit line (g.D.Drain.outputs c.args.drain.now) (g.D.Drain.outputs c.turn-result.new.drain) p h) c.turn-result.ensures.put

pub returns-clause-put_err : goal.returns-clause-put_err
returns-clause-put_err g c =
    on_err c.turn-result.result _ _ (λ p line h. gains_part c.args.self.now c.args.bit line (g.D.Drain.outputs c.args.drain.now) (g.D.Drain.outputs c.turn-result.new.drain) p h) c.turn-result.ensures.part

pub returns-clause-seen : goal.returns-clause-seen
returns-clause-seen g c =
    on_ok c.turn-result.result _ _ (λ t line h. seen_push g.W.Watch.saw g.met.W.Watch.saw_join c.args.self.now c.args.bit line c.args.watch.now c.note.new.watch c.turn-result.new.watch (c.note.ensures.seen line) t h) c.turn-result.ensures.seen

pub returns-clause-seen_err : goal.returns-clause-seen_err
returns-clause-seen_err g c =
    on_err c.turn-result.result _ _ (λ t line h. seen_part g.W.Watch.saw g.met.W.Watch.saw_join c.args.self.now c.args.bit line c.args.watch.now c.note.new.watch c.turn-result.new.watch (c.note.ensures.seen line) t h) c.turn-result.ensures.unseen
