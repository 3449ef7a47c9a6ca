use Rattle.std.proofs.Common.{List, Ok, Err, sym, subst, arith}
use Rattle.std.proofs.lemmas.Result.{err_from_is_err_and}
use Rattle.pdh_edge.specs.declared.shelf.Failed.{Failed}
use Rattle.pdh_script.specs.Scripts.{Row}
use Rattle.pdh_script.specs.Bending.{Bending, PutsBits, brought}
use Rattle.pdh_script.specs.RowsLeft.{AreLeft, Remain}
use Rattle.pdh_script.proofs.RowsLeft.{left_next}
use Rattle.pdh_script.proofs.BitsPut.{part_put, added_fails, bit_bends}
use Rattle.pdh_script.proofs.bender.Bender.bend.Goals as goal

pub put_added-requires : goal.put_added-requires
put_added-requires g c = record {
  left = subst (λ (l : List Row). Remain c.self.inside.place l) (sym c.same-left.ensures) c.self.invariant.remain;
  out = c.requires.out;
}

pub returns-in_err-put_added-clause-put : goal.returns-in_err-put_added-clause-put
returns-in_err-put_added-clause-put g c =
    let p = err_from_is_err_and c.from_residual.result c.from_residual.ensures.1 in
    let rows = c.self.inside.script.now in
    let place = c.self.inside.place in
    let left = subst (λ (l : List Row). AreLeft l rows place) (sym c.same-left.ensures) c.self.invariant in
    rw p.1
    (subst (λ (b : Bending). PutsBits {T = Unit {0}} {E = Failed} g.D.Drain (brought b.place b.rows c.args.bit) c.args.drain.now c.put_added.new.drain (Err p.0)) c.self.view_is
    (added_fails g.D.Drain c.same-left.result rows place c.args.bit left c.args.drain.now c.put_added.new.drain c.in_err-put_added.ensures.put))

pub returns-in_err-put_altered-clause-put : goal.returns-in_err-put_altered-clause-put
returns-in_err-put_altered-clause-put g c =
    let p = err_from_is_err_and c.from_residual-in_err-put_altered.result c.from_residual-in_err-put_altered.ensures.1 in
    let rows = c.self.inside.script.now in
    let place = c.self.inside.place in
    let left = subst (λ (l : List Row). AreLeft l rows place) (sym c.same-left.ensures) c.self.invariant in
    rw p.1
    (subst (λ (b : Bending). PutsBits {T = Unit {0}} {E = Failed} g.D.Drain (brought b.place b.rows c.args.bit) c.args.drain.now c.put_altered.new.drain (Err p.0)) c.self.view_is
    (part_put g.D.Drain (brought place rows c.args.bit) (brought place rows c.args.bit) c.args.drain.now c.put_altered.new.drain
    (bit_bends g.D.Drain c.same-left.result rows place c.args.bit left c.put_added.new.self _ c.args.drain.now c.put_added.new.drain c.put_altered.new.drain _ (g.met.D.Drain.drained_join _ _ _)
    c.in_ok-put_added.ensures.added (c.effect.ensures _) c.in_ok-put_added.ensures.put c.in_err-put_altered.ensures)))

pub returns-clause-put : goal.returns-clause-put
returns-clause-put g c =
    let rows = c.self.inside.script.now in
    let place = c.self.inside.place in
    let left = subst (λ (l : List Row). AreLeft l rows place) (sym c.same-left.ensures) c.self.invariant in
    subst (λ (b : Bending). PutsBits {T = Unit {0}} {E = Failed} g.D.Drain (brought b.place b.rows c.args.bit) c.args.drain.now c.put_altered.new.drain (Ok tt)) c.self.view_is
    (bit_bends g.D.Drain c.same-left.result rows place c.args.bit left c.put_added.new.self _ c.args.drain.now c.put_added.new.drain c.put_altered.new.drain _ (g.met.D.Drain.drained_join _ _ _)
    c.in_ok-put_added.ensures.added (c.effect.ensures _) c.in_ok-put_added.ensures.put c.in_ok-put_altered.ensures)

pub invariant_of-self : goal.invariant_of-self
invariant_of-self g c =
    let rows = c.self.inside.script.now in
    let place = c.self.inside.place in
    let left = subst (λ (l : List Row). AreLeft l rows place) (sym c.same-left.ensures) c.self.invariant in
    left_next c.same-left.result c.put_added.new.self rows place _ left c.in_ok-put_added.ensures.added (omega arith)
