use Rattle.std.proofs.Common.{List, sym, subst, ◌∙◌, ap}
use Rattle.pdh_script.specs.Scripts.{Row}
use Rattle.pdh_script.specs.Bending.{Bending, PutsBits, added_at}
use Rattle.pdh_script.specs.RowsLeft.{Remain}
use Rattle.pdh_script.proofs.RowsLeft.{left_adds}
use Rattle.pdh_script.proofs.bender.Bender.finish.Goals as goal

pub put_added-requires : goal.put_added-requires
put_added-requires g c = record {
  left = subst (λ (l : List Row). Remain c.self.inside.place l) (sym c.same-rest.ensures) c.self.invariant.remain;
  out = c.requires;
}

pub returns : goal.returns
returns g c =
    let rows = c.self.inside.script.now in
    let place = c.self.inside.place in
    let adds = ap (added_at place) c.same-rest.ensures ∙ left_adds c.self.inside.left rows place c.self.invariant ∙ ap (λ (b : Bending). added_at b.place b.rows) c.self.view_is in
    subst (λ bits. PutsBits g.D.Drain bits c.args.drain.now c.put_added.new.drain c.put_added.result) adds c.put_added.ensures.put
