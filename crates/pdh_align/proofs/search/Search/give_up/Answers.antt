use Rattle.std.proofs.Common.{◌+◌, ◌-◌, sym, subst, arith}
use Rattle.pdh_align.specs.Searching.{Searches}
use Rattle.pdh_align.proofs.SearchLaws.{gives_up}
use Rattle.pdh_align.proofs.search.Search.give_up.Goals as goal

pub returns-then-oldest-slots : goal.returns-then-oldest-slots
returns-then-oldest-slots g c held since few h =
    let now = c.self.inside.oldest + c.args.count - c.LEN-slots.result in
    gives_up g.S.Shape.shape c.self.inside.phases c.self.inside.oldest now c.args.count 1 g.met.S.Shape.is_frame.some_slots
    (omega (arith, c.self.invariant.0, c.requires, c.LEN-slots.ensures, c.if-oldest-slots.true, g.met.S.Shape.len_is))
    (omega (arith, c.LEN-slots.ensures, c.if-oldest-slots.true, g.met.S.Shape.len_is))
    held since few (subst (λ x. Searches g.S.Shape.shape x held since) (sym c.self.view_is) h)

pub returns : goal.returns
returns g c held since few h =
    gives_up g.S.Shape.shape c.self.inside.phases c.self.inside.oldest (c.self.inside.oldest + c.args.count) c.args.count 0 g.met.S.Shape.is_frame.some_slots
    (omega (arith, c.LEN-slots.ensures, c.if-oldest-slots.false, g.met.S.Shape.len_is)) (omega arith) held since few (subst (λ x. Searches g.S.Shape.shape x held since) (sym c.self.view_is) h)
