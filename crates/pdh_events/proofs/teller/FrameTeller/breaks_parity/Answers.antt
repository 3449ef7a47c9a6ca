use Rattle.std.proofs.Common.{ap, sym, ◌∙◌, not}
use Rattle.std.specs.Bool.{beq}
use Rattle.std.specs.List.{list_any}
use Rattle.pdh_shape.specs.declared.role.Duty.TheVariants.{Parity}
use Rattle.pdh_events.proofs.DutyLaws.{slots_inside, bits_are}
use Rattle.pdh_events.proofs.teller.FrameTeller.breaks_parity.Goals as goal

pub any_differs-requires : goal.any_differs-requires
any_differs-requires g c = slots_inside g.S.Shape.shape Parity _ _ (c.deref.ensures.value ∙ c.self.invariant.parity_are) (g.met.S.Shape.len_is ∙ sym c.requires)

pub returns : goal.returns
returns g c = c.any_differs.ensures ∙ ap (list_any (λ at. not (beq at c.args.odd))) (bits_are g.S.Shape.shape Parity _ c.args.frame.now.bits (c.deref.ensures.value ∙ c.self.invariant.parity_are))
