use Rattle.std.proofs.Common.{◌≡◌, ap, sym, ◌∙◌}
use Rattle.pdh_shape.specs.declared.role.Duty.TheVariants.{PathParity}
use Rattle.pdh_events.specs.Duties.{duty_bits, most_are_ones, slots_with}
use Rattle.pdh_events.proofs.DutyLaws.{slots_inside, bits_are, bits_long, path_some, path_none}
use Rattle.pdh_events.proofs.teller.FrameTeller.breaks_path_parity.Goals as goal

pub most_are_ones-requires : goal.most_are_ones-requires
most_are_ones-requires g c = slots_inside g.S.Shape.shape PathParity _ _ (c.deref.ensures.value ∙ c.self.invariant.path_parity_are) (g.met.S.Shape.len_is ∙ sym c.requires)

pub returns-then-not-is_empty : goal.returns-then-not-is_empty
returns-then-not-is_empty g c =
    let s = g.S.Shape.shape in
    let is : c.deref.result.now ≡ slots_with s PathParity = c.deref.ensures.value ∙ c.self.invariant.path_parity_are in
    let are = bits_are s PathParity c.deref.result.now c.args.frame.now.bits is in
    let long = bits_long s PathParity c.deref.result.now c.args.frame.now.bits is ∙ c.deref.ensures.len in
    path_some (duty_bits s PathParity c.args.frame.now.bits) _ c.is_empty.result c.most_are_ones.result c.args.odd c.is_empty.ensures c.if-not-is_empty.true long (c.most_are_ones.ensures ∙ ap most_are_ones are)

pub returns-else-not-is_empty : goal.returns-else-not-is_empty
returns-else-not-is_empty g c =
    let s = g.S.Shape.shape in
    let long = bits_long s PathParity c.self.inside.path_parity_slots.items c.args.frame.now.bits c.self.invariant.path_parity_are ∙ sym c.self.inside.path_parity_slots.ok.0 in
    path_none (duty_bits s PathParity c.args.frame.now.bits) _ c.is_empty.result c.args.odd c.is_empty.ensures c.if-not-is_empty.false long
