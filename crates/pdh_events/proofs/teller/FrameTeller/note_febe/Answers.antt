use Rattle.std.proofs.Common.{◌≡◌, Bool, not, cond, [], ◌∷◌, ap, sym, subst, ◌∙◌}
use Rattle.std.specs.List.{list_any}
use Rattle.pdh_shape.specs.declared.role.Duty.TheVariants.{Febe}
use Rattle.pdh_watch.specs.declared.kind.TheConstants.Kind.{FEBE}
use Rattle.pdh_events.specs.Telling.{tell}
use Rattle.pdh_events.specs.Duties.{duty_bits}
use Rattle.pdh_events.specs.Keeping.{bits_at}
use Rattle.pdh_events.proofs.DutyLaws.{slots_inside, bits_are, other_than_one}
use Rattle.pdh_events.proofs.teller.FrameTeller.note_febe.Goals as goal

pub any_differs-febe-requires : goal.any_differs-febe-requires
any_differs-febe-requires g c = slots_inside g.S.Shape.shape Febe _ _ (c.deref.ensures.value ∙ c.self.invariant.febe_are) (g.met.S.Shape.len_is ∙ sym c.requires)

pub returns : goal.returns
returns g c =
    let P : Bool → Type 0 = λ febe. g.W.Watch.saw c.args.watch.now (tell c.args.path c.args.bit (cond febe (FEBE ∷ []) [])) c.note_if.new.watch in
    let is : c.any_differs-febe.result ≡ list_any not (duty_bits g.S.Shape.shape Febe c.args.frame.now.bits) =
    c.any_differs-febe.ensures ∙ other_than_one (bits_at c.deref.result.now c.args.frame.now.bits) ∙ ap (list_any not) (bits_are g.S.Shape.shape Febe _ c.args.frame.now.bits (c.deref.ensures.value ∙ c.self.invariant.febe_are)) in
    subst P is c.note_if.ensures
