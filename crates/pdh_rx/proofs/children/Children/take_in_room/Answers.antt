use Rattle.std.proofs.Common.{length, sym, subst, map}
use Rattle.pdh_rx.specs.Node.{child_notes, ChildFits}
use Rattle.pdh_rx.proofs.OneChild.{child_of, child_ready, child_same, still_children, child_notes_at, each_with_bits, gains_of_one, fits_other}
use Rattle.pdh_rx.proofs.Ahead.{quiet_alike}
use Rattle.pdh_rx.proofs.children.Children.take_in_room.Goals as goal

pub take_in_room-requires : goal.take_in_room-requires
take_in_room-requires g c =
    let child = child_of g.C.Rx.meaning c.self.inside.list.items g.S.Shape.TRIBS c.args.trib c.index_mut-child.result.now c.self.invariant c.requires.known c.index_mut-child.ensures.value in
    let ready = child_ready g.C.Rx.stands g.C.Rx.meaning c.self.inside.list.items c.args.self.now c.args.trib c.index_mut-child.result.now (g.D.Drain.outputs c.args.drain.now) child c.self.view_is c.requires.ready in
    let fits = subst (λ cs. ChildFits g.C.Rx.fits cs c.args.trib (g.D.Drain.room c.args.drain.now) (length c.args.bits.now.bits)) (sym c.self.view_is) c.requires.fits in
    record { stands = ready.0; lists = ready.1; fits = fits _ child.here }

pub returns-clause-given : goal.returns-clause-given
returns-clause-given g c =
    let child = child_of g.C.Rx.meaning c.self.inside.list.items g.S.Shape.TRIBS c.args.trib c.index_mut-child.result.now c.self.invariant c.requires.known c.index_mut-child.ensures.value in
    let t = c.args.trib in
    let bits = c.args.bits.now.bits in
    let taken = c.take_in_room.ensures.taken in
    rw (← c.self.view_is) (record {
      each = λ lines each. each_with_bits g.C.Rx.stands _ lines t bits c.take_in_room.new.self each (taken.stands (lines t) (each t _ child.here));
      gains = λ lines each. gains_of_one _ lines t bits (g.C.Rx.meaning c.index_mut-child.result.now) child.known c.self.invariant.disjoint (g.met.C.Rx.sound c.index_mut-child.result.now) _ _ (taken.gains (lines t) (each t _ child.here));
    })

pub returns-clause-quiet : goal.returns-clause-quiet
returns-clause-quiet g c =
    let child = child_of g.C.Rx.meaning c.self.inside.list.items g.S.Shape.TRIBS c.args.trib c.index_mut-child.result.now c.self.invariant c.requires.known c.index_mut-child.ensures.value in
    let t = c.args.trib in
    let m = g.C.Rx.meaning c.index_mut-child.result.now in
    rw (← c.self.view_is) (λ lines each.
    quiet_alike m.notes (child_notes (map g.C.Rx.meaning c.self.inside.list.items) t) (λ line bit. child_notes_at (map g.C.Rx.meaning c.self.inside.list.items) t m line bit child.known) (lines t) c.args.bits.now.bits (c.take_in_room.ensures.quiet (lines t) (each t _ child.here)))

pub returns-clause-others : goal.returns-clause-others
returns-clause-others g c =
    let child = child_of g.C.Rx.meaning c.self.inside.list.items g.S.Shape.TRIBS c.args.trib c.index_mut-child.result.now c.self.invariant c.requires.known c.index_mut-child.ensures.value in
    rw (← c.self.view_is) (λ j n ne.
    fits_other g.C.Rx.meaning g.C.Rx.fits g.met.C.Rx.fits_by c.self.inside.list.items c.args.trib j n c.index_mut-child.result.now c.take_in_room.new.self _ _ child.here c.self.invariant.disjoint ne c.take_in_room.ensures.others)

pub returns-clause-same : goal.returns-clause-same
returns-clause-same g c =
    rw (← c.self.view_is) (child_same g.C.Rx.meaning c.self.inside.list.items c.args.trib c.index_mut-child.result.now c.take_in_room.new.self c.take_in_room.ensures.same c.index_mut-child.ensures.value)

pub invariant_of-self : goal.invariant_of-self
invariant_of-self g c = still_children g.C.Rx.meaning c.self.inside.list.items g.S.Shape.TRIBS c.args.trib c.index_mut-child.result.now c.take_in_room.new.self c.take_in_room.ensures.same c.index_mut-child.ensures.value c.self.invariant
