use Rattle.std.proofs.Common.{◌+◌, false, length, sym, ap, ◌∙◌, arith}
use Rattle.std.specs.List.{slice_index_or}
use Rattle.pdh_align.specs.Aligning.{Held}
use Rattle.pdh_align.proofs.ReadyFrames.{ready_in_ring, ready_in_list, bit_in_ring, same_start}
use Rattle.pdh_align.proofs.aligner.Aligner.frame.Goals as goal

pub get-requires : goal.get-requires
get-requires g c =
    let told = ready_in_list g.S.Shape.LEN c.self.inside.fresh c.self.inside.held.bits c.self.inside.frame.bits c.args.self.now.ready c.args.back (omega (arith, g.met.S.Shape.len_is, g.met.S.Shape.is_frame.some_slots)) c.self.invariant.whole
    (ap (λ (x : Held). x.ready) c.self.view_is) c.requires.ready (omega (arith, c.len.ensures.count, c.if-len-gt0.true)) in
    omega (arith, told.0, c.requires.in_frame)

pub returns-then-len-gt0 : goal.returns-then-len-gt0
returns-then-len-gt0 g c =
    let told = ready_in_list g.S.Shape.LEN c.self.inside.fresh c.self.inside.held.bits c.self.inside.frame.bits c.args.self.now.ready c.args.back (omega (arith, g.met.S.Shape.len_is, g.met.S.Shape.is_frame.some_slots)) c.self.invariant.whole
    (ap (λ (x : Held). x.ready) c.self.view_is) c.requires.ready (omega (arith, c.len.ensures.count, c.if-len-gt0.true)) in
    c.get.ensures ∙ ap (λ x. slice_index_or x c.args.slot false) (sym told.1)

pub overflow_sub-held : goal.overflow_sub-held
overflow_sub-held g c =
    let told = ready_in_ring g.S.Shape.LEN c.self.inside.fresh c.self.inside.held.bits c.self.inside.frame.bits c.args.self.now.ready c.args.back (omega (arith, g.met.S.Shape.len_is, g.met.S.Shape.is_frame.some_slots)) c.self.invariant.whole
    (ap (λ (x : Held). x.ready) c.self.view_is) c.requires.ready (omega (arith, c.len.ensures.count, c.if-len-gt0.false)) in
    rw (c.LEN.ensures, c.from.ensures, c.held.ensures.count) told.0

pub returns : goal.returns
returns g c =
    let len = g.S.Shape.LEN in
    let items = c.self.inside.held.bits in
    c.bit.ensures ∙ ap (λ n. slice_index_or items (n + c.args.slot) false) (same_start c.held.result (length items) c.from.result c.args.back c.LEN.result len c.held.ensures.count c.from.ensures c.LEN.ensures)
    ∙ bit_in_ring len c.self.inside.fresh items c.self.inside.frame.bits c.args.self.now.ready c.args.back c.args.slot (omega (arith, g.met.S.Shape.len_is, g.met.S.Shape.is_frame.some_slots)) c.self.invariant.whole
    (ap (λ (x : Held). x.ready) c.self.view_is) c.requires.ready (omega (arith, c.len.ensures.count, c.if-len-gt0.false)) c.requires.in_frame
