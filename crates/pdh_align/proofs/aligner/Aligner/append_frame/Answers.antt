use Rattle.std.proofs.Common.{◌+◌, ◌-◌, ◌*◌, ◌++◌, length, take, drop, sym, ap, ◌∙◌, arith, length-drop}
use Rattle.std.proofs.lemmas.List.{length-take-le}
use Rattle.pdh_packed.specs.Words.{bounded}
use Rattle.pdh_align.specs.Aligning.{Held}
use Rattle.pdh_align.proofs.ReadyFrames.{ready_in_ring, ready_in_list, same_start}
use Rattle.pdh_align.proofs.aligner.Aligner.append_frame.Goals as goal

pub append_all-requires : goal.append_all-requires
append_all-requires g c =
    let told = ready_in_list g.S.Shape.LEN c.self.inside.fresh c.self.inside.held.bits c.self.inside.frame.bits c.args.self.now.ready c.args.back (omega (arith, g.met.S.Shape.len_is, g.met.S.Shape.is_frame.some_slots)) c.self.invariant.whole
    (ap (λ (x : Held). x.ready) c.self.view_is) c.requires.ready (omega (arith, c.len.ensures.count, c.if-len-gt0.true)) in
    omega (arith, told.0, c.requires.room)

pub returns-then-len-gt0-clause-appended : goal.returns-then-len-gt0-clause-appended
returns-then-len-gt0-clause-appended g c =
    let told = ready_in_list g.S.Shape.LEN c.self.inside.fresh c.self.inside.held.bits c.self.inside.frame.bits c.args.self.now.ready c.args.back (omega (arith, g.met.S.Shape.len_is, g.met.S.Shape.is_frame.some_slots)) c.self.invariant.whole
    (ap (λ (x : Held). x.ready) c.self.view_is) c.requires.ready (omega (arith, c.len.ensures.count, c.if-len-gt0.true)) in
    c.append_all.ensures ∙ ap (λ x. bounded c.args.into.now.capacity (c.args.into.now.bits ++ x)) (sym told.1)

pub returns-then-len-gt0-clause-whole : goal.returns-then-len-gt0-clause-whole
returns-then-len-gt0-clause-whole g c =
    let told = ready_in_list g.S.Shape.LEN c.self.inside.fresh c.self.inside.held.bits c.self.inside.frame.bits c.args.self.now.ready c.args.back (omega (arith, g.met.S.Shape.len_is, g.met.S.Shape.is_frame.some_slots)) c.self.invariant.whole
    (ap (λ (x : Held). x.ready) c.self.view_is) c.requires.ready (omega (arith, c.len.ensures.count, c.if-len-gt0.true)) in
    ap length told.1 ∙ told.0

pub overflow_sub-held : goal.overflow_sub-held
overflow_sub-held g c =
    let told = ready_in_ring g.S.Shape.LEN c.self.inside.fresh c.self.inside.held.bits c.self.inside.frame.bits c.args.self.now.ready c.args.back (omega (arith, g.met.S.Shape.len_is, g.met.S.Shape.is_frame.some_slots)) c.self.invariant.whole
    (ap (λ (x : Held). x.ready) c.self.view_is) c.requires.ready (omega (arith, c.len.ensures.count, c.if-len-gt0.false)) in
    rw (c.LEN.ensures, c.from.ensures, c.held.ensures.count) told.0

pub returns-clause-appended : goal.returns-clause-appended
returns-clause-appended g c =
    let len = g.S.Shape.LEN in
    let items = c.self.inside.held.bits in
    let told = ready_in_ring g.S.Shape.LEN c.self.inside.fresh c.self.inside.held.bits c.self.inside.frame.bits c.args.self.now.ready c.args.back (omega (arith, g.met.S.Shape.len_is, g.met.S.Shape.is_frame.some_slots)) c.self.invariant.whole
    (ap (λ (x : Held). x.ready) c.self.view_is) c.requires.ready (omega (arith, c.len.ensures.count, c.if-len-gt0.false)) in
    let start = same_start c.held.result (length items) c.from.result c.args.back c.LEN.result len c.held.ensures.count c.from.ensures c.LEN.ensures in
    let frame = ap (λ n. take n (drop (c.held.result - (c.from.result + 1) * c.LEN.result) items)) c.LEN-2.ensures ∙ ap (λ n. take len (drop n items)) start ∙ sym told.1 in
    c.append_to.ensures ∙ ap (λ x. bounded c.args.into.now.capacity (c.args.into.now.bits ++ x)) frame

pub returns-clause-whole : goal.returns-clause-whole
returns-clause-whole g c =
    let told = ready_in_ring g.S.Shape.LEN c.self.inside.fresh c.self.inside.held.bits c.self.inside.frame.bits c.args.self.now.ready c.args.back (omega (arith, g.met.S.Shape.len_is, g.met.S.Shape.is_frame.some_slots)) c.self.invariant.whole
    (ap (λ (x : Held). x.ready) c.self.view_is) c.requires.ready (omega (arith, c.len.ensures.count, c.if-len-gt0.false)) in
    let start = length c.self.inside.held.bits - (c.args.back + 1) * g.S.Shape.LEN in
    ap length told.1 ∙ length-take-le g.S.Shape.LEN (drop start c.self.inside.held.bits) (omega (arith, told.0, length-drop start c.self.inside.held.bits))
