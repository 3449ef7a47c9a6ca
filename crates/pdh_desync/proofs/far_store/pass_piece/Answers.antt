use Rattle.std.proofs.Common.{◌≡◌, ◌+◌, ◌-◌, ◌<◌, ◌++◌, take, drop, sym, ap, ◌∙◌, cond, arith}
use Rattle.pdh_bits.specs.BitOut.{BoundedBits}
use Rattle.pdh_shape.specs.Frame.{FrameShape}
use Rattle.pdh_desync.specs.laws.FarBounds.{IsEven}
use Rattle.pdh_desync.proofs.FarSteps.{passed, piece_bounds}
use Rattle.pdh_desync.proofs.far_store.pass_piece.Goals as goal

pub pass-requires-clause-enough : goal.pass-requires-clause-enough
pass-requires-clause-enough g c =
    let s : FrameShape = g.S.Shape.shape in
    let laws = g.met.S.Shape in
    let even : IsEven s = record { frame = laws.is_frame; has = laws.has_tributaries; even = laws.reads_evenly } in
    let known : c.args.trib < s.tribs = omega (arith, c.requires.known, laws.tribs_is) in
    let h = c.requires.holds in
    omega (arith, (piece_bounds s c.args.trib h.pieces h.got h.piece c.args.bits.now.bits c.args.store.now even known h.holds h.brought).0, laws.low_is, c.LOW.ensures)

pub pass-requires-clause-few : goal.pass-requires-clause-few
pass-requires-clause-few g c =
    let s : FrameShape = g.S.Shape.shape in
    let laws = g.met.S.Shape in
    let even : IsEven s = record { frame = laws.is_frame; has = laws.has_tributaries; even = laws.reads_evenly } in
    let known : c.args.trib < s.tribs = omega (arith, c.requires.known, laws.tribs_is) in
    let h = c.requires.holds in
    omega (arith, (piece_bounds s c.args.trib h.pieces h.got h.piece c.args.bits.now.bits c.args.store.now even known h.holds h.brought).1, laws.low_is, c.LOW.ensures)

pub pass-requires-clause-room : goal.pass-requires-clause-room
pass-requires-clause-room g c =
    let s : FrameShape = g.S.Shape.shape in
    let laws = g.met.S.Shape in
    let even : IsEven s = record { frame = laws.is_frame; has = laws.has_tributaries; even = laws.reads_evenly } in
    let known : c.args.trib < s.tribs = omega (arith, c.requires.known, laws.tribs_is) in
    let h = c.requires.holds in
    (piece_bounds s c.args.trib h.pieces h.got h.piece c.args.bits.now.bits c.args.store.now even known h.holds h.brought).2

pub returns-clause-passes : goal.returns-clause-passes
returns-clause-passes g c = λ pieces got piece holds brought.
    let s : FrameShape = g.S.Shape.shape in
    let laws = g.met.S.Shape in
    let even : IsEven s = record { frame = laws.is_frame; has = laws.has_tributaries; even = laws.reads_evenly } in
    let known : c.args.trib < s.tribs = omega (arith, c.requires.known, laws.tribs_is) in
    let low : c.LOW.result ≡ s.low = c.LOW.ensures ∙ sym laws.low_is in
    let reads : c.LOW.result + cond c.pass.result 1 0 ≡ s.low + cond c.pass.result 1 0 = ap (λ n. n + cond c.pass.result 1 0) low in
    passed s c.args.trib pieces got piece c.args.bits.now.bits c.args.store.now c.pass.new.self c.pass.new.out.bits c.pass.result even known holds brought c.pass.ensures.more
    (c.pass.ensures.held ∙ ap (λ n. drop n (c.args.store.now.bits ++ c.args.bits.now.bits)) reads)
    (c.pass.ensures.ones ∙ ap (λ n. c.args.store.now.ones - n) reads)
    c.pass.ensures.room
    (ap (λ (p : BoundedBits). p.bits) c.pass.ensures.out ∙ ap (λ n. drop c.args.store.now.ones (take n (c.args.store.now.bits ++ c.args.bits.now.bits))) reads)
