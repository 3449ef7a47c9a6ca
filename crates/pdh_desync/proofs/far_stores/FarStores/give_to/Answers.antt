use Rattle.std.proofs.Common.{◌≡◌, ◌<◌, ◌+◌, length, sym, ap, ◌∙◌, arith, slice_get}
use Rattle.std.proofs.lemmas.List.{length-set}
use Rattle.std.proofs.lemmas.Result.{on_ok_weaker, on_err_weaker}
use Rattle.pdh_rx.proofs.Gains.{on_err_from}
use Rattle.pdh_desync.specs.States.{Stores}
use Rattle.pdh_desync.specs.FarNode.{bits_of}
use Rattle.pdh_desync.proofs.FarGiving.{far_bits_long, store_at, first_leaf, mark_leaf, one_given, one_begun, one_part}
use Rattle.pdh_desync.proofs.far_stores.FarStores.give_to.Goals as goal

pub pass_piece-mark-requires-clause-holds : goal.pass_piece-mark-requires-clause-holds
pass_piece-mark-requires-clause-holds g c =
    let s = g.S.Shape.shape in
    let t = c.args.trib in
    let known : t < s.tribs = omega (arith, c.requires.known, g.met.S.Shape.tribs_is) in
    let at = store_at s c.self.inside.list.items _ _ g.S.Shape.TRIBS t c.index_mut-store.result.now c.self.invariant g.met.S.Shape.tribs_is c.requires.known c.index_mut-store.ensures.value in
    let ready = c.requires.ready in
    record {
      pieces = ready.pieces t;
      got = bits_of s t (ready.pieces t);
      holds = ready.each t c.index_mut-store.result.now known (ap (λ (v : Stores). slice_get v.held t) (sym c.self.view_is) ∙ at);
      piece = c.requires.piece.0;
      brought = ap length c.requires.piece.1 ∙ far_bits_long s t c.requires.piece.0 g.met.S.Shape.is_frame;
    }

pub pass_piece-mark-requires-clause-out : goal.pass_piece-mark-requires-clause-out
pass_piece-mark-requires-clause-out g c = omega (arith, c.self.invariant.room_is, g.met.S.Shape.low_is)

pub put_all-requires : goal.put_all-requires
put_all-requires g c =
    let s = g.S.Shape.shape in
    let t = c.args.trib in
    let known : t < s.tribs = omega (arith, c.requires.known, g.met.S.Shape.tribs_is) in
    c.requires.ready.lists (c.self.inside.leaves.first + t) (first_leaf s c.self.inside.leaves c.args.self.now.leaves t known (ap (λ (v : Stores). v.leaves) c.self.view_is))

pub returns-in_err-put_all-clause-part : goal.returns-in_err-put_all-clause-part
returns-in_err-put_all-clause-part g c =
    let s = g.S.Shape.shape in
    let t = c.args.trib in
    let known : t < s.tribs = omega (arith, c.requires.known, g.met.S.Shape.tribs_is) in
    let at = store_at s c.self.inside.list.items _ _ g.S.Shape.TRIBS t c.index_mut-store.result.now c.self.invariant g.met.S.Shape.tribs_is c.requires.known c.index_mut-store.ensures.value in
    rw (← c.self.view_is) (on_err_from _ c.from_residual.result (λ piece is.
    one_begun s g.met.S.Shape.is_frame c.self.inside.list.items c.self.inside.leaves c.self.invariant.leaves_are t known _ _ at c.args.bits.now.bits _ _ c.pass_piece-mark.ensures.passes piece is _ _ c.in_err-put_all.ensures.err))

pub put-requires : goal.put-requires
put-requires g c =
    let s = g.S.Shape.shape in
    let t = c.args.trib in
    let known : t < s.tribs = omega (arith, c.requires.known, g.met.S.Shape.tribs_is) in
    let at : c.self.inside.leaves ≡ c.args.self.now.leaves = ap (λ (v : Stores). v.leaves) c.self.view_is in
    ap (λ h. h (c.self.inside.leaves.marks + t)) (g.met.D.Drain.drained_holds c.args.drain.now c.put_all.new.self c.in_ok-put_all.ensures.drained)
    ∙ c.requires.ready.lists (c.self.inside.leaves.marks + t) (mark_leaf s c.self.inside.leaves c.args.self.now.leaves t known at)

pub returns-clause-given : goal.returns-clause-given
returns-clause-given g c =
    let s = g.S.Shape.shape in
    let t = c.args.trib in
    let known : t < s.tribs = omega (arith, c.requires.known, g.met.S.Shape.tribs_is) in
    let at = store_at s c.self.inside.list.items _ _ g.S.Shape.TRIBS t c.index_mut-store.result.now c.self.invariant g.met.S.Shape.tribs_is c.requires.known c.index_mut-store.ensures.value in
    rw (← c.self.view_is) (on_ok_weaker c.put.result (λ p piece is.
    one_given s g.met.S.Shape.is_frame c.self.inside.list.items c.self.inside.leaves c.self.invariant.leaves_are t known _ _ at c.args.bits.now.bits _ _ c.pass_piece-mark.ensures.passes piece is (g.D.Drain.outputs c.args.drain.now) (g.D.Drain.outputs c.put_all.new.self) (g.D.Drain.outputs c.put.new.self) c.in_ok-put_all.ensures.ok p) c.put.ensures.ok)

pub returns-clause-part : goal.returns-clause-part
returns-clause-part g c =
    let s = g.S.Shape.shape in
    let t = c.args.trib in
    let known : t < s.tribs = omega (arith, c.requires.known, g.met.S.Shape.tribs_is) in
    let at = store_at s c.self.inside.list.items _ _ g.S.Shape.TRIBS t c.index_mut-store.result.now c.self.invariant g.met.S.Shape.tribs_is c.requires.known c.index_mut-store.ensures.value in
    rw (← c.self.view_is) (on_err_weaker c.put.result (λ p piece is.
    one_part s g.met.S.Shape.is_frame c.self.inside.list.items c.self.inside.leaves c.self.invariant.leaves_are t known _ _ at c.args.bits.now.bits _ _ c.pass_piece-mark.ensures.passes piece is (g.D.Drain.outputs c.args.drain.now) (g.D.Drain.outputs c.put_all.new.self) (g.D.Drain.outputs c.put.new.self) c.in_ok-put_all.ensures.ok p) c.put.ensures.err)

pub returns-in_err-put_all-clause-same : goal.returns-in_err-put_all-clause-same
returns-in_err-put_all-clause-same g c = ap (λ (v : Stores). v.leaves) c.self.view_is

pub returns-clause-same : goal.returns-clause-same
returns-clause-same g c = ap (λ (v : Stores). v.leaves) c.self.view_is

pub returns-clause-drained : goal.returns-clause-drained
returns-clause-drained g c = g.met.D.Drain.drained_join _ _ _ c.in_ok-put_all.ensures.drained c.put.ensures.drained

pub invariant_of-self : goal.invariant_of-self
invariant_of-self g c = record {
  count = length-set _ _ _ ∙ c.self.invariant.count;
  leaves_are = c.self.invariant.leaves_are;
  room_is = omega (arith, c.self.invariant.room_is, c.pass_piece-mark.ensures.out);
}

pub invariant_of-self-2 : goal.invariant_of-self-2
invariant_of-self-2 g c = record {
  count = length-set _ _ _ ∙ c.self.invariant.count;
  leaves_are = c.self.invariant.leaves_are;
  room_is = omega (arith, c.self.invariant.room_is, c.pass_piece-mark.ensures.out);
}
