use Rattle.std.proofs.Common.{◌≡◌, ◌+◌, [], ◌∷◌, refl, ◌∙◌, arith}
use Rattle.std.proofs.lemmas.Result.{err_from_is_err_and}
use Rattle.pdh_edge.proofs.Runs.{cause_since}
use Rattle.pdh_rx.proofs.Gains.{on_err_from}
use Rattle.pdh_rx.proofs.Standing.{read_same}
use Rattle.pdh_desync.specs.FarNode.{far_bits, piece_of, for_trib, first_pieces}
use Rattle.pdh_desync.proofs.FarGiving.{piece_loaded, far_ready, far_gives_nothing, far_gives_join, far_gives_part, far_gives_same, first_pieces_none, first_pieces_push, first_pieces_begin, first_pieces_all}
use Rattle.pdh_desync.proofs.far_stores.FarStores.give_piece.Goals as goal

pub loop-trib-init : goal.loop-trib-init
loop-trib-init g c =
    let ps = piece_of c.args.strip.now.gap c.args.strip.now.frame ∷ [] in
    record {
      frame = refl;
      gap = refl;
      given = far_gives_nothing g.S.Shape.shape _ _ (first_pieces ps 0) (first_pieces_none ps);
      unfailed = refl;
      drained = g.met.D.Drain.drained_same _;
    }

pub give_to-requires-clause-ready : goal.give_to-requires-clause-ready
give_to-requires-clause-ready g c =
    let inv = c.loop-trib.invariant in
    far_ready g.S.Shape.shape _ _ _ _ _ (g.met.D.Drain.drained_holds c.args.drain.now c.loop-trib.drain inv.drained) c.requires.ready inv.given

pub give_to-requires-clause-piece : goal.give_to-requires-clause-piece
give_to-requires-clause-piece g c =
    let s = g.S.Shape.shape in
    let gap = c.args.strip.now.gap in
    let frame = c.args.strip.now.frame in
    let inv = c.loop-trib.invariant in
    let read : c.bits.result.now.bits ≡ far_bits s c.loop-trib.trib (piece_of gap frame) =
    c.bits.ensures ∙ read_same s gap c.loop-trib.strip.gap frame c.loop-trib.strip.frame c.loop-trib.trib _ inv.gap inv.frame c.read.ensures.bits ∙ piece_loaded s c.loop-trib.trib gap frame in
    (piece_of gap frame, read)

pub loop-trib-preserved : goal.loop-trib-preserved
loop-trib-preserved g c =
    let s = g.S.Shape.shape in
    let t = c.loop-trib.trib in
    let gap = c.args.strip.now.gap in
    let frame = c.args.strip.now.frame in
    let inv = c.loop-trib.invariant in
    let ok = c.in_ok-give_to.ensures in
    let ps = piece_of gap frame ∷ [] in
    let read : c.bits.result.now.bits ≡ far_bits s t (piece_of gap frame) =
    c.bits.ensures ∙ read_same s gap c.loop-trib.strip.gap frame c.loop-trib.strip.frame t _ inv.gap inv.frame c.read.ensures.bits ∙ piece_loaded s t gap frame in
    record {
      frame = c.read.ensures.frame ∙ inv.frame;
      gap = c.read.ensures.gap ∙ inv.gap;
      given = far_gives_join s (first_pieces ps t) (for_trib t ps) (first_pieces ps (t + 1)) _ _ _ _ _ _ (first_pieces_push ps t) inv.given (ok.given (piece_of gap frame) read);
      unfailed = ok.cause ∙ inv.unfailed;
      drained = g.met.D.Drain.drained_join _ _ _ inv.drained ok.drained;
    }

pub returns-in_err-give_to-clause-part : goal.returns-in_err-give_to-clause-part
returns-in_err-give_to-clause-part g c =
    let s = g.S.Shape.shape in
    let t = c.loop-trib.trib in
    let gap = c.args.strip.now.gap in
    let frame = c.args.strip.now.frame in
    let inv = c.loop-trib.invariant in
    let ps = piece_of gap frame ∷ [] in
    let read : c.bits.result.now.bits ≡ far_bits s t (piece_of gap frame) =
    c.bits.ensures ∙ read_same s gap c.loop-trib.strip.gap frame c.loop-trib.strip.frame t _ inv.gap inv.frame c.read.ensures.bits ∙ piece_loaded s t gap frame in
    on_err_from _ c.from_residual.result
    (far_gives_part s (first_pieces ps t) (for_trib t ps) (λ j. ps) _ _ _ _ _ (first_pieces_begin ps t) inv.given (c.in_err-give_to.ensures.part (piece_of gap frame) read))

pub returns-in_err-give_to-clause-same : goal.returns-in_err-give_to-clause-same
returns-in_err-give_to-clause-same g c = c.in_err-give_to.ensures.same ∙ c.loop-trib.invariant.given.same

pub returns-in_err-give_to-clause-cause : goal.returns-in_err-give_to-clause-cause
returns-in_err-give_to-clause-cause g c = cause_since c.from_residual.result _ _ _ _ (err_from_is_err_and c.from_residual.result c.from_residual.ensures.1).1 c.loop-trib.invariant.unfailed c.in_err-give_to.ensures.cause

pub returns-in_err-give_to-clause-drained : goal.returns-in_err-give_to-clause-drained
returns-in_err-give_to-clause-drained g c = g.met.D.Drain.drained_join _ _ _ c.loop-trib.invariant.drained c.in_err-give_to.ensures.drained

pub returns-clause-given : goal.returns-clause-given
returns-clause-given g c =
    let s = g.S.Shape.shape in
    let t = c.loop-trib.trib in
    let inv = c.loop-trib.invariant in
    let ps = piece_of c.args.strip.now.gap c.args.strip.now.frame ∷ [] in
    let few : s.tribs ≡ t = g.met.S.Shape.tribs_is ∙ omega arith in
    far_gives_same s (first_pieces ps t) (λ j. ps) _ _ _ _ (λ j lt. first_pieces_all ps t j (omega (arith, lt, few))) inv.given

pub returns-clause-same : goal.returns-clause-same
returns-clause-same g c = c.loop-trib.invariant.given.same
