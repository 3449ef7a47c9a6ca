use Rattle.std.proofs.Common.{◌≡◌, ◌<◌, ◌-◌, ◌+◌, suc, refl, sym, ap, ◌∙◌, arith, [], ◌∷◌, map, length, take}
use Rattle.std.proofs.lemmas.Result.{err_from_is_err_and}
use Rattle.std.proofs.lemmas.List.{take_all}
use Rattle.pdh_align.specs.Aligning.{Held, frame_back}
use Rattle.pdh_edge.proofs.Runs.{cause_since}
use Rattle.pdh_rx.proofs.Gains.{on_err_from}
use Rattle.pdh_desync.specs.FarStore.FarPiece.{Frame}
use Rattle.pdh_desync.specs.FarNode.{piece_of}
use Rattle.pdh_desync.proofs.FarGiving.{piece_frame, far_ready, far_gives_nothing, far_gives_join, far_gives_part, far_gives_same, far_part_same, frames_push, frames_begin}
use Rattle.pdh_desync.proofs.far_stores.FarStores.give_frames.Goals as goal

pub loop-done-init : goal.loop-done-init
loop-done-init g c = record {
  given = far_gives_nothing g.S.Shape.shape _ _ (λ j. []) (λ j. refl);
  unfailed = refl;
  drained = g.met.D.Drain.drained_same _;
  aligner = refl;
  ready = λ more. refl;
}

pub load-requires : goal.load-requires
load-requires g c = omega (arith, c.requires.frames, ap (λ (h : Held). length h.ready) (c.loop-done.invariant.ready (omega arith)))

pub give_piece-requires : goal.give_piece-requires
give_piece-requires g c =
    let inv = c.loop-done.invariant in
    record { ready = far_ready g.S.Shape.shape _ _ _ _ _ (g.met.D.Drain.drained_holds c.args.drain.now c.loop-done.drain inv.drained) c.requires.ready inv.given }

pub loop-done-preserved : goal.loop-done-preserved
loop-done-preserved g c =
    let s = g.S.Shape.shape in
    let ready = c.args.aligner.now.ready in
    let n = c.loop-done.done in
    let back = c.args.frames - 1 - n in
    let inv = c.loop-done.invariant in
    let ok = c.in_ok-give_piece.ensures in
    let strip = c.load.new.self in
    let inside : n < length ready = omega (arith, c.requires.frames) in
    let is : length ready - suc back ≡ n = omega (arith, c.requires.frames) in
    let same : c.loop-done.aligner ≡ c.args.aligner.now = inv.ready (omega arith) in
    let frame : strip.frame ≡ frame_back ready back = c.load.ensures.frame ∙ ap (λ (h : Held). frame_back h.ready back) same in
    record {
      given = far_gives_join s (λ j. map Frame (take n ready)) (λ j. Frame (frame_back ready back) ∷ []) (λ j. map Frame (take (n + 1) ready)) _ _ _ _ _ _ (λ j. frames_push ready n back inside is) inv.given
          (far_gives_same s (λ j. piece_of strip.gap strip.frame ∷ []) (λ j. Frame (frame_back ready back) ∷ []) _ _ _ _ (λ j lt. piece_frame strip.gap strip.frame (frame_back ready back) c.load.ensures.gap frame) ok.given);
      unfailed = ok.cause ∙ inv.unfailed;
      drained = g.met.D.Drain.drained_join _ _ _ inv.drained ok.drained;
      aligner = c.load.ensures.aligner ∙ ap (λ (h : Held). record h { ready = c.load.new.aligner.ready }) same;
      ready = λ more. c.load.ensures.ready (omega (arith, more, c.requires.frames, ap (λ (h : Held). length h.ready) same)) ∙ same;
    }

pub returns-in_err-give_piece-clause-part : goal.returns-in_err-give_piece-clause-part
returns-in_err-give_piece-clause-part g c =
    let s = g.S.Shape.shape in
    let ready = c.args.aligner.now.ready in
    let n = c.loop-done.done in
    let back = c.args.frames - 1 - n in
    let inv = c.loop-done.invariant in
    let strip = c.load.new.self in
    let inside : n < length ready = omega (arith, c.requires.frames) in
    let is : length ready - suc back ≡ n = omega (arith, c.requires.frames) in
    let frame : strip.frame ≡ frame_back ready back = c.load.ensures.frame ∙ ap (λ (h : Held). frame_back h.ready back) (inv.ready (omega arith)) in
    on_err_from _ c.from_residual.result
    (far_gives_part s (λ j. map Frame (take n ready)) (λ j. Frame (frame_back ready back) ∷ []) (λ j. map Frame ready) _ _ _ _ _ (λ j. frames_begin ready n back inside is) inv.given
    (far_part_same s (λ j. piece_of strip.gap strip.frame ∷ []) (λ j. Frame (frame_back ready back) ∷ []) _ _ _ (λ j lt. piece_frame strip.gap strip.frame (frame_back ready back) c.load.ensures.gap frame) c.in_err-give_piece.ensures.part))

pub returns-in_err-give_piece-clause-aligner : goal.returns-in_err-give_piece-clause-aligner
returns-in_err-give_piece-clause-aligner g c = c.load.ensures.aligner ∙ ap (λ (h : Held). record h { ready = c.load.new.aligner.ready }) (c.loop-done.invariant.ready (omega arith))

pub returns-in_err-give_piece-clause-same : goal.returns-in_err-give_piece-clause-same
returns-in_err-give_piece-clause-same g c = c.in_err-give_piece.ensures.same ∙ c.loop-done.invariant.given.same

pub returns-in_err-give_piece-clause-cause : goal.returns-in_err-give_piece-clause-cause
returns-in_err-give_piece-clause-cause g c = cause_since c.from_residual.result _ _ _ _ (err_from_is_err_and c.from_residual.result c.from_residual.ensures.1).1 c.loop-done.invariant.unfailed c.in_err-give_piece.ensures.cause

pub returns-in_err-give_piece-clause-drained : goal.returns-in_err-give_piece-clause-drained
returns-in_err-give_piece-clause-drained g c = g.met.D.Drain.drained_join _ _ _ c.loop-done.invariant.drained c.in_err-give_piece.ensures.drained

pub returns-clause-given : goal.returns-clause-given
returns-clause-given g c =
    let ready = c.args.aligner.now.ready in
    let n = c.loop-done.done in
    let all : length ready ≡ n = c.requires.frames ∙ omega arith in
    far_gives_same g.S.Shape.shape (λ j. map Frame (take n ready)) (λ j. map Frame ready) _ _ _ _ (λ j lt. ap (map Frame) (sym (take_all n ready (omega (arith, all))))) c.loop-done.invariant.given

pub returns-clause-same : goal.returns-clause-same
returns-clause-same g c = c.loop-done.invariant.given.same
