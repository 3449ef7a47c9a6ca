use Rattle.std.proofs.Common.{◌≡◌, ◌<◌, ◌∙◌, arith, [], ◌∷◌, map}
use Rattle.std.proofs.lemmas.Result.{on_ok_weaker, on_err_weaker}
use Rattle.pdh_desync.specs.FarStore.FarPiece.{Frame}
use Rattle.pdh_desync.specs.FarNode.{piece_of, far_steps}
use Rattle.pdh_desync.proofs.FarGiving.{piece_ones, far_gives_nothing, far_gives_same, far_part_same, steps_whole, steps_part, steps_aligned, steps_frame, steps_other}
use Rattle.pdh_desync.proofs.far_stores.FarStores.give_step.Goals as goal

pub returns-in-Aligned-clause-given : goal.returns-in-Aligned-clause-given
returns-in-Aligned-clause-given g c =
    let ready = c.args.aligner.now.ready in
    on_ok_weaker c.give_frames.result (λ p. far_gives_same g.S.Shape.shape (λ j. map Frame ready) (λ j. far_steps c.args.step ready c.args.gap) _ _ _ _ (λ j lt. steps_aligned c.args.step ready c.args.gap c.in-Aligned.is) p) c.give_frames.ensures.given

pub returns-in-Aligned-clause-part : goal.returns-in-Aligned-clause-part
returns-in-Aligned-clause-part g c =
    let ready = c.args.aligner.now.ready in
    on_err_weaker c.give_frames.result (λ p. far_part_same g.S.Shape.shape (λ j. map Frame ready) (λ j. far_steps c.args.step ready c.args.gap) _ _ _ (λ j lt. steps_aligned c.args.step ready c.args.gap c.in-Aligned.is) p) c.give_frames.ensures.part

pub returns-in-Frame-clause-given : goal.returns-in-Frame-clause-given
returns-in-Frame-clause-given g c =
    let ready = c.args.aligner.now.ready in
    on_ok_weaker c.give_frames-in-Frame.result (λ p. far_gives_same g.S.Shape.shape (λ j. map Frame ready) (λ j. far_steps c.args.step ready c.args.gap) _ _ _ _ (λ j lt. steps_frame c.args.step ready c.args.gap c.in-Frame.is) p) c.give_frames-in-Frame.ensures.given

pub returns-in-Frame-clause-part : goal.returns-in-Frame-clause-part
returns-in-Frame-clause-part g c =
    let ready = c.args.aligner.now.ready in
    on_err_weaker c.give_frames-in-Frame.result (λ p. far_part_same g.S.Shape.shape (λ j. map Frame ready) (λ j. far_steps c.args.step ready c.args.gap) _ _ _ (λ j lt. steps_frame c.args.step ready c.args.gap c.in-Frame.is) p) c.give_frames-in-Frame.ensures.part

pub returns-else-gap-gt0-clause-given : goal.returns-else-gap-gt0-clause-given
returns-else-gap-gt0-clause-given g c =
    let strip = c.load_ones.new.self in
    let ready = c.args.aligner.now.ready in
    let none : c.args.gap ≡ 0 = omega arith in
    on_ok_weaker c.give_piece.result (λ p. far_gives_same g.S.Shape.shape (λ j. piece_of strip.gap strip.frame ∷ []) (λ j. far_steps c.args.step ready c.args.gap) _ _ _ _ (λ j lt. steps_whole c.args.step ready c.args.gap c.in-Rejected.is none ∙ piece_ones strip.gap strip.frame c.load_ones.ensures) p) c.give_piece.ensures.given

pub returns-else-gap-gt0-clause-part : goal.returns-else-gap-gt0-clause-part
returns-else-gap-gt0-clause-part g c =
    let strip = c.load_ones.new.self in
    let ready = c.args.aligner.now.ready in
    let none : c.args.gap ≡ 0 = omega arith in
    on_err_weaker c.give_piece.result (λ p. far_part_same g.S.Shape.shape (λ j. piece_of strip.gap strip.frame ∷ []) (λ j. far_steps c.args.step ready c.args.gap) _ _ _ (λ j lt. steps_whole c.args.step ready c.args.gap c.in-Rejected.is none ∙ piece_ones strip.gap strip.frame c.load_ones.ensures) p) c.give_piece.ensures.part

pub returns-then-gap-gt0-clause-given : goal.returns-then-gap-gt0-clause-given
returns-then-gap-gt0-clause-given g c =
    let some : 0 < c.args.gap = omega arith in
    far_gives_nothing g.S.Shape.shape _ _ (λ j. far_steps c.args.step c.args.aligner.now.ready c.args.gap) (λ j. steps_part c.args.step c.args.aligner.now.ready c.args.gap c.in-Rejected.is some)

pub returns-in_default-clause-given : goal.returns-in_default-clause-given
returns-in_default-clause-given g c =
    far_gives_nothing g.S.Shape.shape _ _ (λ j. far_steps c.args.step c.args.aligner.now.ready c.args.gap)
    (λ j. steps_other c.args.step c.args.aligner.now.ready c.args.gap c.in_default.not-Rejected c.in_default.not-Aligned c.in_default.not-Frame)
