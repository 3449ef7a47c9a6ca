use Rattle.std.proofs.Common.{◌≡◌, true, false, [], ◌∷◌, ◌++◌, List, Bool, ap, ◌∙◌, arith}
use Rattle.std.proofs.lemmas.Bool.{and_left, and_right, not_from_true}
use Rattle.pdh_g706.specs.Frames.{frames_of}
use Rattle.pdh_g706.specs.Alignment.{loses}
use Rattle.pdh_g706.specs.Machine.{Turn, still, turn, lost_turn, framed_turn}
use Rattle.pdh_g706.specs.Machine.Phase.{Framed}
use Rattle.pdh_g706.proofs.AlignSteps.{ends_frame, framed_frame}
use Rattle.pdh_claims_of_streams.proofs.Turns.{holds_then}
use Rattle.pdh_claims_of_streams.proofs.g706.loses_at_two_bad_signals.Goals as goal

pub returns : goal.returns
unfolding turn loses
returns g c held group wrong is odd frames cut right =
    let bits : List Bool = held ++ c.args.bit ∷ [] in
    let kept : loses (frames_of bits) ≡ false = ap loses cut ∙ and_left _ _ (and_left _ _ (and_right _ _ (not_from_true _ right))) in
    holds_then c.turn.result c.args.align.now c.turn.new.self c.args.bit (Framed held group wrong) (Framed bits group wrong) c.turn.ensures.becomes is
    (ap (λ (t : Turn). t.phase)
    (ends_frame bits (lost_turn true bits) (framed_turn bits group wrong) (still (Framed bits group wrong)) (omega (arith, odd)) kept
    ∙ framed_frame bits group wrong (omega (arith, odd)) (λ whole. absurd (omega (arith, odd, whole)))))
