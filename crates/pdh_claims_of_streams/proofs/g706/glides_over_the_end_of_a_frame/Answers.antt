use Rattle.std.proofs.Common.{◌≡◌, true, [], ◌∷◌, ◌++◌, sym, ap, ◌∙◌, subst, arith}
use Rattle.pdh_g706.specs.Tracking.{Share}
use Rattle.pdh_g706.specs.Machine.{Phase, Turn, still, turn, nothing, lost_turn, framed_turn}
use Rattle.pdh_g706.specs.Machine.Phase.{Framed}
use Rattle.pdh_g706.proofs.AlignSteps.{ends_loss}
use Rattle.pdh_claims_of_streams.proofs.Turns.{none_idle}
use Rattle.pdh_claims_of_streams.proofs.g706.glides_over_the_end_of_a_frame.Goals as goal

pub returns : goal.returns
unfolding turn
returns c held group wrong bit is whole lost =
    none_idle c.idle.result (λ one.
    let bits = held ++ bit ∷ [] in
    let idle : (turn (Framed held group wrong) bit).gained ≡ nothing = subst (λ (p : Phase). (turn p bit).gained ≡ nothing) is (c.idle.ensures.waits (bit ∷ []) one).0 in
    let loss : (turn (Framed held group wrong) bit).gained.signs.losses ≡ 1 = ap (λ (t : Turn). t.gained.signs.losses) (ends_loss bits (lost_turn true bits) (framed_turn bits group wrong) (still (Framed bits group wrong)) whole lost) in
    omega (arith, sym loss ∙ ap (λ (s : Share). s.signs.losses) idle))
