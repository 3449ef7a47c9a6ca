use Rattle.std.proofs.Common.{◌≡◌, ◌-◌, false, cond, [], ◌∷◌, ◌++◌, List, Bool, length, ap, ◌∙◌}
use Rattle.std.specs.Prelude.{◌==◌}
use Rattle.pdh_g706.specs.Alignment.{loses, earlier}
use Rattle.pdh_g706.specs.Machine.{Turn, still, turn, last_bits, lost_turn, aligned_turn, framing, framing_turn}
use Rattle.pdh_g706.specs.Machine.Phase.{Searching, Aligned}
use Rattle.pdh_g706.proofs.TurnLaws.{aligned_turn_is, framing_turn_is}
use Rattle.pdh_g706.proofs.AlignSteps.{on_ok, ends_frame}
use Rattle.pdh_claims_of_streams.proofs.Turns.{holds_then}
use Rattle.pdh_claims_of_streams.proofs.g706.group_from_before_the_alignment.Goals as goal

pub returns : goal.returns
unfolding turn
returns g c held is whole frames cut kept right =
    let bits : List Bool = held ++ c.args.bit ∷ [] in
    let first = earlier frames (length frames - 12) in
    let found : aligned_turn bits ≡ framing bits frames first =
    aligned_turn_is bits frames cut
    ∙ ap (λ b. cond b (framing_turn bits first) (cond (length frames == 64) (still (Searching (last_bits 255 bits))) (still (Aligned bits)))) right
    ∙ framing_turn_is bits frames first cut in
    on_ok c.turn.result _ _ (λ e. (_, _, e))
    (holds_then c.turn.result c.args.align.now c.turn.new.self c.args.bit (Aligned held) (framing bits frames first).phase c.turn.ensures.becomes is
    (ap (λ (t : Turn). t.phase) (ends_frame bits (lost_turn false bits) (aligned_turn bits) (still (Aligned bits)) whole (ap loses cut ∙ kept) ∙ found)))
