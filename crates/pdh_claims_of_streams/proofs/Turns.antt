-- A turn of the alignment machine from what it is known to hold.
use Rattle.std.proofs.Common.{◌≡◌, ℕ, suc, zero, ◌+◌, ◌/◌, ◌≤◌, Bool, true, false, List, [], ◌∷◌, ◌++◌, length, refl, ap, ◌∙◌, arith}
use Rattle.std.specs.Prelude.{Result, OnOk}
use Rattle.std.proofs.lemmas.List.{length_push}
use Rattle.pdh_bits.specs.Bits.{bit_value}
use Rattle.pdh_g706.specs.declared.align.E1Align.{E1Align}
use Rattle.pdh_g706.specs.Frames.{frames_of}
use Rattle.pdh_g706.specs.Alignment.{loses, errs}
use Rattle.pdh_g706.specs.Machine.{Phase, Turn, still, lost_turn, framed_turn, group_phase, turn}
use Rattle.pdh_g706.specs.Machine.Phase.{Framed}
use Rattle.pdh_g706.specs.View.{phase, Becomes}
use Rattle.pdh_g706.proofs.FrameLists.{length_frames}
use Rattle.pdh_g706.proofs.HeldLaws.{loses_even}
use Rattle.pdh_g706.proofs.AlignSteps.{on_ok, ends_frame, framed_block, block_half}

-- it holds then what this turn says
pub holds_then : {T F : Type 0} (r : Result T F) (old new : E1Align) (bit : Bool) (p q : Phase) → OnOk r (Becomes (turn (phase old) bit) old new) → phase old ≡ p → (turn p bit).phase ≡ q → OnOk r (phase new ≡ q)
holds_then r old new bit p q made is now = on_ok r _ _ (λ b. b.phase_is ∙ ap (λ x. (turn x bit).phase) is ∙ now) made

-- at the end of the 24th frame that is held
pub block_phase : (held : List Bool) (group wrong : ℕ) (bit : Bool) → length held ≡ 6143
    → (turn (Framed held group wrong) bit).phase ≡ group_phase (held ++ bit ∷ []) (held ++ bit ∷ []) (group + 1) (wrong + bit_value (errs (frames_of (held ++ bit ∷ [])) 8))
unfolding turn
block_phase held group wrong bit long =
    let bits : List Bool = held ++ bit ∷ [] in
    let size : length bits ≡ 6144 = omega (arith, long, length_push held bit) in
    let kept : loses (frames_of bits) ≡ false = loses_even (frames_of bits) 24 (length_frames bits ∙ ap (λ n. n / 256) size) (omega arith) in
    ap (λ (t : Turn). t.phase)
    (ends_frame bits (lost_turn true bits) (framed_turn bits group wrong) (still (Framed bits group wrong)) (omega (arith, size)) kept
    ∙ framed_block bits group wrong (omega (arith, size))
    ∙ block_half bits group wrong 8 (errs (frames_of bits) 8) (omega (arith, size)) (λ e. absurd (omega (arith, size, e))) (omega (arith, size)) refl)

-- no bit is idle where the next one isn't
pub none_idle : (n : ℕ) → (1 ≤ n → ⊥) → n ≡ 0
none_idle zero not_one = refl
none_idle (suc n) not_one = absurd (not_one (omega arith))
