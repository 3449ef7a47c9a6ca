use Rattle.std.proofs.Common.{◌≡◌, true, [], ◌∷◌, ◌++◌, List, Bool, sym, ap, ◌∙◌, subst, arith}
use Rattle.std.proofs.lemmas.List.{length_push}
use Rattle.pdh_g706.specs.Machine.{Phase, Turn, turn, held_on}
use Rattle.pdh_g706.specs.Machine.Phase.{Searching, Aligned, Framed}
use Rattle.pdh_g706.proofs.AlignSteps.{search_long}
use Rattle.pdh_claims_of_streams.proofs.Turns.{none_idle}
use Rattle.pdh_claims_of_streams.proofs.g706.position_with_a_right_third_frame_rejected.Goals as goal

-- it searches
abbrev Searches : Phase → Type 0
Searches (Searching held) = Unit {0}
Searches (Aligned held) = ⊥
Searches (Framed held group wrong) = ⊥

pub returns : goal.returns
unfolding turn
returns c held bit is long right =
    none_idle c.idle.result (λ one.
    let bits : List Bool = held ++ bit ∷ [] in
    let waits : held_on (Searching held) (bit ∷ []) ≡ (turn (Searching held) bit).phase = subst (λ (p : Phase). held_on p (bit ∷ []) ≡ (turn p bit).phase) is (c.idle.ensures.waits (bit ∷ []) one).1 in
    let found : (turn (Searching held) bit).phase ≡ Aligned bits = ap (λ (t : Turn). t.phase) (search_long bits true (omega (arith, long, length_push held bit)) (sym right)) in
    subst Searches (waits ∙ found) tt)
