-- What the alignment machine of framed 2048 kbit/s lines takes and gives.
use Rattle.std.proofs.Common.{◌≡◌, Bool, List, [], ◌∷◌, ◌++◌, Result, Ok, Err, OnOk, OnErr, ap, ◌∙◌, arith}
use Rattle.std.specs.Prelude.{flat_map}
use Rattle.pdh_edge.specs.Ports.{Outputs}
use Rattle.pdh_framed.specs.Taking.{Takes, TakesPart}
use Rattle.pdh_g706.specs.declared.align.E1Align.{E1Align}
use Rattle.pdh_g706.specs.Tracking.{Share, track, e1_far}
use Rattle.pdh_g706.specs.Machine.{nothing}
use Rattle.pdh_g706.specs.View.{StandsFor, Gains, GainsPart}
use Rattle.pdh_g706.proofs.PayloadLaws.{payload_fits}
use Rattle.pdh_g706.proofs.SearchLaws.{short_search}
use Rattle.pdh_g706.proofs.TrackLaws.{not_over, track_open}
use Rattle.pdh_g706.proofs.TurnLaws.{one_search_none}
use Rattle.pdh_streams.specs.Delivering.{IsPayload}

-- no bits give nothing
far_empty : e1_far [] ≡ []
unfolding e1_far
far_empty =
    let none : track [] ≡ nothing ∷ [] = track_open [] (not_over [] (short_search [] (omega arith))) ∙ ap (λ (x : Share). x ∷ []) (one_search_none [] (short_search [] (omega arith))) in
    ap (λ (shares : List Share). flat_map (λ (s : Share). s.payload) shares) none

pub e1_is_payload : IsPayload e1_far
e1_is_payload = record { none = far_empty; fewer = λ line some. omega (arith, payload_fits line, some) }

module _ {T E : Type 0} (was : E1Align) (bits : List Bool) (old new : Outputs) where
  pub e1_takes : (is : E1Align) (r : Result T E) → OnOk r ((line : List Bool) → StandsFor was line → StandsFor is (line ++ bits)) → OnOk r ((line : List Bool) → StandsFor was line → Gains line (line ++ bits) old new) → OnOk r (Takes e1_far (StandsFor was) (StandsFor is) bits old new)
  e1_takes is (Ok x) stands gains = record { stands = stands; gains = gains }
  e1_takes is (Err e) stands gains = tt

  pub e1_takes_part : (r : Result T E) → OnErr r ((line : List Bool) → StandsFor was line → GainsPart line (line ++ bits) old new) → OnErr r (TakesPart e1_far (StandsFor was) bits old new)
  e1_takes_part (Ok x) gains = tt
  e1_takes_part (Err e) gains = record { gains = gains }
