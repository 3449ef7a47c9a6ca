-- Worked by the checker: which pieces of a tracking are judged.
use Rattle.std.proofs.Common.{◌≡◌, true, false, [], ◌∷◌, refl}
use Rattle.pdh_line.specs.Tracking.{Piece}
use Rattle.pdh_line.specs.Tracking.Piece.{Gap, Delivered}
use Rattle.pdh_judging.specs.Judged.{count_judged, is_any, stands_at_top, stands_below}

abbrev frame : Piece
frame = Delivered []

-- three frames confirm an alignment
confirmed : count_judged is_any 0 (Gap 7 ∷ frame ∷ frame ∷ frame ∷ []) ≡ 0
confirmed = refl

-- two further ones, and the one that completed the loss
lost : count_judged is_any 0 (Gap 7 ∷ frame ∷ frame ∷ frame ∷ frame ∷ frame ∷ Gap 0 ∷ []) ≡ 3
lost = refl

-- a second alignment, with one frame more
again : count_judged is_any 0 (Gap 7 ∷ frame ∷ frame ∷ frame ∷ Gap 30 ∷ frame ∷ frame ∷ frame ∷ frame ∷ []) ≡ 2
again = refl

-- five right frames of six in a line of 40 frames, and of 41 frames
an_eighth : stands_at_top 848 33920 (record { frames = 6; right = 5 }) ≡ true
an_eighth = refl

less_than_an_eighth : stands_at_top 848 34768 (record { frames = 6; right = 5 }) ≡ false
less_than_an_eighth = refl

-- five of ten below the top, and four of four
a_half : stands_below (record { frames = 10; right = 5 }) ≡ true
a_half = refl

too_few : stands_below (record { frames = 4; right = 4 }) ≡ false
too_few = refl
