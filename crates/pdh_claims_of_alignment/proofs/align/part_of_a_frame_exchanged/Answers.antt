use Rattle.std.proofs.Common.{◌≡◌, List, Bool, [], ◌∷◌, ◌++◌, length, sym, ap, ◌∙◌, arith}
use Rattle.pdh_line.specs.Tracking.{Piece, track}
use Rattle.pdh_line.specs.Tracking.Piece.{Delivered}
use Rattle.pdh_align.specs.declared.step.Step.{Step}
use Rattle.pdh_align.specs.declared.step.Step.TheVariants.{Nothing, Rejected, Aligned, Frame, Lost}
use Rattle.pdh_align.specs.Aligning.{Grows, frame_back, frames_gained}
use Rattle.pdh_claims_of_alignment.proofs.align.part_of_a_frame_exchanged.Goals as goal

-- where one frame is ready, it is the piece by which the tracking grew
one_gained : (step : Step) (ready : List (List Bool)) (before after : List Piece) → Grows step ready before after → length ready ≡ 1 → length ready ≡ frames_gained step → after ≡ before ++ Delivered (frame_back ready 0) ∷ []
one_gained Nothing ready before after grows one gained = absurd (omega (arith, one, gained))
one_gained Rejected ready before after grows one gained = absurd (omega (arith, one, gained))
one_gained Aligned ready before after grows one gained = absurd (omega (arith, one, gained))
one_gained Lost ready before after grows one gained = absurd (omega (arith, one, gained))
one_gained Frame (frame ∷ []) before after grows one gained = grows.4
one_gained Frame [] before after grows one gained = absurd (omega (arith, one))
one_gained Frame (frame ∷ other ∷ more) before after grows one gained = absurd (omega (arith, one))

pub returns : goal.returns
returns g c done line h =
    one_gained c.push.result c.push.new.self.ready _ _ (c.push.ensures.tracks line h).grows (c.exchange_frame.ensures.one.0 done) c.push.ensures.ready
    ∙ ap (λ x. track g.S.Shape.shape line ++ Delivered x ∷ []) (ap (λ b. b.bits) (sym (c.exchange_frame.ensures.exchanged done).0))
