use Rattle.std.proofs.Common.{inl, inr, sym, ◌∙◌}
use Rattle.std.proofs.lemmas.Bool.{cases_Bool}
use Rattle.pdh_shape.specs.Frame.{is_right}
use Rattle.pdh_line.proofs.FrameLaws.{wrong_of_right}
use Rattle.pdh_align.specs.Aligning.{frame_back}
use Rattle.pdh_judging.proofs.Clean.{right_of_clean}
use Rattle.pdh_judging.proofs.judging.newest_is_right.Goals as goal

pub returns : goal.returns
returns g c =
    let s = g.S.Shape.shape in
    let frame = frame_back c.args.aligner.now.ready 0 in
    elim (cases_Bool c.is_clean.result) [
      | inl holds ↦ holds ∙ sym (right_of_clean s g.met.S.Shape.has_marks frame (sym c.marks.ensures ∙ c.is_clean.ensures.clean holds))
      | inr fails ↦ elim (cases_Bool (is_right s frame)) [
        | inl right ↦ absurd (c.is_clean.ensures.wrong fails (c.marks.ensures ∙ wrong_of_right s frame right))
        | inr broken ↦ fails ∙ sym broken
      ]
    ]
