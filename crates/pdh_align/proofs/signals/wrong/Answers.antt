use Rattle.std.proofs.Common.{◌≡◌, true, sym, ◌∙◌}
use Rattle.pdh_shape.specs.Frame.{is_right}
use Rattle.pdh_line.proofs.FrameLaws.{wrong_of_right}
use Rattle.pdh_align.proofs.signals.wrong.Goals as goal

pub returns-then-frame_is_right : goal.returns-then-frame_is_right
returns-then-frame_is_right g c =
    let right : is_right g.S.Shape.shape c.args.frame.now.bits ≡ true = sym c.frame_is_right.ensures ∙ c.if-frame_is_right.true in
    c.clean.ensures ∙ sym (wrong_of_right g.S.Shape.shape c.args.frame.now.bits right)
