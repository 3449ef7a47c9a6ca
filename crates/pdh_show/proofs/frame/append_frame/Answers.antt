use Rattle.std.proofs.Common.{◌++◌, ap, ◌∙◌}
use Rattle.pdh_show.specs.Texts.{BoundedText}
use Rattle.pdh_show.proofs.Joins.{shown_behind}
use Rattle.pdh_show.proofs.frame.append_frame.Goals as goal

pub returns : goal.returns
returns g c =
    let first = ap (λ (t : BoundedText). t.text) c.append.ensures ∙ ap (λ l. c.args.text.now.text ++ l) c.signal_line.ensures.text in
    shown_behind g.S.Shape.shape c.args.name.now c.args.number c.args.bytes.now c.args.frame.now.bits c.is_right.result c.args.text.now.text _ _ _
    c.requires.same c.is_right.ensures first c.append_tributaries.ensures.lines c.append_bytes.ensures
