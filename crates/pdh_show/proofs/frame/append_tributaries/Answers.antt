use Rattle.std.proofs.Common.{◌≡◌, ◌++◌, length, length-append, ap, ◌∙◌, arith}
use Rattle.pdh_show.specs.Shown.{ended, tributary_line}
use Rattle.pdh_show.specs.Texts.{BoundedText}
use Rattle.pdh_show.proofs.Walks.{pieces_next}
use Rattle.pdh_show.proofs.frame.append_tributaries.Goals as goal

pub loop-trib-preserved : goal.loop-trib-preserved
loop-trib-preserved g c =
    let inv = c.loop-trib.invariant in
    let line = c.tributary_line.result in
    let text_is : c.append.new.self.text ≡ c.loop-trib.text.text ++ line = ap (λ (t : BoundedText). t.text) c.append.ensures in
    record {
      lines = pieces_next ended (tributary_line g.S.Shape.shape c.args.frame.now.bits) c.loop-trib.trib c.args.text.now.text c.loop-trib.text.text _ inv.lines
          (text_is ∙ ap (λ l. c.loop-trib.text.text ++ l) c.tributary_line.ensures.text);
      len = omega (arith, ap length text_is, length-append c.loop-trib.text.text line, inv.len, c.tributary_line.ensures.len);
      capacity = ap (λ (t : BoundedText). t.capacity) c.append.ensures ∙ inv.capacity;
    }
