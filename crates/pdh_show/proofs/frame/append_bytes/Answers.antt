use Rattle.std.proofs.Common.{◌≡◌, ◌++◌, ◌*◌, length, length-append, ap, ◌∙◌, arith}
use Rattle.hex.specs.Hex.{encode_lower}
use Rattle.pdh_show.specs.Shown.{ended, bytes_line}
use Rattle.pdh_show.specs.Texts.{BoundedText}
use Rattle.pdh_show.proofs.Walks.{pieces_next, piece_is}
use Rattle.pdh_show.proofs.frame.append_bytes.Goals as goal

pub loop-number-preserved : goal.loop-number-preserved
loop-number-preserved c =
    let inv = c.loop-number.invariant in
    let line = c.bytes_line.result in
    let piece = piece_is c.args.bytes.now 16 (16 * c.loop-number.number) c.min-end.result c.min-end.ensures in
    let text_is : c.append.new.self.text ≡ c.loop-number.text.text ++ line = ap (λ (t : BoundedText). t.text) c.append.ensures in
    record {
      lines = pieces_next ended (bytes_line c.args.bytes.now) c.loop-number.number c.args.text.now.text c.loop-number.text.text _ inv.lines
          (text_is ∙ ap (λ l. c.loop-number.text.text ++ l) (c.bytes_line.ensures.text ∙ ap (λ l. ended (encode_lower l)) piece));
      len = omega (arith, ap length text_is, length-append c.loop-number.text.text line, inv.len, c.bytes_line.ensures.len);
      capacity = ap (λ (t : BoundedText). t.capacity) c.append.ensures ∙ inv.capacity;
    }
