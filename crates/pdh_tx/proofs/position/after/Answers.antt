use Rattle.std.proofs.Common.{◌≡◌, ◌+◌, suc, ◌&&◌, not, sym, ap, ◌∙◌, arith, add-one}
use Rattle.std.specs.Bool.{beq}
use Rattle.pdh_shape.specs.Frame.{FrameShape}
use Rattle.pdh_line.specs.Sending.{odd_before}
use Rattle.pdh_tx.specs.Node.{odd_within}
use Rattle.pdh_shape.specs.Payload.{is_payload}
use Rattle.pdh_tx.proofs.Parity.{odd_next, odd_before-suc, odd_within-zero}
use Rattle.pdh_tx.proofs.position.after.Goals as goal

pub returns-then-at-LEN-clause-parity : goal.returns-then-at-LEN-clause-parity
returns-then-at-LEN-clause-parity g c source is parity =
    let s : FrameShape = g.S.Shape.shape in
    let at = c.args.at in
    let payload : c.is_payload.result ≡ is_payload (s.role at.slot) = c.is_payload.ensures ∙ ap is_payload c.role.ensures in
    let end : suc at.slot ≡ s.len = (let t = c.if-at-LEN.true in omega (arith, t, c.LEN.ensures, g.met.S.Shape.len_is)) in
    record {
      last = ap (λ b. not (beq at.is_odd (c.args.bit && b))) payload ∙ odd_next s source at.frame at.slot at.is_odd c.args.bit is parity.now ∙ ap (odd_within s source at.frame) end
          ∙ sym (ap (odd_before s source) (add-one at.frame) ∙ odd_before-suc s source at.frame);
      now = sym (odd_within-zero s source (at.frame + 1));
    }

pub returns-clause-parity : goal.returns-clause-parity
returns-clause-parity g c source is parity =
    let s : FrameShape = g.S.Shape.shape in
    let at = c.args.at in
    let payload : c.is_payload.result ≡ is_payload (s.role at.slot) = c.is_payload.ensures ∙ ap is_payload c.role.ensures in
    record {
      last = parity.last;
      now = ap (λ b. not (beq at.is_odd (c.args.bit && b))) payload ∙ odd_next s source at.frame at.slot at.is_odd c.args.bit is parity.now ∙ ap (odd_within s source at.frame) (sym (add-one at.slot));
    }
