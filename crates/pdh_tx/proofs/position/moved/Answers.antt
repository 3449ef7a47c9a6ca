use Rattle.std.proofs.Common.{◌≡◌, ◌+◌, suc, sym, ap, ◌∙◌, arith, add-one}
use Rattle.pdh_shape.specs.Frame.{FrameShape}
use Rattle.pdh_line.specs.Sending.{odd_before}
use Rattle.pdh_tx.specs.Node.{odd_within}
use Rattle.pdh_tx.proofs.Parity.{odd_before-suc, odd_within-zero}
use Rattle.pdh_tx.proofs.position.moved.Goals as goal

pub returns-then-last-LEN-clause-parity : goal.returns-then-last-LEN-clause-parity
returns-then-last-LEN-clause-parity g c source before now =
    let s : FrameShape = g.S.Shape.shape in
    let at = c.args.at in
    let end : suc c.args.last ≡ s.len = (let t = c.if-last-LEN.true in omega (arith, t, c.LEN.ensures, g.met.S.Shape.len_is)) in
    record {
      last = now ∙ ap (odd_within s source at.frame) end ∙ sym (ap (odd_before s source) (add-one at.frame) ∙ odd_before-suc s source at.frame);
      now = sym (odd_within-zero s source (at.frame + 1));
    }

pub returns-clause-parity : goal.returns-clause-parity
returns-clause-parity g c source before now = record { last = before; now = now ∙ ap (odd_within g.S.Shape.shape source c.args.at.frame) (sym (add-one c.args.last)) }
