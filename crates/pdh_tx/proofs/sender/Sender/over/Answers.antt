use Rattle.std.proofs.Common.{refl, sym, arith}
use Rattle.pdh_tx.specs.Node.{source_of}
use Rattle.pdh_tx.proofs.Parity.{odd_before-zero, odd_within-zero}
use Rattle.pdh_tx.proofs.sender.Sender.over.Goals as goal

pub returns-clause-fresh : goal.returns-clause-fresh
returns-clause-fresh g c =
    let s = g.S.Shape.shape in
    record {
      runs = refl;
      idles = c.idle-2.ensures;
      placed = λ plan. record { inside = g.met.S.Shape.is_frame.some_slots; place = omega arith; each = c.requires.placed plan };
      held = λ supply. record {
        each = c.requires.held supply;
        said = λ h. absurd (omega (arith, h));
        parity = record {
          last = sym (odd_before-zero s (source_of c.args.path (g.B.Body.meanings c.args.body) supply));
          now = sym (odd_within-zero s (source_of c.args.path (g.B.Body.meanings c.args.body) supply) 0);
        };
      };
    }
