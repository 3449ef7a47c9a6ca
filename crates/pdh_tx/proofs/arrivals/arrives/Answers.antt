use Rattle.std.proofs.Common.{◌≡◌, ◌≤◌, ◌+◌, ◌*◌, ◌%◌, leb, refl, sym, ap, ◌∙◌, arith}
use Rattle.pdh_shape.specs.Frame.{FrameShape}
use Rattle.pdh_line.proofs.SendingLaws.{arrives_at-is}
use Rattle.pdh_tx.proofs.arrivals.arrives.Goals as goal

pub returns : goal.returns
returns g c =
    let s : FrameShape = g.S.Shape.shape in
    let fits : c.args.count ≤ s.len = omega (arith, c.requires.fits, g.met.S.Shape.len_is) in
    let len : c.from-len.result ≡ s.len = c.from-len.ensures ∙ c.LEN.ensures ∙ sym g.met.S.Shape.len_is in
    ap (λ l. leb l (c.from-slot.result * c.from-count.result % l + c.from-count.result)) len
    ∙ ap (λ t. leb s.len (t * c.from-count.result % s.len + c.from-count.result)) c.from-slot.ensures
    ∙ ap (λ n. leb s.len (c.args.slot * n % s.len + n)) c.from-count.ensures
    ∙ sym (arrives_at-is s c.args.count c.args.slot (c.args.slot * c.args.count % s.len) g.met.S.Shape.is_frame fits refl)
