use Rattle.std.proofs.Common.{◌≡◌, ◌<◌, ◌+◌, ◌-◌, ◌/◌, sym, ap, ◌∙◌, arith}
use Rattle.pdh_runs.proofs.TurnLaws.{reads_are}
use Rattle.pdh_runs.proofs.PieceLaws.{payload_most}
use Rattle.pdh_runs.proofs.layout.Layout.turns_before.Goals as goal

pub overflow_add-result : goal.overflow_add-result
overflow_add-result g c =
    omega (arith, c.payload_before.ensures, payload_most g.S.Shape.shape c.args.slot, c.requires.inside, g.met.S.Shape.len_is, g.met.S.Shape.is_frame.few_slots, c.from-tribs.ensures, c.TRIBS.type_inv)

pub returns : goal.returns
returns g c =
    let s = g.S.Shape.shape in
    let j = c.args.trib in
    let known : j < s.tribs = omega (arith, c.requires.known, g.met.S.Shape.tribs_is) in
    let tribs : c.from-tribs.result ≡ s.tribs = c.from-tribs.ensures ∙ c.TRIBS.ensures ∙ sym g.met.S.Shape.tribs_is in
    let own : c.from.result ≡ j = c.from.ensures in
    ap (λ n. (c.payload_before.result + (n - 1 - c.from.result)) / n) tribs ∙ ap (λ i. (c.payload_before.result + (s.tribs - 1 - i)) / s.tribs) own
    ∙ ap (λ p. (p + (s.tribs - 1 - j)) / s.tribs) c.payload_before.ensures ∙ sym (reads_are s g.met.S.Shape.in_turn j known c.args.slot (omega (arith, c.requires.inside, g.met.S.Shape.len_is)))
