use Rattle.std.proofs.Common.{◌≡◌, ◌<◌, length, ap, sym, ◌∙◌, arith, []}
use Rattle.std.specs.Prelude.{unwrap_or}
use Rattle.pdh_line.specs.Sending.{carried}
use Rattle.pdh_smoothing.specs.Again.{lists_in}
use Rattle.pdh_smoothing.proofs.MarkLaws.{count_is}
use Rattle.pdh_smoothing.proofs.rows.count_at.Goals as goal

pub output-requires : goal.output-requires
output-requires g c =
    let known : c.args.trib < g.S.Shape.shape.tribs = omega (arith, c.requires.known, g.met.S.Shape.tribs_is) in
    let at : c.from.result ≡ c.args.trib = omega (arith, c.from.ensures) in
    ap (lists_in c.args.marks.now).holds at ∙ c.requires.marks.held c.args.trib known

pub get-more-requires : goal.get-more-requires
get-more-requires g c =
    let known : c.args.trib < g.S.Shape.shape.tribs = omega (arith, c.requires.known, g.met.S.Shape.tribs_is) in
    let at : c.from.result ≡ c.args.trib = omega (arith, c.from.ensures) in
    let told = sym (ap (lists_in c.args.marks.now).told at) ∙ c.output.ensures in
    omega (arith, c.requires.inside, c.requires.marks.long c.args.trib known, ap (λ t. length (unwrap_or t [])) told)

pub returns-then-more : goal.returns-then-more
returns-then-more g c =
    let s = g.S.Shape.shape in
    let at : c.from.result ≡ c.args.trib = omega (arith, c.from.ensures) in
    let told = sym (ap (lists_in c.args.marks.now).told at) ∙ c.output.ensures in
    omega (arith, c.LOW.ensures, g.met.S.Shape.low_is)
    ∙ sym (count_is s (lists_in c.args.marks.now) c.args.piece c.args.trib _ c.get-more.result told c.get-more.ensures ∙ ap (carried s) c.if-more.true)

pub returns-else-more : goal.returns-else-more
returns-else-more g c =
    let s = g.S.Shape.shape in
    let at : c.from.result ≡ c.args.trib = omega (arith, c.from.ensures) in
    let told = sym (ap (lists_in c.args.marks.now).told at) ∙ c.output.ensures in
    omega (arith, c.LOW-else-more.ensures, g.met.S.Shape.low_is)
    ∙ sym (count_is s (lists_in c.args.marks.now) c.args.piece c.args.trib _ c.get-more.result told c.get-more.ensures ∙ ap (carried s) c.if-more.false)
