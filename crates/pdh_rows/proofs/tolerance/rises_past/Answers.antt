use Rattle.std.proofs.Common.{◌≡◌, ◌<◌, ◌+◌, ◌-◌, ◌*◌, ◌/◌, suc, ap, sym, subst, arith}
use Rattle.pdh_rows.specs.Flows.{flowed, IsCross}
use Rattle.pdh_rows.proofs.FlowLaws.{never-rises, cross-rises, faster-rises, rises-fits}
use Rattle.pdh_rows.proofs.tolerance.rises_past.Goals as goal

pub returns-then-from-gap : goal.returns-then-from-gap
returns-then-from-gap c =
    let row = c.args.row.now in
    never-rises row.flow c.args.gap c.args.line row.frames c.requires.fits.some
    (omega (arith, c.requires.bits, c.from.ensures, c.from-2.ensures, ap (λ n. n * c.args.line) c.from-2.ensures, c.if-from-gap.true))

pub overflow_mul-kept : goal.overflow_mul-kept
overflow_mul-kept c =
    let row = c.args.row.now in
    let past : c.args.gap + row.frames * c.args.line < flowed row.flow row.frames =
    omega (arith, c.requires.bits, c.from.ensures, c.from-2.ensures, ap (λ n. n * c.args.line) c.from-2.ensures, c.if-from-gap.false) in
    let fits = rises-fits row.flow row.frames c.args.gap c.args.line c.requires.fits past in
    grind arith

pub overflow_add-kept : goal.overflow_add-kept
overflow_add-kept c =
    let row = c.args.row.now in
    let past : c.args.gap + row.frames * c.args.line < flowed row.flow row.frames =
    omega (arith, c.requires.bits, c.from.ensures, c.from-2.ensures, ap (λ n. n * c.args.line) c.from-2.ensures, c.if-from-gap.false) in
    let fits = rises-fits row.flow row.frames c.args.gap c.args.line c.requires.fits past in
    grind arith

pub overflow_sub-kept-2 : goal.overflow_sub-kept-2
overflow_sub-kept-2 c =
    let row = c.args.row.now in
    let past : c.args.gap + row.frames * c.args.line < flowed row.flow row.frames =
    omega (arith, c.requires.bits, c.from.ensures, c.from-2.ensures, ap (λ n. n * c.args.line) c.from-2.ensures, c.if-from-gap.false) in
    let faster = faster-rises row.flow c.args.gap c.args.line row.frames c.requires.fits.some past in
    omega arith

pub nonzero_div-kept : goal.nonzero_div-kept
nonzero_div-kept c =
    let row = c.args.row.now in
    let past : c.args.gap + row.frames * c.args.line < flowed row.flow row.frames =
    omega (arith, c.requires.bits, c.from.ensures, c.from-2.ensures, ap (λ n. n * c.args.line) c.from-2.ensures, c.if-from-gap.false) in
    let faster = faster-rises row.flow c.args.gap c.args.line row.frames c.requires.fits.some past in
    omega arith

pub overflow_cast-result : goal.overflow_cast-result
overflow_cast-result c =
    let row = c.args.row.now in
    let past : c.args.gap + row.frames * c.args.line < flowed row.flow row.frames =
    omega (arith, c.requires.bits, c.from.ensures, c.from-2.ensures, ap (λ n. n * c.args.line) c.from-2.ensures, c.if-from-gap.false) in
    let cross = cross-rises row.flow c.args.gap c.args.line row.frames c.requires.fits.some past in
    let inside = cross.inside in
    grind arith

pub overflow_add-result : goal.overflow_add-result
overflow_add-result c =
    let row = c.args.row.now in
    let past : c.args.gap + row.frames * c.args.line < flowed row.flow row.frames =
    omega (arith, c.requires.bits, c.from.ensures, c.from-2.ensures, ap (λ n. n * c.args.line) c.from-2.ensures, c.if-from-gap.false) in
    let cross = cross-rises row.flow c.args.gap c.args.line row.frames c.requires.fits.some past in
    let inside = cross.inside in
    grind arith

pub returns : goal.returns
returns c =
    let row = c.args.row.now in
    let past : c.args.gap + row.frames * c.args.line < flowed row.flow row.frames =
    omega (arith, c.requires.bits, c.from.ensures, c.from-2.ensures, ap (λ n. n * c.args.line) c.from-2.ensures, c.if-from-gap.false) in
    let cross = cross-rises row.flow c.args.gap c.args.line row.frames c.requires.fits.some past in
    let next : (c.args.gap * row.flow.frames + (row.flow.frames - 1)) / (row.flow.bits - c.args.line * row.flow.frames) + 1
    ≡ suc ((c.args.gap * row.flow.frames + (row.flow.frames - 1)) / (row.flow.bits - c.args.line * row.flow.frames)) = omega arith in
    subst (IsCross c.args.gap (λ n. n * c.args.line) 0 (flowed row.flow) row.frames) (sym next) cross
