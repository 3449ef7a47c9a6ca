use Rattle.std.proofs.Common.{◌≡◌, ◌<◌, ◌+◌, ◌-◌, ◌*◌, ◌/◌, suc, ap, sym, subst, arith}
use Rattle.pdh_rows.specs.Flows.{flowed, IsCross}
use Rattle.pdh_rows.proofs.FlowLaws.{never-falls, cross-falls, faster-falls, falls-fits}
use Rattle.pdh_rows.proofs.tolerance.falls_past.Goals as goal

pub returns-then-from-line : goal.returns-then-from-line
returns-then-from-line c =
    let row = c.args.row.now in
    never-falls row.flow c.args.gap c.args.line row.frames c.requires.fits.some
    (omega (arith, c.requires.bits, c.from.ensures, c.from-2.ensures, ap (λ n. n * c.args.line) c.from.ensures, c.if-from-line.true))

pub overflow_mul-kept : goal.overflow_mul-kept
overflow_mul-kept c =
    let row = c.args.row.now in
    let past : c.args.gap + flowed row.flow row.frames < row.frames * c.args.line =
    omega (arith, c.requires.bits, c.from.ensures, c.from-2.ensures, ap (λ n. n * c.args.line) c.from.ensures, c.if-from-line.false) in
    let fits = falls-fits row.flow row.frames c.args.gap c.args.line c.requires.fits c.requires.line past in
    grind arith

pub overflow_sub-kept : goal.overflow_sub-kept
overflow_sub-kept c =
    let row = c.args.row.now in
    let past : c.args.gap + flowed row.flow row.frames < row.frames * c.args.line =
    omega (arith, c.requires.bits, c.from.ensures, c.from-2.ensures, ap (λ n. n * c.args.line) c.from.ensures, c.if-from-line.false) in
    let faster = faster-falls row.flow c.args.gap c.args.line row.frames c.requires.fits.some past in
    omega arith

pub nonzero_div-kept : goal.nonzero_div-kept
nonzero_div-kept c =
    let row = c.args.row.now in
    let past : c.args.gap + flowed row.flow row.frames < row.frames * c.args.line =
    omega (arith, c.requires.bits, c.from.ensures, c.from-2.ensures, ap (λ n. n * c.args.line) c.from.ensures, c.if-from-line.false) in
    let faster = faster-falls row.flow c.args.gap c.args.line row.frames c.requires.fits.some past in
    omega arith

pub overflow_cast-result : goal.overflow_cast-result
overflow_cast-result c =
    let row = c.args.row.now in
    let past : c.args.gap + flowed row.flow row.frames < row.frames * c.args.line =
    omega (arith, c.requires.bits, c.from.ensures, c.from-2.ensures, ap (λ n. n * c.args.line) c.from.ensures, c.if-from-line.false) in
    let cross = cross-falls row.flow c.args.gap c.args.line row.frames c.requires.fits.some past in
    let inside = cross.inside in
    grind arith

pub overflow_add-result : goal.overflow_add-result
overflow_add-result c =
    let row = c.args.row.now in
    let past : c.args.gap + flowed row.flow row.frames < row.frames * c.args.line =
    omega (arith, c.requires.bits, c.from.ensures, c.from-2.ensures, ap (λ n. n * c.args.line) c.from.ensures, c.if-from-line.false) in
    let cross = cross-falls row.flow c.args.gap c.args.line row.frames c.requires.fits.some past in
    let inside = cross.inside in
    grind arith

pub returns : goal.returns
returns c =
    let row = c.args.row.now in
    let past : c.args.gap + flowed row.flow row.frames < row.frames * c.args.line =
    omega (arith, c.requires.bits, c.from.ensures, c.from-2.ensures, ap (λ n. n * c.args.line) c.from.ensures, c.if-from-line.false) in
    let cross = cross-falls row.flow c.args.gap c.args.line row.frames c.requires.fits.some past in
    let next : c.args.gap * row.flow.frames / (c.args.line * row.flow.frames - row.flow.bits) + 1
    ≡ suc (c.args.gap * row.flow.frames / (c.args.line * row.flow.frames - row.flow.bits)) = omega arith in
    subst (IsCross c.args.gap (flowed row.flow) 0 (λ n. n * c.args.line) row.frames) (sym next) cross
