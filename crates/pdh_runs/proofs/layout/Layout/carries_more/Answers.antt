use Rattle.std.proofs.Common.{◌<◌, length, not, sym, ap, ◌∙◌, arith}
use Rattle.pdh_shape.specs.Tributary.{control_ones, is_majority}
use Rattle.pdh_runs.proofs.SlotLaws.{controls_inside, ones_counted, ones_few}
use Rattle.pdh_runs.proofs.layout.Layout.carries_more.Goals as goal

pub count_ones-requires : goal.count_ones-requires
count_ones-requires g c =
    let s = g.S.Shape.shape in
    controls_inside s c.args.trib c.deref.result.now (c.deref.ensures.value ∙ c.tributary.ensures.control_are) (length c.args.frame.now.bits) (g.met.S.Shape.len_is ∙ sym c.requires.whole)

pub overflow_cast-count_ones : goal.overflow_cast-count_ones
overflow_cast-count_ones g c =
    let s = g.S.Shape.shape in
    let known : c.args.trib < s.tribs = omega (arith, c.requires.known, g.met.S.Shape.tribs_is) in
    let ones = ones_counted s c.args.trib c.deref.result.now (c.deref.ensures.value ∙ c.tributary.ensures.control_are) c.args.frame.now.bits c.count_ones.result c.count_ones.ensures in
    omega (arith, ones, ones_few s c.args.trib c.args.frame.now.bits g.met.S.Shape.has_tributaries known, g.met.S.Shape.copies_is, c.COPIES-copies.ensures, c.COPIES-copies.type_inv)

pub majority-requires-clause-in_range : goal.majority-requires-clause-in_range
majority-requires-clause-in_range g c =
    let s = g.S.Shape.shape in
    let known : c.args.trib < s.tribs = omega (arith, c.requires.known, g.met.S.Shape.tribs_is) in
    let ones = ones_counted s c.args.trib c.deref.result.now (c.deref.ensures.value ∙ c.tributary.ensures.control_are) c.args.frame.now.bits c.count_ones.result c.count_ones.ensures in
    omega (arith, ones, ones_few s c.args.trib c.args.frame.now.bits g.met.S.Shape.has_tributaries known, g.met.S.Shape.copies_is, c.COPIES-copies.ensures)

pub returns : goal.returns
returns g c =
    let s = g.S.Shape.shape in
    let ones = ones_counted s c.args.trib c.deref.result.now (c.deref.ensures.value ∙ c.tributary.ensures.control_are) c.args.frame.now.bits c.count_ones.result c.count_ones.ensures in
    ap not (c.majority.ensures ∙ ap (λ n. is_majority n c.COPIES-copies.result) ones ∙ ap (is_majority (control_ones s c.args.trib c.args.frame.now.bits)) (c.COPIES-copies.ensures ∙ sym g.met.S.Shape.copies_is))
