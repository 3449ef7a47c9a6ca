use Rattle.std.proofs.Common.{◌≡◌, ◌<◌, length, refl, sym, ap, ◌∙◌, arith}
use Rattle.pdh_rx.proofs.Standing.{loaded_last, in_turn}
use Rattle.pdh_rx.proofs.strip.Strip.place.Goals as goal

pub turn-requires-clause-inside : goal.turn-requires-clause-inside
turn-requires-clause-inside g c = (let long : length c.bits.result.now.bits ≡ length c.args.self.now.bits = ap length c.bits.ensures in omega (arith, c.if-before-len.false, c.len.ensures.count, long, c.requires.few))

pub returns-then-before-len : goal.returns-then-before-len
returns-then-before-len g c =
    let known : c.args.trib < g.S.Shape.shape.tribs = omega (arith, c.requires.known, g.met.S.Shape.tribs_is) in
    loaded_last g.S.Shape.shape c.args.self.now.gap c.args.self.now.frame c.args.trib g.met.S.Shape.in_turn g.met.S.Shape.has_tributaries known c.args.self.now.bits c.args.before c.places-places.result c.requires.read
    (c.if-before-len.true ∙ c.len.ensures.count ∙ ap length c.bits.ensures) c.places-places.ensures

pub overflow_mul-result : goal.overflow_mul-result
overflow_mul-result g c =
    let stands = in_turn g.S.Shape.shape c.args.self.now.gap c.args.self.now.frame c.args.self.now.bits c.args.trib c.args.before c.turn.result c.from.result c.args.trib g.met.S.Shape.in_turn g.met.S.Shape.has_tributaries (omega (arith, c.requires.known, g.met.S.Shape.tribs_is)) c.requires.read
    (omega (arith, c.if-before-len.false, c.len.ensures.count, ap length c.bits.ensures, c.requires.few)) c.turn.ensures.gap c.turn.ensures.frame (c.from.ensures ∙ c.TRIBS.ensures ∙ sym g.met.S.Shape.tribs_is) refl in
    omega (arith, stands.within, c.places-places.ensures, c.places-places.type_inv)

pub overflow_add-result : goal.overflow_add-result
overflow_add-result g c =
    let stands = in_turn g.S.Shape.shape c.args.self.now.gap c.args.self.now.frame c.args.self.now.bits c.args.trib c.args.before c.turn.result c.from.result c.from-2.result g.met.S.Shape.in_turn g.met.S.Shape.has_tributaries (omega (arith, c.requires.known, g.met.S.Shape.tribs_is)) c.requires.read
    (omega (arith, c.if-before-len.false, c.len.ensures.count, ap length c.bits.ensures, c.requires.few)) c.turn.ensures.gap c.turn.ensures.frame (c.from.ensures ∙ c.TRIBS.ensures ∙ sym g.met.S.Shape.tribs_is) c.from-2.ensures in
    omega (arith, stands.within, c.places-places.ensures, c.places-places.type_inv)

pub returns : goal.returns
returns g c =
    in_turn g.S.Shape.shape c.args.self.now.gap c.args.self.now.frame c.args.self.now.bits c.args.trib c.args.before c.turn.result c.from.result c.from-2.result g.met.S.Shape.in_turn g.met.S.Shape.has_tributaries (omega (arith, c.requires.known, g.met.S.Shape.tribs_is)) c.requires.read
    (omega (arith, c.if-before-len.false, c.len.ensures.count, ap length c.bits.ensures, c.requires.few)) c.turn.ensures.gap c.turn.ensures.frame (c.from.ensures ∙ c.TRIBS.ensures ∙ sym g.met.S.Shape.tribs_is) c.from-2.ensures
