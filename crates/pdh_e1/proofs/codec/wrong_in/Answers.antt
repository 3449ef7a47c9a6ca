use Rattle.std.proofs.Common.{◌≡◌, ◌+◌, ◌*◌, ◌/◌, subst, arith}
use Rattle.pdh_e1.specs.Codec.{RightUpTo}
use Rattle.pdh_e1.proofs.PackingLaws.{right_more, first_wrong_is}
use Rattle.pdh_e1.proofs.codec.wrong_in.Goals as goal

pub returns-then-not-is_right : goal.returns-then-not-is_right
returns-then-not-is_right c =
    let number = c.args.number in
    let place = c.loop-place.place in
    let within : (8 * number + place) / 8 ≡ number = omega arith in
    first_wrong_is c.args.line.now (8 * number + place) number c.sent_word-word.result c.is_right.result c.loop-place.invariant (omega arith) within c.sent_word-word.ensures.word c.is_right.ensures c.if-not-is_right.true

pub loop-place-preserved : goal.loop-place-preserved
loop-place-preserved c =
    let number = c.args.number in
    let place = c.loop-place.place in
    let within : (8 * number + place) / 8 ≡ number = omega arith in
    let next : 8 * number + place + 1 ≡ 8 * number + (place + 1) = omega arith in
    subst (RightUpTo c.args.line.now) next (right_more c.args.line.now (8 * number + place) number c.sent_word-word.result c.is_right.result c.loop-place.invariant within c.sent_word-word.ensures.word c.is_right.ensures c.if-not-is_right.false)
