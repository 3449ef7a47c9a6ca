use Rattle.std.proofs.Common.{◌≡◌, false, sym, ◌∙◌, ap, refl, arith}
use Rattle.std.specs.List.{range_with_len, list_all}
use Rattle.pdh_g706.specs.Frames.{frames_of}
use Rattle.pdh_g706.proofs.HeldLaws.{multi_test, multi_at, has_multi_is, all_more, all_fails}
use Rattle.pdh_g706.proofs.held.has_multi.Goals as goal

pub returns-then-bit-number : goal.returns-then-bit-number
returns-then-bit-number c =
    let frames = frames_of c.args.held.now.bits in
    let here : multi_test frames c.args.frame c.loop-number.number ≡ false = multi_at c.args.held.now.bits c.args.frame c.loop-number.number c.bit.result _ _ c.loop-number-test.true c.requires c.bit.ensures refl c.if-bit-number.true in
    sym (has_multi_is frames c.args.frame ∙ all_fails (multi_test frames c.args.frame) c.loop-number.number 6 c.loop-number-test.true here)

pub loop-number-preserved : goal.loop-number-preserved
loop-number-preserved c =
    let frames = frames_of c.args.held.now.bits in
    all_more (multi_test frames c.args.frame) c.loop-number.number c.loop-number.invariant
    (multi_at c.args.held.now.bits c.args.frame c.loop-number.number c.bit.result _ _ c.loop-number-test.true c.requires c.bit.ensures refl c.if-bit-number.false)

pub returns : goal.returns
returns c =
    let frames = frames_of c.args.held.now.bits in
    let all : 6 ≡ c.loop-number.number = omega arith in
    sym (has_multi_is frames c.args.frame ∙ ap (λ n. list_all (multi_test frames c.args.frame) (range_with_len 0 n)) all ∙ c.loop-number.invariant)
