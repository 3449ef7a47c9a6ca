use Rattle.std.proofs.Common.{◌≡◌, Bool, false, List, take, drop, sym, ◌∙◌, ap, refl, arith}
use Rattle.std.specs.List.{range_with_len, list_all}
use Rattle.pdh_g706.specs.Frames.{frames_of}
use Rattle.pdh_g706.proofs.HeldLaws.{multi_test, has_multi_is, all_more, all_fails}
use Rattle.pdh_e1_judging.proofs.SignalTests.{multi_in}
use Rattle.pdh_e1_judging.proofs.multiframes.has_multiframe_signal.Goals as goal

pub returns-then-get-number : goal.returns-then-get-number
returns-then-get-number c =
    let frames : List (List Bool) = frames_of (take 4096 (drop c.args.start c.args.line.now.bits)) in
    let here : multi_test frames 0 c.loop-number.number ≡ false =
    multi_in c.args.line.now.bits c.args.start c.loop-number.number c.get.result _ _ c.requires c.loop-number-test.true c.get.ensures refl c.if-get-number.true in
    sym (has_multi_is frames 0 ∙ all_fails (multi_test frames 0) c.loop-number.number 6 c.loop-number-test.true here)

pub loop-number-preserved : goal.loop-number-preserved
loop-number-preserved c =
    let frames : List (List Bool) = frames_of (take 4096 (drop c.args.start c.args.line.now.bits)) in
    all_more (multi_test frames 0) c.loop-number.number c.loop-number.invariant
    (multi_in c.args.line.now.bits c.args.start c.loop-number.number c.get.result _ _ c.requires c.loop-number-test.true c.get.ensures refl c.if-get-number.false)

pub returns : goal.returns
returns c =
    let frames : List (List Bool) = frames_of (take 4096 (drop c.args.start c.args.line.now.bits)) in
    let all : 6 ≡ c.loop-number.number = omega arith in
    sym (has_multi_is frames 0 ∙ ap (λ n. list_all (multi_test frames 0) (range_with_len 0 n)) all ∙ c.loop-number.invariant)
