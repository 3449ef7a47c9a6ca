use Rattle.std.proofs.Common.{◌≡◌, ℕ, Bool, false, sym, ◌∙◌, ap, arith}
use Rattle.std.specs.List.{range_with_len, list_all}
use Rattle.pdh_g706.proofs.HeldLaws.{all_more, all_fails}
use Rattle.pdh_e1_judging.proofs.SignalTests.{signal_test, signal_in}
use Rattle.pdh_e1_judging.proofs.multiframes.has_frame_signals.Goals as goal

pub returns-then-not-has_signal : goal.returns-then-not-has_signal
returns-then-not-has_signal c =
    let test : ℕ → Bool = signal_test c.args.line.now.bits c.args.start in
    let here : test c.loop-pair.pair ≡ false = signal_in c.args.line.now.bits c.args.start c.loop-pair.pair c.requires c.loop-pair-test.true ∙ sym c.has_signal.ensures ∙ c.if-not-has_signal.true in
    sym (all_fails test c.loop-pair.pair 8 c.loop-pair-test.true here)

pub loop-pair-preserved : goal.loop-pair-preserved
loop-pair-preserved c =
    all_more (signal_test c.args.line.now.bits c.args.start) c.loop-pair.pair c.loop-pair.invariant
    (signal_in c.args.line.now.bits c.args.start c.loop-pair.pair c.requires c.loop-pair-test.true ∙ sym c.has_signal.ensures ∙ c.if-not-has_signal.false)

pub returns : goal.returns
returns c =
    let all : 8 ≡ c.loop-pair.pair = omega arith in
    sym (ap (λ n. list_all (signal_test c.args.line.now.bits c.args.start) (range_with_len 0 n)) all ∙ c.loop-pair.invariant)
