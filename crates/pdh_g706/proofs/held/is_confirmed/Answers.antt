use Rattle.std.proofs.Common.{sym, ◌∙◌, arith}
use Rattle.pdh_g706.proofs.HeldLaws.{confirmed_first, confirmed_second, confirmed_third, bit_in_frame}
use Rattle.pdh_g706.proofs.held.is_confirmed.Goals as goal

pub returns-then-not-has_signal : goal.returns-then-not-has_signal
returns-then-not-has_signal c = sym (confirmed_first c.args.held.now.bits (sym c.has_signal.ensures ∙ c.if-not-has_signal.true))

pub returns-then-not-bit : goal.returns-then-not-bit
returns-then-not-bit c =
    sym (confirmed_second c.args.held.now.bits (bit_in_frame c.args.held.now.bits 256 1 256 (omega arith) ∙ sym c.bit.ensures ∙ c.if-not-bit.true))

pub returns : goal.returns
returns c =
    c.has_signal-2.ensures
    ∙ sym (confirmed_third c.args.held.now.bits c.requires (sym c.has_signal.ensures ∙ c.if-not-has_signal.false) (bit_in_frame c.args.held.now.bits 256 1 256 (omega arith) ∙ sym c.bit.ensures ∙ c.if-not-bit.false))
