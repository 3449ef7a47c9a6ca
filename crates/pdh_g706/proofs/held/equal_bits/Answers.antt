use Rattle.std.proofs.Common.{Bool, map, sym, ◌∙◌, ap}
use Rattle.std.specs.Bool.{beq}
use Rattle.pdh_g706.proofs.SignalLaws.{equal_ones, equal_zeros}
use Rattle.pdh_g706.proofs.held.equal_bits.Goals as goal

pub returns-then-bit : goal.returns-then-bit
returns-then-bit c = equal_ones c.args.bits ∙ ap (λ (one : Bool). map (λ b. beq b one) c.args.bits) (sym c.if-bit.true)

pub returns : goal.returns
returns c = c.inverted.ensures ∙ equal_zeros c.args.bits ∙ ap (λ (one : Bool). map (λ b. beq b one) c.args.bits) (sym c.if-bit.false)
