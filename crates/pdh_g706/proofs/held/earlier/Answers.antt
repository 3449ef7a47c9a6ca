use Rattle.std.proofs.Common.{sym, ◌∙◌, arith}
use Rattle.pdh_g706.specs.Frames.{frames_of}
use Rattle.pdh_g706.proofs.HeldLaws.{earlier_found, earlier_none}
use Rattle.pdh_g706.proofs.held.earlier.Goals as goal

pub returns-then-has_multi : goal.returns-then-has_multi
returns-then-has_multi c =
    earlier_found (frames_of c.args.held.now.bits) c.args.second c.loop-first.first (omega arith) c.loop-first.invariant (omega arith) (sym c.has_multi.ensures ∙ c.if-has_multi.true)

pub returns : goal.returns
returns c = earlier_none (frames_of c.args.held.now.bits) c.args.second (λ j lt. c.loop-first.invariant j (omega arith))
