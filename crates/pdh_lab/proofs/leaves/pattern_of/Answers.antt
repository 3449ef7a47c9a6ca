use Rattle.std.proofs.Common.{◌≡◌, length, ap, ◌∙◌, arith}
use Rattle.pdh_line.proofs.SentFrames.{length-front}
use Rattle.pdh_patterns.specs.Pattern.{pattern_bit}
use Rattle.pdh_lab.proofs.leaves.pattern_of.Goals as goal

pub append-requires : goal.append-requires
append-requires c =
    let inv = c.loop-made.invariant in
    let long : length c.loop-made.list.bits ≡ c.loop-made.made = ap length inv.list ∙ length-front (pattern_bit c.args.seed c.args.leaf) c.loop-made.made in
    record { room = omega (arith, long, inv.room, c.loop-made-test.true, c.min-count.ensures, c.word.ensures.count) }
