use Rattle.std.proofs.Common.{ap, ◌+◌, ◌*◌, ◌%◌}
use Rattle.pdh_patterns.specs.Pattern.{state_after}
use Rattle.pdh_patterns.proofs.pattern.Pattern.new.Goals as goal

pub returns : goal.returns
unfolding state_after
returns c = ap (λ leaf. (64 * c.args.seed + leaf) % 32767 + 1) c.from.ensures
