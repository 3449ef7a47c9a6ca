use Rattle.std.proofs.Common.{◌∙◌}
use Rattle.pdh_chain.proofs.ChainLaws.{delay-by_levels}
use Rattle.pdh_chain.proofs.chain.delay.Goals as goal

pub returns : goal.returns
returns c = c.delay.ensures ∙ delay-by_levels c.args.chain c.levels.result.now c.levels.ensures.value
