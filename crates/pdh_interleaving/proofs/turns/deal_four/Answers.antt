use Rattle.std.proofs.Common.{◌∙◌, arith}
use Rattle.pdh_interleaving.proofs.GatherLaws.{four_dealt}
use Rattle.pdh_interleaving.proofs.turns.deal_four.Goals as goal

pub returns : goal.returns
returns c =
    c.append_each.ensures
    ∙ four_dealt c.args.words c.columns4-columns.result c.args.count c.args.tributaries.now (omega arith) c.requires.four c.requires.few (λ j i who within. c.columns4-columns.ensures j i who within)
