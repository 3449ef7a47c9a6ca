use Rattle.std.proofs.Common.{sym, ◌∙◌, arith}
use Rattle.pdh_runs.proofs.TakingLaws.{dealt_columns}
use Rattle.pdh_runs.proofs.layout.Layout.fill_columns.Goals as goal

pub returns-in-4 : goal.returns-in-4
returns-in-4 g c =
    dealt_columns g.S.Shape.shape c.args.frame.now.bits c.args.columns.now c.deal_by_four.new.tributaries _ g.met.S.Shape.in_turn c.deal_by_four.ensures (c.requires.tributaries ∙ sym g.met.S.Shape.tribs_is) (omega (arith, g.met.S.Shape.low_is))
    c.requires.empty (λ j d h. omega (arith, c.requires.room j d h, g.met.S.Shape.low_is))

pub returns-in-7 : goal.returns-in-7
returns-in-7 g c =
    dealt_columns g.S.Shape.shape c.args.frame.now.bits c.args.columns.now c.deal_by_seven.new.tributaries _ g.met.S.Shape.in_turn c.deal_by_seven.ensures (c.requires.tributaries ∙ sym g.met.S.Shape.tribs_is) (omega (arith, g.met.S.Shape.low_is))
    c.requires.empty (λ j d h. omega (arith, c.requires.room j d h, g.met.S.Shape.low_is))
