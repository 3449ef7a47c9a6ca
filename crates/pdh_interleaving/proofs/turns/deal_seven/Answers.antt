use Rattle.std.proofs.Common.{◌∙◌, arith}
use Rattle.pdh_interleaving.proofs.EightLaws.{seven_dealt}
use Rattle.pdh_interleaving.proofs.turns.deal_seven.Goals as goal

pub returns : goal.returns
returns c =
    c.append_each.ensures
    ∙ seven_dealt c.args.words c.columns7-columns.result c.rows_in_bytes.result c.rows_in_bytes-2.result c.rows_in_bytes-3.result c.rows_in_bytes-4.result
    c.rows_in_bytes-5.result c.rows_in_bytes-6.result c.rows_in_bytes-7.result c.rows_in_bytes-8.result c.args.count c.args.tributaries.now
    (omega arith) c.requires.seven c.requires.few c.rows_in_bytes.ensures c.rows_in_bytes-2.ensures c.rows_in_bytes-3.ensures c.rows_in_bytes-4.ensures
    c.rows_in_bytes-5.ensures c.rows_in_bytes-6.ensures c.rows_in_bytes-7.ensures c.rows_in_bytes-8.ensures (λ j i who within. c.columns7-columns.ensures j i who within)
