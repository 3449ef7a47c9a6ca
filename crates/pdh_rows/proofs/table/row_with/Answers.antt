use Rattle.std.proofs.Common.{leb, rules}
use Rattle.std.proofs.lemmas.List.Sorted.{IsPartitionedBy-leb, IsPartitionPoint-from_clause}
use Rattle.pdh_rows.proofs.Located.{IsLocated, located}
use Rattle.pdh_rows.proofs.table.row_with.Goals as goal

known : (c : goal.After-partition_point) → IsLocated c.args.firsts.now c.args.frame c.partition_point.result
known c =
    let parts = IsPartitionPoint-from_clause (λ first. leb first c.args.frame) _ _ c.partition_point.ensures.partitioned
    (IsPartitionedBy-leb (λ first. first) c.args.firsts.now c.args.frame c.requires.rising) (λ a r q k. search rules) in
    located c.args.firsts.now c.args.frame c.partition_point.result c.requires.begun c.requires.ended
    c.partition_point.ensures.bound parts

pub overflow_sub-result : goal.overflow_sub-result
overflow_sub-result c = (known c).some

pub returns-clause-row : goal.returns-clause-row
returns-clause-row c = (known c).row

pub returns-clause-first : goal.returns-clause-first
returns-clause-first c = (known c).first

pub returns-clause-next : goal.returns-clause-next
returns-clause-next c = (known c).next
