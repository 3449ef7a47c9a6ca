use Rattle.std.proofs.Common.{◌++◌, List, Bool, take, drop, ap, ◌∙◌, arith}
use Rattle.pdh_readings.specs.Orders.{read_as}
use Rattle.pdh_looking.specs.Judging.{line_of}
use Rattle.pdh_looking.proofs.Cuts.{cut_is}
use Rattle.pdh_looking.proofs.reading.cut.Goals as goal

pub returns : goal.returns
unfolding line_of
returns c =
    let all : List Bool = c.in_ok-all.all.bits in
    ap (λ line. line.bits) c.append_from.ensures
    ∙ ap (λ line. line.bits ++ take c.min-count.result (drop c.min-begin.result all)) c.in_ok-line.ensures
    ∙ cut_is c.args.from c.args.bits c.min-begin.result c.min-count.result all (read_as c.args.order c.args.bytes.now) c.in_ok-all.ensures
    (omega (arith, c.min-begin.ensures, c.len.ensures.count)) (omega (arith, c.min-count.ensures, c.len-2.ensures.count))
