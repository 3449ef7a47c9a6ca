use Rattle.std.proofs.Common.{◌≡◌, length, arith, rules}
use Rattle.pdh_health.proofs.Keeping.{one_more_kept}
use Rattle.pdh_health.proofs.codes.FirstCodes.plus.Goals as goal

pub returns : goal.returns
returns c all is =
    let room : length c.args.self.codes ≡ 3 = search rules in
    one_more_kept c.args.self.count c.args.self.codes all c.args.code room (omega arith) is
