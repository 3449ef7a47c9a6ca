use Rattle.std.proofs.Common.{◌++◌, take, drop}
use Rattle.pdh_claims_of_alignment.proofs.align.last_passed_bit_is_not_searched.Goals as goal

pub returns-in-Some : goal.returns-in-Some
returns-in-Some g c some line q stands ends =
    let now = line ++ take c.pass-count.result (drop c.args.from c.args.bits.now.bits) in
    c.run_at-run.ensures (drop q now) (c.in-Some.ensures.stands now q (c.pass-count.ensures.passes some line stands).stands ends)
