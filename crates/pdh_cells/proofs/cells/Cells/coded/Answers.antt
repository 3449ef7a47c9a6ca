use Rattle.std.proofs.Common.{suc, arith}
use Rattle.std.specs.Prelude.{max}
use Rattle.pdh_cells.proofs.Keeping.{code_stands}
use Rattle.pdh_cells.proofs.cells.Cells.coded.Goals as goal

pub returns : goal.returns
returns c lanes end stands le =
    code_stands c.widen_to.new.self c.put.new.self lanes (max end (suc c.args.code.place)) c.args.code c.of_code.result (c.widen_to.ensures.stands lanes end stands) (omega (arith, le))
    c.put.ensures.shift c.of_code.ensures c.put.ensures.each
