use Rattle.std.proofs.Common.{suc, arith}
use Rattle.std.specs.Prelude.{max}
use Rattle.pdh_cells.proofs.Keeping.{block_stands}
use Rattle.pdh_cells.proofs.cells.Cells.errored.Goals as goal

pub returns : goal.returns
returns c lanes end stands le =
    block_stands c.widen_to.new.self c.put.new.self lanes (max end (suc c.args.place)) c.args.place c.of_block.result (c.widen_to.ensures.stands lanes end stands) (omega (arith, le))
    c.put.ensures.shift c.of_block.ensures c.put.ensures.each
