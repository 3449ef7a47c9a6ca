use Rattle.pdh_packed.specs.Words.{low_bits}
use Rattle.pdh_packed.proofs.BoundedLaws.{taken_grow, taken_last}
use Rattle.pdh_packed.proofs.ring.BitRing.append_from.Goals as goal

pub loop-done-preserved : goal.loop-done-preserved
loop-done-preserved c =
    taken_grow c.args.self.now c.loop-done.self c.append_number.new.self c.args.list.now.bits (low_bits 64 c.read_whole.result) c.args.place c.loop-done.done 64 c.args.count c.loop-done.invariant.0 c.loop-done-test.true c.loop-done.invariant.1 c.append_number.ensures c.read_whole.ensures

pub returns : goal.returns
returns c = taken_last c.args.self.now c.loop-done.self c.append.new.self c.args.list.now.bits c.read.result c.args.place c.loop-done.done c.args.count c.loop-done.invariant.0 c.loop-done.invariant.1 c.append.ensures c.read.ensures
