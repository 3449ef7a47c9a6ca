use Rattle.std.proofs.Common.{arith}
use Rattle.pdh_packed.proofs.BoundedLaws.{length-packed}
use Rattle.pdh_packed.proofs.packed.Packed.len.Goals as goal

pub overflow_mul-result : goal.overflow_mul-result
overflow_mul-result c =
    omega (arith, c.self.invariant, c.self.inside.words.ok)

pub overflow_add-result : goal.overflow_add-result
overflow_add-result c =
    omega (arith, c.self.invariant, c.self.inside.words.ok)

pub returns-clause-count : goal.returns-clause-count
returns-clause-count c =
    let long = length-packed c.self.inside.capacity c.self.inside.words.items c.self.inside.tail c.args.self.now c.self.view_is in
    omega (arith, long.0, c.self.inside.words.ok)

pub returns-clause-bounded : goal.returns-clause-bounded
returns-clause-bounded c =
    let long = length-packed c.self.inside.capacity c.self.inside.words.items c.self.inside.tail c.args.self.now c.self.view_is in
    omega (arith, long.0, long.1, c.self.invariant)
