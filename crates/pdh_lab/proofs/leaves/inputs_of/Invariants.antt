use Rattle.pdh_lab.specs.Steps.{AreInputs}
use Rattle.pdh_lab.proofs.leaves.inputs_of.Given as goal

abbrev pub invariant-loop-leaf : goal.invariant-loop-leaf
invariant-loop-leaf l = AreInputs l.fn.chain l.fn.seed l.fn.frames l.leaf l.inputs.items
