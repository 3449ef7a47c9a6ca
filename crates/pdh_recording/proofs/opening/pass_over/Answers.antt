use Rattle.std.proofs.Common.{arith, length-take}
use Rattle.pdh_recording.proofs.Beginning.{passes_more}
use Rattle.pdh_recording.proofs.opening.pass_over.Goals as goal

pub loop-passed-preserved : goal.loop-passed-preserved
loop-passed-preserved g c = record {
  within = omega (arith, c.fill-filled.ensures.few, c.fill-filled.auto.buffer, c.min-wanted.ensures, length-take c.min-wanted.result c.loop-passed.block);
  passes = passes_more _ _ _ _ _ _ c.fill-filled.ensures.few c.loop-passed.invariant.passes c.fill-filled.ensures.read;
}
