use Rattle.std.proofs.Common.{◌≡◌, true, replicate, refl, ◌∙◌}
use Rattle.pdh_line.specs.Edits.{half_store}
use Rattle.pdh_packed.specs.Words.{low_bits}
use Rattle.pdh_store.proofs.store.ones.Goals as goal

all_ones : low_bits half_store 281474976710655 ≡ replicate half_store true
unfolding low_bits
all_ones = refl

pub returns : goal.returns
returns c = c.of.ensures.bits ∙ all_ones
