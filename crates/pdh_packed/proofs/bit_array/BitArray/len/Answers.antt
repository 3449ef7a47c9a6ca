use Rattle.std.proofs.Common.{length, sym, ap, ◌∙◌}
use Rattle.pdh_packed.proofs.ArrayLaws.{length-seen}
use Rattle.pdh_packed.proofs.bit_array.BitArray.len.Goals as goal

pub returns : goal.returns
returns c = sym (length-seen c.self.inside.len c.self.inside.words.items c.self.invariant.0) ∙ ap length c.self.view_is
