use Rattle.std.proofs.Common.{◌∙◌}
use Rattle.pdh_packed.proofs.ByteLaws.{bytes_of_low}
use Rattle.pdh_packed.proofs.packed.Packed.write_word.Goals as goal

pub returns : goal.returns
returns c = c.copy_from_slice.ensures.after ∙ c.to_be_bytes.ensures ∙ bytes_of_low _ _ c.read_whole.ensures
