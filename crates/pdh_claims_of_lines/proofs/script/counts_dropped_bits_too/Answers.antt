use Rattle.std.specs.Prelude.{List, length}
use Rattle.std.proofs.Common.{refl, ap, ◌∙◌}
use Rattle.pdh_script.specs.Scripts.{Row, disturbed, four_bits}
use Rattle.pdh_claims_of_lines.proofs.script.counts_dropped_bits_too.Goals as goal

pub returns : goal.returns
returns c = c.bits_of.ensures four_bits refl ∙ ap (λ (rows : List Row). length (disturbed four_bits rows)) c.requires.rows
