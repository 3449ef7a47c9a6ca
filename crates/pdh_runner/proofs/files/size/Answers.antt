use Rattle.std.proofs.Common.{◌∙◌}
use Rattle.pdh_runner.proofs.Touching.{has_length}
use Rattle.pdh_runner.proofs.files.size.Goals as goal

pub returns-in-Ok-Some-clause-ok : goal.returns-in-Ok-Some-clause-ok
returns-in-Ok-Some-clause-ok g c =
    let size = rw c.in-Ok-Some.field-0-is at c.in-Ok-Some.ensures.ok in
    has_length _ _ _ _ _ (c.as_str.ensures.value ∙ c.name.ensures.value) c.size.ensures.kept size
