use Rattle.std.proofs.Common.{ap, ◌∙◌}
use Rattle.std.specs.Prelude.{count_by}
use Rattle.pdh_ds1.specs.Machine.{counted}
use Rattle.pdh_ds1.specs.View.{errors_in}
use Rattle.pdh_claims_of_streams.proofs.ds1.blocks_told_as_errored.Goals as goal

pub returns : goal.returns
returns c line stands extended is =
    c.errored.ensures line stands ∙ ap (λ form. errors_in form line) extended ∙ ap (λ judged. counted (count_by (λ errored. errored) judged)) is
