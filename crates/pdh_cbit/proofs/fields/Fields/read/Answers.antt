use Rattle.std.proofs.Common.{◌∙◌, rules}
use Rattle.pdh_cbit.proofs.FieldsLemmas.{same_number}
use Rattle.pdh_cbit.proofs.fields.Fields.read.Goals as goal

pub returns-clause-fields : goal.returns-clause-fields
returns-clause-fields c = search rules

pub returns-clause-only : goal.returns-clause-only
returns-clause-only c d below same = same_number c.args.c d c.requires below (same ∙ returns-clause-fields c)
