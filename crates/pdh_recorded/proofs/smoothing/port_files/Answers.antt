use Rattle.std.proofs.Common.{◌∷◌, ◌++◌, [], List, ap, ◌∙◌}
use Rattle.pdh_answers.specs.declared.file.File.{File}
use Rattle.pdh_answers.specs.declared.file.File.TheVariants.{ScheduleOut}
use Rattle.pdh_recorded.proofs.smoothing.port_files.Goals as goal

pub returns-clause-outputs : goal.returns-clause-outputs
returns-clause-outputs c = c.in_ok-push.ensures.items ∙ ap (λ (files : List File). files ++ ScheduleOut ∷ []) c.in_ok-files.ensures.outputs
