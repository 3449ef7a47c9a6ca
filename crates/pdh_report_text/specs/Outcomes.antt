-- What is said of a recording.
use Rattle.std.specs.Prelude.{◌<◌}
use Rattle.pdh_report_text.specs.declared.outcome.Outcome.{Outcome}
use Rattle.pdh_report_text.specs.declared.outcome.Outcome.TheVariants.{AllOnes, AllZeros, Nothing, Read}

-- where it was read, its top has a rate
abbrev pub HasRate : Outcome → Type 0
HasRate AllOnes = Unit {0}
HasRate AllZeros = Unit {0}
HasRate (Nothing _ _) = Unit {0}
HasRate (Read report _) = 0 < report.now.rate
