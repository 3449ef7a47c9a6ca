-- What comes back in a drill, and how late.
use Rattle.std.specs.Prelude.{◌≡◌, ℕ, ⊤, Option, Some}
use Rattle.pdh_lab.specs.Drill.{drill_of, IsInTime}
use Rattle.pdh_words.specs.declared.commands.Command.{Command}
use Rattle.pdh_words.specs.declared.commands.Command.TheVariants.{Drill}

-- After status 0 of `drill`, every leaf came back in order, and no later than the chain's delay.
abbrev pub AreInTime : Option Command → ℕ → Type 0
AreInTime (Some (Drill chain seed frames)) status = status ≡ 0 → IsInTime chain (drill_of chain seed frames)
AreInTime _ status = ⊤
