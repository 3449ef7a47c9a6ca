-- Which seconds are unavailable (ITU-T G.826, Annex A).
use Rattle.std.specs.Prelude.{Bool, true, false, nat_le, if◌then◌else◌, List, [], ◌∷◌}
use Rattle.std.specs.Bool.{beq}
use Rattle.std.specs.List.{prefix_len}
use Rattle.pdh_seconds.specs.declared.second.Second.{Second}

-- a second is severely errored, or isn't
abbrev pub has_severity : Bool → Second → Bool
has_severity severe second = beq second.severe severe

-- ten seconds in a row that are severely errored, or ten that aren't, begin with the first of these
abbrev pub begins_ten : Bool → List Second → Bool
begins_ten severe seconds = nat_le 10 (prefix_len (has_severity severe) seconds)

-- The first of these seconds is unavailable: ten severely errored ones in a row begin unavailable time and ten others end
-- it, each with the first of the ten, and else a second is as the time before it.
abbrev pub is_unavailable : Bool → List Second → Bool
is_unavailable before seconds = (if begins_ten true seconds then true else (if begins_ten false seconds then false else before))

-- a second, and whether it is unavailable
pub record Told : Type 0 where
  pub second : Second
  pub unavailable : Bool

abbrev pub told_as : Bool → Second → Told
told_as unavailable second = record { second = second; unavailable = unavailable }

-- each of these seconds with whether it is unavailable, where the time before them is unavailable or not
abbrev pub told_after : Bool → List Second → List Told
told_after before [] = []
told_after before (second ∷ later) =
    told_as (is_unavailable before (second ∷ later)) second ∷ told_after (is_unavailable before (second ∷ later)) later

-- each second of a line: the time before it is available
abbrev pub told : List Second → List Told
told seconds = told_after false seconds
