-- none of the flags so far is that of the kind
use Rattle.std.proofs.Common.{◌≡◌, map, drop}
use Rattle.pdh_following.specs.Rows.{name_in}
use Rattle.pdh_following.proofs.names.kind_name.Given as goal

abbrev pub invariant-loop-flag : goal.invariant-loop-flag
invariant-loop-flag l =
    name_in (map (λ flag. (flag.name.now, flag.value.0)) l.flag-items) l.kind.0 ≡ name_in (map (λ flag. (flag.name.now, flag.value.0)) (drop l.flag-index l.flag-items)) l.kind.0
