use Rattle.std.proofs.Common.{◌≡◌, ◌++◌, take, drop}
use Rattle.pdh_looking.specs.Nearest.{put_among}
use Rattle.pdh_looking.proofs.nearest.Nearest.place.Given as goal

-- its place is behind the others so far
abbrev pub invariant-loop-index : goal.invariant-loop-index
invariant-loop-index l = put_among l.self l.others ≡ take l.index l.others ++ put_among l.self (drop l.index l.others)
