-- The table of what is judged by each frame at a top.
use Rattle.std.proofs.Common.{◌≡◌, List, Bool, refl}
use Rattle.pdh_looking.specs.declared.top.Top.{Top}
use Rattle.pdh_looking.specs.declared.top.Top.TheVariants.{E4, E3, Ds3, E2, Ds2, E1, Ds1Esf, Ds1Sf}
use Rattle.pdh_looking.specs.Judging.{judged_as, tops_in, at_top_of}

pub judged_at : (line : List Bool) (top : Top) → at_top_of (tops_in line) top ≡ judged_as top line
judged_at line E4 = refl
judged_at line E3 = refl
judged_at line Ds3 = refl
judged_at line E2 = refl
judged_at line Ds2 = refl
judged_at line E1 = refl
judged_at line Ds1Esf = refl
judged_at line Ds1Sf = refl
