use Rattle.std.proofs.Common.{Bool, List, ◌++◌, take}
use Rattle.pdh_phases.specs.Keeping.{StandsFor}
use Rattle.pdh_align.proofs.search.push_word.Given as goal

-- the bits so far are taken
abbrev pub invariant-loop-place : goal.invariant-loop-place
invariant-loop-place g l = (before : List Bool) → StandsFor g.S.Shape.shape l.initial.phases before → StandsFor g.S.Shape.shape l.phases (before ++ take l.place l.word)
