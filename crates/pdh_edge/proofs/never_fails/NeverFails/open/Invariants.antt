use Rattle.std.proofs.Common.{map}
use Rattle.std.specs.String.{string_bytes}
use Rattle.pdh_edge.specs.NeverFails.{held_in, HoldsFirst}
use Rattle.pdh_edge.proofs.never_fails.NeverFails.open.Given as goal

-- the first names have their files
abbrev pub invariant-loop-place : goal.invariant-loop-place
invariant-loop-place l = HoldsFirst l.place (map string_bytes l.fn.names) (map (λ file. file.items) l.fn.files) (held_in l.inputs)
