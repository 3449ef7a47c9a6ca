use Rattle.std.proofs.Common.{◌≤◌, ◌-◌, not, drop}
use Rattle.std.specs.List.{prefix_len}
use Rattle.pdh_packed.specs.Words.{bits_of_words}
use Rattle.pdh_packed.proofs.bit_array.zeros_of_words.Given as goal

-- so many zeros stand there, or more
abbrev pub invariant-loop-zeros : goal.invariant-loop-zeros
invariant-loop-zeros l = (l.zeros ≤ prefix_len not (drop l.place (bits_of_words l.words))) × (l.zeros ≤ l.most)

abbrev pub decreases-loop-zeros : goal.decreases-loop-zeros
decreases-loop-zeros l = l.most - l.zeros
