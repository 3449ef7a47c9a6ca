use Rattle.std.proofs.Common.{◌≡◌, ◌++◌, length}
use Rattle.pdh_watch.proofs.KindNames.{first_names}
use Rattle.pdh_watch.proofs.names.append_names.Given as goal

-- the names of the first kinds were appended
abbrev pub invariant-loop-i : goal.invariant-loop-i
invariant-loop-i l = record {
  named : l.text ≡ l.fn.text ++ first_names l.set l.i;
  start : l.from ≡ length l.fn.text;
}
