use Rattle.std.proofs.Common.{◌≡◌, length}
use Rattle.pdh_report_text.proofs.listing.listing.Given as goal

abbrev pub invariant-loop-index : goal.invariant-loop-index
invariant-loop-index l = length l.shown.items ≡ l.index
