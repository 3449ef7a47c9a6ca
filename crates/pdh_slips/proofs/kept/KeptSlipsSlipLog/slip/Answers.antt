use Rattle.std.proofs.Common.{[], refl, sym, ◌∙◌, arith}
use Rattle.std.proofs.lemmas.List.{append-nil}
use Rattle.pdh_slips.specs.Logs.{slip_at}
use Rattle.pdh_slips.proofs.kept.KeptSlipsSlipLog.slip.Goals as goal

pub returns-in-Err-clause-broken : goal.returns-in-Err-clause-broken
returns-in-Err-clause-broken c = record {
  kept = [];
  last = slip_at c.args.over c.args.place.now;
  all = refl;
  list = c.in-Err.ensures.left ∙ sym (append-nil c.args.self.now.list.items);
  counts = omega (arith, c.saturating_add-self.ensures, c.in-Err.ensures.faults);
}
