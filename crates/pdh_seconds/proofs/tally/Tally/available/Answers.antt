use Rattle.std.proofs.Common.{sym, ◌∙◌, zero-add}
use Rattle.pdh_seconds.proofs.tally.Tally.available.Goals as goal

pub returns : goal.returns
returns c = λ i. record {
  seconds = 1;
  errored = (c.one_if-errored.ensures ∙ sym (zero-add _)) i;
  severe = (c.one_if-severe.ensures ∙ sym (zero-add _)) i;
  unavailable = 0;
  far = (c.one_if-far.ensures ∙ sym (zero-add _)) i;
}
