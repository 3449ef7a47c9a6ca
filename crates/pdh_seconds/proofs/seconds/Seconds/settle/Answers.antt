use Rattle.std.proofs.Common.{◌≡◌, ap, sym, ◌∙◌, subst}
use Rattle.pdh_seconds.specs.declared.tally.Tally.{Tally}
use Rattle.pdh_seconds.specs.Counting.{sum_of, Fit, tally_as}
use Rattle.pdh_seconds.proofs.seconds.Seconds.settle.Goals as goal

pub returns : goal.returns
returns c fit =
    let waiting = c.args.self.now.waiting in
    let told : c.counted_as.result ≡ tally_as c.args.unavailable waiting = c.counted_as.ensures in
    let settled : c.plus-settled.result ≡ sum_of c.args.self.now.settled (tally_as c.args.unavailable waiting) =
    c.plus-settled.ensures (subst (λ (t : Tally). Fit c.args.self.now.settled t) (sym told) fit) ∙ ap (λ (t : Tally). sum_of c.args.self.now.settled t) told in
    λ i. record { unavailable = c.args.self.now.unavailable; settled = settled i; waiting = c.none-waiting.ensures i }
