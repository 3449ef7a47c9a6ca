use Rattle.std.proofs.Common.{◌≡◌, ap, sym, ◌∙◌, subst}
use Rattle.pdh_seconds.specs.declared.tally.Tally.{Tally}
use Rattle.pdh_seconds.specs.Counting.{sum_of, Fit, tally_as}
use Rattle.pdh_seconds.proofs.Steps.{ended, fit_ended}
use Rattle.pdh_seconds.proofs.seconds.Seconds.tally.Goals as goal

pub returns : goal.returns
returns c seconds stands few =
    let kept = c.args.self.now in
    let told : c.counted_as.result ≡ tally_as kept.unavailable kept.waiting = c.counted_as.ensures in
    c.plus.ensures (subst (λ (t : Tally). Fit kept.settled t) (sym told) (fit_ended kept seconds stands few))
    ∙ ap (λ (t : Tally). sum_of kept.settled t) told ∙ ended kept seconds stands
