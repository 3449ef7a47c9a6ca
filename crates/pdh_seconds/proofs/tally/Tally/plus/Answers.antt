use Rattle.std.proofs.Common.{◌≡◌, ◌+◌, arith}
use Rattle.pdh_seconds.proofs.tally.Tally.plus.Goals as goal

pub returns : goal.returns
returns c fit =
    let a = c.args.self in
    let b = c.args.other in
    let seconds : c.saturating_add-seconds.result ≡ a.seconds + b.seconds = omega (arith, c.saturating_add-seconds.ensures, fit.seconds) in
    let errored : c.saturating_add-errored.result ≡ a.errored + b.errored = omega (arith, c.saturating_add-errored.ensures, fit.errored) in
    let severe : c.saturating_add-severe.result ≡ a.severe + b.severe = omega (arith, c.saturating_add-severe.ensures, fit.severe) in
    let unavailable : c.saturating_add-unavailable.result ≡ a.unavailable + b.unavailable = omega (arith, c.saturating_add-unavailable.ensures, fit.unavailable) in
    let far : c.saturating_add-far.result ≡ a.far + b.far = omega (arith, c.saturating_add-far.ensures, fit.far) in
    λ i. record { seconds = seconds i; errored = errored i; severe = severe i; unavailable = unavailable i; far = far i }
