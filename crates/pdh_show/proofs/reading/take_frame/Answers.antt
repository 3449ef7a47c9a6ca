use Rattle.std.proofs.Common.{◌≡◌, ◌*◌, ℕ, ap, subst, ◌∙◌}
use Rattle.pdh_show.specs.Showing.{TakesSome}
use Rattle.pdh_show.proofs.Taking.{then_frame, on_ok_both}
use Rattle.pdh_show.proofs.reading.take_frame.Goals as goal

pub returns-clause-ok : goal.returns-clause-ok
returns-clause-ok g c =
    let number : ℕ = c.args.number in
    let len : ℕ = c.args.held.now.capacity in
    let before_is : c.from.result * c.capacity.result ≡ number * len = ap (λ (n : ℕ). n * c.capacity.result) c.from.ensures ∙ ap (λ (n : ℕ). number * n) c.capacity.ensures in
    let before = subst (λ (n : ℕ). TakesSome n (g.F.Feed.inputs c.args.feed.now) (g.F.Feed.inputs c.pass_over.new.feed)) before_is c.in_ok-pass_over.ensures.ok in
    on_ok_both c.take_whole.result c.take_whole.ensures.ok c.take_whole.ensures.full
    (λ takes full. then_frame len number c.take_whole.new.held.bits _ _ _ before takes (full ∙ c.pass_over.ensures.capacity))
