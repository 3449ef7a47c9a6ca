use Rattle.std.proofs.Common.{◌≡◌, List, Bool, length, sym, ap, ◌∙◌, subst}
use Rattle.std.proofs.lemmas.Result.{on_ok_weaker}
use Rattle.pdh_bits.specs.BitOut.{BoundedBits}
use Rattle.pdh_packed.specs.Gaining.{gained}
use Rattle.pdh_edge.specs.Ports.{Takes, for_leaf}
use Rattle.pdh_chain.proofs.Lists.{gained_whole}
use Rattle.pdh_show.proofs.reading.take_whole.Goals as goal

pub returns-clause-ok : goal.returns-clause-ok
returns-clause-ok g c =
    let whole : gained c.clear.new.self c.take_bits.new.into ≡ c.take_bits.new.into.bits = gained_whole c.clear.new.self c.take_bits.new.into (ap (λ (b : BoundedBits). b.bits) c.clear.ensures) in
    let takes = subst (λ (bits : List Bool). Takes (for_leaf 0 bits) (g.F.Feed.inputs c.args.feed.now) (g.F.Feed.inputs c.take_bits.new.feed)) whole c.take_bits.ensures.takes in
    on_ok_weaker c.take_bits.result (λ count. takes) c.take_bits.ensures.ok

pub returns-clause-full : goal.returns-clause-full
returns-clause-full g c =
    let whole : gained c.clear.new.self c.take_bits.new.into ≡ c.take_bits.new.into.bits = gained_whole c.clear.new.self c.take_bits.new.into (ap (λ (b : BoundedBits). b.bits) c.clear.ensures) in
    on_ok_weaker c.take_bits.result (λ count. ap length (sym whole) ∙ count ∙ c.capacity.ensures ∙ ap (λ (b : BoundedBits). b.capacity) c.clear.ensures) c.take_bits.ensures.ok
