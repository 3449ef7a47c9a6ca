use Rattle.std.proofs.Common.{[], ◌∷◌, ◌++◌, take, drop, ap, ◌∙◌, subst}
use Rattle.std.specs.Prelude.{IsTrue}
use Rattle.pdh_rx.specs.Meaning.{Meaning}
use Rattle.pdh_claims_of_receivers.proofs.desync.stores_take_none_of_many_bits.Goals as goal

pub push-requires-clause-stands : goal.push-requires-clause-stands
push-requires-clause-stands g c =
    let glided = c.requires.stands.0 ++ take c.in_ok-count.count (drop c.args.from c.args.bits.now.bits) in
    (glided, c.in_ok-count.ensures.taken.stands c.requires.stands.0 c.requires.stands.1)

pub push-requires-clause-lists : goal.push-requires-clause-lists
push-requires-clause-lists g c = λ k is.
    let P : Meaning → Type 0 = λ m. IsTrue (m.leaves k) in
    ap (λ h. h k) (g.met.D.Drain.drained_holds c.args.drain.now c.glide.new.drain c.in_ok-count.ensures.drained) ∙ c.requires.lists k (subst P c.in_ok-count.ensures.same is)

pub returns : goal.returns
returns g c line stands =
    let glided = line ++ take c.in_ok-count.count (drop c.args.from c.args.bits.now.bits) in
    c.frames.ensures (glided ++ c.args.bit ∷ []) (c.in_ok-push.ensures.stands glided (c.in_ok-count.ensures.taken.stands line stands))
