use Rattle.std.proofs.Common.{[], ◌∷◌, ◌++◌, subst}
use Rattle.pdh_rx.specs.Meaning.{Meaning, Gains}
use Rattle.pdh_claims_of_receivers.proofs.desync.first_reads_put_out.Goals as goal

pub returns : goal.returns
returns g c path first marks line is stands =
    let P : Meaning → Type 0 = λ m. Gains (m.got line) (m.got (line ++ c.args.bit ∷ [])) (g.D.Drain.outputs c.args.drain.now) (g.D.Drain.outputs c.push.new.drain) in
    subst P is (c.in_ok-push.ensures.put line stands)
