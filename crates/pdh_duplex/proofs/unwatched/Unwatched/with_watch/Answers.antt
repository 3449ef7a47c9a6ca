use Rattle.std.proofs.Common.{◌≡◌, ◌*◌, ℕ, [], ap, sym, ◌∙◌, subst, arith}
use Rattle.pdh_nesting.specs.Chains.{top_len}
use Rattle.pdh_chain.specs.Chains.{shapes_of}
use Rattle.pdh_chain.proofs.ChainLaws.{are_frames}
use Rattle.pdh_script.specs.Bending.{Bending}
use Rattle.pdh_duplex.proofs.Starting.{heard_nothing}
use Rattle.pdh_duplex.proofs.unwatched.Unwatched.with_watch.Goals as goal

pub returns : goal.returns
returns g c z clock rows is =
    let none : 0 ≡ 0 * top_len (shapes_of z.chain) = omega arith in
    let place_at : ℕ → Bending = λ place. record { rows = rows; place = place } in
    let new = c.new.ensures in
    record {
      sent = is.sent;
      bender_is = is.bender_is ∙ ap place_at none;
      room = is.room;
      has_heard = heard_nothing g.R.Rx g.W.Watch (shapes_of z.chain) c.args.watch c.new.result (are_frames z.chain) (ap g.R.Rx.meaning new.receiver ∙ is.means) (subst (λ r. g.R.Rx.stands r []) (sym new.receiver) is.stands)
          (subst (λ w. g.W.Watch.saw c.args.watch [] w) (sym new.watch) (g.met.W.Watch.saw_nothing c.args.watch)) new.tally new.errors;
      few_errors = omega (arith, new.errors);
    }
