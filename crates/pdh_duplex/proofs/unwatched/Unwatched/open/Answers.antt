use Rattle.std.proofs.Common.{◌≡◌, ◌*◌, ℕ, refl, ap, sym, ◌∙◌, subst, arith}
use Rattle.pdh_line.specs.Paths.{top}
use Rattle.pdh_nesting.specs.Chains.{top_len}
use Rattle.pdh_tx.specs.Meaning.{plan_of}
use Rattle.pdh_chain.specs.Chains.{shapes_of}
use Rattle.pdh_chain.specs.Trees.{sender_of, receiver_of}
use Rattle.pdh_duplex.specs.Session.{setting_with}
use Rattle.pdh_duplex.proofs.Starting.{first_left}
use Rattle.pdh_duplex.proofs.unwatched.Unwatched.open.Goals as goal

pub returns : goal.returns
returns g c to_east to_west =
    let chain = c.args.chain in
    let z = setting_with chain c.args.seed c.args.frames to_east to_west in
    let types = c.requires.types in
    let len : ℕ = top_len (shapes_of chain) in
    let none : 0 ≡ 0 * len = omega arith in
    let sender = c.in_ok-open_sender.field-0 in
    let long : g.T.ChainTop.LEN ≡ len = sym g.met.T.ChainTop.len_is ∙ ap top_len types.sends_are in
    record {
      sent = record {
        count = refl;
        means = c.in_ok-open_sender.ensures.meaning ∙ ap (λ shapes. sender_of shapes top 0) types.sends_are;
        runs = c.in_ok-open_sender.ensures.fresh.runs;
        stands = subst (g.T.Tx.stands_at sender (plan_of c.args.clock.now)) none (c.in_ok-open_sender.ensures.fresh.placed (plan_of c.args.clock.now));
        holds = λ supply is. subst (g.T.Tx.stands_for sender supply) none (c.in_ok-open_sender.ensures.fresh.held supply);
        leaves = first_left z _ c.in_ok-open.ensures;
      };
      bender_is = c.in_ok-open-2.ensures.bender;
      room = omega (arith, c.in_ok-open-2.ensures.room, c.LEN.ensures, long);
      means = c.in_ok-open_receiver.ensures.meaning ∙ ap (λ shapes. receiver_of shapes top 0) types.receives_are;
      stands = c.in_ok-open_receiver.ensures.stands;
    }
