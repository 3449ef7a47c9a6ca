use Rattle.std.proofs.Common.{◌≡◌, ◌+◌, ◌∙◌, length, refl, sym, ap, arith}
use Rattle.std.proofs.lemmas.Result.{err_from_is_err_and}
use Rattle.std.proofs.lemmas.List.{length-append}
use Rattle.pdh_bits.specs.BitOut.{BoundedBits}
use Rattle.pdh_tx.specs.Meaning.{plan_in}
use Rattle.pdh_tx.proofs.Telling.{tells_err, tells_ok, all_none}
use Rattle.pdh_chain.proofs.Telling.{log_slips, more_told, stop_told}
use Rattle.pdh_chain.proofs.Frames.{makes_start, makes_more, stops_making}
use Rattle.pdh_chain.proofs.sending.make_bits.Goals as goal

pub loop-made-init : goal.loop-made-init
loop-made-init g c = record {
  running = c.requires.running;
  same_says = refl;
  same = refl;
  unfailed = refl;
  fed = g.met.F.Feed.fed_same c.args.feed.now;
  len = ap (λ f. length f.bits) c.clear.ensures;
  room = ap (λ f. f.capacity) c.clear.ensures;
  makes = λ x says here told.
      makes_start (g.T.Tx.meaning c.args.sender.now) says (g.T.Tx.stands_at c.args.sender.now (plan_in c.args.clock.now g.G.SlipLog.takes)) (g.T.Tx.stands_for c.args.sender.now) (plan_in c.args.clock.now g.G.SlipLog.takes) x _ _ (g.F.Feed.inputs c.args.feed.now) (omega arith)
      (ap (λ f. f.bits) c.clear.ensures) here;
  told = λ x here. all_none g.G.SlipLog (record { nothing = g.met.G.SlipLog.logged_nothing; joins = g.met.G.SlipLog.logged_join; breaks = g.met.G.SlipLog.broken_join }) c.args.log.now;
}

pub returns-in_err-bit-clause-stops : goal.returns-in_err-bit-clause-stops
returns-in_err-bit-clause-stops g c =
    let p = err_from_is_err_and c.from_residual.result c.from_residual.ensures.1 in
    rw (p.1, p.2)
    (λ x here.
    let makes = c.loop-made.invariant.makes x (λ n. g.T.Tx.says c.args.sender.now) here (λ y n l h begins. refl) in
    stops_making (g.T.Tx.meaning c.args.sender.now) (g.T.Tx.meaning c.loop-made.sender) (λ n. g.T.Tx.says c.args.sender.now) _ _ _ (plan_in c.args.clock.now g.G.SlipLog.takes) x _ _ c.loop-made.frame.bits _ (g.F.Feed.inputs c.args.feed.now) (g.F.Feed.inputs c.loop-made.feed)
    (g.F.Feed.inputs c.next.new.feed) _ _ _ makes c.loop-made.invariant.same c.loop-made.invariant.unfailed (omega arith) (log_slips _ _ _ _ _ (c.in_err-bit.ensures.told _ makes.place).front) (c.in_err-bit.ensures.stops _ makes.place))

pub loop-made-preserved : goal.loop-made-preserved
loop-made-preserved g c =
    let inv = c.loop-made.invariant in
    record {
      running = c.in_ok-bit.ensures.stopped;
      same_says = c.in_ok-bit.ensures.kept.same_says ∙ inv.same_says;
      same = c.in_ok-bit.ensures.kept.same ∙ inv.same;
      unfailed = c.in_ok-bit.ensures.fed.unfailed ∙ inv.unfailed;
      fed = g.met.F.Feed.fed_join c.args.feed.now c.loop-made.feed c.next.new.feed inv.fed c.next.ensures.fed.fed;
      len = ap (λ (f : BoundedBits). length f.bits) c.push.ensures ∙ length-append c.loop-made.frame.bits _ ∙ omega (arith, inv.len);
      room = ap (λ f. f.capacity) c.push.ensures ∙ inv.room;
      makes = λ x says here told.
          let makes = inv.makes x says here told in
          makes_more (g.T.Tx.meaning c.args.sender.now) (g.T.Tx.meaning c.loop-made.sender) says (g.T.Tx.says c.loop-made.sender) _ _ _ _ _ (plan_in c.args.clock.now g.G.SlipLog.takes) x _ _ c.loop-made.frame.bits _ _ (g.F.Feed.inputs c.args.feed.now)
          (g.F.Feed.inputs c.loop-made.feed) (g.F.Feed.inputs c.next.new.feed) inv.same (λ n begins. told (x + c.loop-made._made) n (omega arith) (omega (arith, c.loop-made-test.true)) begins ∙ sym inv.same_says) (omega arith) (ap (λ f. f.bits) c.push.ensures) makes (c.in_ok-bit.ensures.made _ makes.place);
      told = λ x here.
          let makes = inv.makes x (λ n. g.T.Tx.says c.args.sender.now) here (λ y n l h begins. refl) in
          more_told g.G.SlipLog (record { nothing = g.met.G.SlipLog.logged_nothing; joins = g.met.G.SlipLog.logged_join; breaks = g.met.G.SlipLog.broken_join }) (g.T.Tx.meaning c.args.sender.now) (g.T.Tx.meaning c.loop-made.sender) (plan_in c.args.clock.now g.G.SlipLog.takes) x c.loop-made._made inv.same _ _ _ (inv.told x here) (c.in_ok-bit.ensures.told _ makes.place).all;
    }

-- the log was told of the slips of the bits before the sender stopped, and of those that it told of the next
pub returns-in_err-bit-clause-told : goal.returns-in_err-bit-clause-told
returns-in_err-bit-clause-told g c x here =
    let p = err_from_is_err_and c.from_residual.result c.from_residual.ensures.1 in
    let inv = c.loop-made.invariant in
    let makes = inv.makes x (λ n. g.T.Tx.says c.args.sender.now) here (λ y n l h begins. refl) in
    tells_err c.from_residual.result _ p.1
    (rw p.2
    (stop_told g.G.SlipLog (record { nothing = g.met.G.SlipLog.logged_nothing; joins = g.met.G.SlipLog.logged_join; breaks = g.met.G.SlipLog.broken_join }) (g.T.Tx.meaning c.args.sender.now) (g.T.Tx.meaning c.loop-made.sender) (plan_in c.args.clock.now g.G.SlipLog.takes) x c.loop-made._made inv.same c.args.len _ _ _ _ (omega (arith, c.loop-made-test.true)) (inv.told x here) (c.in_err-bit.ensures.told _ makes.place).front))

pub next-requires-clause-stands : goal.next-requires-clause-stands
next-requires-clause-stands g c = (
  c.requires.stands.0 + c.loop-made._made,
  (c.loop-made.invariant.makes c.requires.stands.0 (λ n. g.T.Tx.says c.args.sender.now) c.requires.stands.1 (λ y n l h begins. refl)).place,
)

pub returns-clause-made : goal.returns-clause-made
returns-clause-made g c x says here told =
    let all : c.loop-made._made ≡ c.args.len = omega (arith, c.loop-made-test.false, c.loop-made.auto._made-end) in
    let made = c.loop-made.invariant.makes x says here told in
    rw (sym all) made

pub returns-clause-told : goal.returns-clause-told
returns-clause-told g c x here =
    let all : c.loop-made._made ≡ c.args.len = omega (arith, c.loop-made-test.false, c.loop-made.auto._made-end) in
    let told = c.loop-made.invariant.told x here in
    tells_ok tt (rw (sym all) told)
