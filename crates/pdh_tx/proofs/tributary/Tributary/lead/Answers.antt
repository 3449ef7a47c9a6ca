use Rattle.std.proofs.Common.{rules, ◌≡◌, ◌<◌, ℕ, suc, ◌+◌, List, length, refl, Err, None, sym, ap, ◌∙◌, subst, arith, inl, inr}
use Rattle.std.proofs.lemmas.Bool.{cases_lt}
use Rattle.pdh_shape.specs.OwnNumbers.{lead, store_size}
use Rattle.pdh_slips.specs.declared.slip.Slip.{Slip}
use Rattle.pdh_tx.specs.Meaning.{plan_in, Meaning, Fits, Met}
use Rattle.pdh_tx.specs.Held.{Placed, Held, Readout, unslipped, Gains, Halts, first_some, arrival}
use Rattle.pdh_tx.specs.Telling.{TellsAll, TellsFront}
use Rattle.pdh_tx.proofs.ArrivalSteps.{few_told, few_out}
use Rattle.pdh_tx.proofs.Telling.{tells_err, tells_ok, all_none, loop_tells, loop_tells_front, loop_tells_all}
use Rattle.pdh_tx.proofs.Gaining.{gains_none, gains_join, gains_fit, halts_join, halts_more, arrival_none, lead_met, if_err_from}
use Rattle.pdh_tx.proofs.tributary.Tributary.lead.Goals as goal

pub loop-taken-init : goal.loop-taken-init
loop-taken-init g c = record {
  placed = c.requires.placed;
  gains = gains_none _ _ _ 0 (unslipped 0) _;
  free = λ size fits k h. absurd (omega arith);
  unfailed = refl;
  fed = g.met.F.Feed.fed_same _;
  same = refl;
  share = refl;
  told = all_none g.G.SlipLog (record { nothing = g.met.G.SlipLog.logged_nothing; joins = g.met.G.SlipLog.logged_join; breaks = g.met.G.SlipLog.broken_join }) c.args.log.now;
}

pub returns-in_err-arrive-clause-err : goal.returns-in_err-arrive-clause-err
returns-in_err-arrive-clause-err g c =
    let inv = c.loop-taken.invariant in
    let i : ℕ = c.loop-taken._taken in
    let plan = plan_in c.args.clock.now g.G.SlipLog.takes in
    let m : Meaning = g.C.Tx.meaning c.args.self.now.child in
    let stop = c.in_err-arrive.field-0.0 in
    let stops = c.in_err-arrive.ensures.err i (unslipped 0) inv.placed in
    let e : c.from_residual.result ≡ Err stop = search rules in
    let few : length c.loop-taken.self.store < store_size = (let n = inv.placed.count in omega arith) in
    let P : Meaning → Type 0 = λ v. Halts v plan i (suc i) stop (g.F.Feed.inputs c.loop-taken.feed) (g.F.Feed.inputs c.arrive.new.feed) in
    let Q : Meaning → Type 0 = λ v.
    Met (Fits v plan i (g.F.Feed.inputs c.loop-taken.feed)) (λ size. first_some (arrival v plan c.args.place size i (length c.loop-taken.self.store))) stop
    (g.F.Feed.feed_faults c.loop-taken.feed) (g.F.Feed.feed_faults c.arrive.new.feed) in
    if_err_from c.from_residual.result _ stop e (record {
      halts = halts_more m plan 0 (suc i) lead _ _ _ (λ n k. g.met.C.Tx.grows c.args.self.now.child plan n k) (omega arith) (halts_join m plan _ _ 0 i (suc i) (unslipped 0) (unslipped 0) _ _ _ _ inv.gains (subst P inv.same stops.halts));
      met = lead_met m plan c.args.place _ _ i _ stop _ _ _ (omega arith) few inv.unfailed (λ size fits. gains_fit m plan _ _ 0 i (unslipped 0) (unslipped 0) _ _ size inv.gains fits) inv.free (subst Q inv.same stops.met);
    })

pub loop-taken-preserved : goal.loop-taken-preserved
loop-taken-preserved g c =
    let inv = c.loop-taken.invariant in
    let i : ℕ = c.loop-taken._taken in
    let e : suc i ≡ i + 1 = omega arith in
    let plan = plan_in c.args.clock.now g.G.SlipLog.takes in
    let m : Meaning = g.C.Tx.meaning c.args.self.now.child in
    let ok = c.in_ok-arrive.ensures in
    let took = ok.ok i (unslipped 0) inv.placed in
    let few : length c.loop-taken.self.store < store_size = (let n = inv.placed.count in omega (arith, n, c.loop-taken-test.true)) in
    let none = few_out plan.mode (unslipped 0) (length c.loop-taken.self.store) few in
    let held : _ → _ → _ = Held g.C.Tx.stands_for g.C.Tx.meaning in
    let P : Meaning → Readout → Type 0 = λ v out. Gains v plan (held c.loop-taken.self.child c.loop-taken.self.store) (held c.arrive.new.self.child c.arrive.new.self.store) i (suc i) (unslipped 0) out (g.F.Feed.inputs c.loop-taken.feed) (g.F.Feed.inputs c.arrive.new.feed) in
    let Q : ℕ → Type 0 = λ n. Gains m plan (held c.args.self.now.child c.args.self.now.store) (held c.arrive.new.self.child c.arrive.new.self.store) 0 n (unslipped 0) (unslipped 0) (g.F.Feed.inputs c.args.feed.now) (g.F.Feed.inputs c.arrive.new.feed) in
    let R : ℕ → Readout → Type 0 = λ n out. Placed g.C.Tx.stands_at g.C.Tx.says g.C.Tx.is_stopped c.arrive.new.self.child c.arrive.new.self.store plan n out in
    record {
      placed = subst (λ n. R n (unslipped 0)) e (subst (R (suc i)) none took.placed);
      gains = subst Q e (gains_join m plan _ _ _ 0 i (suc i) (unslipped 0) (unslipped 0) (unslipped 0) _ _ _ inv.gains (subst (λ v. P v (unslipped 0)) inv.same (subst (P (g.C.Tx.meaning c.loop-taken.self.child)) none took.gains)));
      free = λ size fits k h. elim (cases_lt k i) [
        | inl before ↦ inv.free size fits k before
        | inr here ↦
            let same : i ≡ k = omega arith in
            let now : (g.C.Tx.meaning c.loop-taken.self.child).obstacle plan size i ≡ None = arrival_none (g.C.Tx.meaning c.loop-taken.self.child) plan c.args.place size i (length c.loop-taken.self.store) (took.free size
            (let S : Meaning → Type 0 = λ v. Fits v plan i (g.F.Feed.inputs c.loop-taken.feed) size in subst S (sym inv.same) (gains_fit m plan _ _ 0 i (unslipped 0) (unslipped 0) _ _ size inv.gains fits))) in
            ap (m.obstacle plan size) (sym same) ∙ ap (λ v. v.obstacle plan size i) (sym inv.same) ∙ now
      ];
      unfailed = ok.fed.unfailed ∙ inv.unfailed;
      fed = g.met.F.Feed.fed_join _ _ _ inv.fed ok.fed.fed;
      same = ok.kept.same ∙ inv.same;
      share = ok.kept.share ∙ inv.share;
      told = loop_tells g.G.SlipLog (record { nothing = g.met.G.SlipLog.logged_nothing; joins = g.met.G.SlipLog.logged_join; breaks = g.met.G.SlipLog.broken_join }) (λ (m : Meaning). m.slips plan) m _ inv.same i _ _ inv.told _
          (subst (λ (l : List Slip). TellsAll g.G.SlipLog c.loop-taken.log c.arrive.new.log l) (few_told (g.C.Tx.meaning c.loop-taken.self.child) plan c.args.place i (length c.loop-taken.self.store) few) (ok.told i (unslipped 0) inv.placed).all);
    }

pub returns-in_err-arrive-clause-told : goal.returns-in_err-arrive-clause-told
returns-in_err-arrive-clause-told g c =
    let inv = c.loop-taken.invariant in
    let i : ℕ = c.loop-taken._taken in
    let plan = plan_in c.args.clock.now g.G.SlipLog.takes in
    let m : Meaning = g.C.Tx.meaning c.args.self.now.child in
    let stop = c.in_err-arrive.field-0.0 in
    let e : c.from_residual.result ≡ Err stop = search rules in
    let few : length c.loop-taken.self.store < store_size = (let n = inv.placed.count in omega (arith, n, c.loop-taken-test.true)) in
    tells_err c.from_residual.result stop e
    (loop_tells_front g.G.SlipLog (record { nothing = g.met.G.SlipLog.logged_nothing; joins = g.met.G.SlipLog.logged_join; breaks = g.met.G.SlipLog.broken_join }) (λ (m : Meaning). m.slips plan) m _ inv.same i _ _ inv.told lead stop _ (omega (arith, c.loop-taken-test.true))
    (subst (λ (l : List Slip). TellsFront g.G.SlipLog c.loop-taken.log c.arrive.new.log l stop) (few_told (g.C.Tx.meaning c.loop-taken.self.child) plan c.args.place i (length c.loop-taken.self.store) few) (c.in_err-arrive.ensures.told i (unslipped 0) inv.placed).front))

pub returns-clause-told : goal.returns-clause-told
returns-clause-told g c =
    let inv = c.loop-taken.invariant in
    let m : Meaning = g.C.Tx.meaning c.args.self.now.child in
    let end : c.loop-taken._taken ≡ lead = (let a = c.loop-taken-test.false in let b = c.loop-taken.auto in omega arith) in
    tells_ok tt (loop_tells_all g.G.SlipLog (record { nothing = g.met.G.SlipLog.logged_nothing; joins = g.met.G.SlipLog.logged_join; breaks = g.met.G.SlipLog.broken_join }) (λ (m : Meaning). m.slips (plan_in c.args.clock.now g.G.SlipLog.takes)) m _ inv.same c.loop-taken._taken _ _ inv.told lead lead end refl)
