use Rattle.std.proofs.Common.{rules, ◌≡◌, inl, inr, Bool, List, refl, sym, subst, Err}
use Rattle.pdh_tx.specs.Held.{Placed, Held, Readout}
use Rattle.pdh_tx.specs.Meaning.{mode_of}
use Rattle.pdh_tx.specs.Tributary.{after_read}
use Rattle.pdh_tx.proofs.Gaining.{if_err_from}
use Rattle.pdh_tx.proofs.Storing.{left_placed, left_held, left_some, left_none}
use Rattle.pdh_tx.proofs.Telling.{IsLog, tells_err, tells_ok, front_none, not_log_failed}
use Rattle.pdh_tx.proofs.tributary.Tributary.leave.Goals as goal

pub returns-in-Ok-clause-bit : goal.returns-in-Ok-clause-bit
returns-in-Ok-clause-bit g c =
    let tx = g.C.Tx in
    let mode = mode_of g.G.SlipLog.takes in
    let old = c.args.self.now.child in
    let store : List Bool = c.args.self.now.store in
    let made = c.in_ok-make_ones.ensures in
    let bit = c.in-Ok.bit in
    let rest : List Bool = c.leave.new.self in
    let after : Readout → Readout = after_read c.args.self.now mode in
    record {
      placed = λ plan count out was. subst (λ d. Placed tx.stands_at tx.says tx.is_stopped d rest plan count (after out)) (sym made.child)
          (left_placed tx.stands_at tx.stands_for tx.meaning tx.says tx.is_stopped old mode bit store _ rest made.ones c.in-Ok.ensures.ok plan count out was);
      bit_is = λ supply count out was.
          let both = left_held tx.stands_at tx.stands_for tx.meaning tx.says tx.is_stopped old mode bit store _ rest made.ones c.in-Ok.ensures.ok supply count out was in
          (both.0, subst (λ d. Held tx.stands_for tx.meaning d rest supply count (after out)) (sym made.child) both.1);
      some = left_some mode bit store _ rest made.ones c.in-Ok.ensures.ok;
    }

pub returns-in-Ok-clause-told : goal.returns-in-Ok-clause-told
returns-in-Ok-clause-told g c = tells_ok c.in-Ok.bit c.in_ok-make_ones.ensures.told.all

pub returns-in_err-make_ones-clause-stop : goal.returns-in_err-make_ones-clause-stop
returns-in_err-make_ones-clause-stop g c =
    let stop = c.in_err-make_ones.field-0.0 in
    let e : c.from_residual.result ≡ Err stop = search rules in
    if_err_from c.from_residual.result _ stop e (inr c.in_err-make_ones.ensures.stop)

pub returns-in_err-make_ones-clause-told : goal.returns-in_err-make_ones-clause-told
returns-in_err-make_ones-clause-told g c =
    let stop = c.in_err-make_ones.field-0.0 in
    let e : c.from_residual.result ≡ Err stop = search rules in
    tells_err c.from_residual.result stop e c.in_err-make_ones.ensures.told.front

pub returns-in-Err-clause-stop : goal.returns-in-Err-clause-stop
returns-in-Err-clause-stop g c =
    inl (refl, left_none (mode_of g.G.SlipLog.takes) c.args.self.now.store _ c.in_ok-make_ones.ensures.ones (c.in-Err.ensures.empty.0 refl))

pub returns-in-Err-clause-told : goal.returns-in-Err-clause-told
returns-in-Err-clause-told g c =
    let is : IsLog g.G.SlipLog = record { nothing = g.met.G.SlipLog.logged_nothing; joins = g.met.G.SlipLog.logged_join; breaks = g.met.G.SlipLog.broken_join } in
    record { all = tt; front = front_none g.G.SlipLog is _ _ _ _ (not_log_failed _ refl) c.in_ok-make_ones.ensures.told.all }
