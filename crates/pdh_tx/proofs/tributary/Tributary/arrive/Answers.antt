use Rattle.std.proofs.Common.{rules, ◌≡◌, suc, refl, sym, ap, ◌∙◌, subst, List, [], ◌∷◌, ◌++◌, Bool, true, leb, length, Err}
use Rattle.pdh_shape.specs.OwnNumbers.{store_size}
use Rattle.pdh_tx.specs.Meaning.{plan_in}
use Rattle.pdh_tx.specs.Held.{Placed, Held, Gains, Readout, slips, slip_if, slips_at_arrival}
use Rattle.pdh_tx.specs.Tributary.{after_arrival}
use Rattle.pdh_tx.proofs.Gaining.{if_err_from}
use Rattle.pdh_tx.proofs.Telling.{IsLog, tells_err, tells_ok, all_join, front_join, front_more, front_none, not_log_failed}
use Rattle.pdh_tx.proofs.ArrivalSteps.{arrival_placed, arrival_gains, arrival_free, arrival_halts, arrival_full, met_unlogged, used_unlogged, over_full, room_left, full_left}
use Rattle.pdh_tx.proofs.tributary.Tributary.arrive.Goals as goal

pub returns-in-Ok-clause-ok : goal.returns-in-Ok-clause-ok
returns-in-Ok-clause-ok g c made out was =
    let tx = g.C.Tx in
    let old = c.args.self.now.child in
    let new = c.next.new.self in
    let store : List Bool = c.args.self.now.store in
    let plan = plan_in c.args.clock.now g.G.SlipLog.takes in
    let test : Bool = slips plan.mode (leb store_size (length store)) in
    let bit = c.in_ok-bit.bit in
    let ok = c.in_ok-bit.ensures in
    let room = c.in_ok-make_room.ensures.dropped in
    let makes = ok.made made was.place in
    let full : test ≡ true → _ = over_full plan.mode (length store) in
    let now : c.arrive.new.self ≡ _ ++ bit ∷ [] = c.in-Ok.ensures.ok ∙ ap (λ l. l ++ bit ∷ []) room in
    let child = c.in_ok-make_room.ensures.child in
    let held : g.row.C.Denot → List Bool → _ = Held tx.stands_for tx.meaning in
    let after : Readout = after_arrival c.args.self.now plan.mode out in
    let P : g.row.C.Denot → List Bool → Type 0 = λ d l. Placed tx.stands_at tx.says tx.is_stopped d l plan (suc made) after in
    let Q : g.row.C.Denot → List Bool → Type 0 = λ d l. Gains (tx.meaning old) plan (held old store) (held d l) made (suc made) out after (g.F.Feed.inputs c.args.feed.now) (g.F.Feed.inputs c.next.new.feed) in
    record {
      placed = subst (λ d. P d c.arrive.new.self) (sym child) (subst (P new) (sym now) (arrival_placed tx.stands_at tx.stands_for tx.meaning tx.says tx.is_stopped old new plan bit store made out test _ _ full ok.kept.same_says ok.stopped was makes));
      gains = subst (λ d. Q d c.arrive.new.self) (sym child) (subst (Q new) (sym now) (arrival_gains tx.stands_at tx.stands_for tx.meaning tx.says tx.is_stopped old new plan bit store made out test _ _ full ok.kept.same was makes));
      free = λ size fits. arrival_free tx.stands_at tx.stands_for tx.meaning tx.says tx.is_stopped old new plan c.args.place _ bit (length store) made _ _ size (room_left plan.mode store _ room c.in-Ok.ensures.room) makes fits;
    }

pub returns-in-Ok-clause-told : goal.returns-in-Ok-clause-told
returns-in-Ok-clause-told g c made out was =
    let is : IsLog g.G.SlipLog = record { nothing = g.met.G.SlipLog.logged_nothing; joins = g.met.G.SlipLog.logged_join; breaks = g.met.G.SlipLog.broken_join } in
    tells_ok tt (all_join g.G.SlipLog is _ _ _ _ _ (c.in_ok-bit.ensures.told made was.place).all c.in_ok-make_room.ensures.told.all)

pub returns-in_err-bit-clause-told : goal.returns-in_err-bit-clause-told
returns-in_err-bit-clause-told g c made out was =
    let stop = c.in_err-bit.field-0.0 in
    let e : c.from_residual.result ≡ Err stop = search rules in
    let plan = plan_in c.args.clock.now g.G.SlipLog.takes in
    let own = slip_if (slips plan.mode (leb store_size (length c.args.self.now.store))) true c.args.place in
    let m = g.C.Tx.meaning c.args.self.now.child in
    tells_err c.from_residual.result stop e (front_more g.G.SlipLog _ _ (m.slips plan made) own (slips_at_arrival m plan c.args.place made (length c.args.self.now.store)) stop refl (c.in_err-bit.ensures.told made was.place).front)

pub returns-in_err-make_room-clause-err : goal.returns-in_err-make_room-clause-err
returns-in_err-make_room-clause-err g c =
    let tx = g.C.Tx in
    let stop = c.in_err-make_room.field-0.0 in
    let e : c.from_residual-in_err-make_room.result ≡ Err stop = search rules in
    let ok = c.in_ok-bit.ensures in
    let unlogged = c.in_err-make_room.ensures.stop in
    if_err_from c.from_residual-in_err-make_room.result _ stop e (λ made out was. record {
      halts = arrival_halts tx.stands_at tx.stands_for tx.meaning tx.says tx.is_stopped c.args.self.now.child c.next.new.self _ _ c.in_ok-bit.bit made stop _ _ (used_unlogged stop _ unlogged) (ok.made made was.place);
      met = met_unlogged _ _ stop _ _ unlogged ok.fed.unfailed;
    })

pub returns-in_err-make_room-clause-told : goal.returns-in_err-make_room-clause-told
returns-in_err-make_room-clause-told g c made out was =
    let stop = c.in_err-make_room.field-0.0 in
    let e : c.from_residual-in_err-make_room.result ≡ Err stop = search rules in
    let is : IsLog g.G.SlipLog = record { nothing = g.met.G.SlipLog.logged_nothing; joins = g.met.G.SlipLog.logged_join; breaks = g.met.G.SlipLog.broken_join } in
    tells_err c.from_residual-in_err-make_room.result stop e (front_join g.G.SlipLog is _ _ _ _ _ stop (c.in_ok-bit.ensures.told made was.place).all c.in_err-make_room.ensures.told.front)

pub returns-in-Err-clause-err : goal.returns-in-Err-clause-err
returns-in-Err-clause-err g c = λ made out was.
    let tx = g.C.Tx in
    let store : List Bool = c.args.self.now.store in
    let plan = plan_in c.args.clock.now g.G.SlipLog.takes in
    let ok = c.in_ok-bit.ensures in
    let makes = ok.made made was.place in
    let full = full_left plan.mode store c.make_room.new.self c.in_ok-make_room.ensures.dropped c.in_ok-make_room.ensures.room (c.in-Err.ensures.full.0 refl) in
    record {
      halts = arrival_halts tx.stands_at tx.stands_for tx.meaning tx.says tx.is_stopped c.args.self.now.child c.next.new.self plan _ c.in_ok-bit.bit made _ _ _ tt makes;
      met = arrival_full tx.stands_at tx.stands_for tx.meaning tx.says tx.is_stopped c.args.self.now.child c.next.new.self plan c.args.place _ c.in_ok-bit.bit (length store) made _ _ _ _ full ok.fed.unfailed makes;
    }

pub returns-in-Err-clause-told : goal.returns-in-Err-clause-told
returns-in-Err-clause-told g c made out was =
    let is : IsLog g.G.SlipLog = record { nothing = g.met.G.SlipLog.logged_nothing; joins = g.met.G.SlipLog.logged_join; breaks = g.met.G.SlipLog.broken_join } in
    record {
      all = tt;
      front = front_none g.G.SlipLog is _ _ _ _ (not_log_failed _ refl) (all_join g.G.SlipLog is _ _ _ _ _ (c.in_ok-bit.ensures.told made was.place).all c.in_ok-make_room.ensures.told.all);
    }
