use Rattle.std.proofs.Common.{◌<◌, Bool, true, List, length, cond, drop, leb, sym, ap, ◌∙◌, arith}
use Rattle.std.proofs.lemmas.Bool.{lt-leb, le-leb}
use Rattle.std.proofs.lemmas.List.{length-drop}
use Rattle.pdh_shape.specs.OwnNumbers.{store_size}
use Rattle.pdh_line.specs.Edits.{half_store}
use Rattle.pdh_tx.specs.Held.{slip_if}
use Rattle.pdh_tx.specs.Meaning.{mode_of}
use Rattle.pdh_tx.proofs.Gaining.{no_slip}
use Rattle.pdh_tx.proofs.Storing.{on_ok_from, none_taken, all_taken, tells_none}
use Rattle.pdh_tx.proofs.Telling.{IsLog, tells_ok, tells_same}
use Rattle.pdh_tx.proofs.tributary.Tributary.make_room.Goals as goal

pub returns-then-not-takes-clause-dropped : goal.returns-then-not-takes-clause-dropped
returns-then-not-takes-clause-dropped g c =
    let store : List Bool = c.args.self.now.store in
    sym (ap (λ b. cond b (drop half_store store) store) (none_taken g.G.SlipLog.takes (leb store_size (length store)) (sym c.takes.ensures ∙ c.if-not-takes.true)))

pub returns-then-not-takes-clause-room : goal.returns-then-not-takes-clause-room
returns-then-not-takes-clause-room g c = rw (sym c.takes.ensures ∙ c.if-not-takes.true) tt

pub returns-then-not-takes-clause-told : goal.returns-then-not-takes-clause-told
returns-then-not-takes-clause-told g c =
    let is : IsLog g.G.SlipLog = record { nothing = g.met.G.SlipLog.logged_nothing; joins = g.met.G.SlipLog.logged_join; breaks = g.met.G.SlipLog.broken_join } in
    tells_ok tt (tells_none g.G.SlipLog is _ _ true c.args.place.now (none_taken g.G.SlipLog.takes (leb store_size (length c.args.self.now.store)) (sym c.takes.ensures ∙ c.if-not-takes.true)))

pub returns-then-fill-lt-STORE_SIZE-clause-dropped : goal.returns-then-fill-lt-STORE_SIZE-clause-dropped
returns-then-fill-lt-STORE_SIZE-clause-dropped g c =
    let store : List Bool = c.args.self.now.store in
    let few : length store < store_size = omega (arith, c.fill.ensures.count, c.if-fill-lt-STORE_SIZE.true) in
    sym (ap (λ b. cond b (drop half_store store) store) (no_slip (mode_of g.G.SlipLog.takes) (leb store_size (length store)) (lt-leb _ _ few)))

pub returns-then-fill-lt-STORE_SIZE-clause-room : goal.returns-then-fill-lt-STORE_SIZE-clause-room
returns-then-fill-lt-STORE_SIZE-clause-room g c =
    let few : length c.args.self.now.store < store_size = omega (arith, c.fill.ensures.count, c.if-fill-lt-STORE_SIZE.true) in
    rw (sym c.takes.ensures ∙ c.if-not-takes.false) few

pub returns-then-fill-lt-STORE_SIZE-clause-told : goal.returns-then-fill-lt-STORE_SIZE-clause-told
returns-then-fill-lt-STORE_SIZE-clause-told g c =
    let is : IsLog g.G.SlipLog = record { nothing = g.met.G.SlipLog.logged_nothing; joins = g.met.G.SlipLog.logged_join; breaks = g.met.G.SlipLog.broken_join } in
    let few : length c.args.self.now.store < store_size = omega (arith, c.fill.ensures.count, c.if-fill-lt-STORE_SIZE.true) in
    tells_ok tt (tells_none g.G.SlipLog is _ _ true c.args.place.now (no_slip (mode_of g.G.SlipLog.takes) (leb store_size (length c.args.self.now.store)) (lt-leb _ _ few)))

pub returns-clause-dropped : goal.returns-clause-dropped
returns-clause-dropped g c =
    let store : List Bool = c.args.self.now.store in
    let all = all_taken g.G.SlipLog.takes (leb store_size (length store)) (sym c.takes.ensures ∙ c.if-not-takes.false) in
    on_ok_from c.tell.result (c.drop_half.ensures ∙ sym (ap (λ b. cond b (drop half_store store) store) (all ∙ le-leb _ _ (omega (arith, c.fill.ensures.count, c.if-fill-lt-STORE_SIZE.false)))))

pub returns-clause-room : goal.returns-clause-room
returns-clause-room g c =
    let few : length c.drop_half.new.self < store_size = omega (arith, ap length c.drop_half.ensures, length-drop half_store c.args.self.now.store, c.fill.ensures.count, c.fill.ensures.bounded) in
    on_ok_from c.tell.result (rw (sym c.takes.ensures ∙ c.if-not-takes.false) few)

pub returns-clause-told : goal.returns-clause-told
returns-clause-told g c =
    let store : List Bool = c.args.self.now.store in
    let all = all_taken g.G.SlipLog.takes (leb store_size (length store)) (sym c.takes.ensures ∙ c.if-not-takes.false) in
    tells_same _ _ (ap (λ b. slip_if b true c.args.place.now) (all ∙ le-leb _ _ (omega (arith, c.fill.ensures.count, c.if-fill-lt-STORE_SIZE.false)))) c.tell.ensures.told

pub tell-requires : goal.tell-requires
tell-requires g c = sym c.takes.ensures ∙ c.if-not-takes.false
