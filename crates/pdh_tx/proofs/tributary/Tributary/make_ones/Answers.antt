use Rattle.std.proofs.Common.{Bool, true, false, List, length, replicate, cond, eqb, sym, ap, ◌∙◌, arith, eq-eqb}
use Rattle.std.proofs.lemmas.Bool.{ne_eqb}
use Rattle.pdh_line.specs.Edits.{half_store}
use Rattle.pdh_tx.specs.Held.{slip_if}
use Rattle.pdh_tx.specs.Meaning.{mode_of}
use Rattle.pdh_tx.proofs.Gaining.{no_slip}
use Rattle.pdh_tx.proofs.Storing.{on_ok_from, none_taken, all_taken, tells_none, none_held}
use Rattle.pdh_tx.proofs.Telling.{IsLog, tells_ok, tells_same}
use Rattle.pdh_tx.proofs.tributary.Tributary.make_ones.Goals as goal

pub add_half-requires : goal.add_half-requires
add_half-requires g c = none_held c.args.self.now.store (omega (arith, c.fill.ensures.count, c.if-fill-gt0.false))

pub returns-then-not-takes-clause-ones : goal.returns-then-not-takes-clause-ones
returns-then-not-takes-clause-ones g c =
    let store : List Bool = c.args.self.now.store in
    sym (ap (λ b. cond b (replicate half_store true) store) (none_taken g.G.SlipLog.takes (eqb (length store) 0) (sym c.takes.ensures ∙ c.if-not-takes.true)))

pub returns-then-not-takes-clause-told : goal.returns-then-not-takes-clause-told
returns-then-not-takes-clause-told g c =
    let is : IsLog g.G.SlipLog = record { nothing = g.met.G.SlipLog.logged_nothing; joins = g.met.G.SlipLog.logged_join; breaks = g.met.G.SlipLog.broken_join } in
    tells_ok tt (tells_none g.G.SlipLog is _ _ false c.args.place.now (none_taken g.G.SlipLog.takes (eqb (length c.args.self.now.store) 0) (sym c.takes.ensures ∙ c.if-not-takes.true)))

pub returns-then-fill-gt0-clause-ones : goal.returns-then-fill-gt0-clause-ones
returns-then-fill-gt0-clause-ones g c =
    let store : List Bool = c.args.self.now.store in
    sym (ap (λ b. cond b (replicate half_store true) store) (no_slip (mode_of g.G.SlipLog.takes) (eqb (length store) 0) (ne_eqb (length store) 0 (λ none. absurd (omega (arith, none, c.fill.ensures.count, c.if-fill-gt0.true))))))

pub returns-then-fill-gt0-clause-told : goal.returns-then-fill-gt0-clause-told
returns-then-fill-gt0-clause-told g c =
    let is : IsLog g.G.SlipLog = record { nothing = g.met.G.SlipLog.logged_nothing; joins = g.met.G.SlipLog.logged_join; breaks = g.met.G.SlipLog.broken_join } in
    let store : List Bool = c.args.self.now.store in
    tells_ok tt (tells_none g.G.SlipLog is _ _ false c.args.place.now (no_slip (mode_of g.G.SlipLog.takes) (eqb (length store) 0) (ne_eqb (length store) 0 (λ none. absurd (omega (arith, none, c.fill.ensures.count, c.if-fill-gt0.true))))))

pub returns-clause-ones : goal.returns-clause-ones
returns-clause-ones g c =
    let store : List Bool = c.args.self.now.store in
    let all = all_taken g.G.SlipLog.takes (eqb (length store) 0) (sym c.takes.ensures ∙ c.if-not-takes.false) in
    on_ok_from c.tell.result (c.add_half.ensures ∙ sym (ap (λ b. cond b (replicate half_store true) store) (all ∙ eq-eqb (length store) 0 (omega (arith, c.fill.ensures.count, c.if-fill-gt0.false)))))

pub returns-clause-told : goal.returns-clause-told
returns-clause-told g c =
    let store : List Bool = c.args.self.now.store in
    let all = all_taken g.G.SlipLog.takes (eqb (length store) 0) (sym c.takes.ensures ∙ c.if-not-takes.false) in
    tells_same _ _ (ap (λ b. slip_if b false c.args.place.now) (all ∙ eq-eqb (length store) 0 (omega (arith, c.fill.ensures.count, c.if-fill-gt0.false)))) c.tell.ensures.told

pub tell-requires : goal.tell-requires
tell-requires g c = sym c.takes.ensures ∙ c.if-not-takes.false
