use Rattle.std.proofs.Common.{◌≡◌, ℕ, Bool, List, inl, inr, sym, ap, ◌∙◌, subst, arith, slice_get}
use Rattle.std.proofs.lemmas.Bool.{cases_lt}
use Rattle.pdh_tx.specs.Gathered.{CarriesBits, Carry}
use Rattle.pdh_tx.proofs.Moving.{inside}
use Rattle.pdh_tx.proofs.tributaries.Tributaries.carry_all.Goals as goal

pub carry_one-requires-clause-can : goal.carry_one-requires-clause-can
carry_one-requires-clause-can g c w queue here there =
    let inv = c.loop-trib.invariant in
    c.requires.can c.loop-trib.trib w queue (ap (λ list. slice_get list.items c.loop-trib.trib) (sym inv.list) ∙ here) (sym (inv.rest c.loop-trib.trib (omega arith)) ∙ there)

pub loop-trib-preserved : goal.loop-trib-preserved
loop-trib-preserved g c =
    let inv = c.loop-trib.invariant in
    let i : ℕ = c.loop-trib.trib in
    let old = c.args.self.now in
    let new = c.carry_one.new.self in
    let one = c.carry_one.ensures in
    let this : Carry old new c.args.at i = λ w queue next here there now. one.carried w queue next (ap (λ list. slice_get list.items i) inv.list ∙ here) (inv.rest i (omega arith) ∙ there) now in
    record {
      list = one.list ∙ inv.list;
      overhead = one.overhead ∙ inv.overhead;
      carried = λ j less w queue next here there now. elim (cases_lt j i) [
        | inl before ↦
            let differ : j ≡ i → ⊥ = λ e. omega (arith, e, before) in
            let P : List Bool → Type 0 = λ column. CarriesBits g.S.Shape.shape j w.share c.args.at.slot c.args.at.len queue next column in
            subst P (sym (one.others.others j differ)) (inv.carried j before w queue next here there (sym (one.others.queues j differ) ∙ now))
        | inr past ↦
            let same : i ≡ j = omega (arith, less, past) in
            subst (λ k. Carry old new c.args.at k) same this w queue next here there now
      ];
      rest = λ j more. one.others.queues j (λ e. omega (arith, e, more)) ∙ inv.rest j (omega (arith, more));
    }

pub returns-clause-carried : goal.returns-clause-carried
returns-clause-carried g c j w queue next here there now =
    c.loop-trib.invariant.carried j (omega (arith, inside c.args.self.now.list.items j w here, c.args.self.now.count, c.loop-trib-test.false)) w queue next here there now
