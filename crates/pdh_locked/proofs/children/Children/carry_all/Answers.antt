use Rattle.std.proofs.Common.{◌≡◌, ℕ, Bool, List, inl, inr, sym, ◌∙◌, subst, arith}
use Rattle.std.proofs.lemmas.Bool.{cases_lt}
use Rattle.pdh_tx.proofs.Moving.{inside}
use Rattle.pdh_locked.specs.Gathered.{CarriesBits, Carry}
use Rattle.pdh_locked.proofs.children.Children.carry_all.Goals as goal

pub carry_one-requires-clause-can : goal.carry_one-requires-clause-can
carry_one-requires-clause-can g c queue there =
    c.requires.can c.loop-trib.trib queue (sym (c.loop-trib.invariant.rest c.loop-trib.trib (omega arith)) ∙ there)

pub loop-trib-preserved : goal.loop-trib-preserved
loop-trib-preserved g c =
    let inv = c.loop-trib.invariant in
    let i : ℕ = c.loop-trib.trib in
    let old = c.args.self.now in
    let new = c.carry_one.new.self in
    let one = c.carry_one.ensures in
    let this : Carry old new c.args.at i = λ queue next there now. one.carried queue next (inv.rest i (omega arith) ∙ there) now in
    record {
      list = one.list ∙ inv.list;
      overhead = one.overhead ∙ inv.overhead;
      carried = λ j less queue next there now. elim (cases_lt j i) [
        | inl before ↦
            let differ : j ≡ i → ⊥ = λ e. omega (arith, e, before) in
            let P : List Bool → Type 0 = λ column. CarriesBits g.S.Shape.shape j c.args.at.slot c.args.at.len queue next column in
            subst P (sym (one.others.others j differ)) (inv.carried j before queue next there (sym (one.others.queues j differ) ∙ now))
        | inr past ↦
            let same : i ≡ j = omega (arith, less, past) in
            subst (λ k. Carry old new c.args.at k) same this queue next there now
      ];
      rest = λ j more. one.others.queues j (λ e. omega (arith, e, more)) ∙ inv.rest j (omega (arith, more));
    }

pub returns-clause-carried : goal.returns-clause-carried
returns-clause-carried g c j queue next there now =
    c.loop-trib.invariant.carried j (omega (arith, inside c.args.self.now.queues.items j queue there, c.args.self.now.queue_count, c.loop-trib-test.false)) queue next there now
