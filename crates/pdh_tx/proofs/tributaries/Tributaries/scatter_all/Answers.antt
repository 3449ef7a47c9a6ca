use Rattle.std.proofs.Common.{◌≡◌, ◌<◌, ◌+◌, ℕ, inl, inr, refl, sym, ap, ◌∙◌, subst, arith, Some, slice_get}
use Rattle.std.proofs.lemmas.Bool.{cases_lt}
use Rattle.std.proofs.lemmas.List.{length-set}
use Rattle.std.proofs.lemmas.Option.{slice_get_read}
use Rattle.std.proofs.Math.Seq.{map-set_same}
use Rattle.pdh_tx.specs.Node.{IsDisjoint}
use Rattle.pdh_tx.specs.Tributary.{child_in, store_in, share_in, meaning_in}
use Rattle.pdh_tx.specs.Gathered.{waiting_in}
use Rattle.pdh_tx.proofs.Lists.{some_same, get_other}
use Rattle.pdh_tx.proofs.Moving.{slice_get_set, inside}
use Rattle.pdh_tx.proofs.tributaries.Tributaries.scatter_all.Goals as goal

before : (j i : ℕ) → j < i + 1 → (j ≡ i → ⊥) → j < i
before j i h other = elim (cases_lt j i) [
  | inl less ↦ less
  | inr more ↦ absurd (other (omega (arith, h, more)))
]

pub scatter-requires-clause-empty : goal.scatter-requires-clause-empty
scatter-requires-clause-empty g c =
    let i : ℕ = c.loop-trib.trib in
    let inv = c.loop-trib.invariant in
    let here = slice_get_read _ _ i _ refl (omega (arith, c.loop-trib-test.true, c.loop-trib.self.count)) c.index_mut.ensures.value in
    let there = slice_get_read _ _ i _ refl (omega (arith, c.loop-trib-test.true, c.loop-trib.self.queue_count)) c.index.ensures in
    (c.requires.left i c.index_mut.result.now c.index.result.now (sym (inv.rest i (omega arith)) ∙ here) (ap (λ queues. slice_get queues.items i) (sym inv.queues) ∙ there)).empty

pub scatter-requires-clause-all : goal.scatter-requires-clause-all
scatter-requires-clause-all g c =
    let i : ℕ = c.loop-trib.trib in
    let inv = c.loop-trib.invariant in
    let here = slice_get_read _ _ i _ refl (omega (arith, c.loop-trib-test.true, c.loop-trib.self.count)) c.index_mut.ensures.value in
    let there = slice_get_read _ _ i _ refl (omega (arith, c.loop-trib-test.true, c.loop-trib.self.queue_count)) c.index.ensures in
    (c.requires.left i c.index_mut.result.now c.index.result.now (sym (inv.rest i (omega arith)) ∙ here) (ap (λ queues. slice_get queues.items i) (sym inv.queues) ∙ there)).all

pub scatter-requires-clause-few : goal.scatter-requires-clause-few
scatter-requires-clause-few g c =
    let i : ℕ = c.loop-trib.trib in
    let inv = c.loop-trib.invariant in
    let here = slice_get_read _ _ i _ refl (omega (arith, c.loop-trib-test.true, c.loop-trib.self.count)) c.index_mut.ensures.value in
    let there = slice_get_read _ _ i _ refl (omega (arith, c.loop-trib-test.true, c.loop-trib.self.queue_count)) c.index.ensures in
    (c.requires.left i c.index_mut.result.now c.index.result.now (sym (inv.rest i (omega arith)) ∙ here) (ap (λ queues. slice_get queues.items i) (sym inv.queues) ∙ there)).few

pub loop-trib-preserved : goal.loop-trib-preserved
loop-trib-preserved g c =
    let i : ℕ = c.loop-trib.trib in
    let inv = c.loop-trib.invariant in
    let ws = c.loop-trib.self.list.items in
    let queues = c.loop-trib.self.queues.items in
    let w' = c.scatter.new.self in
    let there : slice_get queues i ≡ Some c.index.result.now = slice_get_read _ _ i _ refl (omega (arith, c.loop-trib-test.true, c.loop-trib.self.queue_count)) c.index.ensures in
    record {
      child = map-set_same child_in ws i w' c.index_mut.result.now (c.scatter.ensures.child ∙ ap child_in c.index_mut.ensures.value) ∙ inv.child;
      shares = map-set_same share_in ws i w' c.index_mut.result.now (c.scatter.ensures.share ∙ ap share_in c.index_mut.ensures.value) ∙ inv.shares;
      queues = inv.queues;
      store = λ j less w queue e at. elim (slice_get_set ws i j w' w e) [
        | inl p ↦
            let same : c.index.result.now ≡ queue = some_same (sym there ∙ ap (slice_get queues) (sym p.0) ∙ at) in
            ap store_in (sym p.1) ∙ c.scatter.ensures.store ∙ ap waiting_in same
        | inr p ↦ inv.store j (before j i less p.0) w queue p.1 at
      ];
      rest = λ j more. get_other ws i j w' (λ e. omega (arith, e, more)) ∙ inv.rest j (omega (arith, more));
    }

pub returns-clause-store : goal.returns-clause-store
returns-clause-store g c j w queue e at =
    c.loop-trib.invariant.store j (omega (arith, inside c.loop-trib.self.list.items j w e, c.loop-trib.self.count, c.loop-trib-test.false)) w queue e at

pub invariant_of-self-clause-count : goal.invariant_of-self-clause-count
invariant_of-self-clause-count g c = length-set c.loop-trib.self.list.items c.loop-trib.trib c.scatter.new.self ∙ c.loop-trib.self.count

pub invariant_of-self-clause-disjoint : goal.invariant_of-self-clause-disjoint
invariant_of-self-clause-disjoint g c =
    subst IsDisjoint (sym (map-set_same (meaning_in g.C.Tx) c.loop-trib.self.list.items c.loop-trib.trib c.scatter.new.self c.index_mut.result.now (ap g.C.Tx.meaning c.scatter.ensures.child ∙ ap (meaning_in g.C.Tx) c.index_mut.ensures.value))) c.loop-trib.self.disjoint
