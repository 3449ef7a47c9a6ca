use Rattle.std.proofs.Common.{◌≡◌, ◌<◌, ◌≤◌, ◌+◌, ℕ, List, slice_index, IsSome, refl, sym, ap, ◌∙◌, arith, leb, inl, inr, subst, Some, slice_get}
use Rattle.std.specs.Option.{option_map_or}
use Rattle.std.proofs.lemmas.Bool.{cases_lt}
use Rattle.std.proofs.lemmas.List.{length-set}
use Rattle.std.proofs.lemmas.Option.{slice_get_read}
use Rattle.std.proofs.Math.Seq.{map-set_same}
use Rattle.pdh_levels.specs.Levels.{len_at, level_stores, stores_at}
use Rattle.pdh_line.specs.Paths.{steps_of}
use Rattle.pdh_shape.specs.OwnNumbers.{threshold}
use Rattle.pdh_tx.specs.declared.queue.Queue.{Queue}
use Rattle.pdh_tx.specs.Meaning.{plan_of}
use Rattle.pdh_tx.specs.Node.{IsDisjoint}
use Rattle.pdh_tx.specs.Tributary.{child_in, store_in, share_in, meaning_in}
use Rattle.pdh_tx.proofs.FrameStarts.{all_stores}
use Rattle.pdh_tx.proofs.Lists.{some_same}
use Rattle.pdh_tx.proofs.Moving.{slice_get_set, inside}
use Rattle.pdh_tx.proofs.tributaries.Tributaries.decide_gathered.Goals as goal

before : (j i : ℕ) → j < i + 1 → (j ≡ i → ⊥) → j < i
before j i h other = elim (cases_lt j i) [
  | inl less ↦ less
  | inr more ↦ absurd (other (omega (arith, h, more)))
]

pub counts-arriving-requires-clause-node : goal.counts-arriving-requires-clause-node
counts-arriving-requires-clause-node g c = subst IsSome (sym c.requires.node.at) refl

pub loop-trib-preserved : goal.loop-trib-preserved
loop-trib-preserved g c =
    let ws = c.loop-trib.self.list.items in
    let queues = c.loop-trib.self.queues.items in
    let w' = c.decide_by.new.self in
    let i : ℕ = c.loop-trib.trib in
    let inv = c.loop-trib.invariant in
    let counts : ℕ → ℕ = λ j. (plan_of c.args.clock.now).counts c.args.path j c.args.frame in
    let stores : stores_at c.args.clock.now.levels (steps_of c.args.path) ≡ g.S.Shape.TRIBS =
    ap (λ o. option_map_or level_stores o 0) c.requires.node.at ∙ all_stores g.S.Shape.shape c.requires.node.level c.args.self.now.stores c.requires.node.numbers ∙ g.met.S.Shape.tribs_is in
    let each : List ℕ = c.counts-arriving.result in
    let stored : i < stores_at c.args.clock.now.levels (steps_of c.args.path) = omega (arith, stores, c.loop-trib-test.true) in
    let value : slice_index each i ≡ counts i = c.counts-arriving.ensures.value i stored in
    let most : counts i ≤ len_at c.args.clock.now.levels (steps_of c.args.path) = omega (arith, value, c.counts-arriving.ensures.most i stored) in
    let len : len_at c.args.clock.now.levels (steps_of c.args.path) ≡ g.S.Shape.shape.len = ap (λ o. option_map_or (λ level. level.len) o 0) c.requires.node.at ∙ c.requires.node.numbers.len in
    let q = c.index.result.now in
    let at : slice_get queues i ≡ Some q = slice_get_read _ _ i _ refl (omega (arith, c.loop-trib-test.true, c.loop-trib.self.queue_count)) c.index.ensures in
    record {
      child = map-set_same child_in ws i w' c.index_mut.result.now (c.decide_by.ensures.child ∙ ap child_in c.index_mut.ensures.value) ∙ inv.child;
      store = map-set_same store_in ws i w' c.index_mut.result.now (c.decide_by.ensures.store ∙ ap store_in c.index_mut.ensures.value) ∙ inv.store;
      long = length-set ws i w' ∙ inv.long;
      queues = inv.queues;
      decided = λ j h w queue e there. elim (slice_get_set ws i j w' w e) [
        | inl p ↦
            let same : q ≡ queue = some_same (sym at ∙ ap (slice_get queues) (sym p.0) ∙ there) in (
              ap share_in (sym p.1) ∙ c.decide_by.ensures.share ∙ ap (λ (a : ℕ). record { arriving = a; more = leb threshold q.fill }) (value ∙ ap counts (sym p.0)) ∙ ap (λ (v : Queue). record { arriving = counts j; more = leb threshold v.fill }) same,
              omega (arith, most, len, ap counts p.0),
            )
        | inr p ↦ inv.decided j (before j i h p.0) w queue p.1 there
      ];
    }

pub returns-clause-decided : goal.returns-clause-decided
returns-clause-decided g c j w queue e there =
    c.loop-trib.invariant.decided j (omega (arith, inside c.loop-trib.self.list.items j w e, c.loop-trib.self.count, c.loop-trib-test.false)) w queue e there

pub invariant_of-self-clause-count : goal.invariant_of-self-clause-count
invariant_of-self-clause-count g c = length-set c.loop-trib.self.list.items c.loop-trib.trib c.decide_by.new.self ∙ c.loop-trib.self.count

pub invariant_of-self-clause-disjoint : goal.invariant_of-self-clause-disjoint
invariant_of-self-clause-disjoint g c =
    subst IsDisjoint (sym (map-set_same (meaning_in g.C.Tx) c.loop-trib.self.list.items c.loop-trib.trib c.decide_by.new.self c.index_mut.result.now (ap g.C.Tx.meaning c.decide_by.ensures.child ∙ ap (meaning_in g.C.Tx) c.index_mut.ensures.value))) c.loop-trib.self.disjoint
