use Rattle.pdh_tx.specs.Node.{IsDisjoint}
use Rattle.std.proofs.Common.{◌≡◌, ◌<◌, ◌≤◌, ◌+◌, ℕ, List, slice_index, IsSome, refl, length, sym, ap, ◌∙◌, arith, leb, inl, inr, subst}
use Rattle.std.specs.Option.{option_map_or}
use Rattle.std.proofs.lemmas.Bool.{cases_lt, cases_eq}
use Rattle.std.proofs.lemmas.List.{length-set}
use Rattle.std.proofs.Math.Seq.{map-set_same}
use Rattle.pdh_shape.specs.OwnNumbers.{threshold}
use Rattle.pdh_levels.specs.Levels.{len_at, level_stores, stores_at}
use Rattle.pdh_line.specs.Paths.{steps_of}
use Rattle.pdh_tx.specs.Meaning.{plan_of}
use Rattle.pdh_tx.specs.Tributary.{child_in, store_in, share_in, would_carry, meaning_in}
use Rattle.pdh_tx.proofs.FrameStarts.{all_stores}
use Rattle.pdh_tx.proofs.Moving.{slice_get_set, inside}
use Rattle.pdh_tx.proofs.tributaries.Tributaries.decide_all.Goals as goal

before : (j i : ℕ) → j < i + 1 → (j ≡ i → ⊥) → j < i
before j i h other = elim (cases_lt j i) [
  | inl less ↦ less
  | inr more ↦ absurd (other (omega arith))
]

pub counts-arriving-requires-clause-node : goal.counts-arriving-requires-clause-node
counts-arriving-requires-clause-node g c = subst IsSome (sym c.requires.node.at) refl

pub loop-trib-preserved : goal.loop-trib-preserved
loop-trib-preserved g c =
    let ws = c.loop-trib.self.list.items in
    let w' = c.decide.new.self in
    let i : ℕ = c.loop-trib.trib in
    let inv = c.loop-trib.invariant in
    let counts : ℕ → ℕ = λ j. (plan_of c.args.clock.now).counts c.args.path j c.args.frame in
    let stores : stores_at c.args.clock.now.levels (steps_of c.args.path) ≡ g.S.Shape.TRIBS =
    ap (λ o. option_map_or level_stores o 0) c.requires.node.at ∙ all_stores g.S.Shape.shape c.requires.node.level c.args.self.now.stores c.requires.node.numbers ∙ g.met.S.Shape.tribs_is in
    let each : List ℕ = c.counts-arriving.result in
    let stored : i < stores_at c.args.clock.now.levels (steps_of c.args.path) = omega (arith, stores, c.loop-trib-test.true) in
    let value : slice_index each i ≡ counts i = c.counts-arriving.ensures.value i stored in
    record {
      child = map-set_same child_in ws i w' c.index_mut.result.now (c.decide.ensures.child ∙ ap child_in c.index_mut.ensures.value) ∙ inv.child;
      store = map-set_same store_in ws i w' c.index_mut.result.now (c.decide.ensures.store ∙ ap store_in c.index_mut.ensures.value) ∙ inv.store;
      long = length-set ws i w' ∙ inv.long;
      more = λ j w h e. elim (slice_get_set ws i j w' w e) [
        | inl p ↦ ap (λ v. (share_in v).more) (sym p.1) ∙ ap (λ v. v.more) c.decide.ensures.share ∙ ap (λ s. leb threshold (length s)) (sym c.decide.ensures.store) ∙ ap would_carry p.1
        | inr p ↦ inv.more j w (before j i h p.0) p.1
      ];
      arriving = λ j w h e. elim (slice_get_set ws i j w' w e) [
        | inl p ↦ ap (λ v. (share_in v).arriving) (sym p.1) ∙ ap (λ v. v.arriving) c.decide.ensures.share ∙ value ∙ ap counts (sym p.0)
        | inr p ↦ inv.arriving j w (before j i h p.0) p.1
      ];
      fits = λ j h. elim (cases_eq j i) [
        | inl same ↦
            let most : counts i ≤ len_at c.args.clock.now.levels (steps_of c.args.path) = omega (arith, c.counts-arriving.ensures.value i stored, c.counts-arriving.ensures.most i stored) in
            let len : len_at c.args.clock.now.levels (steps_of c.args.path) ≡ g.S.Shape.LEN = ap (λ o. option_map_or (λ level. level.len) o 0) c.requires.node.at ∙ c.requires.node.numbers.len ∙ g.met.S.Shape.len_is in
            omega (arith, most, len, ap counts same)
        | inr other ↦ inv.fits j (before j i h other)
      ];
    }

pub returns-clause-more : goal.returns-clause-more
returns-clause-more g c j w e =
    let l = inside c.loop-trib.self.list.items j w e in
    c.loop-trib.invariant.more j w (let a = c.loop-trib-test.false in let b = c.loop-trib.invariant.long in let d = c.args.self.now.count in omega arith) e

pub returns-clause-arriving : goal.returns-clause-arriving
returns-clause-arriving g c j w e =
    let l = inside c.loop-trib.self.list.items j w e in
    c.loop-trib.invariant.arriving j w (let a = c.loop-trib-test.false in let b = c.loop-trib.invariant.long in let d = c.args.self.now.count in omega arith) e

pub invariant_of-self-clause-count : goal.invariant_of-self-clause-count
invariant_of-self-clause-count g c = length-set c.loop-trib.self.list.items c.loop-trib.trib c.decide.new.self ∙ c.loop-trib.self.count

pub invariant_of-self-clause-disjoint : goal.invariant_of-self-clause-disjoint
invariant_of-self-clause-disjoint g c =
    subst IsDisjoint (sym (map-set_same (meaning_in g.C.Tx) c.loop-trib.self.list.items c.loop-trib.trib c.decide.new.self c.index_mut.result.now (ap g.C.Tx.meaning c.decide.ensures.child ∙ ap (meaning_in g.C.Tx) c.index_mut.ensures.value))) c.loop-trib.self.disjoint
