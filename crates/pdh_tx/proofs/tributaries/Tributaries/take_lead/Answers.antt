use Rattle.std.proofs.Common.{◌≡◌, ℕ, map, List, refl, ap, ◌∙◌, subst, arith, Some, slice_get, sym}
use Rattle.std.specs.Prelude.{flat_map}
use Rattle.std.specs.List.{range_with_len}
use Rattle.std.proofs.lemmas.Option.{slice_get_read, slice_get-map}
use Rattle.std.proofs.lemmas.List.{length-set}
use Rattle.std.proofs.lemmas.Result.{on_ok_weaker, IfErr-weaker}
use Rattle.std.proofs.Math.Seq.{map-set_same}
use Rattle.pdh_shape.specs.OwnNumbers.{lead}
use Rattle.pdh_tx.specs.Meaning.{plan_in, Plan, Meaning}
use Rattle.pdh_tx.specs.Held.{first_some, Readout, unslipped, lead_of}
use Rattle.pdh_tx.specs.Tributary.{placed_in, held_in, meaning_in}
use Rattle.pdh_tx.specs.Node.{lead_at, obstacle_of, slips_below, lead_slips, IsDisjoint}
use Rattle.pdh_tx.proofs.Feeding.{fed_one}
use Rattle.pdh_tx.proofs.Telling.{tells_same}
use Rattle.pdh_tx.proofs.Advancing.{upto_here, advance_one, blocked_one}
use Rattle.pdh_tx.proofs.tributaries.Tributaries.take_lead.Goals as goal

lead_same : (plan : Plan) (ms : List Meaning) (size : ℕ → ℕ) (i : ℕ) (m : Meaning) → slice_get ms i ≡ Some m → first_some (lead_at plan ms size i) ≡ first_some (lead_of m plan size)
lead_same plan ms size i m at = ap (λ o. first_some (map (obstacle_of o plan size) (range_with_len 0 lead))) at

slips_same : (plan : Plan) (ms : List Meaning) (i : ℕ) (m : Meaning) → slice_get ms i ≡ Some m → lead_slips plan ms i ≡ flat_map (m.slips plan) (range_with_len 0 lead)
slips_same plan ms i m at = ap (λ o. flat_map (slips_below o plan) (range_with_len 0 lead)) at

pub lead-requires-clause-fed : goal.lead-requires-clause-fed
lead-requires-clause-fed g c =
    let at : slice_get c.args.self.now.list.items c.args.trib ≡ Some c.index_mut.result.now = slice_get_read _ _ c.args.trib _ refl (omega (arith, c.requires.trib, c.args.self.now.count)) c.index_mut.ensures.value in
    fed_one c.args.self.now c.args.path c.args.clock.now (g.F.Feed.inputs c.args.feed.now) c.args.trib c.index_mut.result.now at c.requires.fed

pub lead-requires-clause-placed : goal.lead-requires-clause-placed
lead-requires-clause-placed g c =
    let at : slice_get c.args.self.now.list.items c.args.trib ≡ Some c.index_mut.result.now = slice_get_read _ _ c.args.trib _ refl (omega (arith, c.requires.trib, c.args.self.now.count)) c.index_mut.ensures.value in
    subst (λ n. placed_in g.C.Tx c.index_mut.result.now (plan_in c.args.clock.now g.G.SlipLog.takes) n (unslipped 0)) (upto_here (λ j. 0) (λ j. lead) c.args.trib) (c.requires.placed c.args.trib _ at)

pub returns-clause-ok : goal.returns-clause-ok
returns-clause-ok g c =
    let plan : Plan = plan_in c.args.clock.now g.G.SlipLog.takes in
    let i : ℕ = c.args.trib in
    let ws = c.args.self.now.list.items in
    let w = c.index_mut.result.now in
    let w' = c.lead.new.self in
    let at : slice_get ws i ≡ Some w = slice_get_read _ _ i _ refl (omega (arith, c.requires.trib, c.args.self.now.count)) c.index_mut.ensures.value in
    let placed : _ → Plan → ℕ → Readout → Type 0 = placed_in g.C.Tx in
    let held : _ → _ → ℕ → Readout → Type 0 = held_in g.C.Tx in
    on_ok_weaker c.lead.result
    (λ ok.
    advance_one placed held (meaning_in g.C.Tx) plan ws i w w' (λ j. 0) (λ j. lead) (λ j. unslipped 0) (λ j. unslipped 0) _ _ _ c.args.self.now.disjoint at (length-set ws i w') (λ j h. refl) c.requires.placed
    ok.placed ok.gains
    (λ size fit. lead_same plan (map (meaning_in g.C.Tx) ws) size i (g.C.Tx.meaning w.child) (slice_get-map (meaning_in g.C.Tx) ws i ∙ rw at refl) ∙ ok.free size fit))
    c.lead.ensures.ok

pub returns-clause-err : goal.returns-clause-err
returns-clause-err g c =
    let plan : Plan = plan_in c.args.clock.now g.G.SlipLog.takes in
    let i : ℕ = c.args.trib in
    let ws = c.args.self.now.list.items in
    let w = c.index_mut.result.now in
    let at : slice_get ws i ≡ Some w = slice_get_read _ _ i _ refl (omega (arith, c.requires.trib, c.args.self.now.count)) c.index_mut.ensures.value in
    let placed : _ → Plan → ℕ → Readout → Type 0 = placed_in g.C.Tx in
    let held : _ → _ → ℕ → Readout → Type 0 = held_in g.C.Tx in
    IfErr-weaker c.lead.result _ _
    (λ stop both.
    blocked_one placed held (meaning_in g.C.Tx) plan ws i w (λ j. 0) (λ j. lead) _ _ stop _ _ _ _ c.args.self.now.disjoint at (λ v n k. g.met.C.Tx.grows v.child plan n k) (λ j. omega arith)
    both.halts both.met
    (λ size. lead_same plan (map (meaning_in g.C.Tx) ws) size i (g.C.Tx.meaning w.child) (slice_get-map (meaning_in g.C.Tx) ws i ∙ rw at refl)))
    c.lead.ensures.err

pub returns-clause-same : goal.returns-clause-same
returns-clause-same g c = map-set_same (meaning_in g.C.Tx) c.args.self.now.list.items c.args.trib c.lead.new.self c.index_mut.result.now (c.lead.ensures.kept.same ∙ ap (meaning_in g.C.Tx) c.index_mut.ensures.value)

pub invariant_of-self-clause-count : goal.invariant_of-self-clause-count
invariant_of-self-clause-count g c = length-set c.args.self.now.list.items c.args.trib c.lead.new.self ∙ c.args.self.now.count

pub invariant_of-self-clause-disjoint : goal.invariant_of-self-clause-disjoint
invariant_of-self-clause-disjoint g c =
    subst IsDisjoint (sym (map-set_same (meaning_in g.C.Tx) c.args.self.now.list.items c.args.trib c.lead.new.self c.index_mut.result.now (c.lead.ensures.kept.same ∙ ap (meaning_in g.C.Tx) c.index_mut.ensures.value))) c.args.self.now.disjoint

pub returns-clause-told : goal.returns-clause-told
returns-clause-told g c =
    let plan : Plan = plan_in c.args.clock.now g.G.SlipLog.takes in
    let i : ℕ = c.args.trib in
    let ws = c.args.self.now.list.items in
    let w = c.index_mut.result.now in
    let at : slice_get ws i ≡ Some w = slice_get_read _ _ i _ refl (omega (arith, c.requires.trib, c.args.self.now.count)) c.index_mut.ensures.value in
    tells_same (flat_map ((g.C.Tx.meaning w.child).slips plan) (range_with_len 0 lead)) (lead_slips plan (map (meaning_in g.C.Tx) ws) i)
    (slips_same plan (map (meaning_in g.C.Tx) ws) i (g.C.Tx.meaning w.child) (slice_get-map (meaning_in g.C.Tx) ws i ∙ rw at refl)) c.lead.ensures.told
