use Rattle.std.proofs.Common.{◌≢◌, None, ℕ, ◌<◌, List, length, refl, sym, ◌∙◌, subst, arith, below_more}
use Rattle.std.specs.Prelude.{slice_index}
use Rattle.std.proofs.lemmas.Result.{err_from_is_err_and}
use Rattle.std.proofs.lemmas.List.{get_or-set_same, get_or-set_other, length-set}
use Rattle.pdh_chain.specs.Chains.{leaves_of}
use Rattle.pdh_answers.specs.Names.{schedule_name, leaf_name}
use Rattle.pdh_runner.specs.Reading.{HasLength}
use Rattle.pdh_runner.proofs.Touching.{has_length_still, looks_then, looks_none, counted_since}
use Rattle.pdh_runner.proofs.Refusing.{refuses_since}
use Rattle.pdh_making.proofs.MuxComes.{schedule_size_refuses, leaf_size_refuses, all_are_held}
use Rattle.pdh_making.proofs.muxing.read_sizes.Goals as goal
use Rattle.pdh_making.specs.Mux.{making_line}
use Rattle.pdh_making.specs.Mux.Job.{Plainly}

pub loop-leaf-init : goal.loop-leaf-init
loop-leaf-init g c = record { looks = looks_none _; same = refl; schedule = c.in_ok-schedule.ensures.ok; all = refl; leaf = λ k h. absurd (omega arith) }

pub returns-in_err-schedule-clause-err : goal.returns-in_err-schedule-clause-err
returns-in_err-schedule-clause-err g c =
    let p = err_from_is_err_and c.from_residual.result c.from_residual.ensures.1 in
    rw (p.1, p.2) (λ job. schedule_size_refuses c.args.chain job _ _ _ c.in_err-schedule.ensures.err)

pub returns-in_err-leaves-clause-counted : goal.returns-in_err-leaves-clause-counted
returns-in_err-leaves-clause-counted g c =
    let p = err_from_is_err_and c.from_residual-in_err-leaves.result c.from_residual-in_err-leaves.ensures.1 in
    rw (p.1, p.2) (counted_since _ _ _ _ (c.loop-leaf.invariant.same ∙ c.in_ok-schedule.ensures.counted) c.in_err-leaves.ensures.counted)

pub returns-clause-counted : goal.returns-clause-counted
returns-clause-counted g c = c.loop-leaf.invariant.same ∙ c.in_ok-schedule.ensures.counted

pub returns-in_err-leaves-clause-looks : goal.returns-in_err-leaves-clause-looks
returns-in_err-leaves-clause-looks g c = looks_then _ _ _ c.size.ensures.looks (looks_then _ _ _ c.loop-leaf.invariant.looks c.size-in-loop-leaf.ensures.looks)

pub returns-in_err-leaves-clause-err : goal.returns-in_err-leaves-clause-err
returns-in_err-leaves-clause-err g c =
    let p = err_from_is_err_and c.from_residual-in_err-leaves.result c.from_residual-in_err-leaves.ensures.1 in
    let inv = c.loop-leaf.invariant in
    let here : c.loop-leaf.leaf < leaves_of c.args.chain = omega (arith, c.leaf_count-leaf-end.ensures.value) in
    rw (p.1, p.2) (λ job. refuses_since (making_line c.args.chain job) _ (g.S.Shelf.state c.loop-leaf.shelf) _ _ (looks_then _ _ _ c.size.ensures.looks inv.looks) (inv.same ∙ c.in_ok-schedule.ensures.counted)
    (leaf_size_refuses c.args.chain job _ _ c.in_ok-schedule.schedule c.loop-leaf.leaf (slice_index c.loop-leaf.leaves) _ here inv.schedule inv.leaf c.in_err-leaves.ensures.err))

pub loop-leaf-preserved : goal.loop-leaf-preserved
loop-leaf-preserved g c =
    let inv = c.loop-leaf.invariant in
    let old = g.S.Shelf.state c.loop-leaf.shelf in
    let new = g.S.Shelf.state c.size-in-loop-leaf.new.shelf in
    let looks = c.size-in-loop-leaf.ensures.looks in
    let leaves : List ℕ = c.loop-leaf.leaves in
    let size = c.in_ok-leaves.field-0 in
    let here : c.loop-leaf.leaf < length leaves = omega (arith, inv.all, c.leaf_count-leaf-end.ensures.few) in
    record {
      looks = looks_then _ old new inv.looks looks;
      same = c.in_ok-leaves.ensures.counted ∙ inv.same;
      schedule = has_length_still schedule_name old new _ looks inv.schedule;
      all = length-set leaves c.loop-leaf.leaf size ∙ inv.all;
      leaf = below_more _ _
          (λ k h. let ne : k ≢ c.loop-leaf.leaf = omega arith in
          subst (λ n. HasLength (leaf_name k) n new) (sym (get_or-set_other leaves c.loop-leaf.leaf k size 0 ne)) (has_length_still (leaf_name k) old new _ looks (inv.leaf k h)))
          (subst (λ n. HasLength (leaf_name c.loop-leaf.leaf) n new) (sym (get_or-set_same leaves c.loop-leaf.leaf size 0 here)) c.in_ok-leaves.ensures.ok);
    }

pub returns-clause-looks : goal.returns-clause-looks
returns-clause-looks g c = looks_then _ _ _ c.size.ensures.looks c.loop-leaf.invariant.looks

pub returns-clause-ok : goal.returns-clause-ok
returns-clause-ok g c = record { schedule = c.loop-leaf.invariant.schedule; leaf = λ k h. c.loop-leaf.invariant.leaf k (omega (arith, c.leaf_count-leaf-end.ensures.value)) }

pub returns-clause-held : goal.returns-clause-held
returns-clause-held g c =
    all_are_held c.args.chain (Plainly None) (record { schedule = c.in_ok-schedule.schedule; leaves = c.loop-leaf.leaves }) (g.S.Shelf.state c.loop-leaf.shelf)
    (record { schedule = c.loop-leaf.invariant.schedule; leaf = λ k h. c.loop-leaf.invariant.leaf k (omega (arith, c.leaf_count-leaf-end.ensures.value)) })
