use Rattle.std.proofs.Common.{inl, inr, arith, slice_get, ap, sym, ◌∙◌}
use Rattle.pdh_tests_of_desync.proofs.FourSmooth.{which_node}
use Rattle.pdh_tests_of_desync.proofs.desync.children.Goals as goal

pub open-requires-clause-apart : goal.open-requires-clause-apart
open-requires-clause-apart c = inl (omega arith)

pub open-requires-2-clause-apart : goal.open-requires-2-clause-apart
open-requires-2-clause-apart c = inl (omega arith)

pub open-requires-3-clause-apart : goal.open-requires-3-clause-apart
open-requires-3-clause-apart c = inl (omega arith)

pub open-requires-4-clause-apart : goal.open-requires-4-clause-apart
open-requires-4-clause-apart c = inl (omega arith)

pub returns-clause-stands : goal.returns-clause-stands
returns-clause-stands c = λ j node is.
    elim (which_node _ _ _ _ node j (ap (λ items. slice_get items j) (sym c.in_ok-vec.ensures.items) ∙ is)) [
      | inl e ↦ rw e c.in_ok-first.ensures.stands
      | inr behind ↦ elim behind [
        | inl e ↦ rw e c.in_ok-second.ensures.stands
        | inr last ↦ elim last [
          | inl e ↦ rw e c.in_ok-third.ensures.stands
          | inr e ↦ rw e c.in_ok-fourth.ensures.stands
        ]
      ]
    ]
