use Rattle.std.proofs.Common.{◌≡◌, inl, inr, sym, ap, ◌∙◌, subst}
use Rattle.std.proofs.lemmas.Bool.{cases_Bool}
use Rattle.pdh_align.specs.Aligning.{Held, StandsFor}
use Rattle.pdh_align.proofs.AligningLaws.{stands_on}
use Rattle.pdh_claims_of_alignment.proofs.align.bits_of_the_list_are_held.Goals as goal

pub returns : goal.returns
returns g c line h =
    let s = g.S.Shape.shape in
    let now = c.exchange_frame.new.self in
    let stands : StandsFor s now line = elim (cases_Bool c.exchange_frame.result) [
      | inl done ↦
          let is = (c.exchange_frame.ensures.exchanged done).1 in
          stands_on s c.args.aligner.now now line (is ∙ ap (λ r. record c.args.aligner.now { ready = r }) (sym (ap (λ (x : Held). x.ready) is))) h
      | inr none ↦ subst (λ (x : Held). StandsFor s x line) (sym (c.exchange_frame.ensures.none none).1) h
    ] in
    (c.take.ensures.waits line stands).same
