use Rattle.std.proofs.Common.{◌++◌, ◌∷◌, [], not, ap, ◌∙◌}
use Rattle.std.specs.Prelude.{count_by}
use Rattle.std.proofs.lemmas.Bool.{eq-eqb}
use Rattle.pdh_ds1.specs.Machine.{counted}
use Rattle.pdh_ds1.specs.View.{errors_in}
use Rattle.pdh_claims_of_streams.proofs.Blocks.{judged_by}
use Rattle.pdh_claims_of_streams.proofs.ds1.block_judged_by_itself.Goals as goal

pub returns : goal.returns
returns g c line one two n stands extended tracked right =
    let now = line ++ c.args.bits.now.bits in
    c.errored.ensures now (c.in_ok-take.ensures.taken.stands line stands)
    ∙ ap (λ form. errors_in form now) (c.take.ensures.form ∙ extended)
    ∙ ap (λ judged. counted (count_by (λ errored. errored) judged)) (judged_by now _ tracked)
    ∙ ap (λ same. counted (count_by (λ errored. errored) (not same ∷ []))) (eq-eqb _ _ right)
