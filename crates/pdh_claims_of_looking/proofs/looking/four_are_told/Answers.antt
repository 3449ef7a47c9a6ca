use Rattle.std.proofs.Common.{◌≡◌, ◌≤◌, List, [], length, take, map, ap, subst, arith}
use Rattle.std.specs.Prelude.{flat_map, fold}
use Rattle.std.proofs.lemmas.List.{length-take}
use Rattle.pdh_looking.specs.declared.answer.Looked.{Looked}
use Rattle.pdh_looking.specs.declared.nearest.Nearest.{Nearest}
use Rattle.pdh_looking.specs.Answers.{IsAnswer}
use Rattle.pdh_looking.specs.Judging.{line_of}
use Rattle.pdh_looking.specs.Nearest.{near, ranked}
use Rattle.pdh_looking.specs.Words.{tops}
use Rattle.pdh_claims_of_looking.proofs.looking.four_are_told.Goals as goal

few : (some all : List Nearest) → some ≡ take 3 all → length some ≤ 3
few some all is = omega (arith, ap length is, length-take 3 all)

pub returns : goal.returns
returns c =
    let a = c.args in
    let P : Looked → Type 0 = λ looked. IsAnswer a.part.now a.from a.bits a.orders.now looked in
    let nearest = (subst P c.in-Nothing.is c.in_ok-looked.ensures).1 in
    omega (arith, c.len.ensures, few _ (fold ranked [] (flat_map (λ top. map (near (line_of a.part.now a.from a.bits) top) a.orders.now) tops)) nearest)
