-- What `drill` comes to.
use Rattle.std.proofs.Common.{◌≡◌, ℕ, ◌<◌, ◌≤◌, nat_lt, Ok, Err, true, false, refl, ap, sym, ◌∙◌, arith}
use Rattle.std.proofs.lemmas.Bool.Decides.{nat_tests}
use Rattle.pdh_edge.specs.Files.{ShelfState}
use Rattle.pdh_chain.specs.declared.chain.Chain.{Chain}
use Rattle.pdh_lab.specs.declared.report.Drill.{Drill as Report}
use Rattle.pdh_lab.specs.Drill.{drill_of}
use Rattle.pdh_making.specs.Drill.{drilled, drilling, drill_says}
use Rattle.pdh_runner.specs.Operation.{IsOutput}
use Rattle.pdh_runner.specs.Performing.{Performs}
use Rattle.pdh_answers.specs.declared.answer.Stop.TheVariants.{ManyFrames}
use Rattle.pdh_runner.proofs.Causes.{did, looks_others}
use Rattle.pdh_runner.proofs.Touching.{looks_none}
use Rattle.pdh_shape.specs.OwnNumbers.{most_drilled}

pub many_drilled : (chain : Chain) (seed frames : ℕ) → most_drilled < frames → drilled chain seed frames ≡ Err (ManyFrames frames)
many_drilled chain seed frames many = let test : nat_lt most_drilled frames ≡ true = grind (arith, nat_tests) in rw test refl

few_drilled : (chain : Chain) (seed frames : ℕ) → frames ≤ most_drilled → drilled chain seed frames ≡ Ok (drill_says chain seed frames (drill_of chain seed frames))
few_drilled chain seed frames few = let test : nat_lt most_drilled frames ≡ false = grind (arith, nat_tests) in rw test refl

pub drill_refused : (chain : Chain) (seed frames : ℕ) (a : ShelfState) → most_drilled < frames → Performs (drilling chain seed frames) a a (Err (ManyFrames frames))
drill_refused chain seed frames a many = record {
  cause = λ files told. sym (many_drilled chain seed frames many);
  outputs = refl;
  others = looks_others (IsOutput (drilling chain seed frames)) a a (looks_none a);
  counted = refl;
}

pub drill_done : (chain : Chain) (seed frames : ℕ) (report : Report) (a : ShelfState) → frames ≤ most_drilled → report ≡ drill_of chain seed frames → Performs (drilling chain seed frames) a a (Ok (drill_says chain seed frames report))
drill_done chain seed frames report a few is = did (drilling chain seed frames) a a (drill_says chain seed frames report) refl (looks_none a) refl
    (λ files told. ap (λ r. Ok (drill_says chain seed frames r)) is ∙ sym (few_drilled chain seed frames few))
