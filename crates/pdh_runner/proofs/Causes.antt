-- A command that writes nothing did its work.
use Rattle.std.proofs.Common.{◌≡◌, ℕ, List, Ok, arith}
use Rattle.pdh_edge.specs.Files.{ShelfState, Looks}
use Rattle.pdh_answers.specs.Answer.{Answer}
use Rattle.pdh_runner.specs.Operation.{Operation, AreTold, IsOutput, Files}
use Rattle.pdh_runner.specs.Performing.{ChangesOnly, Performs}
use Rattle.pdh_answers.specs.declared.answer.Done.{Done}
use Rattle.pdh_runner.proofs.Touching.{looks_same}

pub looks_others : (P : List ℕ → Type 0) (a b : ShelfState) → Looks a b → ChangesOnly P a b
looks_others P a b looks name out = looks_same a b name looks

-- a command that writes nothing did its work
pub did : (operation : Operation) (a b : ShelfState) (done : Done) → operation.outputs.count ≡ 0 → Looks a b → b.counts ≡ a.counts → ((files : Files) → AreTold operation a.told files → ◌≡◌ {A = Answer} (Ok done) (operation.comes_to files)) → Performs operation a b (Ok done)
did operation a b done none looks same comes = record {
  cause = comes;
  outputs = λ i low. absurd (omega (arith, low, none));
  others = looks_others (IsOutput operation) a b looks;
  counted = same;
}
