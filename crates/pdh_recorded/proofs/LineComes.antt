-- What a line comes to.
use Rattle.std.proofs.Common.{◌≡◌, ◌≢◌, ℕ, ◌*◌, ◌==◌, List, Ok, Err, true, false, length, refl, ap, inl, inr, arith}
use Rattle.std.proofs.lemmas.Bool.{cases_eq}
use Rattle.std.proofs.lemmas.Bool.Decides.{nat_tests}
use Rattle.pdh_recorded.specs.Demux.{frames_received, demuxed, demux_says}
use Rattle.pdh_runner.specs.Operation.{reaches_outputs}
use Rattle.pdh_answers.specs.declared.answer.Stop.TheVariants.{NoAlignment}
use Rattle.pdh_chain.specs.declared.chain.Chain.{Chain}

-- what a line comes to by the number of its delivered frames
pub demuxed_none : (chain : Chain) (line : List ℕ) → frames_received chain line ≡ 0 → demuxed chain line ≡ Err (NoAlignment (8 * length line))
unfolding demuxed
demuxed_none chain line none = let test : frames_received chain line == 0 ≡ true = grind (arith, nat_tests) in rw test refl

pub demuxed_some : (chain : Chain) (line : List ℕ) → frames_received chain line ≢ 0 → demuxed chain line ≡ Ok (demux_says chain (frames_received chain line))
unfolding demuxed
demuxed_some chain line some = let test : frames_received chain line == 0 ≡ false = grind (arith, nat_tests) in rw test refl

-- either is told behind the start of the outputs
pub demuxed_reaches : (chain : Chain) (line : List ℕ) → reaches_outputs (demuxed chain line) ≡ true
demuxed_reaches chain line = elim (cases_eq (frames_received chain line) 0) [
  | inl none ↦ ap reaches_outputs (demuxed_none chain line none)
  | inr some ↦ ap reaches_outputs (demuxed_some chain line some)
]
