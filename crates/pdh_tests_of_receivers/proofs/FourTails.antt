-- Four leaves of a demultiplexer.
use Rattle.std.proofs.Common.{◌≡◌, ℕ, ◌<◌, Bool, true, IsTrue, ap, sym, ◌∙◌, arith}
use Rattle.std.proofs.lemmas.Bool.Decides.{nat_tests}
use Rattle.pdh_tests_of_receivers.specs.FourTails.{four_tails}
use Rattle.pdh_rx.specs.Node.{any_leaf}

-- a leaf below these is one of the numbers
pub leaf_below : (k : ℕ) → any_leaf four_tails k ≡ true → k < 4
leaf_below k leaf = grind (arith, nat_tests)

-- so where there is a list for each of them, there is one for each leaf below them
pub lists_for_all : (leaves holds : ℕ → Bool) → leaves ≡ any_leaf four_tails → ((k : ℕ) → k < 4 → IsTrue (holds k)) → (k : ℕ) → IsTrue (leaves k) → IsTrue (holds k)
lists_for_all leaves holds are held k leaf = held k (leaf_below k (ap (λ of. of k) (sym are) ∙ leaf))
