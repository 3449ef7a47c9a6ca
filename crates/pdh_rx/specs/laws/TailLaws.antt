-- More received bits only add to what a leaf gets, and only the room of its own list counts for it.
use Rattle.std.specs.Prelude.{◌≡◌, ◌≤◌, ℕ, Bool, true, false, List, [], ◌++◌, ◌==◌, cond, refl}
use Rattle.std.proofs.Common.{arith}
use Rattle.std.proofs.lemmas.Bool.{eq-eqb}
use Rattle.pdh_edge.specs.Ports.{IsPrefix}
use Rattle.pdh_rx.specs.Meaning.{IsSound}
use Rattle.pdh_rx.specs.Tail.{tail_meaning}

pub tail_sound : (leaf : ℕ) → IsSound (tail_meaning leaf)
tail_sound leaf = record { grows = λ line more k. grows line more (k == leaf); elsewhere = λ line k e. elsewhere line (k == leaf) e }
  where
    grows : (line more : List Bool) (b : Bool) → IsPrefix (cond b line []) (cond b (line ++ more) [])
    grows line more true = (more, refl)
    grows line more false = ([], refl)

    elsewhere : (line : List Bool) (b : Bool) → b ≡ false → cond b line [] ≡ []
    elsewhere line true e = cc
    elsewhere line false e = refl

pub tail_fits_by : (leaf : ℕ) (r r' : ℕ → ℕ) (n n' : ℕ) → ((k : ℕ) → (tail_meaning leaf).leaves k ≡ true → r k ≡ r' k) → n' ≤ n → n ≤ r leaf → n' ≤ r' leaf
tail_fits_by leaf r r' n n' same few fits = (let here : r leaf ≡ r' leaf = same leaf (eq-eqb leaf leaf refl) in omega (arith, few, fits, here))
