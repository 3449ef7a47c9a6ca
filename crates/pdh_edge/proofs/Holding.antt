-- The lists of a port that was opened with some.
use Rattle.std.proofs.Common.{◌≡◌, ℕ, ◌<◌, nat_lt, List, length, map, ap, ◌∙◌}
use Rattle.std.specs.Prelude.{IsTrue}
use Rattle.pdh_bits.specs.BitOut.{BoundedBits}
use Rattle.std.proofs.lemmas.Bool.{lt-ltb}
use Rattle.std.proofs.lemmas.List.{length-map}
use Rattle.pdh_edge.specs.Ports.{Inputs}
use Rattle.pdh_edge.specs.MemLists.{inputs_of, items_of}

-- so many lists are held, from 0 on
pub inputs_hold : (lists : List BoundedBits) (n k : ℕ) {inputs : Inputs} → inputs ≡ inputs_of (map items_of lists) → length lists ≡ n → k < n → IsTrue (inputs.holds k)
inputs_hold lists n k is long less =
    ap (λ (i : Inputs). i.holds k) is ∙ ap (λ n. nat_lt k n) (length-map lists items_of ∙ long) ∙ lt-ltb k n less
