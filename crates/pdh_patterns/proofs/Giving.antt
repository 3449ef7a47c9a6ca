-- A leaf's pattern gives its next bits.
use Rattle.std.proofs.Common.{◌≡◌, ℕ, ◌+◌, ◌<◌, Bool, List, ◌++◌, length, map, Some, refl, sym, ap, ◌∙◌, subst, arith, slice_get, slice_set, nat_lt}
use Rattle.std.specs.Prelude.{IsTrue}
use Rattle.std.proofs.lemmas.List.{length-map, map-set}
use Rattle.std.proofs.lemmas.Option.{slice_get-map}
use Rattle.pdh_edge.specs.Ports.{Takes, for_leaf}
use Rattle.pdh_bits.specs.Bits.{bit}
use Rattle.pdh_line.proofs.SentFrames.{length-front}
use Rattle.pdh_edge.specs.MemLists.{inputs_of, length_of}
use Rattle.pdh_edge.proofs.ListSteps.{within_lists, takes_front}
use Rattle.pdh_patterns.specs.Pattern.{state_after, bits_from}
use Rattle.pdh_patterns.specs.Patterns.{rest_of, pattern_inputs}
use Rattle.pdh_patterns.specs.declared.patterns.LeafPattern.{LeafPattern}
use Rattle.pdh_patterns.proofs.Register.{bits-then}

pub given_next : (leaves : List LeafPattern) (leaf count : ℕ) (old new : LeafPattern) → IsTrue (nat_lt leaf (length (map rest_of leaves))) → slice_get leaves leaf ≡ Some old → new.pattern ≡ state_after old.pattern count → count + new.left ≡ old.left
    → Takes (for_leaf leaf (bits_from old.pattern count)) (pattern_inputs leaves) (pattern_inputs (slice_set leaves leaf new))
given_next leaves leaf count old new held at later fewer =
    let bits : List Bool = bits_from old.pattern count in
    let within : leaf < length leaves = within_lists rest_of leaves leaf held in
    let split : rest_of old ≡ bits ++ rest_of new =
    ap (bits_from old.pattern) (sym fewer) ∙ bits-then old.pattern count new.left ∙ ap (λ state. bits ++ bits_from state new.left) (sym later) in
    let here : slice_get (map rest_of leaves) leaf ≡ Some (bits ++ rest_of new) = slice_get-map rest_of leaves leaf ∙ (rw at (ap Some split)) in
    subst (λ lists. Takes (for_leaf leaf bits) (pattern_inputs leaves) (inputs_of lists)) (sym (map-set rest_of leaves leaf new))
    (takes_front (map rest_of leaves) leaf bits (rest_of new) (omega (arith, length-map leaves rest_of, within)) here)

-- how many bits a leaf's pattern has left
pub left_is : (leaves : List LeafPattern) (leaf : ℕ) (source : LeafPattern) → slice_get leaves leaf ≡ Some source → (pattern_inputs leaves).left leaf ≡ source.left
left_is leaves leaf source at =
    let told : slice_get (map rest_of leaves) leaf ≡ Some (rest_of source) = slice_get-map rest_of leaves leaf ∙ (rw at refl) in
    ap length_of told ∙ length-front (λ i. bit (state_after source.pattern i) 14) source.left
