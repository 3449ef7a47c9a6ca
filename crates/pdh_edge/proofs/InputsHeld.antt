-- The inputs of a shelf that never fails are added one by one.
use Rattle.std.proofs.Common.{◌≡◌, ◌≢◌, ℕ, ◌+◌, ◌<◌, List, [], length, Option, Some, None, slice_get, refl, sym, ap, ◌∙◌, arith, inl, inr}
use Rattle.std.proofs.lemmas.Option.{none-some, same_Some, slice_get_within}
use Rattle.std.proofs.lemmas.Bool.{cases_eq}
use Rattle.pdh_edge.specs.NeverFails.{AllDiffer, HoldsFirst}

-- none was added yet
pub holds_none : (names files : List (List ℕ)) (held : List ℕ → Option (List ℕ)) → ((name : List ℕ) → held name ≡ None) → HoldsFirst 0 names files held
holds_none names files held none = record {
  given = λ i name bytes low here file. absurd (omega (arith, low));
  others = λ name no. none name;
}

-- the next one was added
pub holds_next : (count : ℕ) (names files : List (List ℕ)) (old new : List ℕ → Option (List ℕ)) (name bytes : List ℕ) → AllDiffer names
    → slice_get names count ≡ Some name → slice_get files count ≡ Some bytes → new name ≡ Some bytes → ((other : List ℕ) → other ≢ name → new other ≡ old other)
    → HoldsFirst count names files old → HoldsFirst (count + 1) names files new
holds_next count names files old new name bytes differ at file here others was = record {
  given = λ i other content low named held. elim (cases_eq i count) [
    | inl same ↦
        let this : name ≡ other = same_Some name other (sym at ∙ ap (slice_get names) (sym same) ∙ named) in
        let that : bytes ≡ content = same_Some bytes content (sym file ∙ ap (slice_get files) (sym same) ∙ held) in
        ap new (sym this) ∙ here ∙ ap Some that
    | inr ne ↦
        let apart : other ≢ name = λ same. ne (differ i count name (named ∙ ap Some same) at) in
        others other apart ∙ was.given i other content (omega (arith, low, ne)) named held
  ];
  others = λ other no.
      let apart : other ≢ name = λ same. no count (omega arith) (at ∙ ap Some (sym same)) in
      others other apart ∙ was.others other (λ i low named. no i (omega (arith, low)) named);
}
