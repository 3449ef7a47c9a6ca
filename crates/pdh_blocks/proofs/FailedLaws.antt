-- The last call of a shelf that failed, as a port names it.
use Rattle.std.proofs.Common.{◌≡◌, ◌⊎◌, ℕ, ◌≤◌, Bool, true, false, List, length, Option, Some, None, slice_get, inl, inr, refl, sym, ap, ◌∙◌, subst}
use Rattle.std.proofs.lemmas.Option.{none-some, same_Some}
use Rattle.pdh_edge.specs.declared.shelf.Call.{Call}
use Rattle.pdh_edge.specs.declared.shelf.Call.TheVariants.{Size, Read, Start, Append}
use Rattle.pdh_edge.specs.Files.{FailedCall, TellsFailed}
use Rattle.pdh_blocks.specs.State.{PortState, names}
use Rattle.pdh_blocks.specs.Held.{IsLastCall, IsLastAt, IsLastFailed}
use Rattle.pdh_blocks.proofs.Names.{same_name}

-- whether a call was a start
is_start : (call : Call) → (call ≡ Start) ⊎ (call ≡ Start → ⊥)
is_start Start = inl refl
is_start Size = inr (λ same. absurd (cc))
is_start Read = inr (λ same. absurd (cc))
is_start Append = inr (λ same. absurd (cc))

same_start : (call : FailedCall) (name : List ℕ) → (call ≡ record { call = Start; name = name }) ⊎ (call ≡ record { call = Start; name = name } → ⊥)
same_start call name = elim (is_start call.call) [
  | inl start ↦ elim (same_name call.name name) [
    | inl same ↦ inl (ap (λ (k : Call). record { call = k; name = call.name }) start ∙ ap (λ (n : List ℕ). record { call = Start; name = n }) same)
    | inr differ ↦ inr (λ same. differ (ap (λ (c : FailedCall). c.name) same))
  ]
  | inr other ↦ inr (λ same. other (ap (λ (c : FailedCall). c.call) same))
]

tells_start : (tells : Bool) (name : List ℕ) (last : Option FailedCall) → TellsFailed tells (record { call = Start; name = name }) last ⊎ (TellsFailed tells (record { call = Start; name = name }) last → ⊥)
tells_start true name None = inr (λ told. none-some _ told)
tells_start true name (Some call) = elim (same_start call name) [
  | inl same ↦ inl (ap Some same)
  | inr differ ↦ inr (λ told. differ (same_Some _ _ told))
]
tells_start false name None = inl (λ other told. absurd (none-some other told))
tells_start false name (Some call) = elim (same_start call name) [
  | inl same ↦ inl (λ other told. sym (same_Some call other told) ∙ same)
  | inr differ ↦ inr (λ told. differ (told call refl))
]

module _ (port : PortState) (i : ℕ) where
  start_found : (found : Option (List ℕ)) → slice_get (names port) i ≡ found → IsLastAt port Start i ⊎ (IsLastAt port Start i → ⊥)
  start_found None at = inl (λ name here. absurd (none-some name (sym at ∙ here)))
  start_found (Some name) at = elim (tells_start (port.shelf.tells_name name) name port.shelf.last_failed) [
    | inl start ↦ inl (λ other here. subst (IsLastCall port.shelf Start) (same_Some name other (sym at ∙ here)) start)
    | inr not_ ↦ inr (λ start. not_ (start name at))
  ]

  -- where it names an output, that was started or appended to
  pub start_or_append : IsLastFailed port i → length port.leaves ≤ i → IsLastAt port Start i ⊎ IsLastAt port Append i
  start_or_append is late = elim (start_found (slice_get (names port) i) refl) [
    | inl start ↦ inl start
    | inr not_ ↦ inr (is.output late not_)
  ]
