-- The lists of outputs, one by one.
use mathlib.Core.Path.{fun_ext}
use Rattle.std.proofs.Common.{◌≡◌, ℕ, Bool, cond, List, [], ◌++◌, length, Option, Some, None, slice_get, inl, inr, refl, sym, ap, ◌∙◌, subst}
use Rattle.std.specs.Prelude.{nat_lt}
use Rattle.std.specs.Option.{option_and_then}
use Rattle.std.proofs.lemmas.Bool.{cases_eq, eq-eqb, ne_eqb}
use Rattle.std.proofs.lemmas.List.{append-nil}
use Rattle.pdh_edge.specs.Files.{Told}
use Rattle.pdh_edge.specs.Ports.{Outputs, Puts, PutsPart, PrefixOf, for_leaf, nothing, after}
use Rattle.pdh_blocks.specs.Leaves.{Output}
use Rattle.pdh_blocks.specs.State.{PortState}
use Rattle.pdh_blocks.specs.Lists.{outputs_of, put_in, bits_in}

for_same : (t : ℕ) (bits : List Bool) → for_leaf t bits t ≡ bits
for_same t bits = ap (λ v. cond v bits []) (eq-eqb t t refl)

for_other : (t : ℕ) (bits : List Bool) (k : ℕ) → (k ≡ t → ⊥) → for_leaf t bits k ≡ []
for_other t bits k ne = ap (λ v. cond v bits []) (ne_eqb k t ne)

pub after_none : (o : Option (List Bool)) → after [] o ≡ o
after_none None = refl
after_none (Some l) = ap Some (append-nil l)

pub prefix_same : (bits : List Bool) (o : Option (List Bool)) → PrefixOf bits o o
prefix_same bits None = tt
prefix_same bits (Some l) = (bits, refl)

-- all lists are as they were
pub part_none : (bits : ℕ → List Bool) (a b : Outputs) → b ≡ a → PutsPart bits a b
part_none bits a b same k = subst (λ (o : Outputs). PrefixOf (bits k) (a.told k) (o.told k)) (sym same) (prefix_same (bits k) (a.told k))

-- ---- two ports whose lists differ in one at most

module _ (a b : PortState) (k : ℕ) (others : (j : ℕ) → (j ≡ k → ⊥) → (outputs_of b).told j ≡ (outputs_of a).told j) where
  pub all_same : (outputs_of b).told k ≡ (outputs_of a).told k → length b.outputs ≡ length a.outputs → outputs_of b ≡ outputs_of a
  all_same here long =
      let told : (outputs_of b).told ≡ (outputs_of a).told = fun_ext (λ j. elim (cases_eq j k) [
        | inl same ↦ subst (λ v. (outputs_of b).told v ≡ (outputs_of a).told v) (sym same) here
        | inr ne ↦ others j ne
      ]) in
      ap (λ (n : ℕ). record { holds = λ j. nat_lt j n; told = (outputs_of b).told }) long ∙ ap (λ (t : ℕ → Option (List Bool)). record { holds = λ j. nat_lt j (length a.outputs); told = t }) told

  pub puts_at : (bits : List Bool) → (outputs_of b).told k ≡ after bits ((outputs_of a).told k) → Puts (for_leaf k bits) (outputs_of a) (outputs_of b)
  puts_at bits here j = elim (cases_eq j k) [
    | inl same ↦
        let P : ℕ → Type 0 = λ v. (outputs_of b).told v ≡ after (for_leaf k bits v) ((outputs_of a).told v) in
        let at : P k = here ∙ ap (λ l. after l ((outputs_of a).told k)) (sym (for_same k bits)) in
        subst P (sym same) at
    | inr ne ↦ others j ne ∙ sym (after_none ((outputs_of a).told j)) ∙ ap (λ l. after l ((outputs_of a).told j)) (sym (for_other k bits j ne))
  ]

  pub part_at : (bits : List Bool) → PrefixOf bits ((outputs_of a).told k) ((outputs_of b).told k) → PutsPart (for_leaf k bits) (outputs_of a) (outputs_of b)
  part_at bits here j = elim (cases_eq j k) [
    | inl same ↦
        let P : ℕ → Type 0 = λ v. PrefixOf (for_leaf k bits v) ((outputs_of a).told v) ((outputs_of b).told v) in
        let at : P k = subst (λ l. PrefixOf l ((outputs_of a).told k) ((outputs_of b).told k)) (sym (for_same k bits)) here in
        subst P (sym same) at
    | inr ne ↦ subst (PrefixOf (for_leaf k bits j) ((outputs_of a).told j)) (sym (others j ne)) (prefix_same (for_leaf k bits j) ((outputs_of a).told j))
  ]

-- no bits for any leaf, as bits for one
pub none_for : (k : ℕ) → for_leaf k [] ≡ nothing
none_for k = fun_ext (λ j. elim (cases_eq j k) [
  | inl same ↦ ap (for_leaf k []) same ∙ for_same k []
  | inr ne ↦ for_other k [] j ne
])

-- ---- one list

-- what is told of an output by what its file is told
put_same : (tells tells' started started' : Bool) (told told' : Told) (waiting : List Bool) → tells ≡ tells' → started ≡ started' → (told ≡ told') → cond tells (Some (cond started (bits_in told) [] ++ waiting)) None ≡ cond tells' (Some (cond started' (bits_in told') [] ++ waiting)) None
put_same tells tells' started started' told told' waiting p q r =
    ap (λ v. cond v (Some (cond started (bits_in told) [] ++ waiting)) None) p ∙ ap (λ v. cond tells' (Some (cond v (bits_in told) [] ++ waiting)) None) q ∙ ap (λ v. cond tells' (Some (cond started' (bits_in v) [] ++ waiting)) None) r

module _ (a b : PortState) (j : ℕ) (tells : b.shelf.tells_started ≡ a.shelf.tells_started) (order : nat_lt j b.started ≡ nat_lt j a.started) where
  same_put : (output : Output) → b.shelf.told output.name ≡ a.shelf.told output.name → put_in b j output ≡ put_in a j output
  same_put output told = put_same (b.shelf.tells_started output.name) (a.shelf.tells_started output.name) (nat_lt j b.started) (nat_lt j a.started) (b.shelf.told output.name) (a.shelf.told output.name) output.waiting
      (ap (λ (f : List ℕ → Bool). f output.name) tells) order told

  same_found : (found : Option Output) → slice_get a.outputs j ≡ found → ((output : Output) → slice_get a.outputs j ≡ Some output → b.shelf.told output.name ≡ a.shelf.told output.name) → option_and_then (put_in b j) found ≡ option_and_then (put_in a j) found
  same_found None at told = refl
  same_found (Some output) at told = same_put output (told output at)

  -- an output that is as it was
  pub same_told : slice_get b.outputs j ≡ slice_get a.outputs j → ((output : Output) → slice_get a.outputs j ≡ Some output → b.shelf.told output.name ≡ a.shelf.told output.name) → (outputs_of b).told j ≡ (outputs_of a).told j
  same_told same told = ap (option_and_then (put_in b j)) same ∙ same_found (slice_get a.outputs j) refl told
