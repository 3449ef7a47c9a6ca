-- What waits in the lists of a port in memory: all that they have left.
use Rattle.std.proofs.Common.{◌≡◌, ℕ, ◌+◌, ◌<◌, ◌≤◌, Bool, List, length, length-drop, map, Some, refl, sym, ap, ◌∙◌, subst, arith, inl, inr, slice_get}
use Rattle.std.proofs.lemmas.Bool.{cases_eq}
use Rattle.std.proofs.lemmas.Option.{slice_get-map}
use Rattle.pdh_edge.specs.declared.mem_port.InputList.{InputList}
use Rattle.pdh_edge.specs.Ports.{Inputs, Takes, GivesWaiting, for_leaf, nothing}
use Rattle.pdh_edge.specs.MemLists.{rest_of, length_of, mem_inputs}
use Rattle.pdh_edge.proofs.ListSteps.{for_leaf_same, for_leaf_other}

pub gives_all : (leaf : ℕ) (bits : List Bool) {a b : Inputs} → Takes (for_leaf leaf bits) a b → GivesWaiting leaf (length bits) a.left b.left
gives_all leaf bits {a} {b} p = record {
  fewer = λ some. let all : length (for_leaf leaf bits leaf) ≡ length bits = ap length (for_leaf_same leaf bits) in omega (arith, all, p.counts leaf);
  others = λ k ne. let none : length (for_leaf leaf bits k) ≡ 0 = ap length (for_leaf_other leaf bits k ne) in omega (arith, none, p.counts k);
}

-- a list that has none left gives none
pub gives_none : (leaf count : ℕ) (waits : ℕ → ℕ) → waits leaf ≡ 0 → GivesWaiting leaf count waits waits
gives_none leaf count waits none = record { fewer = λ some. absurd (omega (arith, none, some)); others = λ k ne. refl }

-- how many bits a list has left
pub left_here : (lists : List InputList) (leaf : ℕ) (list : InputList) → slice_get lists leaf ≡ Some list → (mem_inputs lists).left leaf ≡ length (rest_of list)
left_here lists leaf list at =
    let here : slice_get (map rest_of lists) leaf ≡ Some (rest_of list) = slice_get-map rest_of lists leaf ∙ (rw at refl) in
    ap length_of here

-- a list of which all bits were given has none left
pub none_left : (lists : List InputList) (leaf : ℕ) (list : InputList) → slice_get lists leaf ≡ Some list → length list.bits.bits ≤ list.given → (mem_inputs lists).left leaf ≡ 0
none_left lists leaf list at all = omega (arith, left_here lists leaf list at, length-drop list.given list.bits.bits, all)

-- where some bits of a leaf's list waited, those that were given are of them
pub each_fewer : (leaf count : ℕ) (bits : List Bool) {x y : ℕ → ℕ} → length bits ≡ count → GivesWaiting leaf count x y → 0 < x leaf → (k : ℕ) → x k ≡ length (for_leaf leaf bits k) + y k
each_fewer leaf count bits {x} {y} long p some k = elim (cases_eq k leaf) [
  | inl same ↦
      let P : ℕ → Type 0 = λ v. x v ≡ length (for_leaf leaf bits v) + y v in
      let all : length (for_leaf leaf bits leaf) ≡ length bits = ap length (for_leaf_same leaf bits) in
      let here : P leaf = omega (arith, all, long, p.fewer some) in
      subst P (sym same) here
  | inr other ↦ let none : length (for_leaf leaf bits k) ≡ 0 = ap length (for_leaf_other leaf bits k other) in omega (arith, none, p.others k other)
]
