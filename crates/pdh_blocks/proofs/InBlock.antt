-- How many bits wait of each leaf, in the block of it that was read last.
use Rattle.std.proofs.Common.{◌≡◌, ℕ, ◌+◌, ◌<◌, ◌≤◌, List, length, drop, length-drop, Option, Some, slice_get, slice_set, refl, ap, sym, subst, ◌∙◌, arith}
use Rattle.std.specs.Option.{option_map_or}
use Rattle.std.proofs.lemmas.Option.{slice_get_within}
use Rattle.pdh_edge.specs.Ports.{GivesWaiting}
use Rattle.pdh_blocks.specs.Leaves.{Leaf, after_giving}
use Rattle.pdh_blocks.specs.Lists.{waiting_of, waits_in}
use Rattle.pdh_blocks.proofs.Places.{get_set_same, get_set_other, here_set}

pub waits_here : (leaves : List Leaf) (k : ℕ) (leaf : Leaf) → slice_get leaves k ≡ Some leaf → waits_in leaves k ≡ length leaf.waiting
waits_here leaves k leaf at = ap (λ (found : Option Leaf). option_map_or waiting_of found 0) at

waits_set : (leaves : List Leaf) (k : ℕ) (leaf : Leaf) → k < length leaves → waits_in (slice_set leaves k leaf) k ≡ length leaf.waiting
waits_set leaves k leaf within = waits_here (slice_set leaves k leaf) k leaf (get_set_same leaves k leaf within)

waits_other : (leaves : List Leaf) (k : ℕ) (leaf : Leaf) (j : ℕ) → (j ≡ k → ⊥) → waits_in (slice_set leaves k leaf) j ≡ waits_in leaves j
waits_other leaves k leaf j ne = ap (λ (found : Option Leaf). option_map_or waiting_of found 0) (get_set_other leaves k j leaf ne)

-- nothing was given
pub waits_same : (leaf : ℕ) (waits : ℕ → ℕ) → GivesWaiting leaf 0 waits waits
waits_same leaf waits = record { fewer = λ some. omega arith; others = λ k ne. refl }

pub waits_kept : (leaves : List Leaf) (k : ℕ) (leaf : Leaf) → slice_get leaves k ≡ Some leaf → GivesWaiting k 0 (waits_in leaves) (waits_in (slice_set leaves k leaf))
waits_kept leaves k leaf at = subst (λ (all : List Leaf). GivesWaiting k 0 (waits_in leaves) (waits_in all)) (sym (here_set leaves k leaf at)) (waits_same k (waits_in leaves))

-- a leaf of which nothing waited is another now
pub waits_read : (leaves : List Leaf) (k count : ℕ) (old new : Leaf) → slice_get leaves k ≡ Some old → length old.waiting ≡ 0 → GivesWaiting k count (waits_in leaves) (waits_in (slice_set leaves k new))
waits_read leaves k count old new at none = record {
  fewer = λ some. absurd (omega (arith, waits_here leaves k old at, none, some));
  others = waits_other leaves k new;
}

-- of a leaf some of the bits that waited were given
pub waits_given : (leaves : List Leaf) (k n : ℕ) (old : Leaf) → slice_get leaves k ≡ Some old → n ≤ length old.waiting → GivesWaiting k n (waits_in leaves) (waits_in (slice_set leaves k (after_giving n old)))
waits_given leaves k n old at few = record {
  fewer = λ some. omega (arith, waits_here leaves k old at, waits_set leaves k (after_giving n old) (slice_get_within leaves k old at), length-drop n old.waiting, few);
  others = waits_other leaves k (after_giving n old);
}

-- behind a call that gave nothing
pub waits_after : (k n : ℕ) (a b c : ℕ → ℕ) → GivesWaiting k 0 a b → GivesWaiting k n b c → GivesWaiting k n a c
waits_after k n a b c p q = record {
  fewer = λ some. let now = p.fewer some in omega (arith, now, q.fewer (omega (arith, now, some)));
  others = λ j ne. q.others j ne ∙ p.others j ne;
}
