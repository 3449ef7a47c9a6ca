-- A port is opened.
use Rattle.std.proofs.Common.{◌≡◌, ℕ, List, [], ◌∷◌, ◌++◌, length, map, Option, Some, None, slice_get, refl, sym, ap, ◌∙◌, subst, arith}
use Rattle.std.specs.declared.alloc.Global.{Global}
use Rattle.std.specs.declared.string.String.{String}
use Rattle.std.specs.String.{string_bytes}
use Rattle.std.specs.Option.{option_map}
use Rattle.std.proofs.lemmas.Option.{none-some, same_Some, slice_get-map}
use Rattle.std.proofs.lemmas.List.{length-map, length-append}
use Rattle.pdh_edge.specs.Files.{ShelfState}
use Rattle.pdh_blocks.specs.declared.source.Source.{Source}
use Rattle.pdh_blocks.specs.Leaves.{Output}
use Rattle.pdh_blocks.specs.State.{names, leaf_name, output_name}
use Rattle.pdh_blocks.specs.Held.{IsLeaf, IsPort, AllDiffer}
use Rattle.pdh_blocks.specs.Opened.{CanOpen, IsSource, opened, source_name, unread_leaf, unwritten}

-- an element of a mapped list
from_map : {X Y P : Type 0} (f : X → Y) (xs : List X) (k : ℕ) (y : Y) (found : Option X) → slice_get xs k ≡ found → slice_get (map f xs) k ≡ Some y → ((x : X) → slice_get xs k ≡ Some x → f x ≡ y → P) → P
from_map f xs k y None at here then_ = absurd (none-some y (sym (slice_get-map f xs k ∙ ap (option_map f) at) ∙ here))
from_map f xs k y (Some x) at here then_ = then_ x at (same_Some (f x) y (sym (slice_get-map f xs k ∙ ap (option_map f) at) ∙ here))

leaf_names : (reads : List Source) → map leaf_name (map unread_leaf reads) ≡ map source_name reads
leaf_names [] = refl
leaf_names (source ∷ sources) = ap (λ all. source_name source ∷ all) (leaf_names sources)

written_names : (writes : List (String Global)) → map output_name (map unwritten writes) ≡ map string_bytes writes
written_names [] = refl
written_names (name ∷ names) = ap (λ all. string_bytes name ∷ all) (written_names names)

unread_is : (shelf : ShelfState) (source : Source) → IsSource shelf source → IsLeaf shelf (unread_leaf source)
unread_is shelf source is = record {
  within = omega arith;
  whole = λ less. refl;
  readable = is.readable;
  told = λ bytes known. let long = is.told (Some bytes) known in record { long = omega (arith, long); next = refl };
}

module _ (shelf : ShelfState) (reads : List Source) (writes : List (String Global)) (can : CanOpen shelf reads writes) where
  all_names : names (opened shelf reads writes) ≡ map source_name reads ++ map string_bytes writes
  all_names = ap (λ all. all ++ map output_name (map unwritten writes)) (leaf_names reads) ∙ ap (λ all. map source_name reads ++ all) (written_names writes)

  pub opened_port : IsPort (opened shelf reads writes)
  opened_port = record {
    blocks = record {
      differ = subst AllDiffer (sym all_names) can.differ;
      few = omega (arith, ap length all_names, length-append (map source_name reads) (map string_bytes writes), length-map reads source_name, length-map writes (string_bytes {Z = Global}), can.few);
      leaves = λ k leaf here. from_map unread_leaf reads k leaf (slice_get reads k) refl here (λ source at is. subst (IsLeaf shelf) is (unread_is shelf source (can.sources k source at)));
      in_order = omega arith;
      begun = omega arith;
      among = omega arith;
      fresh = λ yes. (refl, refl);
      ready = λ yes. absurd (cc);
      held = λ k name here early tells. absurd (omega (arith, early));
      untold = λ k name here early tells. absurd (omega (arith, early));
      empty = λ some k name here early tells. absurd (omega (arith, early));
      failed = record { none = refl; named = λ i which. absurd (none-some i which) };
    };
    room = λ k output here. from_map unwritten writes k output (slice_get writes k) refl here (λ name at is. omega (arith, ap (λ (output : Output). length output.waiting) is));
  }
