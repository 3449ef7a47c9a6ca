use Rattle.std.proofs.Common.{rules, ◌≡◌, ◌∙◌, ◌<◌, ◌++◌, ◌∷◌, [], ap, arith, length, map, nat_lt, subst, sym, ℕ, true}
use Rattle.std.proofs.lemmas.Bool.{lt-ltb}
use Rattle.std.proofs.lemmas.List.{length-replicate}
use Rattle.pdh_edge.specs.MemLists.{items_of, outputs_of}
use Rattle.pdh_edge.specs.Ports.{Inputs, Outputs}
use Rattle.std.specs.Prelude.{replicate}
use Rattle.pdh_tests_of_chains.proofs.ports.port_of_line.Goals as goal

-- there is a list for each leaf
lists_below : (outputs before : Outputs) (count k : ℕ) → outputs ≡ before → before ≡ outputs_of (replicate count []) → k < count → outputs.holds k ≡ true
lists_below outputs before count k same made low =
    ap (λ (o : Outputs). o.holds k) (same ∙ made) ∙ ap (λ n. nat_lt k n) (length-replicate count []) ∙ lt-ltb k count low

pub room-requires : goal.room-requires
room-requires c = record { held = lists_below _ _ c.leaves-count.result c.loop-leaf.leaf c.loop-leaf.invariant.outputs c.in_ok-port.ensures.outputs (omega arith) }

pub returns : goal.returns
returns c = record {
  is_fresh = search rules;
  has_leaves = λ k low. lists_below _ _ c.leaves-count.result k c.loop-leaf.invariant.outputs c.in_ok-port.ensures.outputs (subst (λ n. k < n) (sym c.leaves-count.ensures.value) low);
  has_line =
      ap (λ (i : Inputs). i.holds 0) (c.loop-leaf.invariant.inputs ∙ c.in_ok-port.ensures.inputs)
      ∙ ap (λ l. nat_lt 0 (length (map items_of l))) (c.in_ok-push.ensures.items ∙ ap (λ l. l ++ c.args.line ∷ []) c.new-lists.ensures.items);
}
