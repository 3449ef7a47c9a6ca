-- A piece of a frame that is put together slot by slot.
use Rattle.std.proofs.Common.{◌≡◌, ℕ, ◌+◌, ◌-◌, ◌≤◌, Bool, true, false, List, [], ◌∷◌, ◌++◌, length, get_or, sym, ap, ◌∙◌, inl, inr, arith}
use Rattle.std.proofs.lemmas.Bool.{cases_eq}
use Rattle.std.proofs.lemmas.List.{get_or_append_left, get_or_at}
use Rattle.pdh_shape.specs.Frame.{FrameShape}
use Rattle.pdh_shape.specs.Tributary.{reads_from}
use Rattle.pdh_shape.specs.Payload.{is_payload}
use Rattle.pdh_runs.specs.Pieces.{turn, overhead_before, Assembled}

module _ (s : FrameShape) (first : ℕ) (overhead : List Bool) (columns : List (List Bool)) where
  pub assembled_push : (t next : ℕ) (bits now : List Bool) (bit : Bool) → first ≤ t → next ≡ t + 1 → length bits ≡ t - first → now ≡ bits ++ bit ∷ []
      → ((j : ℕ) → reads_from j true (s.role t) ≡ true → bit ≡ get_or (get_or columns j []) (turn s t - turn s first) false)
      → (is_payload (s.role t) ≡ false → bit ≡ get_or overhead (overhead_before s t - overhead_before s first) false)
      → Assembled s first (t - first) overhead columns bits → Assembled s first (next - first) overhead columns now
  assembled_push t next bits now bit begun after long is payload others before = record {
    payload = λ v j h reads. ap (λ l. get_or l v false) is ∙ elim (cases_eq (first + v) t) [
      | inl same ↦
          get_or_at bits bit [] false v (omega (arith, long, same)) ∙ payload j (ap (λ k. reads_from j true (s.role k)) (sym same) ∙ reads)
          ∙ ap (λ k. get_or (get_or columns j []) (turn s k - turn s first) false) (sym same)
      | inr other ↦ get_or_append_left bits (bit ∷ []) false v (omega (arith, long, h, after, other, begun)) ∙ before.payload v j (omega (arith, h, after, other, begun)) reads
    ];
    others = λ v h none. ap (λ l. get_or l v false) is ∙ elim (cases_eq (first + v) t) [
      | inl same ↦
          get_or_at bits bit [] false v (omega (arith, long, same)) ∙ others (ap (λ k. is_payload (s.role k)) (sym same) ∙ none)
          ∙ ap (λ k. get_or overhead (overhead_before s k - overhead_before s first) false) (sym same)
      | inr other ↦ get_or_append_left bits (bit ∷ []) false v (omega (arith, long, h, after, other, begun)) ∙ before.others v (omega (arith, h, after, other, begun)) none
    ];
  }
