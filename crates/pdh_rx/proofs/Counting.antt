-- What the children of a node count, one more of them at a time.
use Rattle.std.proofs.Common.{◌≡◌, ℕ, zero, suc, Bool, List, [], ◌∷◌, ◌++◌, take, Some, slice_get, ap, ◌∙◌, sym, append_assoc}
use Rattle.std.proofs.lemmas.List.{append-nil}
use Rattle.pdh_rx.specs.Meaning.{Meaning}
use Rattle.pdh_rx.specs.Node.{counted_by}

pub counted_more : (ms : List Meaning) (trib : ℕ) (m : Meaning) (lines : ℕ → List Bool) → slice_get ms trib ≡ Some m
    → counted_by (take (suc trib) ms) lines ≡ counted_by (take trib ms) lines ++ m.counted (lines trib)
counted_more [] trib m lines at = absurd (none trib at)
  where
    none : (t : ℕ) → slice_get {X = Meaning} [] t ≡ Some m → ⊥
    none t h = cc
counted_more (x ∷ ms) zero m lines at =
    let same : x ≡ m = cc in
    append-nil (x.counted (lines 0)) ∙ ap (λ (m : Meaning). m.counted (lines 0)) same
counted_more (x ∷ ms) (suc trib) m lines at =
    ap (λ v. x.counted (lines 0) ++ v) (counted_more ms trib m (λ j. lines (suc j)) at)
    ∙ sym (append_assoc (x.counted (lines 0)) (counted_by (take trib ms) (λ j. lines (suc j))) (m.counted (lines (suc trib))))
