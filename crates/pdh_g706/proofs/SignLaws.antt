-- Signs that are added up.
use Rattle.std.proofs.Common.{◌≡◌, ℕ, ◌+◌, Bool, List, [], ◌++◌, refl, ap, ◌∙◌, arith, append_assoc}
use Rattle.std.proofs.lemmas.List.{append-nil}
use Rattle.pdh_g706.specs.Tracking.{Signs}
use Rattle.pdh_g706.specs.Machine.{no_signs, add_signs}

abbrev pub signs : ℕ → ℕ → ℕ → List Bool → List (List Bool) → Signs
signs a l f v x = record { alignments = a; losses = l; false_alignments = f; verdicts = v; frames = x }

pub signs_same : (a b c d e f : ℕ) (v w : List Bool) (x y : List (List Bool)) → a ≡ b → c ≡ d → e ≡ f → v ≡ w → x ≡ y → signs a c e v x ≡ signs b d f w y
signs_same a b c d e f v w x y h i j k l =
    ap (λ n. signs n c e v x) h ∙ ap (λ n. signs b n e v x) i ∙ ap (λ n. signs b d n v x) j ∙ ap (λ (z : List Bool). signs b d f z x) k ∙ ap (signs b d f w) l

pub add_no_signs : (s : Signs) → add_signs s no_signs ≡ s
add_no_signs s =
    signs_same (s.alignments + 0) s.alignments (s.losses + 0) s.losses (s.false_alignments + 0) s.false_alignments (s.verdicts ++ []) s.verdicts (s.frames ++ []) s.frames
    (omega arith) (omega arith) (omega arith) (append-nil s.verdicts) (append-nil s.frames)

pub no_signs_add : (s : Signs) → add_signs no_signs s ≡ s
no_signs_add s =
    signs_same (0 + s.alignments) s.alignments (0 + s.losses) s.losses (0 + s.false_alignments) s.false_alignments s.verdicts s.verdicts s.frames s.frames
    (omega arith) (omega arith) (omega arith) refl refl

pub add_signs_assoc : (a b c : Signs) → add_signs (add_signs a b) c ≡ add_signs a (add_signs b c)
add_signs_assoc a b c =
    signs_same _ _ _ _ _ _ ((a.verdicts ++ b.verdicts) ++ c.verdicts) (a.verdicts ++ (b.verdicts ++ c.verdicts)) ((a.frames ++ b.frames) ++ c.frames) (a.frames ++ (b.frames ++ c.frames))
    (sums a.alignments b.alignments c.alignments) (sums a.losses b.losses c.losses) (sums a.false_alignments b.false_alignments c.false_alignments)
    (append_assoc a.verdicts b.verdicts c.verdicts) (append_assoc a.frames b.frames c.frames)
  where
    sums : (x y z : ℕ) → x + y + z ≡ x + (y + z)
    sums x y z = omega arith
