-- In a right frame nothing is wrong.
use Rattle.std.proofs.Common.{◌≡◌, ℕ, Bool, true, false, ◌&&◌, ◌||◌, not, List, [], ◌∷◌, refl, ap, ◌∙◌}
use Rattle.std.specs.Prelude.{sum_by}
use Rattle.std.specs.List.{list_all, list_any}
use Rattle.std.proofs.lemmas.List.Sums.{sum_by-cons}
use Rattle.pdh_shape.specs.declared.role.Mark.{Mark}
use Rattle.pdh_shape.specs.declared.role.Mark.TheVariants.{Framing, Multi, Other}
use Rattle.pdh_line.proofs.Ranges.{and_true}
use Rattle.pdh_shape.specs.Frame.{FrameShape, slots, breaks_at, framing_mark, is_multi, is_right, wrong, clean}

not_true : (b : Bool) → not b ≡ true → b ≡ false
not_true true h = cc
not_true false h = refl

no_mark : (m : Mark) → framing_mark m false ≡ 0
no_mark (Framing number) = refl
no_mark Multi = refl
no_mark Other = refl

no_and : (b : Bool) → (b && false) ≡ false
no_and true = refl
no_and false = refl

-- slots that break nothing add no mark
no_framing : (s : FrameShape) (frame : List Bool) (xs : List ℕ) → list_all (λ slot. not (breaks_at s frame slot)) xs ≡ true
    → sum_by (λ slot. framing_mark (s.mark slot) (breaks_at s frame slot)) xs ≡ 0
no_framing s frame [] h = refl
no_framing s frame (x ∷ xs) h =
    let parts = and_true _ (list_all (λ slot. not (breaks_at s frame slot)) xs) h in
    let here : breaks_at s frame x ≡ false = not_true _ parts.0 in
    let none : framing_mark (s.mark x) (breaks_at s frame x) ≡ 0 = ap (framing_mark (s.mark x)) here ∙ no_mark (s.mark x) in
    let rest : sum_by (λ slot. framing_mark (s.mark slot) (breaks_at s frame slot)) xs ≡ 0 = no_framing s frame xs parts.1 in
    sum_by-cons (λ slot. framing_mark (s.mark slot) (breaks_at s frame slot)) x xs ∙ rw (none, rest) refl

no_multi : (s : FrameShape) (frame : List Bool) (xs : List ℕ) → list_all (λ slot. not (breaks_at s frame slot)) xs ≡ true
    → list_any (λ slot. is_multi (s.mark slot) && breaks_at s frame slot) xs ≡ false
no_multi s frame [] h = refl
no_multi s frame (x ∷ xs) h =
    let parts = and_true _ (list_all (λ slot. not (breaks_at s frame slot)) xs) h in
    let here : breaks_at s frame x ≡ false = not_true _ parts.0 in
    let rest : list_any (λ slot. is_multi (s.mark slot) && breaks_at s frame slot) xs ≡ false = no_multi s frame xs parts.1 in
    let none : (is_multi (s.mark x) && breaks_at s frame x) ≡ false = ap (λ b. is_multi (s.mark x) && b) here ∙ no_and (is_multi (s.mark x)) in
    ap (λ b. b || list_any (λ slot. is_multi (s.mark slot) && breaks_at s frame slot) xs) none ∙ rest

pub wrong_of_right : (s : FrameShape) (frame : List Bool) → is_right s frame ≡ true → wrong s frame ≡ clean
unfolding wrong is_right
wrong_of_right s frame h = λ i. record { framing = no_framing s frame (slots s) h i; multi = no_multi s frame (slots s) h i }
