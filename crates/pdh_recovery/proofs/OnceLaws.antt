-- The places of which a tracking is told are one each: where open frames begin, where a search goes on, where a child rejoins its line.
use Rattle.std.proofs.Common.{◌≡◌, ℕ, suc, ◌+◌, ◌*◌, ◌<◌, ◌≤◌, Bool, List, [], ◌∷◌, ◌++◌, length, map, take, refl, sym, ap, ◌∙◌, subst, inl, inr, arith, append_assoc}
use Rattle.std.specs.Prelude.{flat_map}
use Rattle.std.proofs.lemmas.List.{length-map}
use Rattle.std.proofs.lemmas.Bool.{cases_lt}
use Rattle.std.proofs.Math.Nat.{mul-le-mul_right}
use Rattle.pdh_shape.specs.Frame.{FrameShape}
use Rattle.pdh_line.specs.Tracking.{Piece, track}
use Rattle.pdh_line.specs.Tracking.Piece.{Gap, Delivered}
use Rattle.pdh_line.specs.Receiving.{piece_bits}
use Rattle.pdh_line.specs.Sending.{sent}
use Rattle.pdh_align.specs.OpenGap.{bits_covered, covered, EndsInGap}
use Rattle.pdh_recovery.specs.Recovering.{EndsInFrames, LosesAt, SearchesFrom}
use Rattle.pdh_recovery.specs.Downwards.{ChildPlace}
use Rattle.pdh_recovery.proofs.PieceLaws.{covered-cons}

-- ---- open frames, and a child's rejoining place

pub no_gap_among : (frames : List (List Bool)) (a b : List Piece) (g : ℕ) → map Delivered frames ≡ a ++ Gap g ∷ b → ⊥
no_gap_among [] [] b g h = cc
no_gap_among [] (x ∷ a) b g h = cc
no_gap_among (f ∷ frames) [] b g h = cc
no_gap_among (f ∷ frames) (x ∷ a) b g h =
    let rest : map Delivered frames ≡ a ++ Gap g ∷ b = cc in
    no_gap_among frames a b g rest

pub last_gap : (a b : List Piece) (g g' : ℕ) (fs fs' : List (List Bool)) → a ++ Gap g ∷ map Delivered fs ≡ b ++ Gap g' ∷ map Delivered fs' → (a ≡ b) × (g ≡ g') × (map Delivered fs ≡ map Delivered fs')
last_gap [] [] g g' fs fs' h = (refl, cc, cc)
last_gap [] (x ∷ b) g g' fs fs' h =
    let rest : map Delivered fs ≡ b ++ Gap g' ∷ map Delivered fs' = cc in
    absurd (no_gap_among fs b (map Delivered fs') g' rest)
last_gap (x ∷ a) [] g g' fs fs' h =
    let rest : map Delivered fs' ≡ a ++ Gap g ∷ map Delivered fs = cc in
    absurd (no_gap_among fs' a (map Delivered fs) g rest)
last_gap (x ∷ a) (y ∷ b) g g' fs fs' h =
    let rest : a ++ Gap g ∷ map Delivered fs ≡ b ++ Gap g' ∷ map Delivered fs' = cc in
    let head : x ≡ y = cc in
    let same = last_gap a b g g' fs fs' rest in
    (ap (λ z. z ∷ a) head ∙ ap (λ z. y ∷ z) same.0, same.1, same.2)

some_frame : (s : FrameShape) (x : Piece) (a b : List Piece) (fs : List (List Bool)) → 0 < s.len → map Delivered fs ≡ x ∷ (a ++ b) → covered s (x ∷ a) ≡ 0 → ⊥
some_frame s x a b [] some h none = cc
some_frame s (Gap n) a b (f ∷ fs) some h none = cc
some_frame s (Delivered frame) a b (f ∷ fs) some h none = omega (arith, covered-cons s (Delivered frame) a)

front_of : (s : FrameShape) (a b : List Piece) (fs fs' : List (List Bool)) → 0 < s.len → a ++ map Delivered fs ≡ b ++ map Delivered fs' → covered s a ≡ covered s b → a ≡ b
front_of s [] [] fs fs' some h same = refl
front_of s [] (y ∷ b) fs fs' some h same = absurd (some_frame s y b (map Delivered fs') fs some h (sym same))
front_of s (x ∷ a) [] fs fs' some h same = absurd (some_frame s x a (map Delivered fs) fs' some (sym h) same)
front_of s (x ∷ a) (y ∷ b) fs fs' some h same =
    let rest : a ++ map Delivered fs ≡ b ++ map Delivered fs' = cc in
    let head : x ≡ y = cc in
    let sizes : bits_covered s x ≡ bits_covered s y = ap (bits_covered s) head in
    let others : covered s a ≡ covered s b = omega (arith, covered-cons s x a, covered-cons s y b) in
    ap (λ z. z ∷ a) head ∙ ap (λ z. y ∷ z) (front_of s a b fs fs' some rest others)

-- the place where open frames begin is one alone
pub place_once : (s : FrameShape) (line : List Bool) (p q : ℕ) → EndsInFrames s line p → EndsInFrames s line q → p ≡ q
place_once s line p q a b =
    let same = last_gap a.before b.before a.gap b.gap a.frames b.frames (sym a.ends ∙ b.ends) in
    sym a.begins ∙ ap (λ l. covered s l + a.gap) same.0 ∙ ap (λ n. covered s b.before + n) same.1 ∙ b.begins

-- the child's rejoining place is one alone
pub child_place_once : (s : FrameShape) (counts : ℕ → ℕ) (line : List Bool) (e u j e1 u1 e2 u2 : ℕ) → 0 < s.len → ChildPlace s counts line e u j e1 u1 → ChildPlace s counts line e u j e2 u2 → (e1 ≡ e2) × (u1 ≡ u2)
child_place_once s counts line e u j e1 u1 e2 u2 some a b =
    let place : a.place ≡ b.place = place_once s line a.place b.place a.stands b.stands in
    let most : a.steps ≤ b.steps = a.first b.steps (subst (λ p. e ≤ p + b.steps * s.len) (sym place) b.from_e) in
    let least : b.steps ≤ a.steps = b.first a.steps (subst (λ p. e ≤ p + a.steps * s.len) place a.from_e) in
    let steps : a.steps ≡ b.steps = omega arith in
    let covers : covered s a.before ≡ covered s b.before = a.at ∙ ap (λ p. p + a.steps * s.len) place ∙ ap (λ k. b.place + k * s.len) steps ∙ sym b.at in
    let before : a.before ≡ b.before = front_of s a.before b.before a.frames b.frames some (sym a.pieces ∙ b.pieces) covers in
    let product : a.number * s.len ≡ b.number * s.len = omega (arith, a.sent_before, b.sent_before) in
    let number : a.number ≡ b.number = cancel a.number b.number s.len some product in
    (a.got ∙ ap (λ l. length (flat_map (piece_bits s j) l)) before ∙ sym b.got, a.carried ∙ ap (sent s counts) number ∙ sym b.carried)
  where
    cancel : (a b c : ℕ) → 0 < c → a * c ≡ b * c → a ≡ b
    cancel a b c some h =
        elim (cases_lt a b) [
          | inl less ↦ (let m : suc a * c ≤ b * c = mul-le-mul_right c (up a b less) in absurd (omega arith))
          | inr more ↦ elim (cases_lt b a) [
            | inl less ↦ (let m : suc b * c ≤ a * c = mul-le-mul_right c (up b a less) in absurd (omega arith))
            | inr ok ↦ omega arith
          ]
        ]
      where
        up : (i q : ℕ) → i < q → suc i ≤ q
        up i q h = omega arith

-- ---- a search

pub gap_or_frames : (s : FrameShape) (line : List Bool) (q p : ℕ) → EndsInGap s line q → EndsInFrames s line p → ⊥
gap_or_frames s line q p a b =
    let same : map Delivered [] ≡ map Delivered b.frames = (last_gap a.before b.before a.gap b.gap [] b.frames (sym a.ends ∙ b.ends)).2 in
    let some : 0 < length b.frames = b.some in
    let none : 0 ≡ length b.frames = ap length same ∙ length-map b.frames Delivered in
    omega arith

same_count : (fs fs' : List (List Bool)) (n n' : ℕ) (r r' : List Piece) → map Delivered fs ++ Gap n ∷ r ≡ map Delivered fs' ++ Gap n' ∷ r' → length fs ≡ length fs'
same_count [] [] n n' r r' h = refl
same_count [] (f ∷ fs') n n' r r' h = cc
same_count (f ∷ fs) [] n n' r r' h = cc
same_count (f ∷ fs) (f' ∷ fs') n n' r r' h =
    let rest : map Delivered fs ++ Gap n ∷ r ≡ map Delivered fs' ++ Gap n' ∷ r' = cc in
    ap suc (same_count fs fs' n n' r r' rest)

-- an alignment that covers something stands nowhere else
not_inside : (s : FrameShape) (a : List Piece) (g' : ℕ) (fs : List (List Bool)) (tail rest : List Piece) → 0 < s.len → 0 < length fs → map Delivered fs ++ tail ≡ a ++ (Gap g' ∷ rest) → covered s a ≡ 0 → ⊥
not_inside s a g' [] tail rest some many h none = omega arith
not_inside s [] g' (f ∷ fs) tail rest some many h none = cc
not_inside s (Gap n ∷ a) g' (f ∷ fs) tail rest some many h none = cc
not_inside s (Delivered frame ∷ a) g' (f ∷ fs) tail rest some many h none = omega (arith, covered-cons s (Delivered frame) a)

same_loss : (s : FrameShape) (a b : List Piece) (g g' n n' : ℕ) (fs fs' : List (List Bool)) (r r' : List Piece) → 0 < s.len → 0 < length fs → 0 < length fs'
    → covered s a + g ≡ covered s b + g' → a ++ (Gap g ∷ (map Delivered fs ++ (Gap n ∷ r))) ≡ b ++ (Gap g' ∷ (map Delivered fs' ++ (Gap n' ∷ r'))) → length fs ≡ length fs'
same_loss s [] [] g g' n n' fs fs' r r' some many many' c h =
    let rest : map Delivered fs ++ (Gap n ∷ r) ≡ map Delivered fs' ++ (Gap n' ∷ r') = cc in
    same_count fs fs' n n' r r' rest
same_loss s [] (y ∷ b) g g' n n' fs fs' r r' some many many' c h =
    let head : Gap g ≡ y = cc in
    let rest : map Delivered fs ++ (Gap n ∷ r) ≡ b ++ (Gap g' ∷ (map Delivered fs' ++ (Gap n' ∷ r'))) = cc in
    let sizes : g ≡ bits_covered s y = ap (bits_covered s) head in
    let nothing : covered s [] ≡ 0 = refl in
    absurd (not_inside s b g' fs (Gap n ∷ r) (map Delivered fs' ++ (Gap n' ∷ r')) some many rest (omega (arith, covered-cons s y b)))
same_loss s (x ∷ a) [] g g' n n' fs fs' r r' some many many' c h =
    let head : Gap g' ≡ x = cc in
    let rest : map Delivered fs' ++ (Gap n' ∷ r') ≡ a ++ (Gap g ∷ (map Delivered fs ++ (Gap n ∷ r))) = cc in
    let sizes : g' ≡ bits_covered s x = ap (bits_covered s) head in
    let nothing : covered s [] ≡ 0 = refl in
    absurd (not_inside s a g fs' (Gap n' ∷ r') (map Delivered fs ++ (Gap n ∷ r)) some many' rest (omega (arith, covered-cons s x a)))
same_loss s (x ∷ a) (y ∷ b) g g' n n' fs fs' r r' some many many' c h =
    let head : x ≡ y = cc in
    let rest : a ++ (Gap g ∷ (map Delivered fs ++ (Gap n ∷ r))) ≡ b ++ (Gap g' ∷ (map Delivered fs' ++ (Gap n' ∷ r'))) = cc in
    let sizes : bits_covered s x ≡ bits_covered s y = ap (bits_covered s) head in
    same_loss s a b g g' n n' fs fs' r r' some many many' (omega (arith, covered-cons s x a, covered-cons s y b)) rest

pub loses_once : (s : FrameShape) (line : List Bool) (p q q' : ℕ) → 0 < s.len → LosesAt s line p q → LosesAt s line p q' → q ≡ q'
loses_once s line p q q' some a b =
    let left : track s line ≡ a.before ++ (Gap a.gap ∷ (map Delivered a.frames ++ (Gap a.next_gap ∷ a.rest))) = a.pieces ∙ append_assoc a.before (Gap a.gap ∷ map Delivered a.frames) (Gap a.next_gap ∷ a.rest) in
    let right : track s line ≡ b.before ++ (Gap b.gap ∷ (map Delivered b.frames ++ (Gap b.next_gap ∷ b.rest))) = b.pieces ∙ append_assoc b.before (Gap b.gap ∷ map Delivered b.frames) (Gap b.next_gap ∷ b.rest) in
    let count : length a.frames ≡ length b.frames = same_loss s a.before b.before a.gap b.gap a.next_gap b.next_gap a.frames b.frames a.rest b.rest some a.some b.some (a.begins ∙ sym b.begins) (sym left ∙ right) in
    sym a.lost ∙ ap (λ n. p + n * s.len) count ∙ b.lost

pub searches_once : (s : FrameShape) (line : List Bool) (e q q' : ℕ) → 0 < s.len → SearchesFrom s line e q → SearchesFrom s line e q' → q ≡ q'
searches_once s line e q q' some (inl a) (inl b) =
    let same = last_gap a.before b.before a.gap b.gap [] [] (sym a.ends ∙ b.ends) in
    sym a.from ∙ ap (covered s) same.0 ∙ b.from
searches_once s line e q q' some (inl a) (inr b) = absurd (gap_or_frames s (take e line) q b.0 a b.1)
searches_once s line e q q' some (inr a) (inl b) = absurd (gap_or_frames s (take e line) q' a.0 b a.1)
searches_once s line e q q' some (inr a) (inr b) =
    let same : a.0 ≡ b.0 = place_once s (take e line) a.0 b.0 a.1 b.1 in
    loses_once s line b.0 q q' some (subst (λ p. LosesAt s line p q) same a.2) b.2

-- ---- an alignment that is lost isn't open

not_both : (s : FrameShape) (a b : List Piece) (g g' n' : ℕ) (fs fs' : List (List Bool)) (r' : List Piece) → 0 < s.len → 0 < length fs'
    → covered s a + g ≡ covered s b + g' → a ++ (Gap g ∷ map Delivered fs) ≡ b ++ (Gap g' ∷ (map Delivered fs' ++ (Gap n' ∷ r'))) → ⊥
not_both s [] [] g g' n' fs fs' r' some many' c h =
    let rest : map Delivered fs ≡ map Delivered fs' ++ (Gap n' ∷ r') = cc in
    no_gap_among fs (map Delivered fs') r' n' rest
not_both s [] (y ∷ b) g g' n' fs fs' r' some many' c h =
    let rest : map Delivered fs ≡ b ++ (Gap g' ∷ (map Delivered fs' ++ (Gap n' ∷ r'))) = cc in
    no_gap_among fs b (map Delivered fs' ++ (Gap n' ∷ r')) g' rest
not_both s (x ∷ a) [] g g' n' fs fs' r' some many' c h =
    let head : Gap g' ≡ x = cc in
    let rest : map Delivered fs' ++ (Gap n' ∷ r') ≡ a ++ (Gap g ∷ map Delivered fs) = cc in
    let sizes : g' ≡ bits_covered s x = ap (bits_covered s) head in
    let nothing : covered s [] ≡ 0 = refl in
    not_inside s a g fs' (Gap n' ∷ r') (map Delivered fs) some many' rest (omega (arith, covered-cons s x a))
not_both s (x ∷ a) (y ∷ b) g g' n' fs fs' r' some many' c h =
    let head : x ≡ y = cc in
    let rest : a ++ (Gap g ∷ map Delivered fs) ≡ b ++ (Gap g' ∷ (map Delivered fs' ++ (Gap n' ∷ r'))) = cc in
    let sizes : bits_covered s x ≡ bits_covered s y = ap (bits_covered s) head in
    not_both s a b g g' n' fs fs' r' some many' (omega (arith, covered-cons s x a, covered-cons s y b)) rest

-- the tracking of a line doesn't end in the open frames from a place on where it loses those
pub open_or_lost : (s : FrameShape) (line : List Bool) (p q : ℕ) → 0 < s.len → EndsInFrames s line p → LosesAt s line p q → ⊥
open_or_lost s line p q some a b =
    let right : track s line ≡ b.before ++ (Gap b.gap ∷ (map Delivered b.frames ++ (Gap b.next_gap ∷ b.rest))) = b.pieces ∙ append_assoc b.before (Gap b.gap ∷ map Delivered b.frames) (Gap b.next_gap ∷ b.rest) in
    not_both s a.before b.before a.gap b.gap b.next_gap a.frames b.frames b.rest some b.some (a.begins ∙ sym b.begins) (sym a.ends ∙ right)
