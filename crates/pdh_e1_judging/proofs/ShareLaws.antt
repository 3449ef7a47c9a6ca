-- The multiframes of shares that grow, and what is judged of them.
use Rattle.std.proofs.Common.{◌≡◌, ℕ, suc, ◌+◌, ◌-◌, ◌*◌, ◌^◌, ◌<◌, ◌≤◌, Bool, cond, List, [], ◌∷◌, ◌++◌, length, get_or, map, take, drop, refl, sym, ap, ◌∙◌, arith, length-append, length-drop}
use Rattle.std.specs.Prelude.{min, count_by}
use Rattle.std.specs.List.{range_with_len}
use Rattle.std.proofs.lemmas.List.{append-nil, map-append, take_more, drop_all, take-append-le, drop-append-le, drop-drop, drop_at, length-take, length-take-le}
use Rattle.std.proofs.Math.Seq.{drop-nil}
use Rattle.std.proofs.lemmas.List.FromFn.{length-map-range_with_len}
use Rattle.std.proofs.lemmas.List.Sums.{sum_by-append}
use Rattle.pdh_line.proofs.Ranges.{range_append, map-range_same_on, map-range_shift}
use Rattle.pdh_judging.specs.Judged.{capped}
use Rattle.pdh_judging.specs.declared.judged.Judged.{Judged}
use Rattle.pdh_g706.specs.Tracking.{Share}
use Rattle.pdh_g706.proofs.GrowthLaws.{add}
use Rattle.pdh_e1_judging.specs.Judged.{multiframes_of, is_right, judged_of, judged_multiframes, with_multiframes, e1_judged_in}

-- ---- the multiframes of a share

pub count_multiframes : (share : Share) → length (multiframes_of share) ≡ share.multiframes
count_multiframes share = length-map-range_with_len (λ m. take 16 (drop (16 * m) share.signs.frames)) 0 share.multiframes

-- one whose frames stood before
front_one : (F H : List (List Bool)) (m : ℕ) → 16 * m + 16 ≤ length F → take 16 (drop (16 * m) (F ++ H)) ≡ take 16 (drop (16 * m) F)
front_one F H m h =
    let inside : 16 ≤ length (drop (16 * m) F) = omega (arith, length-drop (16 * m) F) in
    ap (take 16) (drop-append-le (16 * m) F H (omega arith)) ∙ take-append-le 16 (drop (16 * m) F) H inside

-- and one that was gained
rest_one : (F H : List (List Bool)) (n m : ℕ) → length F ≡ 16 * n → take 16 (drop (16 * (n + m)) (F ++ H)) ≡ take 16 (drop (16 * m) H)
rest_one F H n m whole =
    let place : 16 * (n + m) ≡ 16 * n + 16 * m = omega arith in
    ap (λ k. take 16 (drop k (F ++ H))) place ∙ ap (take 16) (sym (drop-drop (16 * m) (16 * n) (F ++ H))) ∙ ap (λ (x : List (List Bool)). take 16 (drop (16 * m) x)) (drop_at F H (16 * n) whole)

pub multiframes-add : (s g : Share) → length s.signs.frames ≡ 16 * s.multiframes → multiframes_of (add s g) ≡ multiframes_of s ++ multiframes_of g
multiframes-add s g whole =
    let F : List (List Bool) = s.signs.frames in
    let H : List (List Bool) = g.signs.frames in
    let f : ℕ → List (List Bool) = λ m. take 16 (drop (16 * m) (F ++ H)) in
    let n : ℕ = s.multiframes in
    let k : ℕ = g.multiframes in
    let swap : 0 + n ≡ n + 0 = omega arith in
    ap (map f) (range_append 0 n k) ∙ map-append f (range_with_len 0 n) (range_with_len (0 + n) k)
    ∙ ap (λ (x : List (List (List Bool))). x ++ map f (range_with_len (0 + n) k)) (map-range_same_on f (λ m. take 16 (drop (16 * m) F)) 0 n (λ m _from lt. front_one F H m (omega arith)))
    ∙ ap (λ (x : List (List (List Bool))). multiframes_of s ++ x)
    (ap (λ j. map f (range_with_len j k)) swap ∙ map-range_shift f n 0 k ∙ map-range_same_on (λ m. f (n + m)) (λ m. take 16 (drop (16 * m) H)) 0 k (λ m _from lt. rest_one F H n m whole))

-- ---- without the first two

drop_two : {X : Type 0} (xs ys : List X) (n : ℕ) → n ≡ 2 - min 2 (length xs) → drop 2 (xs ++ ys) ≡ drop 2 xs ++ drop n ys
drop_two [] ys n e = let is : 2 ≡ n = omega (arith, e) in ap (λ k. drop k ys) is
drop_two (x ∷ []) ys n e = let is : 1 ≡ n = omega (arith, e) in ap (λ k. drop k ys) is
drop_two (x ∷ y ∷ xs) ys n e = let is : 0 ≡ n = omega (arith, e) in ap (λ k. xs ++ drop k ys) is

-- those that are judged of a share that grew, where so many that confirm didn't stand before
pub judged-add : (s g : Share) (n : ℕ) → length s.signs.frames ≡ 16 * s.multiframes → n ≡ 2 - min 2 s.multiframes → judged_of (add s g) ≡ judged_of s ++ drop n (multiframes_of g)
judged-add s g n whole is = ap (drop 2) (multiframes-add s g whole) ∙ drop_two (multiframes_of s) (multiframes_of g) n (omega (arith, is, count_multiframes s))

-- ---- counts

abbrev pub none_judged : Judged
none_judged = record { frames = 0; right = 0 }

pub judged_is : (line : List Bool) → e1_judged_in line ≡ with_multiframes none_judged (judged_multiframes line)
unfolding e1_judged_in
judged_is line = refl

capped_twice : (a b c : ℕ) → min (a + (b + c)) (2 ^ 64 - 1) ≡ min (min (a + b) (2 ^ 64 - 1) + c) (2 ^ 64 - 1)
capped_twice a b c = omega arith

pub with-append : (judged : Judged) (xs ys : List (List (List Bool))) → with_multiframes judged (xs ++ ys) ≡ with_multiframes (with_multiframes judged xs) ys
with-append judged xs ys =
    let frames : capped (judged.frames + length (xs ++ ys)) ≡ capped (capped (judged.frames + length xs) + length ys) =
    ap (λ n. capped (judged.frames + n)) (length-append xs ys) ∙ capped_twice judged.frames (length xs) (length ys) in
    let right : capped (judged.right + count_by is_right (xs ++ ys)) ≡ capped (capped (judged.right + count_by is_right xs) + count_by is_right ys) =
    ap (λ n. capped (judged.right + n)) (sum_by-append (λ x. cond (is_right x) 1 0) xs ys) ∙ capped_twice judged.right (count_by is_right xs) (count_by is_right ys) in
    λ i. record { frames = frames i; right = right i }

-- a line by which these are judged in addition
pub judged_more : (line now : List Bool) (more : List (List (List Bool))) (judged : Judged) → judged ≡ e1_judged_in line → judged_multiframes now ≡ judged_multiframes line ++ more
    → with_multiframes judged more ≡ e1_judged_in now
judged_more line now more judged is grown =
    ap (λ (j : Judged). with_multiframes j more) (is ∙ judged_is line) ∙ sym (with-append none_judged (judged_multiframes line) more)
    ∙ ap (with_multiframes none_judged) (sym grown) ∙ sym (judged_is now)

-- or none
pub judged_same : (line now : List Bool) (judged : Judged) → judged ≡ e1_judged_in line → judged_multiframes now ≡ judged_multiframes line → judged ≡ e1_judged_in now
judged_same line now judged is same = is ∙ judged_is line ∙ ap (with_multiframes none_judged) (sym same) ∙ sym (judged_is now)

-- ---- while the multiframes of a bit are judged

-- none of them
pub with_none : (line : List Bool) (judged : Judged) (n : ℕ) → judged ≡ e1_judged_in line → judged ≡ with_multiframes judged (drop n [])
with_none line judged n is =
    let none : List (List (List Bool)) = [] in
    is ∙ judged_is line ∙ ap (with_multiframes none_judged) (sym (append-nil (judged_multiframes line))) ∙ with-append none_judged (judged_multiframes line) none
    ∙ ap (λ (j : Judged). with_multiframes j none) (sym (is ∙ judged_is line)) ∙ ap (with_multiframes judged) (sym (drop-nil n))

-- one more while those that confirm come, of which so many are left
pub still_confirms : {X : Type 0} (xs : List X) (n k : ℕ) → n < k → drop k (take (n + 1) xs) ≡ drop k (take n xs)
still_confirms xs n k lt =
    drop_all k (take (n + 1) xs) (omega (arith, length-take (n + 1) xs)) ∙ sym (drop_all k (take n xs) (omega (arith, length-take n xs)))

-- one more behind them
pub one_more : {X : Type 0} (xs : List X) (n k : ℕ) (d : X) → k ≤ n → n < length xs → drop k (take (n + 1) xs) ≡ drop k (take n xs) ++ get_or xs n d ∷ []
one_more xs n k d le lt =
    let size : length (take n xs) ≡ n = length-take-le n xs (omega (arith, lt)) in
    ap (drop k) (take_more xs n d lt) ∙ drop-append-le k (take n xs) (get_or xs n d ∷ []) (omega (arith, size, le))
