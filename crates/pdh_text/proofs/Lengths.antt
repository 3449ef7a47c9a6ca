-- Lengths of parts of texts.
use Rattle.std.proofs.Common.{ℕ, zero, suc, ◌^◌, ◌<◌, ◌≤◌, [], ◌∷◌, ◌++◌, length, take, length-append, sym, subst, arith, lit<}
use Rattle.std.specs.Prelude.{decimal}
use Rattle.std.proofs.lemmas.List.{take_all}
use Rattle.std.proofs.lemmas.Fmt.{length-decimal-le}
use Rattle.pdh_shape.specs.declared.place.Path.{Path}
use Rattle.pdh_line.specs.Paths.{steps_of, path_text}

-- a number of 64 bits has at most 20 digits
pub digits : (n : ℕ) → n < 2 ^ 64 → length (decimal n) ≤ 20
digits n h = length-decimal-le 20 n (lit< tt) (omega arith) h

-- a path has at most two numbers
pub path_len : (path : Path) → path.first < 2 ^ 64 → path.second < 2 ^ 64 → length (path_text (steps_of path)) ≤ 42
path_len path h h' = go path.depth
  where
    go : (depth : ℕ) → length (path_text (take depth (path.first ∷ path.second ∷ []))) ≤ 42
    go zero = omega arith
    go (suc zero) =
        let one : length (47 ∷ decimal path.first ++ []) ≤ 42 = simp length-append (omega (arith, digits path.first h)) in
        one
    go (suc (suc depth)) =
        let two : length (47 ∷ decimal path.first ++ (47 ∷ decimal path.second ++ [])) ≤ 42 = simp length-append (omega (arith, digits path.first h, digits path.second h')) in
        subst (λ steps. length (path_text steps) ≤ 42) (sym (take_all (suc (suc depth)) (path.first ∷ path.second ∷ []) (omega arith))) two
