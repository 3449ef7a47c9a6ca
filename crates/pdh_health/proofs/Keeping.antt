-- The first codes, with one more.
use Rattle.std.proofs.Common.{◌≡◌, ℕ, ◌+◌, ◌<◌, ◌≤◌, List, [], ◌∷◌, ◌++◌, length, take, set, sym, ap, ◌∙◌, arith, add-one, length-append}
use Rattle.std.specs.Prelude.{min}
use Rattle.std.proofs.lemmas.List.{take_all, length-take}
use Rattle.std.proofs.Math.Seq.{take-suc-set}
use Rattle.pdh_cells.specs.declared.cell.Code.{Code}

-- as many are kept as came, three at most
kept_count : (count : ℕ) (kept all : List Code) → length kept ≡ 3 → count ≤ 3 → take count kept ≡ take 3 all → count ≡ min 3 (length all)
kept_count count kept all room few is =
    let own : length (take count kept) ≡ min count (length kept) = length-take count kept in
    let those : length (take 3 all) ≡ min 3 (length all) = length-take 3 all in
    let same : length (take count kept) ≡ length (take 3 all) = ap length is in
    omega (arith, own, those, same, room, few)

pub one_more_kept : (count : ℕ) (kept all : List Code) (code : Code) → length kept ≡ 3 → count < 3 → take count kept ≡ take 3 all → take (count + 1) (set kept count code) ≡ take 3 (all ++ code ∷ [])
one_more_kept count kept all code room less is =
    let few : length all ≤ 2 = omega (arith, kept_count count kept all room (omega (arith, less)) is, less) in
    let longer : length (all ++ code ∷ []) ≡ length all + 1 = length-append all (code ∷ []) in
    ap (λ n. take n (set kept count code)) (add-one count) ∙ take-suc-set kept count code (omega (arith, room, less))
    ∙ ap (λ (l : List Code). l ++ code ∷ []) (is ∙ take_all 3 all (omega (arith, few))) ∙ sym (take_all 3 (all ++ code ∷ []) (omega (arith, longer, few)))
