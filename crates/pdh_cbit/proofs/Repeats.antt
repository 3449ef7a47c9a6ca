-- Lists that repeat their first sixteen bits.
use Rattle.std.proofs.Common.{◌≡◌, ℕ, zero, suc, ◌+◌, ◌*◌, ◌<◌, ◌≤◌, Bool, true, false, List, [], ◌∷◌, ◌++◌, length, take, drop, append_assoc, refl, sym, ◌∙◌, ap, arith}
use Rattle.std.proofs.lemmas.List.{append-nil, take_at, drop_at, take-append-drop}
use Rattle.std.specs.Bool.{beq}
use Rattle.std.specs.List.{common_prefix_len, repeat}
use Rattle.pdh_cbit.specs.Channel.{repeated_in}

-- two lists agree as far as they begin alike
common-take : (n : ℕ) (xs ys : List Bool) → n ≤ common_prefix_len beq xs ys → take n xs ≡ take n ys
common-take zero xs ys alike = refl
common-take (suc n) [] ys alike = absurd (omega arith)
common-take (suc n) (x ∷ xs) [] alike = absurd (omega arith)
common-take (suc n) (true ∷ xs) (true ∷ ys) alike = ap (λ (l : List Bool). true ∷ l) (common-take n xs ys (omega arith))
common-take (suc n) (false ∷ xs) (false ∷ ys) alike = ap (λ (l : List Bool). false ∷ l) (common-take n xs ys (omega arith))
common-take (suc n) (true ∷ xs) (false ∷ ys) alike = absurd (omega arith)
common-take (suc n) (false ∷ xs) (true ∷ ys) alike = absurd (omega arith)

-- lists behind the same front
common-append : (a xs ys : List Bool) → common_prefix_len beq (a ++ xs) (a ++ ys) ≡ length a + common_prefix_len beq xs ys
common-append [] xs ys = omega arith
common-append (true ∷ a) xs ys = omega (arith, common-append a xs ys)
common-append (false ∷ a) xs ys = omega (arith, common-append a xs ys)

-- a word before bits that begin with it
repeated_in-word : (a r : List Bool) → length a ≡ 16 → repeated_in (a ++ (a ++ r)) ≡ 16 + repeated_in (a ++ r)
unfolding repeated_in
repeated_in-word a r long =
    let far : drop 16 (a ++ (a ++ r)) ≡ a ++ r = drop_at a (a ++ r) 16 long in
    let near : drop 16 (a ++ r) ≡ r = drop_at a r 16 long in
    let both : common_prefix_len beq (a ++ (a ++ r)) (a ++ r) ≡ length a + common_prefix_len beq (a ++ r) r = common-append a (a ++ r) r in
    ap (common_prefix_len beq (a ++ (a ++ r))) far ∙ both ∙ ap (λ (n : ℕ). n + common_prefix_len beq (a ++ r) r) long ∙ ap (λ (l : List Bool). 16 + common_prefix_len beq (a ++ r) l) (sym near)

-- sixteen repeated bits are the first word again
begins_again : (a r : List Bool) → length a ≡ 16 → 16 ≤ repeated_in (a ++ r) → r ≡ a ++ drop 16 r
unfolding repeated_in
begins_again a r long enough =
    let alike : take 16 (a ++ r) ≡ take 16 (drop 16 (a ++ r)) = common-take 16 (a ++ r) (drop 16 (a ++ r)) enough in
    let first : take 16 (a ++ r) ≡ a = take_at a r 16 long in
    let after : drop 16 (a ++ r) ≡ r = drop_at a r 16 long in
    let same : take 16 r ≡ a = sym (ap (λ (l : List Bool). take 16 l) after) ∙ sym alike ∙ first in
    sym (take-append-drop 16 r) ∙ ap (λ (w : List Bool). w ++ drop 16 r) same

-- a word so many times and once more repeats so many words
pub repeated_in-repeat : (k : ℕ) (a r : List Bool) → length a ≡ 16 → 16 * k ≤ repeated_in (repeat (suc k) a ++ r)
repeated_in-repeat zero a r long = omega arith
repeated_in-repeat (suc k) a r long =
    let rest : List Bool = repeat k a ++ r in
    let less : 16 * k ≤ repeated_in (repeat (suc k) a ++ r) = repeated_in-repeat k a r long in
    let one : repeat (suc k) a ++ r ≡ a ++ rest = append_assoc a (repeat k a) r in
    let two : repeat (suc (suc k)) a ++ r ≡ a ++ (a ++ rest) = append_assoc a (repeat (suc k) a) r ∙ ap (λ (l : List Bool). a ++ l) one in
    let more : repeated_in (a ++ (a ++ rest)) ≡ 16 + repeated_in (a ++ rest) = repeated_in-word a rest long in
    omega (arith, less, more, ap repeated_in one, ap repeated_in two)

-- so many repeated words are the first word so many times and once more
pub repeat_from_repeated : (k : ℕ) (a r : List Bool) → length a ≡ 16 → 16 * k ≤ repeated_in (a ++ r) → (rest : List Bool) × (a ++ r ≡ repeat (suc k) a ++ rest)
repeat_from_repeated zero a r long enough = (r, ap (λ (l : List Bool). l ++ r) (sym (append-nil a)))
repeat_from_repeated (suc k) a r long enough =
    let again : r ≡ a ++ drop 16 r = begins_again a r long (omega arith) in
    let counted : repeated_in (a ++ r) ≡ 16 + repeated_in (a ++ drop 16 r) =
    ap (λ (l : List Bool). repeated_in (a ++ l)) again ∙ repeated_in-word a (drop 16 r) long in
    let below : (rest : List Bool) × (a ++ drop 16 r ≡ repeat (suc k) a ++ rest) = repeat_from_repeated k a (drop 16 r) long (omega (arith, counted)) in
    (below.0, ap (λ (l : List Bool). a ++ l) (again ∙ below.1) ∙ sym (append_assoc a (repeat (suc k) a) below.0))
