-- The delay, level by level.
use Rattle.std.proofs.Common.{◌≡◌, ℕ, suc, ◌+◌, ◌-◌, ◌*◌, ◌/◌, ◌<◌, ◌≤◌, ◌^◌, zero, List, [], ◌∷◌, length, drop, take, get_or, All, Fits, w32, refl, ap, sym, ◌∙◌, subst, arith, inl, inr}
use Rattle.std.proofs.lemmas.Bool.{cases_Bool}
use Rattle.std.proofs.Math.Nat.{mul-le-mul_left, mul-le-mul_right, div-mul-le_self}
use Rattle.std.proofs.lemmas.List.Elements.{All-head, All-tail, All-drop}
use Rattle.pdh_shape.specs.declared.place.Level.{Level}
use Rattle.pdh_shape.specs.OwnNumbers.{lead, allowance}
use Rattle.pdh_line.specs.Progress.{short_by}
use Rattle.pdh_line.specs.Nodes.{delay_below}
use Rattle.pdh_levels.specs.Levels.{IsLevel, level_numbers, numbers_of}
use Rattle.pdh_levels.proofs.LevelLaws.{below_top}

-- a frame carries fewer bits of a tributary than it has slots
abbrev pub IsLow : Level → Type 0
IsLow level = level.low < level.len

-- ---- one level or none

pub delay_none : (levels : List Level) (frames : ℕ) → length levels < 1 → 0 ≡ delay_below (numbers_of levels) frames
unfolding delay_below
delay_none [] frames none = refl
delay_none (level ∷ below) frames none = absurd (omega arith)

pub delay_one : (levels : List Level) (frames short : ℕ) (d : Level) → 1 ≤ length levels → length levels < 2 → short ≡ short_by (level_numbers (get_or levels 0 d)) frames
    → short ≡ delay_below (numbers_of levels) frames
unfolding delay_below
delay_one [] frames short d some one is = absurd (omega arith)
delay_one (level ∷ []) frames short d some one is = is
delay_one (level ∷ next ∷ below) frames short d some one is = absurd (omega arith)

-- ---- several levels

-- how many frames a node holds back that is short by so many bits
abbrev pub held_back : List Level → ℕ → Level → ℕ
held_back levels short d = short / (get_or (take (length levels - 1) (drop 1 levels)) 0 d).len + 4

pub delay_more : (levels : List Level) (frames short : ℕ) (d d' : Level) → 2 ≤ length levels → short ≡ short_by (level_numbers (get_or levels 0 d)) frames
    → delay_below (numbers_of (take (length levels - 1) (drop 1 levels))) (held_back levels short d') ≡ delay_below (numbers_of levels) frames
unfolding delay_below
delay_more [] frames short d d' more is = absurd (omega arith)
delay_more (level ∷ []) frames short d d' more is = absurd (omega arith)
delay_more (level ∷ next ∷ below) frames short d d' more is =
    ap (λ ls. delay_below (numbers_of ls) (short / (get_or ls 0 d').len + 4)) (below_top (level ∷ next ∷ below))
    ∙ ap (λ k. delay_below (numbers_of (next ∷ below)) (k / next.len + 4)) is

-- all numbers stay small
pub record AreFew (levels : List Level) (short : ℕ) (d : Level) : Type 0 where
  pub some : 0 < (get_or (take (length levels - 1) (drop 1 levels)) 0 d).len
  pub few : (held_back levels short d + 1) * 8 ^ length (take (length levels - 1) (drop 1 levels)) ≤ 1536

few_held : (len' frames short n : ℕ) → 848 ≤ len' → short ≤ lead + allowance + frames * 4760 → (frames + 1) * 8 ^ suc n ≤ 1536 → (short / len' + 4 + 1) * 8 ^ n ≤ 1536
few_held len' frames short n long most few =
    let whole : short / len' * len' ≤ short = div-mul-le_self short len' in
    let least : short / len' * 848 ≤ short / len' * len' = mul-le-mul_left (short / len') long in
    let held : short / len' + 4 + 1 ≤ (frames + 1) * 8 = omega arith in
    let next : 8 ^ suc n ≡ 8 * 8 ^ n = omega arith in
    let power : (frames + 1) * 8 ^ suc n ≡ (frames + 1) * 8 * 8 ^ n = ap (λ p. (frames + 1) * p) next ∙ more (frames + 1) (8 ^ n) in
    upto _ _ _ (mul-le-mul_right (8 ^ n) held) (subst (λ k. k ≤ 1536) power few)
  where
    more : (a p : ℕ) → a * (8 * p) ≡ a * 8 * p
    more a p = omega arith

    upto : (a b c : ℕ) → a ≤ b → b ≤ c → a ≤ c
    upto a b c h h' = omega arith

short_most : (level : Level) (frames : ℕ) → IsLevel level → IsLow level → short_by (level_numbers level) frames ≤ lead + allowance + frames * 4760
short_most level frames is low =
    let bits : frames * suc level.low ≤ frames * 4760 = mul-le-mul_left frames (omega (arith, is.longest)) in
    elim (cases_Bool level.locked) [
      | inl locked ↦ rw locked (omega arith)
      | inr elastic ↦ rw elastic (omega arith)
    ]

pub few_more : (levels : List Level) (frames short : ℕ) (d d' : Level) → 2 ≤ length levels → All IsLevel levels → All IsLow levels → (frames + 1) * 8 ^ length levels ≤ 1536
    → short ≡ short_by (level_numbers (get_or levels 0 d)) frames → AreFew levels short d'
few_more [] frames short d d' more each low few is = absurd (omega arith)
few_more (level ∷ []) frames short d d' more each low few is = absurd (omega arith)
few_more (level ∷ next ∷ below) frames short d d' more each low few is =
    let first = All-head IsLevel level (next ∷ below) each in
    let second = All-head IsLevel next below (All-tail IsLevel level (next ∷ below) each) in
    let rest : take (length (level ∷ next ∷ below) - 1) (next ∷ below) ≡ next ∷ below = below_top (level ∷ next ∷ below) in
    let most : short ≤ lead + allowance + frames * 4760 = omega (arith, is, short_most level frames first (All-head IsLow level (next ∷ below) low)) in
    record {
      some = subst (λ ls. 0 < (get_or ls 0 d').len) (sym rest) (omega (arith, second.shortest));
      few = subst (λ ls. (short / (get_or ls 0 d').len + 4 + 1) * 8 ^ length ls ≤ 1536) (sym rest) (few_held next.len frames short (suc (length below)) second.shortest most few);
    }

pub frames_few : (frames n : ℕ) → (frames + 1) * 8 ^ n ≤ 1536 → frames ≤ 1535
frames_few frames n few =
    let some : 1 ≤ 8 ^ n = power n in
    let least : (frames + 1) * 1 ≤ (frames + 1) * 8 ^ n = mul-le-mul_left (frames + 1) some in
    omega arith
  where
    power : (n : ℕ) → 1 ≤ 8 ^ n
    power zero = omega arith
    power (suc n) = let e : 8 ^ suc n ≡ 8 * 8 ^ n = omega arith in omega (arith, power n)

pub held_fits : (levels : List Level) (short : ℕ) (d : Level) → AreFew levels short d → Fits w32 (held_back levels short d)
held_fits levels short d are =
    record { fits = omega (arith, frames_few (held_back levels short d) (length (take (length levels - 1) (drop 1 levels))) are.few) }

pub two_few : (n : ℕ) → n ≤ 3 → 3 * 8 ^ n ≤ 1536
two_few zero few = omega arith
two_few (suc zero) few = omega arith
two_few (suc (suc zero)) few = omega arith
two_few (suc (suc (suc zero))) few = omega arith
two_few (suc (suc (suc (suc n)))) few = absurd (omega arith)

-- what holds of all levels holds of those below the top
pub all_below : (P : Level → Type 0) (levels : List Level) → All P levels → All P (take (length levels - 1) (drop 1 levels))
all_below P levels each = subst (All P) (sym (below_top levels)) (All-drop P 1 levels each)
