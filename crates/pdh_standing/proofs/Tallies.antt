-- Tallies of nodes, one by one and at once.
use Rattle.std.proofs.Common.{◌≡◌, ℕ, ◌+◌, Bool, true, false, List, [], ◌∷◌, length, refl, ap, ◌∙◌, arith, cond}
use Rattle.std.specs.Prelude.{fold, sum_by}
use Rattle.std.proofs.lemmas.List.Sums.{sum_by-cons}
use Rattle.pdh_shape.specs.Frame.{FrameShape}
use Rattle.pdh_judging.specs.Judged.{judged_in, capped, stands_below}
use Rattle.pdh_standing.specs.declared.tally.Tally.{Tally}
use Rattle.pdh_standing.specs.Standing.{standing, tally_of, no_node}
use Rattle.pdh_standing.specs.Counting.{with_node, with_standing}

-- with a node more whose line this is, and with it if it stands
abbrev pub with_line : FrameShape → Tally → List Bool → Tally
with_line s tally line = with_node tally (judged_in s line)

abbrev pub with_if_standing : FrameShape → Tally → List Bool → Tally
with_if_standing s tally line = with_standing (stands_below (judged_in s line)) tally (judged_in s line)

-- those that stand, one by one
pub standing_one_by_one : (s : FrameShape) (tally : Tally) (lines : List (List Bool)) → fold (with_if_standing s) tally lines ≡ fold (with_line s) tally (standing s lines)
standing_one_by_one s tally [] = refl
standing_one_by_one s tally (line ∷ lines) =
    elim (stands_below (judged_in s line)) as (λ b. fold (with_if_standing s) (with_standing b tally (judged_in s line)) lines
    ≡ fold (with_line s) tally (cond b (line ∷ standing s lines) (standing s lines))) [
      | true ↦ standing_one_by_one s (with_line s tally line) lines
      | false ↦ standing_one_by_one s tally lines
    ]

-- a count that stands at its type's end
capped_sum : (a b : ℕ) → capped (capped a + b) ≡ capped (a + b)
capped_sum a b = omega arith

-- so many nodes, of whose lines so much was judged
abbrev tally_at : ℕ → ℕ → ℕ → Tally
tally_at stand judged right = record { stand = capped stand; judged = capped judged; right = capped right }

tally_same : (a b c d e f : ℕ) → a ≡ d → b ≡ e → c ≡ f → tally_at a b c ≡ tally_at d e f
tally_same a b c d e f stand judged right = λ i. tally_at (stand i) (judged i) (right i)

tallied_from : (s : FrameShape) (stand judged right : ℕ) (lines : List (List Bool))
    → fold (with_line s) (tally_at stand judged right) lines
    ≡ tally_at (stand + length lines) (judged + sum_by (λ line. (judged_in s line).frames) lines) (right + sum_by (λ line. (judged_in s line).right) lines)
tallied_from s stand judged right [] =
    let a : stand ≡ stand + 0 = omega arith in
    let b : judged ≡ judged + 0 = omega arith in
    let c : right ≡ right + 0 = omega arith in
    tally_same _ _ _ _ _ _ a b c
tallied_from s stand judged right (line ∷ lines) =
    let frames : ℕ = (judged_in s line).frames in
    let rights : ℕ = (judged_in s line).right in
    let one : with_line s (tally_at stand judged right) line ≡ tally_at (stand + 1) (judged + frames) (right + rights) =
    λ i. record { stand = capped_sum stand 1 i; judged = capped_sum judged frames i; right = capped_sum right rights i } in
    let a : stand + 1 + length lines ≡ stand + length (line ∷ lines) = omega arith in
    let b : judged + frames + sum_by (λ line. (judged_in s line).frames) lines ≡ judged + sum_by (λ line. (judged_in s line).frames) (line ∷ lines) =
    omega (arith, sum_by-cons (λ (line : List Bool). (judged_in s line).frames) line lines) in
    let c : right + rights + sum_by (λ line. (judged_in s line).right) lines ≡ right + sum_by (λ line. (judged_in s line).right) (line ∷ lines) =
    omega (arith, sum_by-cons (λ (line : List Bool). (judged_in s line).right) line lines) in
    ap (λ tally. fold (with_line s) tally lines) one ∙ tallied_from s (stand + 1) (judged + frames) (right + rights) lines ∙ tally_same _ _ _ _ _ _ a b c

pub tallied : (s : FrameShape) (lines : List (List Bool)) → fold (with_line s) (no_node) lines ≡ tally_of s lines
tallied s lines =
    let a : 0 + length lines ≡ length lines = omega arith in
    let b : 0 + sum_by (λ line. (judged_in s line).frames) lines ≡ sum_by (λ line. (judged_in s line).frames) lines = omega arith in
    let c : 0 + sum_by (λ line. (judged_in s line).right) lines ≡ sum_by (λ line. (judged_in s line).right) lines = omega arith in
    tallied_from s 0 0 0 lines ∙ tally_same _ _ _ _ _ _ a b c
