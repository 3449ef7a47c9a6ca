-- Rows of a script that are left where some bits of its line came.
use Rattle.std.proofs.Common.{◌≡◌, ℕ, suc, ◌<◌, Bool, List, [], ◌∷◌, ◌++◌, length, refl, sym, ap, subst, ◌∙◌, arith, append_assoc}
use Rattle.std.proofs.lemmas.List.{append-nil}
use Rattle.pdh_script.specs.Scripts.{Row, FitIn}
use Rattle.pdh_script.specs.Bending.{added_at, becomes_at, brought, all_brought}
use Rattle.pdh_script.specs.RowsLeft.{Remain, IsAhead, SameFrom, AreLeft, ArePassed, HasAdded}
use Rattle.pdh_script.proofs.Brought.{same_join, same_same, ahead_adds_none, in_order, remain}

-- some are passed, and then some more
pub passed_more : (place : ℕ) (rows mid left : List Row) (xs ys : List Bool) → ArePassed place rows mid xs → ArePassed place mid left ys → ArePassed place rows left (xs ++ ys)
passed_more place rows mid left xs ys first next = record {
  adds = first.adds ∙ ap (λ v. xs ++ v) next.adds ∙ sym (append_assoc xs ys (added_at place left));
  here = λ bits. next.here bits ∙ first.here bits;
  later = same_join (suc place) left mid rows next.later first.later;
  remain = next.remain;
}

-- none of those that are left ends at the place
module _ (place : ℕ) (rows left : List Row) (done : List Bool) (passed : ArePassed place rows left done) (ahead : IsAhead place left) where
  pub passed_all : done ≡ added_at place rows
  passed_all = sym (append-nil done) ∙ ap (λ v. done ++ v) (sym (ahead_adds_none left place passed.remain ahead)) ∙ sym passed.adds

  pub has_added : HasAdded place rows left
  has_added = record { ahead = ahead; passed = subst (ArePassed place rows left) passed_all passed }

-- the rows of a script, none of which is passed
pub all_left : (rows : List Row) (bits : ℕ) → FitIn bits rows → AreLeft rows rows 0
all_left rows bits fits = record { remain = remain rows 0 (in_order rows 0 bits fits); same = same_same 0 rows }

-- what is left adds before the next bit what the script does
pub left_adds : (left rows : List Row) (place : ℕ) → AreLeft left rows place → added_at place left ≡ added_at place rows
left_adds left rows place h = (h.same place (omega arith)).0

remain_next : (rows : List Row) (place : ℕ) → IsAhead place rows → Remain place rows → Remain (suc place) rows
remain_next [] place ahead left = tt
remain_next (row ∷ rows) place ahead left = (omega (arith, ahead), left.1)

-- one more bit came
pub left_next : (old new rows : List Row) (place next : ℕ) → AreLeft old rows place → HasAdded place old new → next ≡ suc place → AreLeft new rows next
left_next old new rows place next h added is =
    subst (AreLeft new rows) (sym is)
    (record {
      remain = remain_next new place added.ahead added.passed.remain;
      same = same_join (suc place) new old rows added.passed.later (λ p from. h.same p (omega (arith, from)));
    })

-- ---- bits that come, by the rows that are left

pub same_brought : (place : ℕ) (a b : List Row) (xs : List Bool) → SameFrom place a b → all_brought place a xs ≡ all_brought place b xs
same_brought place a b [] same = refl
same_brought place a b (x ∷ xs) same =
    let here = same place (omega arith) in
    ap (λ v. (v ++ becomes_at place a (x ∷ [])) ++ all_brought (suc place) a xs) here.0
    ∙ ap (λ v. (added_at place b ++ v) ++ all_brought (suc place) a xs) (here.1 (x ∷ []))
    ∙ ap (λ v. brought place b x ++ v) (same_brought (suc place) a b xs (λ p from. same p (omega (arith, from))))

-- what was added before them, and then what the rows that are left make of them
pub added_first : (place : ℕ) (rows left : List Row) (xs : List Bool) → 0 < length xs → HasAdded place rows left → all_brought place rows xs ≡ added_at place rows ++ all_brought place left xs
added_first place rows left [] some added = absurd (let P : ⊥ = omega (arith, some) in P)
added_first place rows left (x ∷ xs) some added =
    let become = becomes_at place left (x ∷ []) in
    ap (λ v. (added_at place rows ++ v) ++ all_brought (suc place) rows xs) (sym (added.passed.here (x ∷ [])))
    ∙ ap (λ v. (added_at place rows ++ become) ++ v) (sym (same_brought (suc place) left rows xs added.passed.later))
    ∙ append_assoc (added_at place rows) become (all_brought (suc place) left xs)
    ∙ ap (λ v. added_at place rows ++ ((v ++ become) ++ all_brought (suc place) left xs)) (sym (ahead_adds_none left place added.passed.remain added.ahead))
