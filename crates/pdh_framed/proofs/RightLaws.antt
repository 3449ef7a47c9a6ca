-- Frames that are right one after another.
use Rattle.std.proofs.Common.{◌≡◌, ℕ, ◌+◌, Bool, true, inl, inr, sym, ◌∙◌, subst, arith}
use Rattle.std.proofs.lemmas.Bool.{false≢true, cases_lt}
use Rattle.pdh_framed.specs.RightFrames.{AreRight, FirstWrong}

-- one more is right
pub are_right-push : (right : ℕ → Bool) (frame : ℕ) → AreRight right frame → right frame ≡ true → AreRight right (frame + 1)
are_right-push right frame before here = λ k below. elim (cases_lt k frame) [
  | inl less ↦ before k less
  | inr least ↦ let same : frame ≡ k = omega arith in subst (λ (n : ℕ). right n ≡ true) same here
]

-- where all are right, none is the first wrong one
pub none_wrong : (right : ℕ → Bool) (frames frame : ℕ) → AreRight right frames → FirstWrong right frames frame → ⊥
none_wrong right frames frame all first = false≢true (sym first.wrong ∙ all frame first.within)
