-- A frame in which nothing is wrong is right.
use Rattle.std.proofs.Common.{◌≡◌, ℕ, zero, suc, ◌+◌, ◌^◌, ◌<◌, ◌≤◌, Bool, true, false, not, ◌&&◌, List, refl, ap, sym, ◌∙◌, inl, inr, arith}
use Rattle.std.specs.Prelude.{sum_by}
use Rattle.std.specs.List.{range_with_len, list_all, list_any}
use Rattle.std.proofs.lemmas.Bool.{false≢true, or_parts, cases_Bool}
use Rattle.std.proofs.lemmas.List.Sums.{sum_by-cons}
use Rattle.std.proofs.lemmas.Nat.{pow_pos}
use Rattle.pdh_shape.specs.declared.role.Role.{Role}
use Rattle.pdh_shape.specs.declared.role.Role.TheVariants.{Align, Service, Control, Just, Info}
use Rattle.pdh_shape.specs.declared.role.Mark.{Mark}
use Rattle.pdh_shape.specs.declared.role.Mark.TheVariants.{Framing, Multi, Other}
use Rattle.pdh_shape.specs.declared.role.Marks.{Marks}
use Rattle.pdh_shape.specs.Frame.{FrameShape, HasMarks, breaks, breaks_at, framing_mark, is_align, is_marked, is_multi, is_right, wrong, clean}

-- only an alignment slot breaks the signal
align_of : (role : Role) (bit : Bool) → breaks role bit ≡ true → is_align role ≡ true
align_of (Align signal) bit broken = refl
align_of (Service number) bit broken = absurd (false≢true broken)
align_of (Control trib copy) bit broken = absurd (false≢true broken)
align_of (Just trib) bit broken = absurd (false≢true broken)
align_of (Info trib) bit broken = absurd (false≢true broken)

-- a marked slot that is wrong adds to the marks
no_mark : (mark : Mark) → is_marked mark ≡ true → framing_mark mark true ≡ 0 → (is_multi mark && true) ≡ false → ⊥
no_mark (Framing number) marked framing multi = let some : 0 < 2 ^ number = pow_pos number in omega (arith, some, framing)
no_mark Multi marked framing multi = false≢true (sym multi)
no_mark Other marked framing multi = false≢true marked

module _ (s : FrameShape) (marks : HasMarks s) (frame : List Bool) where
  -- a slot that adds no mark is right
  slot_right : (slot : ℕ) → slot < s.len → framing_mark (s.mark slot) (breaks_at s frame slot) ≡ 0 → (is_multi (s.mark slot) && breaks_at s frame slot) ≡ false
      → not (breaks_at s frame slot) ≡ true
  slot_right slot within framing multi = elim (cases_Bool (breaks_at s frame slot)) [
    | inl broken ↦ absurd (no_mark (s.mark slot) (marks.marked slot within ∙ align_of (s.role slot) _ broken)
        (ap (framing_mark (s.mark slot)) (sym broken) ∙ framing) (ap (λ b. is_multi (s.mark slot) && b) (sym broken) ∙ multi))
    | inr right ↦ ap not right
  ]

  -- slots that add no mark are right
  slots_right : (from count : ℕ) → from + count ≤ s.len
      → sum_by (λ slot. framing_mark (s.mark slot) (breaks_at s frame slot)) (range_with_len from count) ≡ 0
      → list_any (λ slot. is_multi (s.mark slot) && breaks_at s frame slot) (range_with_len from count) ≡ false
      → list_all (λ slot. not (breaks_at s frame slot)) (range_with_len from count) ≡ true
  slots_right from zero within framing multi = refl
  slots_right from (suc count) within framing multi =
      let sum : sum_by (λ slot. framing_mark (s.mark slot) (breaks_at s frame slot)) (range_with_len from (suc count))
      ≡ framing_mark (s.mark from) (breaks_at s frame from) + sum_by (λ slot. framing_mark (s.mark slot) (breaks_at s frame slot)) (range_with_len (from + 1) count) =
      sum_by-cons (λ slot. framing_mark (s.mark slot) (breaks_at s frame slot)) from (range_with_len (from + 1) count) in
      let none : framing_mark (s.mark from) (breaks_at s frame from) ≡ 0 = omega (arith, sum, framing) in
      let later : sum_by (λ slot. framing_mark (s.mark slot) (breaks_at s frame slot)) (range_with_len (from + 1) count) ≡ 0 = omega (arith, sum, framing) in
      let parts = or_parts (is_multi (s.mark from) && breaks_at s frame from) (list_any (λ slot. is_multi (s.mark slot) && breaks_at s frame slot) (range_with_len (from + 1) count)) multi in
      ap (λ b. b && list_all (λ slot. not (breaks_at s frame slot)) (range_with_len (from + 1) count)) (slot_right from (omega (arith, within)) none parts.0)
      ∙ slots_right (from + 1) count (omega (arith, within)) later parts.1

  pub right_of_clean : wrong s frame ≡ clean → is_right s frame ≡ true
  unfolding wrong is_right
  right_of_clean is = slots_right 0 s.len (omega arith) (ap (λ (m : Marks). m.framing) is) (ap (λ (m : Marks). m.multi) is)
