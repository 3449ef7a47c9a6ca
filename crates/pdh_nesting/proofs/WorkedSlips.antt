-- Worked slips of a node with E2 frames, and its line with them, computed by the checker.
use Rattle.std.specs.Prelude.{◌≡◌, ℕ, true, false, ◌&&◌, ◌==◌, nat_le, nat_lt, if◌then◌else◌, [], ◌∷◌, ◌++◌, map, replicate, refl}
use Rattle.std.specs.List.{range_with_len}
use Rattle.pdh_shape.specs.Frame.{idle}
use Rattle.pdh_eframes.specs.Sets.{set_role}
use Rattle.pdh_eframes.specs.Plans.{e2}
use Rattle.pdh_line.specs.Progress.{arrived}
use Rattle.pdh_line.specs.Sending.{start_of, slips_in, slip_fill, edits_in, Source, odd_before, line_bit}
use Rattle.pdh_line.specs.Sending.Mode.{Slipping}
use Rattle.pdh_line.specs.Events.{overflow_at, underflow_at}
use Rattle.pdh_line.specs.Events.Kind.{Overflow, Underflow}

-- 300 bits arrive in the frame
pub over_slip : slips_in e2 0 (λ n. 300) 0 848 ≡ record { over = true; slot = 426; reads = 102 } ∷ []
unfolding start_of arrived set_role
over_slip = refl

-- none arrives
pub under_slips : map (λ slip. slip.slot) (slips_in e2 0 (λ n. 0) 0 848) ≡ 204 ∷ 400 ∷ 596 ∷ 792 ∷ []
unfolding start_of arrived set_role
under_slips = refl

-- 206 arrive
pub no_slips : slips_in e2 0 (λ n. 206) 0 848 ≡ []
unfolding start_of arrived set_role
no_slips = refl

-- the store is full before its overflow, and then holds one more than half of what it may; it is empty before its underflow, and then
-- holds one less
pub over_fills : map (slip_fill e2 0 (λ n. 300) 0) (426 ∷ 427 ∷ []) ≡ 96 ∷ 49 ∷ []
unfolding start_of arrived set_role
over_fills = refl

pub under_fills : map (slip_fill e2 0 (λ n. 0) 0) (204 ∷ 205 ∷ []) ≡ 0 ∷ 47 ∷ []
unfolding start_of arrived set_role
under_fills = refl

-- the overflow takes out the bits behind the first 102
pub over_edit : edits_in e2 0 (λ n. 300) 0 848 ≡ record { over = true; place = 102 } ∷ []
unfolding start_of arrived set_role
over_edit = refl

-- as events: in the slot in which the slip stands, and in the one before
pub over_event : overflow_at Slipping e2 [] 0 (λ n. 300) 0 426 ≡ record { kind = Overflow; path = []; trib = 0; frame = 0; slot = 426 } ∷ []
unfolding start_of arrived set_role
over_event = refl

pub no_event : overflow_at Slipping e2 [] 0 (λ n. 300) 0 425 ≡ []
unfolding start_of arrived set_role
no_event = refl

pub under_event : underflow_at Slipping e2 [] 0 (λ n. 0) 0 204 ≡ record { kind = Underflow; path = []; trib = 0; frame = 0; slot = 204 } ∷ []
unfolding start_of arrived set_role
under_event = refl

-- ---- the line where 300 bits of the first tributary arrive: the 48 ones of it from bit 102 on are taken out

abbrev pub first_brings : ℕ → ℕ → ℕ → ℕ
first_brings count j n = (if j == 0 then count else 206)

unfoldable pub over_source : Source
over_source = record {
  mode = Slipping;
  counts = first_brings 300;
  inputs = λ j i. (j == 0) && (nat_le 102 i && nat_lt i 150);
  says = λ n. idle;
}

pub over_line-0 : map (line_bit e2 over_source) (range_with_len 0 200) ≡ replicate 4 true ++ replicate 1 false ++ replicate 1 true ++ replicate 5 false ++ replicate 1 true ++ replicate 188 false
unfolding over_source line_bit odd_before start_of arrived set_role
over_line-0 = refl

pub over_line-200 : map (line_bit e2 over_source) (range_with_len 200 130) ≡ replicate 130 false
unfolding over_source line_bit odd_before start_of arrived set_role
over_line-200 = refl

pub over_line-330 : map (line_bit e2 over_source) (range_with_len 330 100) ≡ replicate 100 false
unfolding over_source line_bit odd_before start_of arrived set_role
over_line-330 = refl

pub over_line-430 : map (line_bit e2 over_source) (range_with_len 430 100) ≡ replicate 100 false
unfolding over_source line_bit odd_before start_of arrived set_role
over_line-430 = refl

pub over_line-530 : map (line_bit e2 over_source) (range_with_len 530 80) ≡ replicate 80 false
unfolding over_source line_bit odd_before start_of arrived set_role
over_line-530 = refl

pub over_line-610 : map (line_bit e2 over_source) (range_with_len 610 80) ≡ replicate 80 false
unfolding over_source line_bit odd_before start_of arrived set_role
over_line-610 = refl

pub over_line-690 : map (line_bit e2 over_source) (range_with_len 690 80) ≡ replicate 80 false
unfolding over_source line_bit odd_before start_of arrived set_role
over_line-690 = refl

pub over_line-770 : map (line_bit e2 over_source) (range_with_len 770 78) ≡ replicate 78 false
unfolding over_source line_bit odd_before start_of arrived set_role
over_line-770 = refl

-- ---- where none of the first arrives, the ones of four slips follow its 48 bits

unfoldable pub under_source : Source
under_source = record { mode = Slipping; counts = first_brings 0; inputs = λ j i. false; says = λ n. idle }

pub under_line-0 : map (line_bit e2 under_source) (range_with_len 0 200) ≡ replicate 4 true ++ replicate 1 false ++ replicate 1 true ++ replicate 5 false ++ replicate 1 true ++ replicate 188 false
unfolding under_source line_bit odd_before start_of arrived set_role
under_line-0 = refl

pub under_line-200 : map (line_bit e2 under_source) (range_with_len 200 130) ≡ replicate 4 false ++ replicate 1 true ++ replicate 3 false ++ replicate 1 true ++ replicate 7 false ++ replicate 1 true ++ replicate 3 false ++ replicate 1 true ++ replicate 3 false ++ replicate 1 true ++ replicate 3 false ++ replicate 1 true ++ replicate 3 false ++ replicate 1 true ++ replicate 3 false ++ replicate 1 true ++ replicate 3 false ++ replicate 1 true ++ replicate 3 false ++ replicate 1 true ++ replicate 3 false ++ replicate 1 true ++ replicate 3 false ++ replicate 1 true ++ replicate 3 false ++ replicate 1 true ++ replicate 3 false ++ replicate 1 true ++ replicate 3 false ++ replicate 1 true ++ replicate 3 false ++ replicate 1 true ++ replicate 3 false ++ replicate 1 true ++ replicate 3 false ++ replicate 1 true ++ replicate 3 false ++ replicate 1 true ++ replicate 3 false ++ replicate 1 true ++ replicate 3 false ++ replicate 1 true ++ replicate 3 false ++ replicate 1 true ++ replicate 3 false ++ replicate 1 true ++ replicate 3 false ++ replicate 1 true ++ replicate 3 false ++ replicate 1 true ++ replicate 3 false ++ replicate 1 true ++ replicate 3 false ++ replicate 1 true ++ replicate 3 false ++ replicate 1 true ++ replicate 3 false ++ replicate 1 true ++ replicate 3 false ++ replicate 1 true ++ replicate 3 false ++ replicate 1 true ++ replicate 1 false
unfolding under_source line_bit odd_before start_of arrived set_role
under_line-200 = refl

pub under_line-330 : map (line_bit e2 under_source) (range_with_len 330 100) ≡ replicate 2 false ++ replicate 1 true ++ replicate 3 false ++ replicate 1 true ++ replicate 3 false ++ replicate 1 true ++ replicate 3 false ++ replicate 1 true ++ replicate 3 false ++ replicate 1 true ++ replicate 3 false ++ replicate 1 true ++ replicate 3 false ++ replicate 1 true ++ replicate 3 false ++ replicate 1 true ++ replicate 3 false ++ replicate 1 true ++ replicate 3 false ++ replicate 1 true ++ replicate 3 false ++ replicate 1 true ++ replicate 3 false ++ replicate 1 true ++ replicate 3 false ++ replicate 1 true ++ replicate 3 false ++ replicate 1 true ++ replicate 3 false ++ replicate 1 true ++ replicate 3 false ++ replicate 1 true ++ replicate 3 false ++ replicate 1 true ++ replicate 3 false ++ replicate 1 true ++ replicate 3 false ++ replicate 1 true ++ replicate 3 false ++ replicate 1 true ++ replicate 3 false ++ replicate 1 true ++ replicate 3 false ++ replicate 1 true ++ replicate 3 false ++ replicate 1 true ++ replicate 7 false ++ replicate 1 true ++ replicate 1 false
unfolding under_source line_bit odd_before start_of arrived set_role
under_line-330 = refl

pub under_line-430 : map (line_bit e2 under_source) (range_with_len 430 100) ≡ replicate 2 false ++ replicate 1 true ++ replicate 3 false ++ replicate 1 true ++ replicate 3 false ++ replicate 1 true ++ replicate 3 false ++ replicate 1 true ++ replicate 3 false ++ replicate 1 true ++ replicate 3 false ++ replicate 1 true ++ replicate 3 false ++ replicate 1 true ++ replicate 3 false ++ replicate 1 true ++ replicate 3 false ++ replicate 1 true ++ replicate 3 false ++ replicate 1 true ++ replicate 3 false ++ replicate 1 true ++ replicate 3 false ++ replicate 1 true ++ replicate 3 false ++ replicate 1 true ++ replicate 3 false ++ replicate 1 true ++ replicate 3 false ++ replicate 1 true ++ replicate 3 false ++ replicate 1 true ++ replicate 3 false ++ replicate 1 true ++ replicate 3 false ++ replicate 1 true ++ replicate 3 false ++ replicate 1 true ++ replicate 3 false ++ replicate 1 true ++ replicate 3 false ++ replicate 1 true ++ replicate 3 false ++ replicate 1 true ++ replicate 3 false ++ replicate 1 true ++ replicate 3 false ++ replicate 1 true ++ replicate 3 false ++ replicate 1 true ++ replicate 1 false
unfolding under_source line_bit odd_before start_of arrived set_role
under_line-430 = refl

pub under_line-530 : map (line_bit e2 under_source) (range_with_len 530 80) ≡ replicate 2 false ++ replicate 1 true ++ replicate 3 false ++ replicate 1 true ++ replicate 3 false ++ replicate 1 true ++ replicate 3 false ++ replicate 1 true ++ replicate 3 false ++ replicate 1 true ++ replicate 3 false ++ replicate 1 true ++ replicate 3 false ++ replicate 1 true ++ replicate 3 false ++ replicate 1 true ++ replicate 3 false ++ replicate 1 true ++ replicate 3 false ++ replicate 1 true ++ replicate 3 false ++ replicate 1 true ++ replicate 3 false ++ replicate 1 true ++ replicate 3 false ++ replicate 1 true ++ replicate 3 false ++ replicate 1 true ++ replicate 3 false ++ replicate 1 true ++ replicate 3 false ++ replicate 1 true ++ replicate 3 false ++ replicate 1 true ++ replicate 3 false ++ replicate 1 true ++ replicate 3 false ++ replicate 1 true ++ replicate 3 false ++ replicate 1 true ++ replicate 1 false
unfolding under_source line_bit odd_before start_of arrived set_role
under_line-530 = refl

pub under_line-610 : map (line_bit e2 under_source) (range_with_len 610 80) ≡ replicate 2 false ++ replicate 1 true ++ replicate 3 false ++ replicate 1 true ++ replicate 3 false ++ replicate 1 true ++ replicate 3 false ++ replicate 1 true ++ replicate 3 false ++ replicate 1 true ++ replicate 3 false ++ replicate 1 true ++ replicate 7 false ++ replicate 1 true ++ replicate 3 false ++ replicate 1 true ++ replicate 3 false ++ replicate 1 true ++ replicate 3 false ++ replicate 1 true ++ replicate 3 false ++ replicate 1 true ++ replicate 3 false ++ replicate 1 true ++ replicate 3 false ++ replicate 1 true ++ replicate 3 false ++ replicate 1 true ++ replicate 3 false ++ replicate 1 true ++ replicate 3 false ++ replicate 1 true ++ replicate 3 false ++ replicate 1 true ++ replicate 3 false ++ replicate 1 true ++ replicate 3 false ++ replicate 1 true ++ replicate 1 false
unfolding under_source line_bit odd_before start_of arrived set_role
under_line-610 = refl

pub under_line-690 : map (line_bit e2 under_source) (range_with_len 690 80) ≡ replicate 2 false ++ replicate 1 true ++ replicate 3 false ++ replicate 1 true ++ replicate 3 false ++ replicate 1 true ++ replicate 3 false ++ replicate 1 true ++ replicate 3 false ++ replicate 1 true ++ replicate 3 false ++ replicate 1 true ++ replicate 3 false ++ replicate 1 true ++ replicate 3 false ++ replicate 1 true ++ replicate 3 false ++ replicate 1 true ++ replicate 3 false ++ replicate 1 true ++ replicate 3 false ++ replicate 1 true ++ replicate 3 false ++ replicate 1 true ++ replicate 3 false ++ replicate 1 true ++ replicate 3 false ++ replicate 1 true ++ replicate 3 false ++ replicate 1 true ++ replicate 3 false ++ replicate 1 true ++ replicate 3 false ++ replicate 1 true ++ replicate 3 false ++ replicate 1 true ++ replicate 3 false ++ replicate 1 true ++ replicate 3 false ++ replicate 1 true ++ replicate 1 false
unfolding under_source line_bit odd_before start_of arrived set_role
under_line-690 = refl

pub under_line-770 : map (line_bit e2 under_source) (range_with_len 770 78) ≡ replicate 2 false ++ replicate 1 true ++ replicate 3 false ++ replicate 1 true ++ replicate 3 false ++ replicate 1 true ++ replicate 3 false ++ replicate 1 true ++ replicate 3 false ++ replicate 1 true ++ replicate 3 false ++ replicate 1 true ++ replicate 3 false ++ replicate 1 true ++ replicate 3 false ++ replicate 1 true ++ replicate 3 false ++ replicate 1 true ++ replicate 3 false ++ replicate 1 true ++ replicate 3 false ++ replicate 1 true ++ replicate 3 false ++ replicate 1 true ++ replicate 3 false ++ replicate 1 true ++ replicate 3 false ++ replicate 1 true ++ replicate 3 false ++ replicate 1 true ++ replicate 3 false ++ replicate 1 true ++ replicate 3 false ++ replicate 1 true ++ replicate 3 false ++ replicate 1 true ++ replicate 3 false ++ replicate 1 true ++ replicate 3 false
unfolding under_source line_bit odd_before start_of arrived set_role
under_line-770 = refl
