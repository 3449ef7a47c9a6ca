-- Worked rows, computed by the checker.
use Rattle.std.specs.Prelude.{◌≡◌, ℕ, ◌==◌, Bool, true, false, List, [], ◌∷◌, map, replicate, refl}
use Rattle.std.specs.List.{range_with_len}
use Rattle.pdh_shape.specs.declared.role.Mark.TheVariants.{Framing, Other}
use Rattle.pdh_shape.specs.declared.role.Marks.{Marks}
use Rattle.pdh_shape.specs.Frame.{clean}
use Rattle.pdh_ds.specs.Loss.{window_wrong}
use Rattle.pdh_ds1.specs.Superframe.{superframe_role, superframe_mark, f_bit_at}
use Rattle.pdh_ds1.specs.Plans.{ds1_sf, ds1_esf, esf_f_bits}
use Rattle.pdh_ds1.specs.Crc6.{power}
use Rattle.pdh_ds1.specs.Packing.{packed_bit, word_of}

-- the remainders repeat after 63
pub power_63 : power 63 ≡ 1
power_63 = refl

-- the first and the last framing slots of both
pub sf_marks : map ds1_sf.mark (0 ∷ 193 ∷ 386 ∷ 2123 ∷ 1 ∷ []) ≡ Framing 0 ∷ Framing 1 ∷ Framing 2 ∷ Framing 11 ∷ Other ∷ []
unfolding superframe_role superframe_mark
sf_marks = refl

pub esf_marks : map ds1_esf.mark (579 ∷ 1351 ∷ 4439 ∷ 0 ∷ 193 ∷ []) ≡ Framing 0 ∷ Framing 1 ∷ Framing 5 ∷ Other ∷ Other ∷ []
unfolding superframe_role superframe_mark
esf_marks = refl

-- the word of an extended superframe of zeros, whose F bits count as ones
pub zeros_word : word_of 24 (replicate 4632 false) ≡ 2
unfolding word_of
zeros_word = refl

-- the F bits of a superframe that sends this word
abbrev pub f_bits_with : ℕ → List Bool
f_bits_with word = map (λ k. packed_bit word k (f_bit_at esf_f_bits k)) (range_with_len 0 24)

abbrev pub bits : List ℕ → List Bool
bits ns = map (λ n. n == 1) ns

-- 1010 1010 1011 1010 1011 1011 in superframe 0, and 1010 1010 1011 1010 1111 1011 behind a superframe of zeros
pub first_f_bits : f_bits_with 0 ≡ bits (1 ∷ 0 ∷ 1 ∷ 0 ∷ 1 ∷ 0 ∷ 1 ∷ 0 ∷ 1 ∷ 0 ∷ 1 ∷ 1 ∷ 1 ∷ 0 ∷ 1 ∷ 0 ∷ 1 ∷ 0 ∷ 1 ∷ 1 ∷ 1 ∷ 0 ∷ 1 ∷ 1 ∷ [])
first_f_bits = refl

pub later_f_bits : f_bits_with 2 ≡ bits (1 ∷ 0 ∷ 1 ∷ 0 ∷ 1 ∷ 0 ∷ 1 ∷ 0 ∷ 1 ∷ 0 ∷ 1 ∷ 1 ∷ 1 ∷ 0 ∷ 1 ∷ 0 ∷ 1 ∷ 1 ∷ 1 ∷ 1 ∷ 1 ∷ 0 ∷ 1 ∷ 1 ∷ [])
later_f_bits = refl

-- a frame of zeros with this F bit
abbrev pub zero_frame : Bool → List Bool
zero_frame b = b ∷ replicate 192 false

-- ---- loss: two of four framing bits in a row, over this superframe and the one before

abbrev pub framing_wrong : ℕ → Marks
framing_wrong slots = record { framing = slots; multi = false }

pub sf_window : map (λ slots. ds1_sf.loses clean clean clean (framing_wrong slots)) (9 ∷ 17 ∷ []) ≡ true ∷ false ∷ []
unfolding window_wrong
sf_window = refl

-- slots 9 and 10 of the superframe before, with slot 0 of this one behind, and slots 8 and 10
pub sf_window_before : map (λ slots. ds1_sf.loses clean clean (framing_wrong slots) clean) (1536 ∷ 1280 ∷ []) ≡ true ∷ false ∷ []
unfolding window_wrong
sf_window_before = refl

-- a wrong framing bit in each of two superframes: the last of one and the first three of the next
pub esf_window_two : map (λ slots. ds1_esf.loses clean clean (framing_wrong 32) (framing_wrong slots)) (1 ∷ 2 ∷ 4 ∷ 8 ∷ []) ≡ true ∷ true ∷ true ∷ false ∷ []
unfolding window_wrong
esf_window_two = refl
