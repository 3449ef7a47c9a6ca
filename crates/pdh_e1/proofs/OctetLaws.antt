-- The first octets of the frames, computed for each frame, word and octet.
use Rattle.std.proofs.Common.{◌≡◌, ℕ, ◌-◌, ◌*◌, ◌/◌, ◌%◌, ◌^◌, ◌<◌, Bool, true, false, eqb, List, [], ◌∷◌, refl, sym, ap, ◌∙◌}
use Rattle.std.specs.Prelude.{slice_index, if◌then◌else◌}
use Rattle.std.specs.Bool.{beq}
use Rattle.std.specs.Int.RustNames.{bit_xor, bit_and, bit_or}
use Rattle.std.proofs.lemmas.Bool.{eqb-true, eq-eqb}
use Rattle.pdh_e1.specs.Multiframe.{octet_right, packed_octet}
use Rattle.pdh_framed.proofs.Below.{all_below, at_below}

abbrev pub first_octets : List ℕ
first_octets = 27 ∷ 95 ∷ 27 ∷ 95 ∷ 27 ∷ 223 ∷ 27 ∷ 95 ∷ 27 ∷ 223 ∷ 27 ∷ 223 ∷ 27 ∷ 223 ∷ 27 ∷ 223 ∷ []

abbrev pub fixed_bits : List ℕ
fixed_bits = 255 ∷ 192 ∷ 255 ∷ 192 ∷ 255 ∷ 192 ∷ 255 ∷ 192 ∷ 255 ∷ 192 ∷ 255 ∷ 192 ∷ 255 ∷ 64 ∷ 255 ∷ 64 ∷ []

-- the first octet by the table, where the frame's number is odd and where it is even
abbrev pub by_table : ℕ → ℕ → ℕ
by_table frame word =
    if eqb (frame % 2) 1 then slice_index first_octets frame
    else bit_or (slice_index first_octets frame) (128 * (word / 2 ^ (3 - frame % 8 / 2) % 2))

tables_computed : all_below (λ frame. all_below (λ word. eqb (by_table frame word) (packed_octet frame word)) 16) 16 ≡ true
unfolding packed_octet
tables_computed = refl

table_is : (frame word : ℕ) → frame < 16 → word < 16 → by_table frame word ≡ packed_octet frame word
table_is frame word place small =
    let test = λ (frame : ℕ). λ (word : ℕ). eqb (by_table frame word) (packed_octet frame word) in
    eqb-true _ _ (at_below (test frame) 16 word (at_below (λ frame. all_below (test frame) 16) 16 frame tables_computed place) small)

pub odd_octet : (frame word : ℕ) → frame < 16 → word < 16 → frame % 2 ≡ 1 → slice_index first_octets frame ≡ packed_octet frame word
odd_octet frame word place small odd =
    let pick = λ (b : Bool). if b then slice_index first_octets frame else bit_or (slice_index first_octets frame) (128 * (word / 2 ^ (3 - frame % 8 / 2) % 2)) in
    sym (ap pick (eq-eqb (frame % 2) 1 odd)) ∙ table_is frame word place small

pub even_octet : (frame word : ℕ) → frame < 16 → word < 16 → frame % 2 ≡ 0 → bit_or (slice_index first_octets frame) (128 * (word / 2 ^ (3 - frame % 8 / 2) % 2)) ≡ packed_octet frame word
even_octet frame word place small even =
    let pick = λ (b : Bool). if b then slice_index first_octets frame else bit_or (slice_index first_octets frame) (128 * (word / 2 ^ (3 - frame % 8 / 2) % 2)) in
    let unlike : eqb (frame % 2) 1 ≡ false = ap (λ (n : ℕ). eqb n 1) even in
    sym (ap pick unlike) ∙ table_is frame word place small

-- an octet that differs from the packed one in no fixed bit
abbrev pub by_mask : ℕ → ℕ → ℕ → Bool
by_mask frame word octet = eqb (bit_and (bit_xor octet (packed_octet frame word)) (slice_index fixed_bits frame)) 0

masks_computed : all_below (λ frame. all_below (λ word. all_below (λ octet. beq (by_mask frame word octet) (octet_right frame word octet)) 256) 16) 16 ≡ true
unfolding packed_octet octet_right
masks_computed = refl

same_from_beq : (a b : Bool) → beq a b ≡ true → a ≡ b
same_from_beq true true same = refl
same_from_beq true false same = sym same
same_from_beq false true same = same
same_from_beq false false same = refl

pub mask_is : (frame word octet : ℕ) → frame < 16 → word < 16 → octet < 256 → by_mask frame word octet ≡ octet_right frame word octet
mask_is frame word octet place small byte =
    let test = λ (frame : ℕ). λ (word : ℕ). λ (octet : ℕ). beq (by_mask frame word octet) (octet_right frame word octet) in
    let of_frame = at_below (λ frame. all_below (λ word. all_below (test frame word) 256) 16) 16 frame masks_computed place in
    let of_word = at_below (λ word. all_below (test frame word) 256) 16 word of_frame small in
    same_from_beq _ _ (at_below (test frame word) 256 octet of_word byte)

-- the packed octet is right
packed_computed : all_below (λ frame. all_below (λ word. octet_right frame word (packed_octet frame word)) 16) 16 ≡ true
unfolding packed_octet octet_right
packed_computed = refl

pub packed_right : (frame word : ℕ) → frame < 16 → word < 16 → octet_right frame word (packed_octet frame word) ≡ true
packed_right frame word place small =
    at_below (λ word. octet_right frame word (packed_octet frame word)) 16 word (at_below (λ frame. all_below (λ word. octet_right frame word (packed_octet frame word)) 16) 16 frame packed_computed place) small
