-- Whether a line may be a chain or a stream, test by test.
use Rattle.std.proofs.Common.{◌≡◌, ℕ, Bool, true, false, ◌&&◌, List, length, ap, sym, ◌∙◌}
use Rattle.pdh_judging.specs.declared.judged.Judged.{Judged}
use Rattle.pdh_judging.specs.Judged.{stands_at_top}
use Rattle.pdh_candidates.specs.declared.word.Word.{Word}
use Rattle.pdh_looking.specs.declared.top.Top.{Top}
use Rattle.pdh_looking.specs.Words.{top_of, len_of}
use Rattle.pdh_looking.specs.Judging.{judged_as, has_its_c_bits}
use Rattle.pdh_looking.specs.Levels.{its_top_stands, all_stand, levels_in, fits}

-- what is judged of it as its top tells whether that stands
pub top_told : (word : Word) (line : List Bool) (top : Top) (len bits : ℕ) (judged : Judged) (stands : Bool) → top ≡ top_of word → len ≡ len_of top → bits ≡ length line
    → judged ≡ judged_as top line → stands ≡ stands_at_top len bits judged → its_top_stands word line ≡ stands
top_told word line top len bits judged stands top_is len_is bits_are judged_is is =
    let lens : len ≡ len_of (top_of word) = len_is ∙ ap len_of top_is in
    let of_top : judged ≡ judged_as (top_of word) line = judged_is ∙ ap (λ (t : Top). judged_as t line) top_is in
    sym (is ∙ (λ i. stands_at_top (lens i) (bits_are i) (of_top i)))

-- its top falls
pub fits_not_by_top : (word : Word) (line : List Bool) → its_top_stands word line ≡ false → fits word line ≡ false
unfolding fits
fits_not_by_top word line falls = ap (λ (b : Bool). b && (has_its_c_bits word line && all_stand (levels_in word line))) falls

-- its top stands, but its C bits are others
pub fits_not_by_c_bits : (word : Word) (line : List Bool) → its_top_stands word line ≡ true → has_its_c_bits word line ≡ false → fits word line ≡ false
unfolding fits
fits_not_by_c_bits word line stands others =
    ap (λ (b : Bool). b && (has_its_c_bits word line && all_stand (levels_in word line))) stands
    ∙ ap (λ (b : Bool). b && all_stand (levels_in word line)) others

-- both are right, so its lower levels tell
pub fits_by_levels : (word : Word) (line : List Bool) → its_top_stands word line ≡ true → has_its_c_bits word line ≡ true → fits word line ≡ all_stand (levels_in word line)
unfolding fits
fits_by_levels word line stands right =
    ap (λ (b : Bool). b && (has_its_c_bits word line && all_stand (levels_in word line))) stands
    ∙ ap (λ (b : Bool). b && all_stand (levels_in word line)) right
