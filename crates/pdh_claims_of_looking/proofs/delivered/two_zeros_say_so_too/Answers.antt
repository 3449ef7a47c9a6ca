use Rattle.std.proofs.Common.{◌≡◌, ℕ, ◌+◌, ◌≤◌, Bool, false, not, cond, List, [], ◌∷◌, get_or, drop, ap, ◌∙◌, arith}
use Rattle.std.specs.Prelude.{fold, sum_by}
use Rattle.std.proofs.lemmas.Bool.{lt-leb}
use Rattle.pdh_delivered.specs.CBits.{fixed_c_bits, says_c_bit_parity, one_more}
use Rattle.pdh_claims_of_looking.proofs.delivered.two_zeros_say_so_too.Goals as goal

from_on : (f : ℕ → ℕ) (n : ℕ) (slots : List ℕ) → n ≤ fold (λ a slot. a + f slot) n slots
from_on f n [] = omega arith
from_on f n (slot ∷ slots) = omega (arith, from_on f (n + f slot) slots)

says_no : (frame : List Bool) → get_or frame 170 false ≡ false → get_or frame 340 false ≡ false → says_c_bit_parity frame ≡ false
says_no frame c11 c12 =
    let as_zero : Bool → ℕ = λ bit. cond (not bit) 1 0 in
    let zero : ℕ → ℕ = λ slot. as_zero (get_or frame slot false) in
    let one : zero 170 ≡ 1 = ap as_zero c11 in
    let two : zero 340 ≡ 1 = ap as_zero c12 in
    let all : 0 + zero 170 + zero 340 ≤ sum_by zero fixed_c_bits = from_on zero (0 + zero 170 + zero 340) (drop 2 fixed_c_bits) in
    lt-leb (sum_by zero fixed_c_bits) 1 (omega (arith, one, two, all))

pub returns : goal.returns
returns c =
    let saying = c.args.counts.now.saying in
    ap (λ counts. counts.saying) c.visit.ensures ∙ ap (λ b. cond b (one_more saying) saying) (says_no c.args.frame.now.bits c.requires.c11 c.requires.c12)
