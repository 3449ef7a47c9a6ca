-- The report, leaf by leaf.
use Rattle.std.proofs.Common.{◌≡◌, ℕ, zero, suc, ◌+◌, ◌*◌, ◌<◌, ◌≤◌, ◌^◌, Bool, true, false, Option, Some, List, ◌++◌, length, take, drop, refl, ap, sym, ◌∙◌, arith, add-one, inl, inr}
use Rattle.std.specs.Prelude.{sum_by, count_by}
use Rattle.std.specs.Bool.{beq}
use Rattle.std.specs.Cmp.{booleans_Decides}
use Rattle.std.specs.List.{range_with_len, starts_with}
use Rattle.std.proofs.lemmas.Bool.{cases_Bool}
use Rattle.std.proofs.Math.Seq.{take-add, take-length}
use Rattle.std.proofs.lemmas.List.{length-append, take-append-drop, take-append-le, append_cancel_left}
use Rattle.std.proofs.lemmas.List.Sums.{count_by-le-length}
use Rattle.std.proofs.lemmas.Slice.Eq.{starts_is}
use Rattle.pdh_shape.specs.OwnNumbers.{most_frames}
use Rattle.pdh_line.specs.Sending.{front}
use Rattle.pdh_packed.specs.Words.{low_bits}
use Rattle.pdh_line.proofs.Ranges.{length-range, count-range_push}
use Rattle.pdh_line.proofs.SentFrames.{length-front, take-front}
use Rattle.pdh_clock.specs.Contents.{Contents}
use Rattle.pdh_chain.specs.Chains.{shapes_of, leaves_of}
use Rattle.pdh_chain.specs.declared.chain.Chain.{Chain}
use Rattle.pdh_nesting.specs.Receiving.{far}
use Rattle.pdh_chain.proofs.ChainLaws.{few_leaves}
use Rattle.pdh_lab.specs.declared.report.Drill.{Drill}
use Rattle.pdh_lab.specs.Drill.{out_of, is_equal, late_of, drill_upto, line_of, output_of}
use Rattle.pdh_patterns.specs.Leaves.{entered_of, IsClockOf}
use Rattle.pdh_lab.specs.Steps.{with_leaf, HasRoom}
use Rattle.pdh_lab.proofs.InTime.{sum_next, most_next, out_fewer}
use Rattle.pdh_patterns.proofs.Entered.{entered_few}

-- ---- a prefix of a pattern

-- bits that are longer than a front of a line are no prefix of it
pub too_long : (line : ℕ → Bool) (bits : List Bool) (n : ℕ) → n < length bits → starts_with beq (front line n) bits ≡ false
too_long line bits n long = elim (cases_Bool (starts_with beq (front line n) bits)) [
  | inl is ↦
      let rest : List Bool = drop (length bits) (front line n) in
      let whole : front line n ≡ bits ++ rest = (starts_is booleans_Decides (front line n) bits (starts_with beq (front line n) bits) refl).0 is in
      absurd (omega (arith, ap length whole, length-append bits rest, length-front line n))
  | inr isnt ↦ isnt
]

-- bits from a place on are those of a line, where the bits before are
pub part_agrees : (line : ℕ → Bool) (bits part : List Bool) (place count : ℕ) → take place bits ≡ front line place → take count (drop place bits) ≡ part → front line place ++ part ≡ front line (place + count) → take (place + count) bits ≡ front line (place + count)
part_agrees line bits part place count before same next =
    take-add place count bits ∙ ap (λ (xs : List Bool). xs ++ take count (drop place bits)) before ∙ ap (λ (xs : List Bool). front line place ++ xs) same ∙ next

-- where they aren't, the bits are no prefix of the line's front
pub part_differs : (line : ℕ → Bool) (bits part : List Bool) (n place count : ℕ) → length bits ≤ n → place + count ≤ length bits → take place bits ≡ front line place → front line place ++ part ≡ front line (place + count)
    → (take count (drop place bits) ≡ part → ⊥) → starts_with beq (front line n) bits ≡ false
part_differs line bits part n place count short inside before next differs = elim (cases_Bool (starts_with beq (front line n) bits)) [
  | inl is ↦
      let rest : List Bool = drop (length bits) (front line n) in
      let whole : front line n ≡ bits ++ rest = (starts_is booleans_Decides (front line n) bits (starts_with beq (front line n) bits) refl).0 is in
      let begins : take (place + count) bits ≡ front line (place + count) =
      sym (ap (take (place + count)) whole ∙ take-append-le (place + count) bits rest inside) ∙ take-front line (place + count) n (omega arith) in
      let both : front line place ++ take count (drop place bits) ≡ front line place ++ part =
      sym (take-add place count bits ∙ ap (λ (xs : List Bool). xs ++ take count (drop place bits)) before) ∙ begins ∙ sym next in
      absurd (differs (append_cancel_left (front line place) (take count (drop place bits)) part both))
  | inr isnt ↦ isnt
]

-- bits that all agree are one
pub all_agree : (line : ℕ → Bool) (bits : List Bool) (n place : ℕ) → length bits ≤ n → length bits ≤ place → place ≤ length bits → take place bits ≡ front line place → starts_with beq (front line n) bits ≡ true
all_agree line bits n place short past within agree =
    let all : place ≡ length bits = omega arith in
    let own : bits ≡ front line (length bits) = sym (take-length bits) ∙ ap (λ k. take k bits) (sym all) ∙ agree ∙ ap (front line) all in
    let begins : take (length bits) (front line n) ≡ bits = take-front line (length bits) n short ∙ sym own in
    let rest : List Bool = drop (length bits) (front line n) in
    (starts_is booleans_Decides (front line n) bits (starts_with beq (front line n) bits) refl).1 rest (sym (ap (λ b. b ++ rest) (sym begins) ∙ take-append-drop (length bits) (front line n)))

-- as many bits that write the same number are the same
pub written_alike : (a b : List Bool) (m n count : ℕ) → length a ≡ count → length b ≡ count → low_bits (length a) m ≡ a → low_bits (length b) n ≡ b → m ≡ n → a ≡ b
written_alike a b m n count long_a long_b is_a is_b same =
    sym is_a ∙ ap (λ k. low_bits k m) (long_a ∙ sym long_b) ∙ ap (low_bits (length b)) same ∙ is_b

-- ---- one leaf more

pub drill_next : (chain : Chain) (seed frames n : ℕ)
    → drill_upto chain seed frames (suc n) ≡ with_leaf (drill_upto chain seed frames n) (entered_of chain frames n) (out_of chain seed frames n) (is_equal chain seed frames n)
drill_next chain seed frames n =
    rw (sum_next (entered_of chain frames) n, sum_next (out_of chain seed frames) n, count-range_push (is_equal chain seed frames) n, most_next (late_of chain seed frames) n, add-one n) refl

pub leaf_more : (chain : Chain) (seed frames n entered out : ℕ) (equal : Bool) (drill more : Drill) → drill ≡ drill_upto chain seed frames n → entered ≡ entered_of chain frames n → out ≡ out_of chain seed frames n
    → equal ≡ is_equal chain seed frames n → more ≡ with_leaf drill entered out equal → more ≡ drill_upto chain seed frames (n + 1)
leaf_more chain seed frames n entered out equal drill more was entered_is out_is equal_is is =
    is ∙ ap (λ d. with_leaf d entered out equal) was ∙ ap (λ e. with_leaf (drill_upto chain seed frames n) e out equal) entered_is
    ∙ ap (λ o. with_leaf (drill_upto chain seed frames n) (entered_of chain frames n) o equal) out_is ∙ ap (with_leaf (drill_upto chain seed frames n) (entered_of chain frames n) (out_of chain seed frames n)) equal_is
    ∙ sym (drill_next chain seed frames n) ∙ ap (drill_upto chain seed frames) (sym (add-one n))

-- what a leaf's list has is what the leaf receives
pub came_out : (chain : Chain) (seed frames leaf : ℕ) (told : Option (List Bool)) (bits : List Bool) → told ≡ Some bits → told ≡ Some (far (shapes_of chain) (line_of chain seed frames) leaf) → bits ≡ output_of chain seed frames leaf
unfolding output_of
came_out chain seed frames leaf told bits here there = cc

-- numbers that are small have a small sum
sum_small : (f : ℕ → ℕ) (n most : ℕ) → ((k : ℕ) → k < n → f k < most) → sum_by f (range_with_len 0 n) ≤ n * most
sum_small f zero most each = omega arith
sum_small f (suc n) most each = omega (arith, sum_next f n, sum_small f n most (λ k h. each k (omega arith)), each n (omega arith))

pub has_room : (chain : Chain) (seed frames n : ℕ) (clock : Contents) → IsClockOf chain frames clock → frames ≤ most_frames → n < leaves_of chain → HasRoom (drill_upto chain seed frames n)
has_room chain seed frames n clock is few low =
    let small : (k : ℕ) → k < n → entered_of chain frames k < 2 ^ 32 = λ k h. entered_few chain frames clock is k few (omega arith) in
    let count : count_by (is_equal chain seed frames) (range_with_len 0 n) ≤ n = omega (arith, count_by-le-length (is_equal chain seed frames) (range_with_len 0 n), length-range 0 n) in
    record {
      leaves = omega (arith, few_leaves chain);
      equal = count;
      entered = omega (arith, few_leaves chain, sum_small (entered_of chain frames) n (2 ^ 32) small);
      out = omega (arith, few_leaves chain, sum_small (out_of chain seed frames) n (2 ^ 32) (λ k h. omega (arith, small k h, out_fewer chain seed frames k (omega arith))));
    }
