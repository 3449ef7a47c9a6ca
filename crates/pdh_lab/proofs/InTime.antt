-- In every drill the leaves come back in order, and in time.
use Rattle.std.proofs.Common.{◌≡◌, ℕ, zero, suc, ◌+◌, ◌*◌, ◌<◌, ◌≤◌, Bool, true, cond, max, List, [], ◌∷◌, ◌++◌, None, fold, map, take, drop, refl, ap, sym, ◌∙◌, arith, zero-add}
use Rattle.std.specs.Prelude.{sum_by, count_by}
use Rattle.std.specs.Cmp.{booleans_Decides}
use Rattle.std.specs.List.{range_with_len}
use Rattle.std.proofs.lemmas.List.{map-append, take-append-drop}
use Rattle.std.proofs.lemmas.List.Sums.{fold-append, sum_by_push}
use Rattle.std.proofs.lemmas.Slice.Eq.{starts_is}
use Rattle.pdh_shape.specs.OwnNumbers.{most_frames}
use Rattle.pdh_line.proofs.Ranges.{range_push, count-range_push}
use Rattle.pdh_line.proofs.SentFrames.{length-front}
use Rattle.pdh_nesting.specs.Chains.{top_len}
use Rattle.pdh_nesting.specs.Events.{NoneEmpty}
use Rattle.pdh_nesting.specs.Sending.{given_below}
use Rattle.pdh_nesting.specs.Receiving.{back_below}
use Rattle.pdh_nesting.proofs.Delay.{delayed}
use Rattle.pdh_nesting.proofs.Given.{back-given, given-entered, far-given}
use Rattle.pdh_nesting.proofs.NoEvents.{none_empty-within}
use Rattle.pdh_nesting.proofs.RoundTrip.{far-length}
use Rattle.pdh_chain.specs.Chains.{shapes_of, leaves_of, delay_of}
use Rattle.pdh_chain.specs.Saying.{says_of}
use Rattle.pdh_chain.specs.Muxes.{bits_of}
use Rattle.pdh_chain.specs.declared.chain.Chain.{Chain}
use Rattle.pdh_chain.proofs.ChainLaws.{are_frames, read_evenly}
use Rattle.pdh_patterns.specs.Pattern.{pattern_bit}
use Rattle.pdh_lab.specs.Drill.{line_of, output_of, out_of, is_equal, late_of, drill_of, IsInTime}
use Rattle.pdh_patterns.specs.Leaves.{made_counts, entered_of, input_of}
use Rattle.pdh_patterns.proofs.MadeWithin.{made_within}

-- ---- sums and counts over the first leaves

pub sum_next : (f : ℕ → ℕ) (n : ℕ) → sum_by f (range_with_len 0 (suc n)) ≡ sum_by f (range_with_len 0 n) + f n
sum_next f n = ap (sum_by f) (range_push 0 n) ∙ sum_by_push f (range_with_len 0 n) (0 + n) ∙ ap (λ k. sum_by f (range_with_len 0 n) + f k) (zero-add n)

pub most_next : (f : ℕ → ℕ) (n : ℕ) → fold max 0 (map f (range_with_len 0 (suc n))) ≡ max (fold max 0 (map f (range_with_len 0 n))) (f n)
most_next f n =
    ap (λ ks. fold max 0 (map f ks)) (range_push 0 n) ∙ ap (fold max 0) (map-append f (range_with_len 0 n) ((0 + n) ∷ []))
    ∙ fold-append max 0 (map f (range_with_len 0 n)) (f (0 + n) ∷ []) ∙ ap (λ k. max (fold max 0 (map f (range_with_len 0 n))) (f k)) (zero-add n)

-- numbers that are all at most a number have none greater
most_upto : (f : ℕ → ℕ) (n most : ℕ) → ((k : ℕ) → k < n → f k ≤ most) → fold max 0 (map f (range_with_len 0 n)) ≤ most
most_upto f zero most each = omega arith
most_upto f (suc n) most each = omega (arith, most_next f n, most_upto f n most (λ k h. each k (omega arith)), each n (omega arith))

-- a test that all pass counts them all
count_all : (p : ℕ → Bool) (n : ℕ) → ((k : ℕ) → k < n → p k ≡ true) → count_by p (range_with_len 0 n) ≡ n
count_all p zero each = refl
count_all p (suc n) each =
    count-range_push p n ∙ ap (λ b. count_by p (range_with_len 0 n) + cond b 1 0) (each n (omega arith)) ∙ ap (λ c. c + 1) (count_all p n (λ k h. each k (omega arith))) ∙ omega arith

-- ---- a leaf

module _ (chain : Chain) (seed frames leaf : ℕ) (low : leaf < leaves_of chain) where
  abbrev bits : ℕ
  bits = frames * top_len (shapes_of chain)

  abbrev back : ℕ
  back = back_below (shapes_of chain) (made_counts chain frames) [] bits leaf

  full : NoneEmpty (shapes_of chain) (made_counts chain frames) [] bits
  full = none_empty-within (shapes_of chain) (made_counts chain frames) [] bits (are_frames chain) (read_evenly chain) (made_within chain frames)

  gives_fewer : given_below (shapes_of chain) (made_counts chain frames) [] bits leaf ≤ entered_of chain frames leaf
  gives_fewer = given-entered (shapes_of chain) (made_counts chain frames) [] bits leaf (are_frames chain)

  -- what it receives is a front of its pattern
  receives : output_of chain seed frames leaf ≡ take back (input_of chain seed frames leaf)
  unfolding output_of line_of
  receives =
      far-given (shapes_of chain) (made_counts chain frames) (input_of chain seed frames) (says_of None) bits leaf (are_frames chain) full low
      (omega (arith, gives_fewer, length-front (pattern_bit seed leaf) (entered_of chain frames leaf)))

  out_is : out_of chain seed frames leaf ≡ back
  unfolding output_of line_of
  out_is = far-length (shapes_of chain) (made_counts chain frames) (bits_of (input_of chain seed frames)) (says_of None) [] 0 bits leaf (are_frames chain) low

  -- no more than entered
  pub out_fewer : out_of chain seed frames leaf ≤ entered_of chain frames leaf
  out_fewer = omega (arith, out_is, back-given (shapes_of chain) (made_counts chain frames) [] bits leaf (are_frames chain) full low, gives_fewer)

  -- in order
  comes_back : is_equal chain seed frames leaf ≡ true
  comes_back =
      let input : List Bool = input_of chain seed frames leaf in
      let output : List Bool = output_of chain seed frames leaf in
      let whole : input ≡ output ++ drop back input = sym (ap (λ front. front ++ drop back input) receives ∙ take-append-drop back input) in
      (starts_is booleans_Decides input output (is_equal chain seed frames leaf) refl).1 (drop back input) whole

  -- and in time
  late_fewer : late_of chain seed frames leaf ≤ delay_of chain
  late_fewer = omega (arith, out_is, delayed (shapes_of chain) (made_counts chain frames) frames leaf (are_frames chain) (made_within chain frames) low)

-- ---- all leaves

pub in_time : (chain : Chain) (seed frames : ℕ) → frames ≤ most_frames → IsInTime chain (drill_of chain seed frames)
unfolding drill_of
in_time chain seed frames few = record {
  equal = count_all (is_equal chain seed frames) (leaves_of chain) (λ leaf low. comes_back chain seed frames leaf low);
  late = most_upto (late_of chain seed frames) (leaves_of chain) (delay_of chain) (λ leaf low. late_fewer chain seed frames leaf low);
}
