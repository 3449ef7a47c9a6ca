-- One frame more of an end's line.
use mathlib.Core.Path.{fun_ext}
use Rattle.std.proofs.Common.{◌≡◌, ℕ, suc, ◌+◌, ◌-◌, ◌*◌, ◌<◌, ◌≤◌, Bool, true, false, List, [], ◌∷◌, ◌++◌, length, map, drop, get_or, Option, Some, None, refl, ap, sym, ◌∙◌, subst, inl, inr, arith}
use Rattle.std.specs.Prelude.{IsTrue}
use Rattle.std.specs.List.{slice_index_or, range_with_len}
use Rattle.std.proofs.lemmas.Bool.{cases_lt}
use Rattle.std.proofs.lemmas.List.{length-append, drop-drop, drop-map, get_or-drop, get_or_append_left}
use Rattle.std.proofs.Math.Nat.{mul-le-mul_right}
use Rattle.std.proofs.Math.Seq.{drop-append_seam, get_or-append_seam}
use Rattle.pdh_edge.specs.Ports.{Inputs, before as before_those}
use Rattle.pdh_shape.specs.declared.role.Service.{Service}
use Rattle.pdh_shape.specs.Frame.{FrameShape, idle}
use Rattle.pdh_line.specs.Nodes.{Counts}
use Rattle.pdh_line.specs.Paths.{top}
use Rattle.pdh_line.specs.Sending.Mode.{Plain}
use Rattle.pdh_line.proofs.SentFrames.{length-front, drop-range}
use Rattle.pdh_nesting.specs.Chains.{width, top_len}
use Rattle.pdh_nesting.specs.Sending.{given_below, chain_line}
use Rattle.pdh_nesting.proofs.Given.{given-entered}
use Rattle.pdh_clock.specs.Contents.{Contents, counts as counts_in, frame_count}
use Rattle.pdh_tx.specs.Meaning.{Plan, Supply, Meaning, HoldsAll, plan_of}
use Rattle.pdh_tx.specs.Making.{Stood, IsClear, MakesAll}
use Rattle.pdh_tx.specs.Held.{IsPart}
use Rattle.pdh_chain.specs.Chains.{shapes_of}
use Rattle.pdh_chain.specs.Muxes.{bits_of}
use Rattle.pdh_chain.specs.Trees.{sender_of}
use Rattle.pdh_chain.specs.Calls.{HaveEnough}
use Rattle.pdh_chain.proofs.ChainLaws.{are_frames, few_shapes}
use Rattle.pdh_chain.proofs.Clear.{goes_clear}
use Rattle.pdh_chain.proofs.Muxed.{frames_held, leaves_held}
use Rattle.pdh_chain.proofs.Senders.{senders, line_is, given_is}
use Rattle.pdh_chain.proofs.SenderStops.{given_below-grows}
use Rattle.pdh_chain.proofs.Tolerated.{at_top}
use Rattle.pdh_chain.proofs.TreeLeaves.{leaf_in, leaf_known}
use Rattle.pdh_patterns.specs.Leaves.{made_counts, input_of, entered_of, IsClockOf}
use Rattle.pdh_patterns.specs.Pattern.{pattern_bit}
use Rattle.pdh_patterns.proofs.MadeClear.{made_clear}
use Rattle.pdh_duplex.specs.Session.{Setting, frame_of}
use Rattle.pdh_duplex.specs.Sending.{taken_of, AreLeft, IsSupply}

-- ---- lists

-- the rest of a list that gave these bits
rest_told : (rest : Option (List Bool)) (given bits : List Bool) → Some bits ≡ before_those given rest → (rest ≡ Some (drop (length given) bits)) × ((i : ℕ) → i < length given → slice_index_or given i false ≡ slice_index_or bits i false)
rest_told None given bits told = absurd (cc)
rest_told (Some rest) given bits told =
    let whole : bits ≡ given ++ rest = cc in
    (ap Some (sym (drop-append_seam given rest) ∙ ap (drop (length given)) (sym whole)), λ i h. sym (ap (λ (l : List Bool). get_or l i false) whole ∙ get_or_append_left given rest false i h))

-- what an earlier frame said stays said
pub said_before : (says : List Service) (say : Service) (n : ℕ) → n < length says → slice_index_or (says ++ say ∷ []) n idle ≡ slice_index_or says n idle
said_before says say n h = get_or_append_left says (say ∷ []) idle n h

said_last : (says : List Service) (say : Service) → slice_index_or (says ++ say ∷ []) (length says) idle ≡ say
said_last says say = get_or-append_seam says say [] idle

-- ---- the next frame

-- bits that were made, by other names of the same
pub makes_as : (m m' : Meaning) (now say : Service) (placed : ℕ → Type 0) (old new : Supply → ℕ → Type 0) (plan : Plan) (from to to' : ℕ) (bits bits' : List Bool) (inputs inputs_now : Inputs) → m ≡ m' → now ≡ say → to ≡ to' → bits ≡ bits'
    → MakesAll m now placed old new plan from to bits inputs inputs_now → MakesAll m' say placed old new plan from to' bits' inputs inputs_now
makes_as m m' now say placed old new plan from to to' bits bits' inputs inputs_now same says at is made =
    subst (λ m. MakesAll m say placed old new plan from to' bits' inputs inputs_now) same
    (subst (λ say. MakesAll m say placed old new plan from to' bits' inputs inputs_now) says
    (subst (λ to. MakesAll m now placed old new plan from to bits' inputs inputs_now) at
    (subst (λ bits. MakesAll m now placed old new plan from to bits inputs inputs_now) is made)))

module _ (z : Setting) (clock : Contents) (is : IsClockOf z.chain z.frames clock) where
  abbrev shapes : List FrameShape
  shapes = shapes_of z.chain

  abbrev len : ℕ
  len = top_len shapes

  abbrev m : Meaning
  m = sender_of shapes top 0

  abbrev plan : Plan
  plan = plan_of clock

  abbrev input : ℕ → List Bool
  input = input_of z.chain z.seed z.frames

  is_held : (k : ℕ) → m.leaves k ≡ true → k < width shapes
  is_held k held = leaf_in senders shapes top k held

  is_leaf : (k : ℕ) → k < width shapes → m.leaves k ≡ true
  is_leaf k known =
      let number : k ≡ 0 + k = omega arith in
      ap (λ i. m.leaves i) number ∙ leaf_known senders shapes top 0 k known

  taken_there : (n k : ℕ) → given_below shapes (counts_in clock.rows) [] (n * len) k ≡ taken_of z n k
  taken_there n k = ap (λ (c : Counts). given_below shapes c [] (n * len) k) is.counts_are

  taken_is : (n k : ℕ) → k < width shapes → m.given plan (n * len) k ≡ taken_of z n k
  taken_is n k known =
      let number : k ≡ 0 + k = omega arith in
      ap (m.given plan (n * len)) number ∙ given_is Plain (frame_count clock.rows) (counts_in clock.rows) shapes top [] 0 (n * len) k (at_top shapes (few_shapes z.chain)) known ∙ taken_there n k

  taken_grows : (a b k : ℕ) → a ≤ b → taken_of z a k ≤ taken_of z b k
  taken_grows a b k h = given_below-grows shapes (made_counts z.chain z.frames) [] (a * len) (b * len) k (are_frames z.chain) (mul-le-mul_right len h)

  -- the leaves have enough for it
  enough : (n : ℕ) (inputs : Inputs) → n < z.frames → AreLeft z n inputs → HaveEnough shapes (counts_in clock.rows) (n * len) (suc n * len) inputs
  enough n inputs fewer are k known =
      let all : taken_of z z.frames k ≤ entered_of z.chain z.frames k = given-entered shapes (made_counts z.chain z.frames) [] (z.frames * len) k (are_frames z.chain) in
      omega (arith, taken_there n k, taken_there (suc n) k, taken_grows (suc n) z.frames k fewer, all, are.left k known, length-front (pattern_bit z.seed k) (entered_of z.chain z.frames k))

  -- each leaf of its sender has a list
  pub lists_held : (n : ℕ) (inputs : Inputs) (m' : Meaning) → AreLeft z n inputs → m' ≡ m → HoldsAll m'.leaves inputs
  lists_held n inputs m' are same = leaves_held shapes m' inputs same are.holds

  -- nothing stands in its way
  pub goes_on : (n to : ℕ) (inputs : Inputs) (m' : Meaning) → n < z.frames → AreLeft z n inputs → m' ≡ m → suc n * len ≡ to → IsClear m' plan (n * len) to inputs
  goes_on n to inputs m' fewer are same at =
      let upto : suc n * len ≤ z.frames * len = mul-le-mul_right len fewer in
      subst (λ to. IsClear m' plan (n * len) to inputs) at
      (subst (λ (m : Meaning). IsClear m plan (n * len) (suc n * len) inputs) (sym same)
      (goes_clear shapes clock (z.frames * len) (made_clear z.chain z.frames clock is) (n * len) (suc n * len) upto inputs (enough n inputs fewer are)))

  module _ (n : ℕ) (says : List Service) (say : Service) (long : length says ≡ n) (placed : ℕ → Type 0) (old new : Supply → ℕ → Type 0) (bits : List Bool) (inputs inputs_now : Inputs)
      (made : MakesAll m say placed old new plan (n * len) (suc n * len) bits inputs inputs_now)
      (holds : (supply : Supply) → IsSupply z clock says supply → old supply (n * len)) (are : AreLeft z n inputs) where
    given_long : (k : ℕ) → k < width shapes → taken_of z n k + length (made.given k) ≡ taken_of z (suc n) k
    given_long k known = omega (arith, made.gives.exact k (is_leaf k known), taken_is n k known, taken_is (suc n) k known)

    -- what a leaf gave, and what is left of its list
    told : (k : ℕ) (known : k < width shapes) → (inputs_now.told k ≡ Some (drop (length (made.given k)) (drop (taken_of z n k) (input k)))) × ((i : ℕ) → i < length (made.given k) → slice_index_or (made.given k) i false ≡ slice_index_or (drop (taken_of z n k) (input k)) i false)
    told k known = rest_told (inputs_now.told k) (made.given k) (drop (taken_of z n k) (input k)) (sym (are.told k known) ∙ made.gives.takes.bits k)

    -- the leaves' lists
    pub leaves_after : inputs_now.holds ≡ inputs.holds → AreLeft z (suc n) inputs_now
    leaves_after same = record {
      holds = λ k known. subst (λ (h : ℕ → Bool). IsTrue (h k)) (sym same) (are.holds k known);
      told = λ k known. (told k known).0 ∙ ap Some (drop-drop (length (made.given k)) (taken_of z n k) (input k) ∙ ap (λ i. drop i (input k)) (given_long k known));
      left = λ k known. omega (arith, given_long k known, are.left k known, made.gives.takes.counts k);
    }

    -- a supply with one more frame's words is one that the sender stood for
    stood : (supply : Supply) → IsSupply z clock (says ++ say ∷ []) supply → Stood m say old plan (n * len) (suc n * len) made.given supply
    stood supply s = record {
      plan_is = s.plan_is;
      said = λ y from below k begins.
          let at : y ≡ k * len = frames_held shapes m len (are_frames z.chain) refl refl y k begins in
          let here : k ≡ n = elim (cases_lt k n) [
            | inl less ↦ absurd (omega (arith, at, from, below, mul-le-mul_right len (let h : suc k ≤ n = less in h)))
            | inr upto ↦ elim (cases_lt n k) [ inl more ↦ absurd (omega (arith, at, below, mul-le-mul_right len (let h : suc n ≤ k = more in h))) | inr same ↦ omega arith ]
          ] in
          ap supply.says here ∙ s.said n (omega (arith, long, length-append says (say ∷ []))) ∙ ap (λ k. slice_index_or (says ++ say ∷ []) k idle) (sym long) ∙ said_last says say;
      stands = holds supply (record {
        plan_is = s.plan_is;
        lists_are = s.lists_are;
        said = λ k h. s.said k (omega (arith, h, length-append says (say ∷ []))) ∙ said_before says say k h;
      });
      agrees = λ k held i h.
          let known : k < width shapes = is_held k held in
          let at : taken_of z n k + i ≡ m.given plan (n * len) k + i = omega (arith, taken_is n k known) in
          (told k known).1 i h ∙ get_or-drop (taken_of z n k) (input k) i false ∙ ap (λ j. slice_index_or (input k) j false) at ∙ sym (s.lists_are k (m.given plan (n * len) k + i) known);
    }

    pub stands_after : (supply : Supply) → IsSupply z clock (says ++ say ∷ []) supply → new supply (suc n * len)
    stands_after supply s = (made.onward supply (stood supply s)).1

    -- the supply of these words
    abbrev own : Supply
    own = record { plan = plan; lists = bits_of input; says = λ k. slice_index_or (says ++ say ∷ []) k idle }

    line_same : m.line own ≡ chain_line Plain shapes (made_counts z.chain z.frames) (bits_of input) (λ k. slice_index_or (says ++ say ∷ []) k idle) [] 0
    line_same =
        fun_ext
        (λ y.
        line_is Plain (frame_count clock.rows) (counts_in clock.rows) (bits_of input) shapes top [] 0 (λ k. slice_index_or (says ++ say ∷ []) k idle) y (are_frames z.chain) (at_top shapes (few_shapes z.chain))
        ∙ ap (λ (c : Counts). chain_line Plain shapes c (bits_of input) (λ k. slice_index_or (says ++ say ∷ []) k idle) [] 0 y) is.counts_are)

    -- the frame that was made
    pub frame_made : bits ≡ frame_of z (says ++ say ∷ []) n
    frame_made =
        let line : ℕ → Bool = chain_line Plain shapes (made_counts z.chain z.frames) (bits_of input) (λ k. slice_index_or (says ++ say ∷ []) k idle) [] 0 in
        let part : IsPart (m.line own) bits (n * len) = (made.onward own (stood own (record { plan_is = refl; lists_are = λ k i known. refl; said = λ k h. refl }))).0 in
        let more : n * len ≤ suc n * len = mul-le-mul_right len (omega arith) in
        let from : 0 + n * len ≡ n * len = omega arith in
        let count : suc n * len - n * len ≡ length bits = omega (arith, made.count) in
        part ∙ ap (λ line. map line (range_with_len (n * len) (length bits))) line_same
        ∙ sym (drop-map line (n * len) (range_with_len 0 (suc n * len)) ∙ ap (map line) (drop-range (n * len) 0 (suc n * len) more ∙ ap (λ a. range_with_len a (suc n * len - n * len)) from ∙ ap (range_with_len (n * len)) count))
