-- The made schedule of a chain is within the tolerance, whatever its number of frames.
use mathlib.Core.Path.{fun_ext}
use Rattle.std.proofs.Common.{◌≡◌, ℕ, zero, suc, ◌+◌, ◌-◌, ◌*◌, ◌/◌, ◌%◌, ◌<◌, ◌==◌, ◌&&◌, nat_le, true, false, cond, List, [], ◌∷◌, ◌++◌, length, drop, All, refl, ap, sym, ◌∙◌, subst, inl, inr, arith, append-nil, append_assoc}
use Rattle.std.proofs.lemmas.Bool.{cases_Bool, eqb-true, eqb-false, le-leb, false≢true}
use Rattle.std.proofs.lemmas.Nat.{mod-mul-add}
use Rattle.std.proofs.lemmas.List.Elements.{All-head, All-tail}
use Rattle.pdh_shape.specs.declared.place.Level.{Level}
use Rattle.pdh_shape.specs.Frame.{FrameShape}
use Rattle.pdh_shape.specs.Tributary.{reads_below}
use Rattle.pdh_shape.specs.OwnNumbers.{lead}
use Rattle.pdh_line.specs.Progress.{arrived, arrived_by, came_by, begun_by, by_stores}
use Rattle.pdh_line.specs.Progress.Stores.{Elastic, Locked}
use Rattle.pdh_line.specs.Nodes.{child, Counts}
use Rattle.pdh_line.specs.Sending.{HasStores, shape_numbers, begun, given}
use Rattle.pdh_line.specs.Tolerance.{IsWithin}
use Rattle.pdh_line.proofs.SendingLaws.{arrived-suc, given-stores, given-locked}
use Rattle.pdh_levels.specs.Levels.{IsElastic, level_stores}
use Rattle.pdh_levels.proofs.LevelLaws.{level_stores_is}
use Rattle.pdh_nesting.specs.Chains.{top_len, AreFrames}
use Rattle.pdh_nesting.specs.Sending.{AllWithin}
use Rattle.pdh_tx.specs.Meaning.{HasNumbers, is_locked}
use Rattle.pdh_clock.specs.Begun.{taken}
use Rattle.pdh_clock.specs.declared.bias.Bias.TheVariants.{Mixed}
use Rattle.pdh_clock.specs.declared.bias.Offset.{Offset}
use Rattle.pdh_clock.specs.Made.{IsRated, offset_of, tributary_offset, made_count, made_frames, made_from, made}
use Rattle.pdh_clock.proofs.MadeRows.{length-made_frames, counts-made}
use Rattle.pdh_clock.proofs.MadeRuns.{frame_counts, made-within}
use Rattle.pdh_clock.proofs.Begins.{whole_frames-begun, frame_begun}
use Rattle.pdh_chain.specs.Chains.{shapes_of, levels_of}
use Rattle.pdh_chain.specs.declared.chain.Chain.{Chain}
use Rattle.pdh_chain.proofs.ChainLaws.{are_frames, are_levels, are_levels_of, all_rated}
use Rattle.pdh_chain.proofs.LevelNumbers.{EachLevelOf, each_level, elastic_level}
use Rattle.pdh_patterns.specs.Leaves.{made_counts}

-- ---- what is taken

-- sums of the same counts are the same
arrived_same : (f g : ℕ → ℕ) (n : ℕ) → ((k : ℕ) → k < n → f k ≡ g k) → arrived f n ≡ arrived g n
unfolding arrived
arrived_same f g zero same = refl
arrived_same f g (suc n) same = omega (arith, arrived-suc f n, arrived-suc g n, arrived_same f g n (λ k l. same k (omega arith)), same n (omega arith))

-- what came into a store is decided by the counts of the frames that are begun
came_same : (len : ℕ) (f g : ℕ → ℕ) (x : ℕ) → ((k : ℕ) → k < begun_by len x → f k ≡ g k) → came_by len f (x / len) (x % len) ≡ came_by len g (x / len) (x % len)
came_same len f g x same =
    let n : ℕ = x / len in
    let before : arrived f n ≡ arrived g n = arrived_same f g n (λ k l. same k (let whole = whole_frames-begun len x in omega arith)) in
    let part : arrived_by len (f n) (x % len) ≡ arrived_by len (g n) (x % len) = elim (cases_Bool (x % len == 0)) [
      | inl is ↦
          let none : x % len ≡ 0 = eqb-true (x % len) 0 is in
          let left : 0 * f n ≡ 0 = omega arith in
          let right : 0 * g n ≡ 0 = omega arith in
          ap (λ r. r * f n / len) none ∙ ap (λ p. p / len) (left ∙ sym right) ∙ ap (λ r. r * g n / len) (sym none)
      | inr isnt ↦ ap (λ c. x % len * c / len) (same n (frame_begun len x (eqb-false (x % len) 0 isnt)))
    ] in
    ap (λ a. lead + a + arrived_by len (f n) (x % len)) before ∙ ap (λ p. lead + arrived g n + p) part

-- what a node takes is told as well by its level: with stores by the same counts, and without by the bits alone, where these
-- are whole frames
given_is : (s : FrameShape) (level : Level) (j : ℕ) (f g : ℕ → ℕ) (x : ℕ) → HasNumbers level (shape_numbers s) → (HasStores s → (k : ℕ) → k < begun_by level.len x → f k ≡ g k)
    → ((s.copies == 0) ≡ true → x % s.len ≡ 0) → given s j f x ≡ taken level j g x
given_is s level j f g x has same whole = elim (cases_Bool (s.copies == 0)) [
  | inl locked ↦
      let none : x % s.len ≡ 0 = whole locked in
      let is : level.locked ≡ true = has.locked ∙ ap (λ b. is_locked (cond b (Locked (λ j t. reads_below s j false t)) Elastic)) locked in
      let here : given s j f x ≡ x / s.len * s.low + 0 = given-locked s j f x locked ∙ ap (λ t. x / s.len * s.low + reads_below s j false t) none in
      let there : taken level j g x ≡ x / level.len * level.low + 0 =
      ap (λ b. by_stores (cond b (Locked (λ j t. 0)) Elastic) (cond (x == 0) 0 (came_by level.len g (x / level.len) (x % level.len))) (λ reads. x / level.len * level.low + reads j (x % level.len))) is in
      here ∙ ap (λ len. x / len * s.low + 0) (sym has.len) ∙ ap (λ low. x / level.len * low + 0) (sym has.low) ∙ sym there
  | inr stores ↦
      let is : level.locked ≡ false = elastic_level s level stores has in
      let there : taken level j g x ≡ cond (x == 0) 0 (came_by level.len g (x / level.len) (x % level.len)) =
      ap (λ b. by_stores (cond b (Locked (λ j t. 0)) Elastic) (cond (x == 0) 0 (came_by level.len g (x / level.len) (x % level.len))) (λ reads. x / level.len * level.low + reads j (x % level.len))) is in
      given-stores s j f x stores ∙ ap (λ len. cond (x == 0) 0 (came_by len f (x / len) (x % len))) (sym has.len)
      ∙ ap (λ c. cond (x == 0) 0 c) (came_same level.len f g x (same stores)) ∙ sym there
]

-- ---- node by node

-- the counts at and below a path are those of the frames that are made of these levels
abbrev AreMade : List Level → Offset → Counts → List ℕ → ℕ → Type 0
AreMade levels line counts path x = (steps : List ℕ) (j n : ℕ) → counts (path ++ steps) j n ≡ frame_counts (made_from levels Mixed line x steps) j n

-- the offset of tributary j of a node, and the frames of the node
abbrev offset_below : Level → List Level → Offset → ℕ → Offset
offset_below level levels line j = tributary_offset level Mixed (length levels) line (suc j)

abbrev frames_here : Level → List Level → Offset → ℕ → List (List ℕ)
frames_here level levels line x = made_frames level Mixed (length levels) line (begun_by level.len x)

module _ (s : FrameShape) (level : Level) (levels : List Level) (counts : Counts) (path : List ℕ) (line : Offset) (x j : ℕ) where
  own_counts : AreMade (level ∷ levels) line counts path x → (n : ℕ) → counts path j n ≡ frame_counts (frames_here level levels line x) j n
  own_counts are n = subst (λ p. counts p j n ≡ frame_counts (frames_here level levels line x) j n) (append-nil path) (are [] j n)

  has_store : HasNumbers level (shape_numbers s) → j < s.tribs → HasStores s → j < level_stores level
  has_store has known stores = omega (arith, known, level_stores_is level (elastic_level s level stores has), has.tribs)

  -- a tributary of the node is within the tolerance,
  node_within : HasNumbers level (shape_numbers s) → IsRated level → j < s.tribs → AreMade (level ∷ levels) line counts path x → HasStores s → IsWithin s (counts path j) (begun s x)
  node_within has rated known are stores =
      let begins : length (frames_here level levels line x) ≡ begun s x = length-made_frames level Mixed (length levels) line (begun_by level.len x) ∙ ap (λ len. begun_by len x) has.len in
      let made : IsWithin s (frame_counts (frames_here level levels line x) j) (length (frames_here level levels line x)) =
      made-within level Mixed (length levels) line (begun_by level.len x) j s rated (has_store has known stores) (sym has.low) in
      subst (λ c. IsWithin s c (begun s x)) (sym (fun_ext (own_counts are))) (subst (IsWithin s (frame_counts (frames_here level levels line x) j)) begins made)

  -- and the nodes at and below it are made of the levels below
  made_below : HasNumbers level (shape_numbers s) → j < s.tribs → ((s.copies == 0) ≡ true → x % s.len ≡ 0) → AreMade (level ∷ levels) line counts path x
      → AreMade levels (offset_below level levels line j) counts (child path j) (given s j (counts path j) x)
  made_below has known whole are steps i n =
      let offset : Offset = offset_below level levels line j in
      let inside : (nat_le 1 (suc j) && nat_le (suc j) level.tribs) ≡ true = rw (le-leb 1 (suc j) (omega arith), le-leb (suc j) level.tribs (omega (arith, has.tribs))) refl in
      let number : suc j - 1 ≡ j = omega arith in
      let takes : given s j (counts path j) x ≡ taken level j (made_count level line offset) x =
      given_is s level j (counts path j) (made_count level line offset) x has
      (λ stores k less. own_counts are k ∙ counts-made level Mixed (length levels) line (begun_by level.len x) j k less (has_store has known stores)) whole in
      subst (λ p. counts p i n ≡ frame_counts (made_from levels Mixed offset (given s j (counts path j) x) steps) i n) (sym (append_assoc path (suc j ∷ []) steps))
      (are (suc j ∷ steps) i n
      ∙ ap (λ b. frame_counts (cond b (made_from levels Mixed offset (taken level (suc j - 1) (made_count level line offset) x) steps) []) i n) inside
      ∙ ap (λ k. frame_counts (made_from levels Mixed offset (taken level k (made_count level line offset) x) steps) i n) number
      ∙ ap (λ y. frame_counts (made_from levels Mixed offset y steps) i n) (sym takes))

-- a level with stores is of a frame with stores
no_locked : (s : FrameShape) (level : Level) → HasNumbers level (shape_numbers s) → IsElastic level → (s.copies == 0) ≡ true → ⊥
no_locked s level has elastic locked =
    false≢true (sym elastic ∙ has.locked ∙ ap (λ b. is_locked (cond b (Locked (λ j t. reads_below s j false t)) Elastic)) locked)

-- all nodes of levels with stores
levels_within : (shapes : List FrameShape) (levels : List Level) (counts : Counts) (path : List ℕ) (line : Offset) (x : ℕ) → EachLevelOf shapes levels → All IsElastic levels → All IsRated levels
    → AreMade levels line counts path x → AllWithin shapes counts path x
unfolding AllWithin
levels_within [] levels counts path line x each elastic rated are = tt
levels_within (s ∷ below) [] counts path line x each elastic rated are = absurd each
levels_within (s ∷ below) (level ∷ levels) counts path line x each elastic rated are =
    λ j known. (
      node_within s level levels counts path line x j each.0 (All-head IsRated level levels rated) known are,
      levels_within below levels counts (child path j) (offset_below level levels line j) (given s j (counts path j) x) each.1 (All-tail IsElastic level levels elastic) (All-tail IsRated level levels rated)
          (made_below s level levels counts path line x j each.0 known (λ locked. absurd (no_locked s level each.0 (All-head IsElastic level levels elastic) locked)) are),
    )

-- the counts of all nodes are those of the made schedule of so many frames of the top
abbrev AreOfMade : List Level → Counts → ℕ → Type 0
AreOfMade levels counts frames = (path : List ℕ) (j n : ℕ) → counts path j n ≡ frame_counts (made levels Mixed frames path) j n

-- the same where the top may have no stores, over whole frames of it
top_within : (shapes : List FrameShape) (levels : List Level) (counts : Counts) (frames : ℕ) → AreFrames shapes → EachLevelOf shapes levels → All IsElastic (drop 1 levels) → All IsRated levels
    → AreOfMade levels counts frames → AllWithin shapes counts [] (frames * top_len shapes)
unfolding AllWithin made
top_within [] levels counts frames frame each elastic rated are = tt
top_within (s ∷ below) [] counts frames frame each elastic rated are = absurd each
top_within (s ∷ below) (level ∷ levels) counts frames frame each elastic rated are =
    let line : Offset = offset_of Mixed (length (level ∷ levels)) 1 in
    let x : ℕ = frames * s.len in
    let here : AreMade (level ∷ levels) line counts [] x =
    λ steps i n. are steps i n ∙ ap (λ len. frame_counts (made_from (level ∷ levels) Mixed line (frames * len) steps) i n) each.0.len in
    let more : x ≡ x + 0 = omega arith in
    let whole : x % s.len ≡ 0 = ap (λ y. y % s.len) more ∙ mod-mul-add frames s.len 0 frame.0.some_slots in
    λ j known. (
      node_within s level levels counts [] line x j each.0 (All-head IsRated level levels rated) known here,
      levels_within below levels counts (child [] j) (offset_below level levels line j) (given s j (counts [] j) x) each.1 elastic (All-tail IsRated level levels rated)
          (made_below s level levels counts [] line x j each.0 known (λ locked. whole) here),
    )

pub made_within : (chain : Chain) (frames : ℕ) → AllWithin (shapes_of chain) (made_counts chain frames) [] (frames * top_len (shapes_of chain))
unfolding made_counts
made_within chain frames =
    top_within (shapes_of chain) (levels_of chain) (made_counts chain frames) frames (are_frames chain) (each_level (shapes_of chain) (levels_of chain) (are_levels_of chain))
    (are_levels chain).stores_below (all_rated chain) (λ path j n. refl)
