-- The levels of a chain stand for the numbers of its frames: over whole frames of the top both chains have come equally far.
use Rattle.std.proofs.Common.{◌≡◌, ℕ, zero, suc, ◌+◌, ◌-◌, ◌*◌, ◌/◌, ◌%◌, true, false, cond, eqb, List, [], ◌∷◌, refl, sym, ap, ◌∙◌, subst, inl, inr, arith}
use Rattle.std.proofs.lemmas.Bool.{cases_Bool}
use Rattle.std.proofs.lemmas.Nat.{mod-mul-add}
use Rattle.pdh_shape.specs.declared.place.Level.{Level}
use Rattle.pdh_shape.specs.Frame.{FrameShape}
use Rattle.pdh_shape.specs.Tributary.{reads_below}
use Rattle.pdh_line.specs.Progress.{FrameNumbers}
use Rattle.pdh_line.specs.Progress.Stores.{Elastic, Locked}
use Rattle.pdh_line.specs.Nodes.{Counts, nodes_of, width, top_len, bits_at, begun_at, given_at, entered_at, delay_of, delay_below}
use Rattle.pdh_line.specs.Sending.{shape_numbers, HasStores}
use Rattle.pdh_levels.specs.Levels.{level_numbers, numbers_of as numbers_in}
use Rattle.pdh_nesting.specs.Chains.{numbers_of}
use Rattle.pdh_tx.specs.Meaning.{HasNumbers, is_locked}
use Rattle.pdh_chain.specs.Trees.{AreLevelsOf}

-- ---- level by level

-- each level has the numbers of its frame
abbrev pub EachLevelOf : List FrameShape → List Level → Type 0
EachLevelOf [] levels = levels ≡ []
EachLevelOf (s ∷ below) [] = ⊥
EachLevelOf (s ∷ below) (level ∷ rest) = HasNumbers level (shape_numbers s) × EachLevelOf below rest

locked_of : (level : Level) → level.locked ≡ is_locked (level_numbers level).stores
locked_of level = elim (cases_Bool level.locked) [ inl locked ↦ rw locked refl | inr elastic ↦ rw elastic refl ]

-- a level that stands for these numbers has them
pub has_numbers : (level : Level) (numbers : FrameNumbers) → numbers ≡ level_numbers level → HasNumbers level numbers
has_numbers level numbers same = subst (HasNumbers level) (sym same) (record { len = refl; tribs = refl; low = refl; locked = locked_of level })

each_of_same : (shapes : List FrameShape) (levels : List Level) → numbers_of shapes ≡ numbers_in levels → EachLevelOf shapes levels
each_of_same [] [] same = refl
each_of_same [] (level ∷ rest) same = cc
each_of_same (s ∷ below) [] same = cc
each_of_same (s ∷ below) (level ∷ rest) same =
    let own : shape_numbers s ≡ level_numbers level = cc in
    let others : numbers_of below ≡ numbers_in rest = cc in
    (has_numbers level (shape_numbers s) own, each_of_same below rest others)

pub each_level : (shapes : List FrameShape) (levels : List Level) → AreLevelsOf shapes levels → EachLevelOf shapes levels
each_level [] levels are = are
each_level (s ∷ below) [] are = absurd are
each_level (s ∷ below) (level ∷ rest) are = (are.0, each_of_same below rest are.1)

-- a level of a shape with stores has them too
pub elastic_level : (s : FrameShape) (level : Level) → HasStores s → HasNumbers level (shape_numbers s) → level.locked ≡ false
elastic_level s level stores has = has.locked ∙ ap (λ b. is_locked (cond b (Locked (λ j t. reads_below s j false t)) Elastic)) stores

-- ---- whole frames of the top

-- the numbers of a frame of a node without stores
abbrev locked_frame : ℕ → ℕ → ℕ → (ℕ → ℕ → ℕ) → FrameNumbers
locked_frame len tribs low reads = record { len = len; tribs = tribs; low = low; stores = Locked reads }

-- it is the same whatever is read where, as long as nothing is read before slot 0
abbrev IsWhole : {V : Type 0} → (List FrameNumbers → V) → Type 0
IsWhole f = (len tribs low : ℕ) (reads others : ℕ → ℕ → ℕ) (below : List FrameNumbers) → ((j : ℕ) → reads j 0 ≡ others j 0) → f (locked_frame len tribs low reads ∷ below) ≡ f (locked_frame len tribs low others ∷ below)

same_top : {V : Type 0} (f : List FrameNumbers → V) (s : FrameShape) (level : Level) (below : List FrameNumbers) → IsWhole f → HasNumbers level (shape_numbers s) → f (shape_numbers s ∷ below) ≡ f (level_numbers level ∷ below)
same_top f s level below whole has = elim (cases_Bool (eqb s.copies 0)) [
  | inl locked ↦
      let none : level.locked ≡ true = has.locked ∙ ap (λ b. is_locked (cond b (Locked (λ j t. reads_below s j false t)) Elastic)) locked in
      rw (locked, none, has.len, has.tribs, has.low) (whole s.len s.tribs s.low (λ j t. reads_below s j false t) (λ j t. 0) below (λ j. refl))
  | inr stores ↦ rw (stores, elastic_level s level stores has, has.len, has.tribs, has.low) refl
]

-- so the levels of a chain tell it as well as its frames
same_by_levels : {V : Type 0} (f : List FrameNumbers → V) (shapes : List FrameShape) (levels : List Level) → IsWhole f → AreLevelsOf shapes levels → f (numbers_of shapes) ≡ f (numbers_in levels)
same_by_levels f [] levels whole are = ap (λ ls. f (numbers_in ls)) (sym are)
same_by_levels f (s ∷ below) [] whole are = absurd are
same_by_levels f (s ∷ below) (level ∷ rest) whole are = same_top f s level (numbers_of below) whole are.0 ∙ ap (λ numbers. f (level_numbers level ∷ numbers)) are.1

-- no slot of a whole frame stands before its end
slot_none : (n len : ℕ) → n * len % len ≡ 0
slot_none n zero = let none : n * 0 ≡ 0 = omega arith in ap (λ x. x % 0) none
slot_none n (suc len) = let whole : n * suc len ≡ n * suc len + 0 = omega arith in ap (λ x. x % suc len) whole ∙ mod-mul-add n (suc len) 0 (omega arith)

-- what a node without stores has taken over whole frames
abbrev read_over : ℕ → ℕ → (ℕ → ℕ → ℕ) → ℕ → ℕ → ℕ
read_over len low reads n j = n * len / len * low + reads j (n * len % len)

same_read : (len low n j : ℕ) (reads others : ℕ → ℕ → ℕ) → ((j : ℕ) → reads j 0 ≡ others j 0) → read_over len low reads n j ≡ read_over len low others n j
same_read len low n j reads others same =
    ap (λ t. n * len / len * low + reads j t) (slot_none n len) ∙ ap (λ r. n * len / len * low + r) (same j)
    ∙ sym (ap (λ t. n * len / len * low + others j t) (slot_none n len))

delay-whole : IsWhole delay_of
unfolding delay_below
delay-whole len tribs low reads others [] same = refl
delay-whole len tribs low reads others (next ∷ below) same = refl

bits-whole : (counts : Counts) (n : ℕ) (steps : List ℕ) → IsWhole (λ numbers. bits_at numbers counts [] (n * top_len numbers) steps)
bits-whole counts n [] len tribs low reads others below same = refl
bits-whole counts n (step ∷ steps) len tribs low reads others below same =
    ap (λ x. bits_at below counts (step ∷ []) x steps) (same_read len low n (step - 1) reads others same)

begun-whole : (counts : Counts) (n : ℕ) (steps : List ℕ) → IsWhole (λ numbers. begun_at numbers counts [] (n * top_len numbers) steps)
begun-whole counts n [] len tribs low reads others below same = refl
begun-whole counts n (step ∷ steps) len tribs low reads others below same =
    ap (λ x. begun_at below counts (step ∷ []) x steps) (same_read len low n (step - 1) reads others same)

given-whole : (counts : Counts) (n k : ℕ) → IsWhole (λ numbers. given_at numbers counts [] (n * top_len numbers) k)
unfolding given_at
given-whole counts n k len tribs low reads others below same =
    ap (λ x. given_at below counts (suc (k / width below) ∷ []) x (k % width below)) (same_read len low n (k / width below) reads others same)

entered-whole : (counts : Counts) (n k : ℕ) → IsWhole (λ numbers. entered_at numbers counts [] (n * top_len numbers) k)
unfolding entered_at
entered-whole counts n k len tribs low reads others [] same = refl
entered-whole counts n k len tribs low reads others (next ∷ below) same =
    let w : ℕ = width (next ∷ below) in
    ap (λ x. entered_at (next ∷ below) counts (suc (k / w) ∷ []) x (k % w)) (same_read len low n (k / w) reads others same)

module _ (shapes : List FrameShape) (levels : List Level) (are : AreLevelsOf shapes levels) where
  pub same_nodes : nodes_of (numbers_of shapes) ≡ nodes_of (numbers_in levels)
  same_nodes = same_by_levels nodes_of shapes levels (λ len tribs low reads others below same. refl) are

  pub same_width : width (numbers_of shapes) ≡ width (numbers_in levels)
  same_width = same_by_levels width shapes levels (λ len tribs low reads others below same. refl) are

  pub same_len : top_len (numbers_of shapes) ≡ top_len (numbers_in levels)
  same_len = same_by_levels top_len shapes levels (λ len tribs low reads others below same. refl) are

  pub same_delay : delay_of (numbers_of shapes) ≡ delay_of (numbers_in levels)
  same_delay = same_by_levels delay_of shapes levels delay-whole are

  -- how far the nodes and the leaves have come where the top has made n frames
  module _ (counts : Counts) (n : ℕ) where
    pub same_bits : (steps : List ℕ) → bits_at (numbers_of shapes) counts [] (n * top_len (numbers_of shapes)) steps ≡ bits_at (numbers_in levels) counts [] (n * top_len (numbers_in levels)) steps
    same_bits steps = same_by_levels (λ numbers. bits_at numbers counts [] (n * top_len numbers) steps) shapes levels (bits-whole counts n steps) are

    pub same_begun : (steps : List ℕ) → begun_at (numbers_of shapes) counts [] (n * top_len (numbers_of shapes)) steps ≡ begun_at (numbers_in levels) counts [] (n * top_len (numbers_in levels)) steps
    same_begun steps = same_by_levels (λ numbers. begun_at numbers counts [] (n * top_len numbers) steps) shapes levels (begun-whole counts n steps) are

    pub same_given : (k : ℕ) → given_at (numbers_of shapes) counts [] (n * top_len (numbers_of shapes)) k ≡ given_at (numbers_in levels) counts [] (n * top_len (numbers_in levels)) k
    same_given k = same_by_levels (λ numbers. given_at numbers counts [] (n * top_len numbers) k) shapes levels (given-whole counts n k) are

    pub same_entered : (k : ℕ) → entered_at (numbers_of shapes) counts [] (n * top_len (numbers_of shapes)) k ≡ entered_at (numbers_in levels) counts [] (n * top_len (numbers_in levels)) k
    same_entered k = same_by_levels (λ numbers. entered_at numbers counts [] (n * top_len numbers) k) shapes levels (entered-whole counts n k) are
