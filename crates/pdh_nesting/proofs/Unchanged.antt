-- The made bits of a line stay as they are where bits of leaves or service bits are added.
use Rattle.std.proofs.Common.{◌≡◌, ℕ, suc, ◌+◌, ◌*◌, ◌/◌, ◌%◌, ◌<◌, ◌≤◌, Bool, true, false, ◌&&◌, leb, eqb, List, [], ◌∷◌, refl, sym, ap, ◌∙◌, subst, inl, inr, arith}
use Rattle.std.proofs.lemmas.Bool.{leb-false, cases_Bool}
use Rattle.std.proofs.lemmas.Nat.{div-mul-add, mod-mul-add}
use Rattle.std.proofs.Math.Nat.{mul-le-mul_right}
use Rattle.pdh_line.specs.Sending.Mode.{Plain}
use Rattle.pdh_shape.specs.declared.role.Service.{Service as Say}
use Rattle.pdh_shape.specs.Frame.{FrameShape, IsFrame, idle}
use Rattle.pdh_shape.specs.Tributary.{reads_from, reads_below, HasTributaries}
use Rattle.pdh_line.specs.Sending.{sends_more, came_before, read_before, line_bit, begun, taken, given, HasStores}
use Rattle.pdh_line.specs.Events.{underflows}
use Rattle.pdh_line.proofs.SendingLaws.{sends_more-locked, given-stores, given-locked, given-read}
use Rattle.pdh_line.proofs.SameLines.{line_bit-same_upto, taken-grows}
use Rattle.pdh_nesting.specs.Chains.{width, AreFrames}
use Rattle.pdh_line.specs.Nodes.{child, Counts, given_at}
use Rattle.pdh_nesting.specs.Sending.{Content, Agree, chain_line, line_with, top_begun, given_below}
use Rattle.pdh_nesting.specs.Events.{NoneEmpty}
use Rattle.pdh_nesting.proofs.Nodes.{taken-suc, frame_begun, read_given}

-- ---- one node

-- where no store underflows, a bit that the first x bits read has been taken
read-taken : (s : FrameShape) (counts : ℕ → ℕ) (x n t j : ℕ) → IsFrame s → underflows s j counts n t ≡ false → t < s.len → n * s.len + t < x → reads_from j (sends_more s counts n) (s.role t) ≡ true
    → read_before s j counts n t < taken s counts x
read-taken s counts x n t j frame fine inside made reads =
    let came : ℕ = came_before s counts n (suc t) in
    let left : leb came (read_before s j counts n t) ≡ false = ap (λ b. b && leb came (read_before s j counts n t)) (sym reads) ∙ fine in
    let few : read_before s j counts n t < came = leb-false _ _ left in
    let upto : taken s counts (suc (n * s.len + t)) ≡ came =
    taken-suc s counts (n * s.len + t) frame ∙ ap (λ m. came_before s counts m (suc ((n * s.len + t) % s.len))) (div-mul-add n s.len t inside)
    ∙ ap (λ u. came_before s counts n (suc u)) (mod-mul-add n s.len t inside) in
    omega (arith, few, upto, taken-grows s counts (suc (n * s.len + t)) x frame made)

-- the same of a node of either kind
read-given : (s : FrameShape) (counts : ℕ → ℕ) (x n t j : ℕ) → IsFrame s → HasTributaries s → j < s.tribs → (HasStores s → underflows s j counts n t ≡ false) → t < s.len → n * s.len + t < x
    → reads_from j (sends_more s counts n) (s.role t) ≡ true → read_before s j counts n t < given s j counts x
read-given s counts x n t j frame has known fine inside made reads =
    elim (cases_Bool (eqb s.copies 0)) [
      | inl locked ↦
          let y : ℕ = n * s.len + t in
          let q : y / s.len ≡ n = div-mul-add n s.len t inside in
          let r : y % s.len ≡ t = mod-mul-add n s.len t inside in
          let here : reads_from j false (s.role (y % s.len)) ≡ true =
          ap (λ u. reads_from j false (s.role u)) r ∙ ap (λ more. reads_from j more (s.role t)) (sym (sends_more-locked s counts n locked)) ∙ reads in
          let next : read_before s j counts n t ≡ y / s.len * s.low + reads_below s j false (y % s.len) =
          ap (λ n. read_before s j counts n t) (sym q) ∙ ap (read_before s j counts (y / s.len)) (sym r) ∙ sym (given-read s j counts y locked) ∙ given-locked s j counts y locked in
          subst (λ k. k < given s j counts x) (sym next) (read_given s j counts frame has known locked x y made here)
      | inr stores ↦
          subst (λ k. read_before s j counts n t < k) (sym (given-stores s j counts x stores)) (read-taken s counts x n t j frame (fine stores) inside made reads)
    ]

-- so its line is the same for tributaries that agree on the bits that it has taken
pub line_bit-same_given : (s : FrameShape) (counts : ℕ → ℕ → ℕ) (p q : ℕ → ℕ → Bool) (f g : ℕ → Say) (x y : ℕ) → IsFrame s → HasTributaries s
    → ((j : ℕ) → j < s.tribs → HasStores s → (n t : ℕ) → t < s.len → n * s.len + t < x → underflows s j (counts j) n t ≡ false)
    → ((j i : ℕ) → j < s.tribs → i < given s j (counts j) x → p j i ≡ q j i) → ((n : ℕ) → n < begun s x → f n ≡ g n) → y < x
    → line_bit s (record { mode = Plain; counts = counts; inputs = p; says = f }) y ≡ line_bit s (record { mode = Plain; counts = counts; inputs = q; says = g }) y
line_bit-same_given s counts p q f g x y frame has full same says h =
    line_bit-same_upto s counts p q f g x frame has
    (λ n t j known inside made reads. same j (read_before s j (counts j) n t) known (read-given s (counts j) x n t j frame has known (λ stores. full j known stores n t inside made) inside made reads))
    (λ n made. says n (frame_begun s x n 0 frame frame.some_slots (omega arith))) y h

-- ---- a chain

-- leaf k of tributary j, among all leaves of a node
leaf-of : (w j k : ℕ) → k < w → ((j * w + k) / w ≡ j) × ((j * w + k) % w ≡ k)
leaf-of w j k h = (div-mul-add j w k h, mod-mul-add j w k h)

-- what agrees on the leaves below a node agrees on those below its tributary j
below-given : (s : FrameShape) (below : List FrameShape) (counts : Counts) (p q : ℕ → ℕ → Bool) (path : List ℕ) (first x j : ℕ) → j < s.tribs
    → ((k i : ℕ) → k < width (s ∷ below) → i < given_below (s ∷ below) counts path x k → p (first + k) i ≡ q (first + k) i)
    → (k i : ℕ) → k < width below → i < given_below below counts (child path j) (given s j (counts path j) x) k → p (first + j * width below + k) i ≡ q (first + j * width below + k) i
unfolding given_at
below-given s below counts p q path first x j known same k i inside lt =
    let w : ℕ = width below in
    let number = leaf-of w j k inside in
    let share : suc j * w ≤ s.tribs * w = mul-le-mul_right w known in
    let place : first + (j * w + k) ≡ first + j * w + k = omega arith in
    let below_gives : ℕ → ℕ → ℕ = λ j k. given_below below counts (child path j) (given s j (counts path j) x) k in
    let same_given : below_gives ((j * w + k) / w) ((j * w + k) % w) ≡ below_gives j k = ap (λ i. below_gives i ((j * w + k) % w)) number.0 ∙ ap (below_gives j) number.1 in
    subst (λ l. p l i ≡ q l i) place (same (j * w + k) i (omega arith) (subst (λ n. i < n) (sym same_given) lt))

pub made-same : (chain : List FrameShape) (counts : Counts) (p q : ℕ → ℕ → Bool) (f g : ℕ → Say) (path : List ℕ) (first x y : ℕ) → AreFrames chain → NoneEmpty chain counts path x
    → ((k i : ℕ) → k < width chain → i < given_below chain counts path x k → p (first + k) i ≡ q (first + k) i) → ((n : ℕ) → n < top_begun chain x → f n ≡ g n) → y < x
    → chain_line Plain chain counts p f path first y ≡ chain_line Plain chain counts q g path first y
unfolding chain_line given_at NoneEmpty
made-same [] counts p q f g path first x y are full same says h =
    let e : first + 0 ≡ first = omega arith in
    subst (λ k. p k y ≡ q k y) e (same 0 y (omega arith) h)
made-same (s ∷ below) counts p q f g path first x y are full same says h =
    let w : ℕ = width below in
    let line : (ℕ → ℕ → Bool) → ℕ → ℕ → Bool = λ bits j. chain_line Plain below counts bits (λ n. idle) (child path j) (first + j * w) in
    line_bit-same_given s (counts path) (line p) (line q) f g x y are.0 are.1 (λ j known. (full j known).0)
    (λ j i known lt. made-same below counts p q (λ n. idle) (λ n. idle) (child path j) (first + j * w) (given s j (counts path j) x) i are.2 (full j known).1
    (below-given s below counts p q path first x j known same) (λ n begins. refl) lt) says h

-- each of the first x bits is the same for both contents
pub line_with-same : (chain : List FrameShape) (counts : Counts) (x y : ℕ) (a b : Content) → AreFrames chain → NoneEmpty chain counts [] x → Agree chain counts x a b → y < x
    → line_with chain counts a y ≡ line_with chain counts b y
line_with-same chain counts x y a b are full agree h =
    made-same chain counts a.bits b.bits a.says b.says [] 0 x y are full bits_agree agree.says h
  where
    bits_agree : (k i : ℕ) → k < width chain → i < given_below chain counts [] x k → a.bits (0 + k) i ≡ b.bits (0 + k) i
    bits_agree k i inside lt =
        let e : k ≡ 0 + k = omega arith in
        subst (λ l. a.bits l i ≡ b.bits l i) e (agree.bits k i inside lt)
