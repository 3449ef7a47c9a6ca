-- How far behind arrival a leaf's receiver is at most, within the tolerance.
use Rattle.std.proofs.Common.{◌≡◌, ℕ, zero, suc, ◌+◌, ◌*◌, ◌/◌, ◌%◌, ◌<◌, ◌≤◌, true, false, cond, eqb, List, [], ◌∷◌, sym, ap, ◌∙◌, subst, inl, inr, arith}
use Rattle.std.proofs.Math.Nat.{lt-div-mul-add, mul-le-mul_right}
use Rattle.std.proofs.lemmas.Bool.{le-ltb, cases_lt, cases_Bool}
use Rattle.std.proofs.lemmas.Nat.{div_below, div-mul-add}
use Rattle.pdh_shape.specs.Frame.{FrameShape, IsFrame}
use Rattle.pdh_line.specs.Progress.{arrived, entered_by, short_by}
use Rattle.pdh_shape.specs.OwnNumbers.{lead}
use Rattle.pdh_line.specs.Sending.{HasStores, carried, sent, sends_more, begun, given, entered, frames_found, given_back, shape_numbers}
use Rattle.pdh_line.specs.Tolerance.{IsWithin}
use Rattle.pdh_line.proofs.SendingLaws.{sent-suc, sent-locked, entered-stores, entered-locked, short-stores, short-locked}
use Rattle.pdh_line.specs.Nodes.{child, Counts, delay_below, entered_at}
use Rattle.pdh_line.proofs.FillBounds.{fill_at_start-most}
use Rattle.pdh_nesting.specs.Chains.{width, top_len, AreFrames, numbers_of}
use Rattle.pdh_nesting.specs.Sending.{entered_below, AllWithin, delay}
use Rattle.pdh_nesting.specs.Receiving.{back_below}
use Rattle.pdh_nesting.proofs.Nodes.{begun-frames, given-entered_by, sent-grows}
use Rattle.pdh_line.proofs.LeafNumbers.{leaf-tributary, leaf-below, div-one}

-- ---- one node

-- a frame carries at least `low` bits of a tributary, and at most one more
carried-most : (s : FrameShape) (counts : ℕ → ℕ) (n : ℕ) → sent s counts (suc n) ≤ sent s counts n + suc s.low
carried-most s counts n = subst (λ k. k ≤ sent s counts n + suc s.low) (sym (sent-suc s counts n)) (most (sends_more s counts n))
  where
    most : (more : _) → sent s counts n + carried s more ≤ sent s counts n + suc s.low
    most true = omega arith
    most false = omega arith

-- what so many more frames carry
sent-more : (s : FrameShape) (counts : ℕ → ℕ) (n frames : ℕ) → sent s counts (n + frames) ≤ sent s counts n + frames * suc s.low
sent-more s counts n zero =
    let e : n ≡ n + 0 = omega arith in
    subst (λ k. sent s counts k ≤ sent s counts n + 0 * suc s.low) e (omega arith)
sent-more s counts n (suc frames) =
    let e : suc (n + frames) ≡ n + suc frames = omega arith in
    subst (λ k. sent s counts k ≤ sent s counts n + suc frames * suc s.low) e (omega (arith, sent-more s counts n frames, carried-most s counts (n + frames)))

-- what frames enter is at most the lead and what arrives in them
entered-most : (counts : ℕ → ℕ) (n : ℕ) → entered counts n ≤ lead + arrived counts n
entered-most counts n = most (eqb n 0)
  where
    most : (none : _) → cond none 0 (lead + arrived counts n) ≤ lead + arrived counts n
    most true = omega arith
    most false = omega arith

-- a node that has begun at most so many frames more than are delivered keeps a tributary within the tolerance short by no
-- more than what these frames carry at most, and with stores the lead and the allowance
node_short : (s : FrameShape) (counts : ℕ → ℕ) (begins found held : ℕ) → (HasStores s → IsWithin s counts begins) → begins ≤ found + held
    → entered_by (shape_numbers s) counts begins ≤ sent s counts found + short_by (shape_numbers s) held
node_short s counts begins found held within h =
    elim (cases_Bool (eqb s.copies 0)) [
      | inl locked ↦
          let most : begins * s.low ≤ (found + held) * s.low = mul-le-mul_right s.low h in
          omega (arith, most, entered-locked s counts begins locked, short-locked s held locked, sent-locked s counts found locked)
      | inr stores ↦
          omega (
            arith,
            entered-stores s counts begins stores,
            short-stores s held stores,
            entered-most counts begins,
            fill_at_start-most s counts begins begins stores (within stores) (omega arith),
            sent-grows s counts begins (found + held) h,
            sent-more s counts found held,
          )
    ]

begun-most : (s : FrameShape) (x : ℕ) → begun s x ≤ suc (x / s.len)
begun-most s x = most (eqb (x % s.len) 0)
  where
    most : (even : _) → cond even (x / s.len) (suc (x / s.len)) ≤ suc (x / s.len)
    most true = omega arith
    most false = omega arith

-- a receiver holds back two frames at most
found-most : (n : ℕ) → n ≤ frames_found n + 2
found-most n = elim (cases_lt n 3) [ inl few ↦ omega arith | inr enough ↦ rw (le-ltb n 3 enough) (omega arith) ]

-- of a node that is at most b bits short the receiver has delivered all frames that the node began but those of these bits
-- and four more
frames_short : (s : FrameShape) (x y b : ℕ) → IsFrame s → x ≤ y + b → begun s x ≤ frames_found (y / s.len) + (b / s.len + 4)
frames_short s x y b frame h =
    let some : 0 < s.len = frame.some_slots in
    let received : y < y / s.len * s.len + s.len = lt-div-mul-add some in
    let short : b < b / s.len * s.len + s.len = lt-div-mul-add some in
    let total : x < (y / s.len + b / s.len + 2) * s.len = omega arith in
    let frames : x / s.len < y / s.len + b / s.len + 2 = div_below x s.len (y / s.len + b / s.len + 2) some total in
    omega (arith, begun-most s x, found-most (y / s.len))

-- ---- a chain

-- The node at a path has made x bits, of which y are received, and has begun at most so many frames more than are
-- delivered.
chain_short : (s : FrameShape) (below : List FrameShape) (counts : Counts) (path : List ℕ) (x y held k : ℕ) → AreFrames (s ∷ below)
    → AllWithin (s ∷ below) counts path x → k < width (s ∷ below) → begun s x ≤ frames_found (y / s.len) + held
    → entered_below (s ∷ below) counts path x k ≤ back_below (s ∷ below) counts path y k + delay_below (numbers_of (s ∷ below)) held
unfolding entered_at back_below AllWithin delay_below
chain_short s [] counts path x y held k are within h behind =
    let same : k / 1 ≡ k = div-one k in
    let known : k < s.tribs = omega arith in
    subst (λ j. entered_by (shape_numbers s) (counts path k) (begun s x) ≤ given_back s (counts path j) (y / s.len) + short_by (shape_numbers s) held) (sym same)
    (node_short s (counts path k) (begun s x) (frames_found (y / s.len)) held (within k known).0 behind)
chain_short s (t ∷ below) counts path x y held k are within h behind =
    let w : ℕ = width (t ∷ below) in
    let j : ℕ = k / w in
    let known : j < s.tribs = leaf-tributary s.tribs w k h in
    let x' : ℕ = given s j (counts path j) x in
    let y' : ℕ = given_back s (counts path j) (y / s.len) in
    let entered_all = node_short s (counts path j) (begun s x) (frames_found (y / s.len)) held (within j known).0 behind in
    let short : x' ≤ y' + short_by (shape_numbers s) held = omega (arith, given-entered_by s j (counts path j) x are.0 are.1) in
    chain_short t below counts (child path j) x' y' (short_by (shape_numbers s) held / t.len + 4) (k % w) are.2 (within j known).1 (leaf-below s.tribs w k h)
    (frames_short t x' y' (short_by (shape_numbers s) held) are.2.0 short)

-- Of a chain within the tolerance over so many frames of its top, a receiver of these frames has all bits that each leaf
-- entered but for the delay.
pub delayed : (chain : List FrameShape) (counts : Counts) (n k : ℕ) → AreFrames chain → AllWithin chain counts [] (n * top_len chain) → k < width chain
    → entered_below chain counts [] (n * top_len chain) k ≤ back_below chain counts [] (n * top_len chain) k + delay chain
unfolding entered_at back_below
delayed [] counts n k are within h = omega arith
delayed (s ∷ below) counts n k are within h =
    let e : n * s.len ≡ n * s.len + 0 = omega arith in
    let whole : n * s.len / s.len ≡ n = ap (λ x. x / s.len) e ∙ div-mul-add n s.len 0 are.0.some_slots in
    let behind : begun s (n * s.len) ≤ frames_found (n * s.len / s.len) + 2 = omega (arith, begun-frames s n are.0, found-most (n * s.len / s.len)) in
    chain_short s below counts [] (n * s.len) (n * s.len) 2 k are within h behind
