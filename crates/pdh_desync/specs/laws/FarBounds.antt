-- The bounds on a far store's fill, at each piece's start and at each step inside a piece.
use Rattle.std.proofs.Common.{◌≡◌, ℕ, zero, suc, ◌+◌, ◌-◌, ◌*◌, ◌/◌, ◌<◌, ◌≤◌, ◌⊎◌, Bool, true, false, ◌&&◌, cond, leb, eqb, List, [], ◌∷◌, refl, sym, ap, ◌∙◌, subst, inl, inr, arith}
use Rattle.std.specs.Prelude.{count_by}
use Rattle.std.specs.List.{range_with_len}
use Rattle.std.proofs.lemmas.Bool.{cases_Bool, cases_lt, le-leb, lt-leb}
use Rattle.std.proofs.lemmas.List.Sums.{sum_by-cons}
use Rattle.std.proofs.Math.Nat.{lt-div-mul-add, div-mul-le_self, mul-le-mul_right, mul-le-mul_left}
use Rattle.pdh_shape.specs.declared.role.Role.{Role}
use Rattle.pdh_shape.specs.declared.role.Role.TheVariants.{Align, Service, Control, Just, Info}
use Rattle.pdh_shape.specs.Frame.{FrameShape, IsFrame, slots}
use Rattle.pdh_shape.specs.Tributary.{reads_from, is_just, carries_more, HasTributaries, reads_below, ReadsEvenly}
use Rattle.std.proofs.lemmas.Nat.{le-div}
use Rattle.pdh_shape.specs.laws.Ranges.{count_push, count-range_grows}
use Rattle.pdh_shape.specs.OwnNumbers.{threshold}
use Rattle.pdh_line.specs.Sending.{arrived_in, carried}
use Rattle.pdh_line.proofs.SendingLaws.{reads_below-all, arrived_in-all}
use Rattle.pdh_desync.specs.FarStore.{FarPiece, brought, came, piece_at, comes, start_fill, reads_more, reads, read_by, reads_over, comes_over, fill_before, fill_arrived}
use Rattle.pdh_desync.specs.FarStore.FarPiece.{Ones, Frame}

-- ---- as `FillBounds` of pdh_line has them, where they are private

reads-just : (j : ℕ) (r : Role) → cond (reads_from j true r) 1 0 ≡ cond (reads_from j false r) 1 0 + cond (is_just j r) 1 0
reads-just j (Just i) = go (eqb i j)
  where
    go : (b : Bool) → cond (b && true) 1 0 ≡ cond (b && false) 1 0 + cond b 1 0
    go true = refl
    go false = refl
reads-just j (Info i) = go (eqb i j)
  where
    go : (b : Bool) → cond b 1 0 ≡ cond b 1 0 + 0
    go true = refl
    go false = refl
reads-just j (Align signal) = refl
reads-just j (Service number) = refl
reads-just j (Control i copy) = refl

count-just : (s : FrameShape) (j : ℕ) (xs : List ℕ)
    → count_by (λ t. reads_from j true (s.role t)) xs ≡ count_by (λ t. reads_from j false (s.role t)) xs + count_by (λ t. is_just j (s.role t)) xs
count-just s j [] = refl
count-just s j (x ∷ xs) =
    let rest = count-just s j xs in
    let a = sum_by-cons (λ t. cond (reads_from j true (s.role t)) 1 0) x xs in
    let b = sum_by-cons (λ t. cond (reads_from j false (s.role t)) 1 0) x xs in
    let c = sum_by-cons (λ t. cond (is_just j (s.role t)) 1 0) x xs in
    omega (arith, reads-just j (s.role x), a, b, c, rest)

-- the justifiable slot adds at most one bit
reads_below-more : (s : FrameShape) (j t : ℕ) → HasTributaries s → j < s.tribs → t ≤ s.len → reads_below s j true t ≤ reads_below s j false t + 1
reads_below-more s j t has known h =
    let all : count_by (λ t. is_just j (s.role t)) (slots s) ≡ 1 = omega (arith, count-just s j (slots s), has.low j known, has.high j known) in
    omega (arith, count-just s j (range_with_len 0 t), count-range_grows (λ t. is_just j (s.role t)) t s.len h)

-- ---- what a shape's laws give

-- the shape is one that has stores
pub record IsEven (s : FrameShape) : Type 0 where
  pub frame : IsFrame s
  pub has : HasTributaries s
  pub even : ReadsEvenly s

count_few : (p : ℕ → Bool) (n : ℕ) → count_by p (range_with_len 0 n) ≤ n
count_few p zero = omega arith
count_few p (suc n) =
    let e : n + 1 ≡ suc n = omega arith in
    subst (λ k. count_by p (range_with_len 0 k) ≤ k) e (omega (arith, count_push p n, count_few p n, one_at_most (p n)))
  where
    one_at_most : (b : Bool) → cond b 1 0 ≤ 1
    one_at_most true = omega arith
    one_at_most false = omega arith

-- a frame carries no more bits of a tributary than it has slots
low_few : (s : FrameShape) (j : ℕ) → IsEven s → j < s.tribs → s.low ≤ s.len
low_few s j laws known = omega (arith, laws.has.low j known, count_few (λ slot. reads_from j false (s.role slot)) s.len)

-- with the justifiable slot at least as many slots are read
reads_below-least : (s : FrameShape) (j t : ℕ) → reads_below s j false t ≤ reads_below s j true t
reads_below-least s j t = omega (arith, count-just s j (range_with_len 0 t))

pub carried-least : (s : FrameShape) (more : Bool) → s.low ≤ carried s more
carried-least s true = omega arith
carried-least s false = omega arith

pub carried-most : (s : FrameShape) (more : Bool) → carried s more ≤ suc s.low
carried-most s true = omega arith
carried-most s false = omega arith

-- ---- what a piece brings

pub came-is : (s : FrameShape) (j : ℕ) (piece : FarPiece) → IsEven s → j < s.tribs → (more : Bool) × (came s j piece ≡ carried s more)
came-is s j Ones laws known = (false, arrived_in-all s s.low laws.frame)
came-is s j (Frame frame) laws known = (carries_more s j frame, reads_below-all s j (carries_more s j frame) laws.has known)

-- ---- at a piece's start

-- the fill is what the threshold says, or one less
abbrev pub IsNear : ℕ → Type 0
IsNear fill = (fill ≡ threshold) ⊎ (suc fill ≡ threshold)

near_next : (s : FrameShape) (fill : ℕ) (more : Bool) → IsNear fill → IsNear (fill + carried s more - carried s (leb threshold fill))
near_next s fill more (inl full) =
    let at : leb threshold fill ≡ true = le-leb _ _ (omega arith) in
    rw at (go more)
  where
    go : (more : Bool) → IsNear (fill + carried s more - suc s.low)
    go true = inl (omega arith)
    go false = inr (omega arith)
near_next s fill more (inr less) =
    let at : leb threshold fill ≡ false = lt-leb _ _ (omega arith) in
    rw at (go more)
  where
    go : (more : Bool) → IsNear (fill + carried s more - s.low)
    go true = inl (omega arith)
    go false = inr (omega arith)

pub start_fill-zero : (s : FrameShape) (j : ℕ) (pieces : List FarPiece) → start_fill s j pieces zero ≡ threshold
unfolding start_fill
start_fill-zero s j pieces = refl

pub start_fill-suc : (s : FrameShape) (j : ℕ) (pieces : List FarPiece) (n : ℕ)
    → start_fill s j pieces (suc n) ≡ start_fill s j pieces n + comes s j pieces n - carried s (leb threshold (start_fill s j pieces n))
unfolding start_fill
start_fill-suc s j pieces n = refl

pub start_near : (s : FrameShape) (j : ℕ) (pieces : List FarPiece) (n : ℕ) → IsEven s → j < s.tribs → IsNear (start_fill s j pieces n)
start_near s j pieces zero laws known = inl (start_fill-zero s j pieces)
start_near s j pieces (suc n) laws known =
    let fill : ℕ = start_fill s j pieces n in
    let came' = came-is s j (piece_at pieces n) laws known in
    let next : start_fill s j pieces (suc n) ≡ fill + carried s came'.0 - carried s (leb threshold fill) =
    start_fill-suc s j pieces n ∙ ap (λ k. fill + k - carried s (leb threshold fill)) came'.1 in
    subst IsNear (sym next) (near_next s fill came'.0 (start_near s j pieces n laws known))

-- in numbers
pub start_bounds : (s : FrameShape) (j : ℕ) (pieces : List FarPiece) (n : ℕ) → IsEven s → j < s.tribs → (threshold ≤ start_fill s j pieces n + 1) × (start_fill s j pieces n ≤ threshold)
start_bounds s j pieces n laws known = go (start_fill s j pieces n) (start_near s j pieces n laws known)
  where
    go : (fill : ℕ) → IsNear fill → (threshold ≤ fill + 1) × (fill ≤ threshold)
    go fill (inl full) = (omega arith, omega arith)
    go fill (inr less) = (omega arith, omega arith)

-- ---- inside a piece

lt_of_mul : (a b c : ℕ) → a * c < b * c → a < b
lt_of_mul a b c h = elim (cases_lt a b) [ inl lt ↦ lt | inr ge ↦ absurd (omega (arith, mul-le-mul_right c ge)) ]

-- Reads that are spread evenly, so many a piece, are behind what a piece has brought by at most 4 and ahead of it by at
-- most 5: before slot t with what came before slot t + 1, and before slot t.
brought-most : (s : FrameShape) (j t reads : ℕ) (piece : FarPiece) → IsEven s → j < s.tribs → s.low ≤ reads → t < s.len → brought s j piece (suc t) ≤ arrived_in s reads t + 4
brought-most s j t reads Ones laws known enough h =
    let share : t * s.low ≤ t * reads = mul-le-mul_left t enough in
    let floor : t * reads < t * reads / s.len * s.len + s.len = lt-div-mul-add laws.frame.some_slots in
    let most : suc t * s.low / s.len * s.len ≤ suc t * s.low = div-mul-le_self (suc t * s.low) s.len in
    let scaled : suc t * s.low / s.len * s.len < (t * reads / s.len + 5) * s.len = omega (arith, low_few s j laws known) in
    let below : suc t * s.low / s.len < t * reads / s.len + 5 = lt_of_mul _ _ s.len scaled in
    omega arith
brought-most s j t reads (Frame frame) laws known enough h =
    let share : t * s.low ≤ t * reads = mul-le-mul_left t enough in
    let floor : t * reads < t * reads / s.len * s.len + s.len = lt-div-mul-add laws.frame.some_slots in
    let scaled : reads_below s j false (suc t) * s.len < (t * reads / s.len + 4) * s.len = omega (arith, laws.even.ahead j (suc t) known h, low_few s j laws known) in
    let below : reads_below s j false (suc t) < t * reads / s.len + 4 = lt_of_mul _ _ s.len scaled in
    elim (cases_Bool (carries_more s j frame)) [
      | inl more ↦ rw more (omega (arith, reads_below-more s j (suc t) laws.has known h))
      | inr less ↦ rw less (omega arith)
    ]

brought-least : (s : FrameShape) (j t reads : ℕ) (piece : FarPiece) → IsEven s → j < s.tribs → reads ≤ suc s.low → t < s.len → arrived_in s reads t ≤ brought s j piece t + 5
brought-least s j t reads Ones laws known few h =
    let share : t * reads ≤ t * suc s.low = mul-le-mul_left t few in
    let floor : t * s.low < t * s.low / s.len * s.len + s.len = lt-div-mul-add laws.frame.some_slots in
    let most : t * reads / s.len * s.len ≤ t * reads = div-mul-le_self (t * reads) s.len in
    let scaled : t * reads / s.len * s.len < (t * s.low / s.len + 2) * s.len = omega arith in
    let below : t * reads / s.len < t * s.low / s.len + 2 = lt_of_mul _ _ s.len scaled in
    omega arith
brought-least s j t reads (Frame frame) laws known few h =
    let share : t * reads ≤ t * suc s.low = mul-le-mul_left t few in
    let most : t * reads / s.len * s.len ≤ t * reads = div-mul-le_self (t * reads) s.len in
    let wide : reads_below s j true t ≤ reads_below s j false t + 1 = reads_below-more s j t laws.has known (omega arith) in
    let even : suc s.low * suc t ≤ (reads_below s j true t + 5) * s.len = laws.even.behind j t known h in
    let six : (reads_below s j true t + 5) * s.len ≤ (reads_below s j false t + 6) * s.len = mul-le-mul_right s.len (omega arith) in
    let scaled : t * reads / s.len * s.len < (reads_below s j false t + 6) * s.len = omega arith in
    let below : t * reads / s.len < reads_below s j false t + 6 = lt_of_mul _ _ s.len scaled in
    elim (cases_Bool (carries_more s j frame)) [
      | inl more ↦ rw more (omega (arith, reads_below-least s j t))
      | inr less ↦ rw less (omega arith)
    ]

brought-grows : (s : FrameShape) (j t : ℕ) (piece : FarPiece) → IsEven s → j < s.tribs → brought s j piece t ≤ brought s j piece (suc t)
brought-grows s j t Ones laws known = le-div (t * s.low / s.len) (suc t * s.low) s.len laws.frame.some_slots (omega (arith, div-mul-le_self (t * s.low) s.len))
brought-grows s j t (Frame frame) laws known = count-range_grows (λ slot. reads_from j (carries_more s j frame) (s.role slot)) t (suc t) (omega arith)

read_by-grows : (s : FrameShape) (count t : ℕ) → IsFrame s → arrived_in s count t ≤ arrived_in s count (suc t)
read_by-grows s count t frame = le-div (t * count / s.len) (suc t * count) s.len frame.some_slots (omega (arith, div-mul-le_self (t * count) s.len))

-- before slot t at least 6 fewer bits are held than the threshold says
pub fill-least : (s : FrameShape) (j : ℕ) (pieces : List FarPiece) (n t : ℕ) → IsEven s → j < s.tribs → t < s.len
    → threshold + read_by s j pieces n t ≤ start_fill s j pieces n + brought s j (piece_at pieces n) t + 6
fill-least s j pieces n t laws known h =
    omega (
      arith,
      (start_bounds s j pieces n laws known).0,
      brought-least s j t (reads s j pieces n) (piece_at pieces n) laws known (carried-most s (reads_more s j pieces n)) h,
    )

-- with the bit that arrives in slot t at most 4 more
pub fill-most : (s : FrameShape) (j : ℕ) (pieces : List FarPiece) (n t : ℕ) → IsEven s → j < s.tribs → t < s.len
    → start_fill s j pieces n + brought s j (piece_at pieces n) (suc t) ≤ threshold + read_by s j pieces n t + 4
fill-most s j pieces n t laws known h =
    omega (
      arith,
      (start_bounds s j pieces n laws known).1,
      brought-most s j t (reads s j pieces n) (piece_at pieces n) laws known (carried-least s (reads_more s j pieces n)) h,
    )

-- at a piece's end stands the next one's start
fill-end : (s : FrameShape) (j : ℕ) (pieces : List FarPiece) (n : ℕ) → IsEven s → fill_before s j pieces n s.len ≡ start_fill s j pieces (suc n)
fill-end s j pieces n laws =
    ap (λ k. start_fill s j pieces n + comes s j pieces n - k) (arrived_in-all s (reads s j pieces n) laws.frame) ∙ sym (start_fill-suc s j pieces n)

pub before-bounds : (s : FrameShape) (j : ℕ) (pieces : List FarPiece) (n t : ℕ) → IsEven s → j < s.tribs → t ≤ s.len
    → (threshold ≤ fill_before s j pieces n t + 6) × (fill_before s j pieces n t ≤ threshold + 4)
before-bounds s j pieces n t laws known h =
    elim (cases_lt t s.len) [
      | inl inside ↦ (
        omega (arith, fill-least s j pieces n t laws known inside),
        omega (arith, fill-most s j pieces n t laws known inside, brought-grows s j t (piece_at pieces n) laws known),
      )
      | inr end ↦
          let e : s.len ≡ t = omega arith in
          let next = start_bounds s j pieces (suc n) laws known in
          let is : fill_before s j pieces n s.len ≡ start_fill s j pieces (suc n) = fill-end s j pieces n laws in
          subst (λ t. (threshold ≤ fill_before s j pieces n t + 6) × (fill_before s j pieces n t ≤ threshold + 4)) e (omega (arith, is, next.0), omega (arith, is, next.1))
    ]

pub arrived-bounds : (s : FrameShape) (j : ℕ) (pieces : List FarPiece) (n t : ℕ) → IsEven s → j < s.tribs → t < s.len
    → (threshold ≤ fill_arrived s j pieces n t + 6) × (fill_arrived s j pieces n t ≤ threshold + 4)
arrived-bounds s j pieces n t laws known h = (
  omega (arith, fill-least s j pieces n t laws known h, brought-grows s j t (piece_at pieces n) laws known),
  omega (arith, fill-most s j pieces n t laws known h),
)

-- ---- over runs of pieces

-- over a run what comes, and the fill at its start, are what is read, and the fill at its end
pub run-balance : (s : FrameShape) (j : ℕ) (pieces : List FarPiece) (first run : ℕ) → IsEven s → j < s.tribs
    → start_fill s j pieces first + comes_over s j pieces first run ≡ start_fill s j pieces (first + run) + reads_over s j pieces first run
run-balance s j pieces first zero laws known = ap (λ n. start_fill s j pieces n + 0) (omega arith)
run-balance s j pieces first (suc run) laws known =
    let e : first + 1 + run ≡ first + suc run = omega arith in
    let rest = run-balance s j pieces (first + 1) run laws known in
    let next : first + 1 ≡ suc first = omega arith in
    let fill : ℕ = start_fill s j pieces first in
    let came' = came-is s j (piece_at pieces first) laws known in
    let one : start_fill s j pieces (first + 1) ≡ fill + comes s j pieces first - reads s j pieces first = ap (start_fill s j pieces) next ∙ start_fill-suc s j pieces first in
    let enough : reads s j pieces first ≤ fill + comes s j pieces first = enough_to_read s j pieces first laws known in
    let far : start_fill s j pieces (first + 1 + run) ≡ start_fill s j pieces (first + suc run) = ap (start_fill s j pieces) e in
    omega (
      arith,
      rest,
      one,
      enough,
      far,
      sum_by-cons (comes s j pieces) first (range_with_len (first + 1) run),
      sum_by-cons (reads s j pieces) first (range_with_len (first + 1) run),
    )
  where
    enough_to_read : (s : FrameShape) (j : ℕ) (pieces : List FarPiece) (n : ℕ) → IsEven s → j < s.tribs → reads s j pieces n ≤ start_fill s j pieces n + comes s j pieces n
    enough_to_read s j pieces n laws known =
        let came' = came-is s j (piece_at pieces n) laws known in
        omega (arith, (start_bounds s j pieces n laws known).0, came'.1, carried-least s came'.0, carried-most s (reads_more s j pieces n))

reads_over-least : (s : FrameShape) (j : ℕ) (pieces : List FarPiece) (first run : ℕ) → s.low * run ≤ reads_over s j pieces first run
reads_over-least s j pieces first zero = omega arith
reads_over-least s j pieces first (suc run) =
    omega (arith, sum_by-cons (reads s j pieces) first (range_with_len (first + 1) run), carried-least s (reads_more s j pieces first), reads_over-least s j pieces (first + 1) run)

reads_over-most : (s : FrameShape) (j : ℕ) (pieces : List FarPiece) (first run : ℕ) → reads_over s j pieces first run ≤ suc s.low * run
reads_over-most s j pieces first zero = omega arith
reads_over-most s j pieces first (suc run) =
    omega (arith, sum_by-cons (reads s j pieces) first (range_with_len (first + 1) run), carried-most s (reads_more s j pieces first), reads_over-most s j pieces (first + 1) run)

pub run-bounds : (s : FrameShape) (j : ℕ) (pieces : List FarPiece) (first run : ℕ) → IsEven s → j < s.tribs
    → (s.low * run ≤ reads_over s j pieces first run) × (reads_over s j pieces first run ≤ suc s.low * run)
    × (reads_over s j pieces first run ≤ comes_over s j pieces first run + 1) × (comes_over s j pieces first run ≤ reads_over s j pieces first run + 1)
run-bounds s j pieces first run laws known =
    let balance = run-balance s j pieces first run laws known in
    let begins = start_bounds s j pieces first laws known in
    let ends = start_bounds s j pieces (first + run) laws known in (
      reads_over-least s j pieces first run,
      reads_over-most s j pieces first run,
      omega (arith, balance, begins.1, ends.0),
      omega (arith, balance, begins.0, ends.1),
    )
