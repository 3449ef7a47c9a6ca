-- Schedules of a chain's levels, as the definitions of its line see them: the frames that nodes begin, what leaves enter, and
-- counts that fit.
use Rattle.std.proofs.Common.{◌≡◌, ℕ, zero, suc, ◌+◌, ◌-◌, ◌*◌, ◌/◌, ◌%◌, ◌<◌, ◌≤◌, ◌^◌, eqb, false, List, [], ◌∷◌, ◌++◌, All, length, get_or, is_some, ap, sym, ◌∙◌, subst, inl, inr, arith, append-nil, append_assoc, suc-mul, None}
use Rattle.std.specs.Option.{option_map_or}
use Rattle.std.proofs.lemmas.Bool.{cases_Bool}
use Rattle.std.proofs.lemmas.List.{get_or_default}
use Rattle.std.proofs.lemmas.List.Sums.{count_by-le-length}
use Rattle.std.proofs.lemmas.List.FromFn.{length-range_with_len}
use Rattle.std.proofs.Math.Nat.{div-mul-le_self, mul-le-mul, mul-le-mul_left}
use Rattle.pdh_shape.specs.OwnNumbers.{lead, most_frames, most_slots}
use Rattle.pdh_shape.specs.Frame.{FrameShape, slots}
use Rattle.pdh_shape.specs.Tributary.{HasTributaries, reads_from}
use Rattle.pdh_shape.specs.declared.place.Level.{Level}
use Rattle.pdh_line.specs.Progress.{FrameNumbers, arrived, entered_by}
use Rattle.pdh_line.specs.Nodes.{nodes_of, child, Counts, begun_at, entered_at, top_len as top_len_of}
use Rattle.pdh_line.specs.Sending.{HasStores, shape_numbers, begun, given, entered}
use Rattle.pdh_line.proofs.SendingLaws.{arrived-zero, arrived-suc, entered-stores, entered-locked}
use Rattle.pdh_line.proofs.LeafNumbers.{leaf-tributary, leaf-below}
use Rattle.pdh_levels.specs.Levels.{numbers_of as numbers_in, nodes_in, level_at, len_at}
use Rattle.pdh_levels.proofs.LevelLaws.{step_is}
use Rattle.pdh_nesting.specs.Chains.{numbers_of, width, top_len, AreFrames}
use Rattle.pdh_nesting.specs.Sending.{entered_below, AllScheduled, ArriveSingly}
use Rattle.pdh_nesting.proofs.Nodes.{given-entered_by}
use Rattle.pdh_nesting.proofs.Scheduled.{scheduled-top, scheduled-below}
use Rattle.pdh_clock.specs.Row.{Row}
use Rattle.pdh_clock.specs.Contents.{Contents, IsRowOf, counts, frame_count}
use Rattle.pdh_clock.specs.Begun.{frames_begun, shortage, bits_entered}
use Rattle.pdh_clock.proofs.Begins.{none_short}
use Rattle.pdh_clock.proofs.Laws.{counts_most}
use Rattle.pdh_chain.specs.Chains.{shapes_of, levels_of, leaves_of}
use Rattle.pdh_chain.specs.Trees.{AreLevelsOf}
use Rattle.pdh_chain.specs.Muxes.{LacksFrames, LacksBelow}
use Rattle.pdh_chain.specs.declared.chain.Chain.{Chain}
use Rattle.pdh_chain.proofs.ChainLaws.{are_frames, are_levels_of, few_shapes}
use Rattle.pdh_chain.proofs.LevelNumbers.{EachLevelOf, each_level, same_nodes, same_begun, same_entered}
use Rattle.pdh_chain.proofs.SenderStops.{begun-grows, given-more}

-- ---- frames

-- each node of so many frames of the top has the frames that it begins, by the numbers of its chain
abbrev EachScheduled : List FrameNumbers → List Row → ℕ → Type 0
EachScheduled numbers rows n = All (λ steps. begun_at numbers (counts rows) [] (n * top_len_of numbers) steps ≤ frame_count rows steps) (nodes_of numbers)

each_scheduled : (schedule : Contents) (n : ℕ) → shortage schedule n ≡ None → EachScheduled (numbers_in schedule.levels) schedule.rows n
unfolding frames_begun
each_scheduled schedule n none k d h =
    subst (λ p. begun_at (numbers_in schedule.levels) (counts schedule.rows) [] (n * top_len_of (numbers_in schedule.levels)) p ≤ frame_count schedule.rows p)
    (get_or_default (nodes_in schedule.levels) k [] d h)
    (none_short schedule n (suc k) (ap is_some none) k (omega arith) h)

-- a schedule in which no node is short has all frames that the line begins
pub all_scheduled : (shapes : List FrameShape) (schedule : Contents) (n : ℕ) → AreLevelsOf shapes schedule.levels → shortage schedule n ≡ None
    → AllScheduled shapes (counts schedule.rows) (frame_count schedule.rows) [] (n * top_len shapes)
all_scheduled shapes schedule n are none k d h =
    let rows : List Row = schedule.rows in
    let steps : List ℕ = get_or (nodes_of (numbers_of shapes)) k d in
    let there : List ℕ = get_or (nodes_in schedule.levels) k d in
    let nodes : nodes_of (numbers_of shapes) ≡ nodes_in schedule.levels = same_nodes shapes schedule.levels are in
    let same : steps ≡ there = ap (λ ns. get_or ns k d) nodes in
    let inside : k < length (nodes_in schedule.levels) = subst (λ (ns : List (List ℕ)). k < length ns) nodes h in
    subst (λ x. x ≤ frame_count rows steps) (sym (same_begun shapes schedule.levels are (counts rows) n steps))
    (subst (λ p. begun_at (numbers_in schedule.levels) (counts rows) [] (n * top_len_of (numbers_in schedule.levels)) p ≤ frame_count rows p) (sym same) (each_scheduled schedule n none k d inside))

-- where each node has the frames that it begins, none lacks one
pub none_lacks : (shapes : List FrameShape) (counts : Counts) (scheduled : List ℕ → ℕ) (path : List ℕ) (x : ℕ) (node : List ℕ) → AllScheduled shapes counts scheduled path x → LacksFrames shapes counts scheduled path x node → ⊥
unfolding LacksFrames
none_lacks [] counts scheduled path x node all lacks = lacks
none_lacks (s ∷ below) counts scheduled path x node all lacks = elim lacks [
  | inl here ↦ omega (arith, here.1, scheduled-top s below counts scheduled path x all)
  | inr there ↦ none_lacks below counts scheduled (child path there.0) (given s there.0 (counts path there.0) x) node (scheduled-below s below counts scheduled path x there.0 there.1 all) there.2
]

pub none_lacks_below : (shapes : List FrameShape) (counts : Counts) (scheduled : List ℕ → ℕ) (x : ℕ) (node : List ℕ) → AllScheduled shapes counts scheduled [] x → LacksBelow shapes counts scheduled x node → ⊥
none_lacks_below [] counts scheduled x node all lacks = lacks
none_lacks_below (s ∷ below) counts scheduled x node all lacks =
    none_lacks below counts scheduled (child [] lacks.0) (given s lacks.0 (counts [] lacks.0) x) node (scheduled-below s below counts scheduled [] x lacks.0 lacks.1 all) lacks.2

-- a node that made fewer bits begins no more frames
begun_at-grows : (shapes : List FrameShape) (counts : Counts) (path : List ℕ) (x y : ℕ) (steps : List ℕ) → AreFrames shapes → x ≤ y
    → begun_at (numbers_of shapes) counts path x steps ≤ begun_at (numbers_of shapes) counts path y steps
begun_at-grows [] counts path x y steps are h = omega arith
begun_at-grows (s ∷ below) counts path x y [] are h = begun-grows s x y are.0 h
begun_at-grows (s ∷ below) counts path x y (step ∷ steps) are h =
    begun_at-grows below counts (path ++ step ∷ []) (given s (step - 1) (counts path (step - 1)) x) (given s (step - 1) (counts path (step - 1)) y) steps are.2
    (given-more s (step - 1) (counts path (step - 1)) x y are.0 are.1 h)

pub scheduled-fewer : (shapes : List FrameShape) (counts : Counts) (frames : List ℕ → ℕ) (path : List ℕ) (x y : ℕ) → AreFrames shapes → x ≤ y
    → AllScheduled shapes counts frames path y → AllScheduled shapes counts frames path x
scheduled-fewer shapes counts frames path x y are h enough k d inside =
    let steps : List ℕ = get_or (nodes_of (numbers_of shapes)) k d in
    omega (arith, begun_at-grows shapes counts path x y steps are h, enough k d inside)

-- ---- counts that fit

-- where no count is above the bits of its frame, at most one bit arrives in a slot
singly : (shapes : List FrameShape) (levels : List Level) (counts : Counts) (path : List ℕ) (x : ℕ) → EachLevelOf shapes levels
    → ((steps : List ℕ) (j n : ℕ) → counts (path ++ steps) j n ≤ len_at levels steps) → ArriveSingly shapes counts path x
unfolding ArriveSingly
singly [] levels counts path x are fit = tt
singly (s ∷ below) [] counts path x are fit = absurd are
singly (s ∷ below) (level ∷ levels) counts path x are fit =
    let len : level.len ≡ s.len = are.0.len in
    let tribs : level.tribs ≡ s.tribs = are.0.tribs in
    λ j known. (
      (λ stores n h. subst (λ len. counts path j n ≤ len) len (subst (λ p. counts p j n ≤ level.len) (append-nil path) (fit [] j n))),
      singly below levels counts (child path j) (given s j (counts path j) x) are.1
          (λ steps i n.
          let at : level_at (level ∷ levels) (suc j ∷ steps) ≡ level_at levels steps = step_is level levels j steps (subst (λ n. j < n) (sym tribs) known) in
          let lens : len_at (level ∷ levels) (suc j ∷ steps) ≡ len_at levels steps = ap (λ o. option_map_or (λ l. l.len) o 0) at in
          subst (λ p. counts p i n ≤ len_at levels steps) (sym (append_assoc path (suc j ∷ []) steps)) (subst (λ len. counts (path ++ suc j ∷ steps) i n ≤ len) lens (fit (suc j ∷ steps) i n))),
    )

pub arrive_singly : (chain : Chain) (rows : List Row) (x : ℕ) → All (IsRowOf (levels_of chain)) rows → ArriveSingly (shapes_of chain) (counts rows) [] x
arrive_singly chain rows x sound = singly (shapes_of chain) (levels_of chain) (counts rows) [] x (each_level (shapes_of chain) (levels_of chain) (are_levels_of chain)) (λ steps j n. counts_most (levels_of chain) rows steps j n sound)

-- ---- how many bits a leaf enters

arrived-fits : (counts : ℕ → ℕ) (len n : ℕ) → ((m : ℕ) → m < n → counts m ≤ len) → arrived counts n ≤ n * len
arrived-fits counts len zero fit = omega (arith, arrived-zero counts)
arrived-fits counts len (suc n) fit = omega (arith, arrived-fits counts len n (λ m h. fit m (omega arith)), fit n (omega arith), suc-mul n len, arrived-suc counts n)

entered-fits : (counts : ℕ → ℕ) (len n : ℕ) → ((m : ℕ) → m < n → counts m ≤ len) → entered counts n ≤ n * len + lead
entered-fits counts len n fit = elim (cases_Bool (eqb n 0)) [
  | inl none ↦ rw none (omega arith)
  | inr some ↦ rw some (omega (arith, arrived-fits counts len n fit))
]

begun-bits : (s : FrameShape) (x : ℕ) → begun s x * s.len ≤ x + s.len
begun-bits s x = elim (cases_Bool (eqb (x % s.len) 0)) [
  | inl even ↦ rw even (omega (arith, div-mul-le_self x s.len))
  | inr odd ↦ rw odd (omega (arith, suc-mul (x / s.len) s.len, div-mul-le_self x s.len))
]

-- a node takes at most a frame and the lead more than its line has bits: with stores,
node-fits : (s : FrameShape) (counts : ℕ → ℕ) (x : ℕ) → ((n : ℕ) → n < begun s x → counts n ≤ s.len) → entered counts (begun s x) ≤ x + (s.len + lead)
node-fits s counts x fit = omega (arith, entered-fits counts s.len (begun s x) fit, begun-bits s x)

-- and without
low-fits : (s : FrameShape) (j : ℕ) → HasTributaries s → j < s.tribs → s.low ≤ s.len
low-fits s j has known = omega (arith, has.low j known, count_by-le-length (λ slot. reads_from j false (s.role slot)) (slots s), length-range_with_len 0 s.len)

takes-fits : (s : FrameShape) (j : ℕ) (counts : ℕ → ℕ) (x : ℕ) → HasTributaries s → j < s.tribs → (HasStores s → (n : ℕ) → n < begun s x → counts n ≤ s.len) → entered_by (shape_numbers s) counts (begun s x) ≤ x + (s.len + lead)
takes-fits s j counts x has known fit = elim (cases_Bool (eqb s.copies 0)) [
  | inl locked ↦ omega (arith, entered-locked s counts (begun s x) locked, mul-le-mul_left (begun s x) (low-fits s j has known), begun-bits s x)
  | inr stores ↦ omega (arith, entered-stores s counts (begun s x) stores, node-fits s counts x (fit stores))
]

-- so a leaf enters at most a frame and the lead of each level more than the top's line has bits
abbrev excess : List FrameShape → ℕ
excess [] = 0
excess (s ∷ below) = s.len + lead + excess below

entered-most : (shapes : List FrameShape) (counts : Counts) (path : List ℕ) (x k : ℕ) → AreFrames shapes → ArriveSingly shapes counts path x → k < width shapes
    → entered_below shapes counts path x k ≤ x + excess shapes
unfolding entered_at ArriveSingly
entered-most [] counts path x k are fit h = omega arith
entered-most (s ∷ []) counts path x k are fit h =
    let known : k < s.tribs = omega arith in
    omega (arith, takes-fits s k (counts path k) x are.1 known (fit k known).0)
entered-most (s ∷ t ∷ below) counts path x k are fit h =
    let w : ℕ = width (t ∷ below) in
    let j : ℕ = k / w in
    let known : j < s.tribs = leaf-tributary s.tribs w k h in
    omega (
      arith,
      entered-most (t ∷ below) counts (child path j) (given s j (counts path j) x) (k % w) are.2 (fit j known).1 (leaf-below s.tribs w k h),
      given-entered_by s j (counts path j) x are.0 are.1,
      takes-fits s j (counts path j) x are.1 known (fit j known).0,
    )

excess-few : (shapes : List FrameShape) → AreFrames shapes → excess shapes ≤ length shapes * (most_slots + lead)
excess-few [] are = omega arith
excess-few (s ∷ below) are = let few = are.0.few_slots in omega (arith, excess-few below are.2, suc-mul (length below) (most_slots + lead))

top_len-few : (shapes : List FrameShape) → AreFrames shapes → top_len shapes ≤ most_slots
top_len-few [] are = omega arith
top_len-few (s ∷ below) are = are.0.few_slots

few_bits : (chain : Chain) (n : ℕ) → n ≤ most_frames → n * top_len (shapes_of chain) + excess (shapes_of chain) < 2 ^ 32
few_bits chain n few =
    let levels : length (shapes_of chain) ≤ 3 = few_shapes chain in
    let top : n * top_len (shapes_of chain) ≤ most_frames * most_slots = mul-le-mul few (top_len-few (shapes_of chain) (are_frames chain)) in
    let rest : excess (shapes_of chain) ≤ length (shapes_of chain) * (most_slots + lead) = excess-few (shapes_of chain) (are_frames chain) in
    omega arith

-- of so many frames of a chain's line that is few bits,
pub entered_small : (chain : Chain) (rows : List Row) (n k : ℕ) → All (IsRowOf (levels_of chain)) rows → n ≤ most_frames → k < leaves_of chain → entered_below (shapes_of chain) (counts rows) [] (n * top_len (shapes_of chain)) k < 2 ^ 32
entered_small chain rows n k sound few h =
    let x : ℕ = n * top_len (shapes_of chain) in
    omega (
      arith,
      entered-most (shapes_of chain) (counts rows) [] x k (are_frames chain) (arrive_singly chain rows x sound) h,
      few_bits chain n few,
    )

-- and what the schedule answers
pub entered_is : (chain : Chain) (schedule : Contents) (frames k : ℕ) → schedule.levels ≡ levels_of chain → bits_entered schedule frames k ≡ entered_below (shapes_of chain) (counts schedule.rows) [] (frames * top_len (shapes_of chain)) k
entered_is chain schedule frames k levels =
    let enters : List FrameNumbers → ℕ = λ numbers. entered_at numbers (counts schedule.rows) [] (frames * top_len_of numbers) k in
    ap (λ ls. enters (numbers_in ls)) levels ∙ sym (same_entered (shapes_of chain) (levels_of chain) (are_levels_of chain) (counts schedule.rows) frames k)
