-- The nodes of a made schedule, from the top down.
use Rattle.std.proofs.Common.{◌≡◌, ℕ, zero, suc, ◌+◌, ◌-◌, ◌*◌, ◌/◌, ◌%◌, ◌<◌, ◌≤◌, ◌==◌, ◌&&◌, nat_le, true, cond, List, [], ◌∷◌, ◌++◌, length, get_or, Some, None, is_some, IsSome, All, inl, inr, refl, ap, sym, ◌∙◌, subst, arith, append_assoc, append-nil, slice_index}
use Rattle.std.specs.List.{slice_index_or}
use Rattle.std.proofs.lemmas.Bool.{cases_Bool, eqb-true, eqb-false, le-leb, false≢true}
use Rattle.std.proofs.lemmas.Nat.{mod_below}
use Rattle.std.proofs.lemmas.List.Elements.{All-get_or, All-head, All-tail}
use Rattle.std.proofs.Math.Nat.{mul-le-mul_left, mul-le-mul_right, div-mul-le_self}
use Rattle.pdh_shape.specs.declared.place.Level.{Level}
use Rattle.pdh_line.specs.Progress.{arrived, begun_by, came_by, by_stores}
use Rattle.pdh_line.specs.Progress.Stores.{Elastic, Locked}
use Rattle.pdh_shape.specs.OwnNumbers.{lead, most_frames}
use Rattle.pdh_line.proofs.SendingLaws.{arrived-suc}
use Rattle.pdh_clock.specs.declared.bias.Bias.{Bias}
use Rattle.pdh_clock.specs.declared.bias.Offset.{Offset}
use Rattle.pdh_clock.specs.declared.tree.Tree.{Tree}
use Rattle.pdh_clock.specs.Row.{Row}
use Rattle.pdh_levels.specs.Levels.{longest_frame, IsLevel, AreLevels, nodes_in, level_at, place_of, level_numbers, level_stores}
use Rattle.pdh_clock.specs.Contents.{frames_of, frame_count, counts}
use Rattle.pdh_clock.specs.Begun.{taken, bits_from, bits_made, top_len, frames_begun, NoneShort}
use Rattle.pdh_clock.specs.Made.{IsRated, offset_of, tributary_offset, made_count, made_frames, made_from, made, most_made}
use Rattle.pdh_clock.specs.Making.{AreMade, line_from, line_at}
use Rattle.pdh_clock.specs.Stored.{contents_of, rows_in}
use Rattle.pdh_clock.proofs.Laws.{arrived_most}
use Rattle.pdh_levels.proofs.NodeOrder.{is_below, placed, node_place, nodes_known}
use Rattle.pdh_levels.proofs.LevelLaws.{has_level, level_in, level_is, level_stores_is}
use Rattle.pdh_clock.proofs.Begins.{level_below, begun_by-le, whole_frames-begun, frame_begun, part_small, frames_begun_is}
use Rattle.pdh_clock.proofs.MadeRows.{made_count-most, length-made_frames, counts-made}

-- ---- a node by its path

-- how many bits the node makes to which the path leads
abbrev made_bits : List Level → Bias → Offset → ℕ → List ℕ → ℕ
made_bits levels bias line x [] = x
made_bits [] bias line x (step ∷ path) = 0
made_bits (level ∷ below) bias line x (step ∷ path) =
    let trib = tributary_offset level bias (length below) line step in
    made_bits below bias trib (taken level (step - 1) (made_count level line trib) x) path

-- how many levels of nodes there are below it
abbrev pub height_of : List Level → List ℕ → ℕ
height_of levels path = length levels - suc (length path)

inside_step : (level : Level) (below : List Level) (step : ℕ) (path : List ℕ) → IsSome (level_at (level ∷ below) (step ∷ path))
    → (nat_le 1 step && nat_le step level.tribs) ≡ true
inside_step level below step path some =
    let is = is_below level below step path some in
    rw (le-leb 1 step is.low, le-leb step level.tribs is.high) refl

made_from_is : (levels : List Level) (bias : Bias) (line : Offset) (x : ℕ) (path : List ℕ) (level : Level) → level_at levels path ≡ Some level
    → made_from levels bias line x path
    ≡ made_frames level bias (height_of levels path) (line_from levels bias line path) (begun_by level.len (made_bits levels bias line x path))
made_from_is [] bias line x path level is = cc
made_from_is (first ∷ below) bias line x [] level is =
    let same : first ≡ level = cc in
    let height : length below ≡ suc (length below) - 1 = omega arith in
    ap (λ (l : Level). made_frames l bias (length below) line (begun_by l.len x)) same
    ∙ ap (λ h. made_frames level bias h line (begun_by level.len x)) height
made_from_is (first ∷ below) bias line x (step ∷ path) level is =
    let trib = tributary_offset first bias (length below) line step in
    let next = taken first (step - 1) (made_count first line trib) x in
    let height : length below - suc (length path) ≡ suc (length below) - suc (suc (length path)) = omega arith in
    ap (λ b. cond b (made_from below bias trib next path) []) (inside_step first below step path (ap is_some is))
    ∙ made_from_is below bias trib next path level (level_below first below step path level is)
    ∙ ap (λ h. made_frames level bias h (line_from below bias trib path) (begun_by level.len (made_bits below bias trib next path))) height

-- the offsets on the way from the top to a node
pub line_of_first : (levels : List Level) (bias : Bias) (d : Level) (height step : ℕ) → height ≡ length levels - 1 → 1 < length levels
    → tributary_offset (get_or levels 0 d) bias height (offset_of bias (length levels) 1) step ≡ line_at levels bias (step ∷ [])
line_of_first [] bias d height step same more = absurd (omega arith)
line_of_first (level ∷ below) bias d height step same more =
    let rest : height ≡ length below = omega arith in
    ap (λ h. tributary_offset level bias h (offset_of bias (length (level ∷ below)) 1) step) rest

pub line_of_second : (levels : List Level) (bias : Bias) (d : Level) (line : Offset) (height first second : ℕ) → height ≡ length levels - 2 → 2 < length levels
    → line ≡ line_at levels bias (first ∷ []) → tributary_offset (get_or levels 1 d) bias height line second ≡ line_at levels bias (first ∷ second ∷ [])
line_of_second [] bias d line height first second same more is = absurd (omega arith)
line_of_second (level ∷ []) bias d line height first second same more is = absurd (omega arith)
line_of_second (level ∷ next ∷ below) bias d line height first second same more is =
    let rest : height ≡ length below = omega arith in
    ap (λ h. tributary_offset next bias h line second) rest ∙ ap (λ line. tributary_offset next bias (length below) line second) is

-- the bits of a node of the whole schedule
abbrev pub bits_of_made : List Level → Bias → ℕ → List ℕ → ℕ
bits_of_made levels bias frames path = made_bits levels bias (offset_of bias (length levels) 1) (frames * top_len levels) path

pub made_is : (levels : List Level) (bias : Bias) (frames : ℕ) (path : List ℕ) (level : Level) → level_at levels path ≡ Some level
    → made levels bias frames path
    ≡ made_frames level bias (height_of levels path) (line_at levels bias path) (begun_by level.len (bits_of_made levels bias frames path))
unfolding made
made_is levels bias frames path level is =
    made_from_is levels bias (offset_of bias (length levels) 1) (frames * top_len levels) path level is

made_from_none : (levels : List Level) (bias : Bias) (line : Offset) (x : ℕ) (path : List ℕ) → level_at levels path ≡ None → made_from levels bias line x path ≡ []
made_from_none [] bias line x path none = refl
made_from_none (level ∷ below) bias line x [] none = cc
made_from_none (level ∷ below) bias line x (step ∷ path) none =
    let trib = tributary_offset level bias (length below) line step in
    let next = taken level (step - 1) (made_count level line trib) x in
    elim (cases_Bool (nat_le 1 step && nat_le step level.tribs)) [
      | inl is ↦ rw is (made_from_none below bias trib next path (sym (ap (λ b. cond b (level_at below path) None) is) ∙ none))
      | inr isnt ↦ rw isnt refl
    ]

pub made_none : (levels : List Level) (bias : Bias) (frames : ℕ) (path : List ℕ) → level_at levels path ≡ None → made levels bias frames path ≡ []
unfolding made
made_none levels bias frames path none = made_from_none levels bias (offset_of bias (length levels) 1) (frames * top_len levels) path none

-- ---- what is taken

arrived-same : (f g : ℕ → ℕ) (n : ℕ) → ((k : ℕ) → k < n → f k ≡ g k) → arrived f n ≡ arrived g n
unfolding arrived
arrived-same f g zero same = refl
arrived-same f g (suc n) same =
    omega (arith, arrived-suc f n, arrived-suc g n, arrived-same f g n (λ k l. same k (omega arith)), same n (omega arith))

-- what is taken depends on the frames that are begun
taken-same : (level : Level) (j : ℕ) (f g : ℕ → ℕ) (x : ℕ) → ((k : ℕ) → k < begun_by level.len x → f k ≡ g k) → taken level j f x ≡ taken level j g x
taken-same level j f g x same =
    let n = x / level.len in
    let before : arrived f n ≡ arrived g n = arrived-same f g n (λ k l. same k (let whole = whole_frames-begun level.len x in omega arith)) in
    let part : x % level.len * f n / level.len ≡ x % level.len * g n / level.len = elim (cases_Bool (x % level.len == 0)) [
      | inl is ↦
          let none : x % level.len ≡ 0 = eqb-true (x % level.len) 0 is in
          let left : 0 * f n ≡ 0 = omega arith in
          let right : 0 * g n ≡ 0 = omega arith in
          ap (λ r. r * f n / level.len) none ∙ ap (λ p. p / level.len) (left ∙ sym right) ∙ ap (λ r. r * g n / level.len) (sym none)
      | inr isnt ↦ ap (λ c. x % level.len * c / level.len) (same n (frame_begun level.len x (eqb-false (x % level.len) 0 isnt)))
    ] in
    let came : came_by level.len f n (x % level.len) ≡ came_by level.len g n (x % level.len) =
    ap (λ a. lead + a + x % level.len * f n / level.len) before ∙ ap (λ p. lead + arrived g n + p) part in
    ap (λ c. by_stores (level_numbers level).stores (cond (x == 0) 0 c) (λ reads. n * level.low + reads j (x % level.len))) came

-- and without stores on the bits alone
taken-locked : (level : Level) (j : ℕ) (f g : ℕ → ℕ) (x : ℕ) → level.locked ≡ true → taken level j f x ≡ taken level j g x
taken-locked level j f g x locked = locked_takes f ∙ sym (locked_takes g)
  where
    locked_takes : (f : ℕ → ℕ) → taken level j f x ≡ x / level.len * level.low + 0
    locked_takes f = ap (λ b. by_stores (cond b (Locked (λ j t. 0)) Elastic) (cond (x == 0) 0 (came_by level.len f (x / level.len) (x % level.len)))
        (λ reads. x / level.len * level.low + reads j (x % level.len))) locked

-- the bits of a made node are those that the rows say, where the nodes above it have the made frames
bits_agree : (rows : List Row) (levels : List Level) (from : List ℕ) (bias : Bias) (line : Offset) (x : ℕ) (path : List ℕ) → IsSome (level_at levels path)
    → ((above : List ℕ) (step : ℕ) (rest : List ℕ) → above ++ step ∷ rest ≡ path → frames_of rows (from ++ above) ≡ made_from levels bias line x above)
    → bits_from rows levels from x path ≡ made_bits levels bias line x path
bits_agree rows levels from bias line x [] some each = refl
bits_agree rows [] from bias line x (step ∷ path) some each = refl
bits_agree rows (level ∷ below) from bias line x (step ∷ path) some each =
    let is = is_below level below step path some in
    let trib = tributary_offset level bias (length below) line step in
    let here : frames_of rows from ≡ made_frames level bias (length below) line (begun_by level.len x) =
    ap (frames_of rows) (sym (append-nil from)) ∙ each [] step path refl in
    let same : taken level (step - 1) (counts rows from (step - 1)) x ≡ taken level (step - 1) (made_count level line trib) x = elim (cases_Bool level.locked) [
      | inl locked ↦ taken-locked level (step - 1) (counts rows from (step - 1)) (made_count level line trib) x locked
      | inr elastic ↦ taken-same level (step - 1) (counts rows from (step - 1)) (made_count level line trib) x (λ k l.
          let number : suc (step - 1) ≡ step = (let low = is.low in omega arith) in
          let store : step - 1 < level_stores level = (let low = is.low in let high = is.high in omega (arith, level_stores_is level elastic)) in
          ap (λ frames. slice_index (slice_index_or frames k []) (step - 1)) here
          ∙ counts-made level bias (length below) line (begun_by level.len x) (step - 1) k l store
          ∙ ap (λ n. made_count level line (tributary_offset level bias (length below) line n) k) number)
    ] in
    ap (λ y. bits_from rows below (from ++ step ∷ []) y path) same
    ∙ bits_agree rows below (from ++ step ∷ []) bias trib (taken level (step - 1) (made_count level line trib) x) path is.rest (λ above next rest at.
    ap (frames_of rows) (append_assoc from (step ∷ []) above) ∙ each (step ∷ above) next rest (ap (λ p. step ∷ p) at)
    ∙ above_inside level below bias line x step above next rest path some at)
  where
    above_inside : (level : Level) (below : List Level) (bias : Bias) (line : Offset) (x step : ℕ) (above : List ℕ) (next : ℕ) (rest path : List ℕ)
        → IsSome (level_at (level ∷ below) (step ∷ path)) → above ++ next ∷ rest ≡ path
        → made_from (level ∷ below) bias line x (step ∷ above)
        ≡ made_from below bias (tributary_offset level bias (length below) line step) (taken level (step - 1) (made_count level line (tributary_offset level bias (length below) line step)) x) above
    above_inside level below bias line x step above next rest path some at =
        ap (λ b. cond b (made_from below bias (tributary_offset level bias (length below) line step) (taken level (step - 1) (made_count level line (tributary_offset level bias (length below) line step)) x) above) [])
        (inside_step level below step path some)

-- a node above another stands before it
record IsAbove (levels : List Level) (above path : List ℕ) : Type 0 where
  known : IsSome (level_at levels above)
  before : place_of levels above < place_of levels path

above_is : (levels : List Level) (above : List ℕ) (step : ℕ) (rest : List ℕ) → IsSome (level_at levels (above ++ step ∷ rest)) → IsAbove levels above (above ++ step ∷ rest)
above_is [] above step rest some = absurd (none (above ++ step ∷ rest) some)
  where
    none : (path : List ℕ) → IsSome (level_at [] path) → ⊥
    none path some = false≢true some
above_is (level ∷ below) [] step rest some = record { known = refl; before = omega arith }
above_is (level ∷ below) (number ∷ above) step rest some =
    let is = is_below level below number (above ++ step ∷ rest) some in
    let further = above_is below above step rest is.rest in
    let before = further.before in
    record {
      known = subst (λ b. IsSome (cond b (level_at below above) None)) (sym (inside_step level below number (above ++ step ∷ rest) some)) further.known;
      before = omega arith;
    }

-- ---- trees whose first nodes are made

-- the frames at a path whose node is made
pub made_at : (tree : Tree) (bias : Bias) (frames n : ℕ) (path : List ℕ) → AreMade tree bias frames n → IsSome (level_at tree.levels.items path)
    → place_of tree.levels.items path < n → frames_of (rows_in tree) path ≡ made tree.levels.items bias frames path
made_at tree bias frames n path h some before =
    let at = placed tree.levels.items path some in
    subst (λ p. frames_of (rows_in tree) p ≡ made tree.levels.items bias frames p) (at.node []) (h (place_of tree.levels.items path) before at.inside)

pub bits_made_is : (tree : Tree) (bias : Bias) (frames n : ℕ) (path : List ℕ) → AreMade tree bias frames n → IsSome (level_at tree.levels.items path)
    → place_of tree.levels.items path ≤ n → bits_made (contents_of tree) frames path ≡ bits_of_made tree.levels.items bias frames path
unfolding made
bits_made_is tree bias frames n path h some before =
    let levels = tree.levels.items in
    bits_agree (rows_in tree) levels [] bias (offset_of bias (length levels) 1) (frames * top_len levels) path some (λ above step rest at.
    let is = above_is levels above step rest (subst (λ p. IsSome (level_at levels p)) (sym at) some) in
    let first = is.before in
    let place : place_of levels (above ++ step ∷ rest) ≡ place_of levels path = ap (place_of levels) at in
    made_at tree bias frames n above h is.known (omega arith))

-- each node that is made begins as many frames as it has
pub begun_is_made : (tree : Tree) (bias : Bias) (frames n : ℕ) (path : List ℕ) (level : Level) → AreMade tree bias frames n → level_at tree.levels.items path ≡ Some level
    → place_of tree.levels.items path ≤ n → frames_begun (contents_of tree) frames path ≡ begun_by level.len (bits_of_made tree.levels.items bias frames path)
begun_is_made tree bias frames n path level h is before =
    frames_begun_is (contents_of tree) frames path level is ∙ ap (begun_by level.len) (bits_made_is tree bias frames n path h (ap is_some is) before)

pub made_count_is : (tree : Tree) (bias : Bias) (frames n : ℕ) (path : List ℕ) (level : Level) → AreMade tree bias frames n → level_at tree.levels.items path ≡ Some level
    → place_of tree.levels.items path < n → frame_count (rows_in tree) path ≡ begun_by level.len (bits_of_made tree.levels.items bias frames path)
made_count_is tree bias frames n path level h is before =
    ap length (made_at tree bias frames n path h (ap is_some is) before ∙ made_is tree.levels.items bias frames path level is)
    ∙ length-made_frames level bias (height_of tree.levels.items path) (line_at tree.levels.items bias path) (begun_by level.len (bits_of_made tree.levels.items bias frames path))

pub none_short_made : (tree : Tree) (bias : Bias) (frames n : ℕ) → AreMade tree bias frames n → NoneShort (contents_of tree) frames n
none_short_made tree bias frames n h = λ k before inside.
    let levels = tree.levels.items in
    let path = get_or (nodes_in levels) k [] in
    let has = has_level (level_at levels path) (All-get_or (λ path. IsSome (level_at levels path)) (nodes_in levels) k [] inside (nodes_known levels)) in
    let place = node_place levels k [] inside in
    let need = begun_is_made tree bias frames n path has.level h has.is (omega arith) in
    let have = made_count_is tree bias frames n path has.level h has.is (omega arith) in
    omega (arith, need, have)

-- ---- few frames

-- what the made counts bring in all
taken-few : (level : Level) (line trib : Offset) (j x : ℕ) → IsLevel level → IsRated level → taken level j (made_count level line trib) x ≤ x + (longest_frame + lead)
taken-few level line trib j x h rated =
    let n = x / level.len in
    let longest = h.longest in
    let shortest = h.shortest in
    let f = made_count level line trib in
    let whole : n * level.len ≤ x = div-mul-le_self x level.len in
    let before : arrived f n ≤ n * level.len = arrived_most f level.len (λ k. made_count-most level line trib k rated) n in
    let count : f n ≤ level.len = made_count-most level line trib n rated in
    let part : x % level.len * f n / level.len ≤ f n = part_small (x % level.len) (f n) level.len (mod_below x level.len (omega arith)) in
    let all : lead + arrived f n + x % level.len * f n / level.len ≤ x + (longest_frame + lead) = omega arith in
    elim (cases_Bool level.locked) [
      | inl locked ↦
          let low : n * level.low ≤ n * level.len = mul-le-mul_left n (omega (arith, h.carried locked)) in
          rw locked (omega (arith, low, whole))
      | inr elastic ↦ elim (cases_Bool (x == 0)) [
        | inl is ↦ rw (elastic, is) (omega arith)
        | inr isnt ↦ rw (elastic, isnt) all
      ]
    ]

made_bits-few : (levels : List Level) (bias : Bias) (line : Offset) (x : ℕ) (path : List ℕ) → All IsLevel levels → All IsRated levels
    → made_bits levels bias line x path ≤ x + (longest_frame + lead) * length path
made_bits-few levels bias line x [] each rated = omega arith
made_bits-few [] bias line x (step ∷ path) each rated = omega arith
made_bits-few (level ∷ below) bias line x (step ∷ path) each rated =
    let trib = tributary_offset level bias (length below) line step in
    let first = taken-few level line trib (step - 1) x (All-head IsLevel level below each) (All-head IsRated level below rated) in
    let rest = made_bits-few below bias trib (taken level (step - 1) (made_count level line trib) x) path (All-tail IsLevel level below each) (All-tail IsRated level below rated) in
    omega (arith, first, rest)

top_len-few : (levels : List Level) → All IsLevel levels → top_len levels ≤ longest_frame
top_len-few [] each = omega arith
top_len-few (level ∷ below) each = (All-head IsLevel level below each).longest

-- no node of a made schedule has many frames
pub made-few : (levels : List Level) (bias : Bias) (frames : ℕ) (path : List ℕ) (level : Level) → AreLevels levels → All IsRated levels → frames ≤ most_frames
    → level_at levels path ≡ Some level → begun_by level.len (bits_of_made levels bias frames path) ≤ most_made
made-few levels bias frames path level h rated few is =
    let bits = made_bits-few levels bias (offset_of bias (length levels) 1) (frames * top_len levels) path h.each rated in
    let top : frames * top_len levels ≤ most_frames * longest_frame = omega (arith, mul-le-mul_left frames (top_len-few levels h.each), mul-le-mul_right longest_frame few) in
    let inside = (level_in levels path level is).inside in
    let short = h.few in
    let shortest = (level_is levels path level h.each is).shortest in
    let room : most_made * 848 ≤ most_made * level.len = mul-le-mul_left most_made shortest in
    begun_by-le level.len (bits_of_made levels bias frames path) most_made (omega arith) (omega (arith, bits, top, room))
