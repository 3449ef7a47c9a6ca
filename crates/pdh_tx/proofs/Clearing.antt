-- What holds of the slots of a frame in whose way nothing stands.
use Rattle.std.proofs.Common.{◌≡◌, inl, inr, ℕ, zero, suc, ◌+◌, ◌<◌, ◌≤◌, Bool, true, false, not, ◌&&◌, cond, leb, List, [], ◌∷◌, ◌++◌, map, refl, sym, ap, ◌∙◌, subst, arith, Option, Some, None, slice_get}
use Rattle.std.specs.Prelude.{flat_map}
use Rattle.std.specs.List.{range_with_len}
use Rattle.std.proofs.lemmas.Bool.{cases_Bool, cases_lt, leb-false}
use Rattle.pdh_shape.specs.Frame.{FrameShape, IsFrame}
use Rattle.pdh_shape.specs.Tributary.{reads_from, reads_below}
use Rattle.pdh_shape.specs.declared.place.Path.{Path}
use Rattle.pdh_shape.specs.declared.place.Place.{Place}
use Rattle.pdh_shape.specs.OwnNumbers.{store_size}
use Rattle.pdh_line.specs.Edits.{Edit}
use Rattle.pdh_line.specs.Paths.{steps_of}
use Rattle.pdh_line.specs.Sending.{HasStores, Carriage, arrives_at, came_before}
use Rattle.pdh_line.specs.Events.{overflows, underflows}
use Rattle.pdh_line.proofs.SendingLaws.{came_before-suc, reads_below-suc}
use Rattle.pdh_tx.specs.declared.tx.TxStop.{TxStop}
use Rattle.pdh_tx.specs.declared.tx.TxStop.TheVariants.{Overflow, Underflow}
use Rattle.pdh_tx.specs.Meaning.{Meaning, Plan}
use Rattle.pdh_tx.specs.Held.{first_some, some_if, stops, slip_if, Readout, gone_with, put_with}
use Rattle.pdh_tx.specs.Slipping.{carriage_in, read_to, slips_over, slips_under, is_full, HasCome, HoldsMost}
use Rattle.pdh_tx.specs.Node.{place_at, obstacle_of, beginning, arrival_at, arrivals, reads, steps, slips_below, beginning_slips, arrival_slips, arrivals_slips, read_slips, slot_slips}
use Rattle.pdh_tx.proofs.Readouts.{overs, unders, over-off, under-off, calm-by}
use Rattle.pdh_tx.proofs.SlipSteps.{gone-more, put-more}

-- ---- nothing is there

pub none_left : {X : Type 0} (a b : List (Option X)) → first_some (a ++ b) ≡ None → first_some a ≡ None
none_left [] b h = refl
none_left (None ∷ a) b h = none_left a b h
none_left (Some x ∷ a) b h = absurd (cc h)

pub none_right : {X : Type 0} (a b : List (Option X)) → first_some (a ++ b) ≡ None → first_some b ≡ None
none_right [] b h = h
none_right (None ∷ a) b h = none_right a b h
none_right (Some x ∷ a) b h = absurd (cc h)

pub none_flat : {X : Type 0} (f : ℕ → List (Option X)) (a n j : ℕ) → first_some (flat_map f (range_with_len a n)) ≡ None → a ≤ j → j < a + n → first_some (f j) ≡ None
none_flat f a zero j h l m = absurd (omega arith)
none_flat f a (suc n) j h l m = elim (cases_lt a j) [
  | inl later ↦ none_flat f (a + 1) n j (none_right (f a) (flat_map f (range_with_len (a + 1) n)) h) (omega arith) (omega arith)
  | inr here ↦ let e : a ≡ j = omega arith in ap (λ k. first_some (f k)) (sym e) ∙ none_left (f a) (flat_map f (range_with_len (a + 1) n)) h
]

pub none_map : {X : Type 0} (f : ℕ → Option X) (a n j : ℕ) → first_some (map f (range_with_len a n)) ≡ None → a ≤ j → j < a + n → f j ≡ None
none_map f a zero j h l m = absurd (omega arith)
none_map {X = X} f a (suc n) j h l m = elim (cases_lt a j) [
  | inl later ↦ none_map f (a + 1) n j (rest (f a) h) (omega arith) (omega arith)
  | inr here ↦ let e : a ≡ j = omega arith in ap f (sym e) ∙ head (f a) h
]
  where
    head : (o : Option X) → first_some (o ∷ map f (range_with_len (a + 1) n)) ≡ None → o ≡ None
    head None h = refl
    head (Some x) h = absurd (cc h)

    rest : (o : Option X) → first_some (o ∷ map f (range_with_len (a + 1) n)) ≡ None → first_some (map f (range_with_len (a + 1) n)) ≡ None
    rest None h = h
    rest (Some x) h = absurd (cc h)

off : {X : Type 0} (b : Bool) (x : X) → some_if b x ≡ None → b ≡ false
off true x h = absurd (cc h)
off false x h = refl

head_none : {X : Type 0} (o p : Option X) → first_some (o ∷ p ∷ []) ≡ None → (o ≡ None) × (p ≡ None)
head_none None None h = (refl, refl)
head_none None (Some x) h = absurd (cc h)
head_none (Some x) p h = absurd (cc h)

nil_left : {X : Type 0} (a b : List X) → a ++ b ≡ [] → a ≡ []
nil_left [] b h = refl
nil_left (x ∷ a) b h = absurd (cc h)

nil_right : {X : Type 0} (a b : List X) → a ++ b ≡ [] → b ≡ []
nil_right [] b h = h
nil_right (x ∷ a) b h = absurd (cc h)

pub nil_flat : {X : Type 0} (f : ℕ → List X) (a n j : ℕ) → flat_map f (range_with_len a n) ≡ [] → a ≤ j → j < a + n → f j ≡ []
nil_flat f a zero j h l m = absurd (omega arith)
nil_flat f a (suc n) j h l m = elim (cases_lt a j) [
  | inl later ↦ nil_flat f (a + 1) n j (nil_right (f a) (flat_map f (range_with_len (a + 1) n)) h) (omega arith) (omega arith)
  | inr here ↦ let e : a ≡ j = omega arith in ap f (sym e) ∙ nil_left (f a) (flat_map f (range_with_len (a + 1) n)) h
]

no_slip_if : (b over : Bool) (place : Place) → slip_if b over place ≡ [] → b ≡ false
no_slip_if true over place h = absurd (cc h)
no_slip_if false over place h = refl

-- ---- one slot

module _ (s : FrameShape) (path : Path) (plan : Plan) (ms : List Meaning) (n t : ℕ) where
  -- ---- in whose way nothing stands

  module _ (size : ℕ → ℕ) (clear : first_some (steps s path plan ms size n t) ≡ None) where
    rest_clear : first_some (arrivals s path plan ms size n t ++ reads s path plan n t) ≡ None
    rest_clear = none_right (beginning s path plan ms size n t) (arrivals s path plan ms size n t ++ reads s path plan n t) clear

    pub beginning_clear : first_some (beginning s path plan ms size n t) ≡ None
    beginning_clear = none_left (beginning s path plan ms size n t) (arrivals s path plan ms size n t ++ reads s path plan n t) clear

    arrival_clear : (j : ℕ) → j < s.tribs → first_some (arrival_at s path plan ms size n t j) ≡ None
    arrival_clear j h = none_flat (arrival_at s path plan ms size n t) 0 s.tribs j (none_left (arrivals s path plan ms size n t) (reads s path plan n t) rest_clear) (omega arith) (omega arith)

    two_clear : (j : ℕ) → j < s.tribs → arrives_at s (plan.counts path j n) t ≡ true → (obstacle_of (slice_get ms j) plan size (came_before s (plan.counts path j) n t) ≡ None) × (some_if (stops plan.mode (overflows s j (plan.counts path j) n t)) (Overflow (place_at path j n t)) ≡ None)
    two_clear j h is =
        let o : Option TxStop = obstacle_of (slice_get ms j) plan size (came_before s (plan.counts path j) n t) in
        let q : Option TxStop = some_if (stops plan.mode (overflows s j (plan.counts path j) n t)) (Overflow (place_at path j n t)) in
        head_none o q (ap (λ b. first_some (cond b (o ∷ q ∷ []) [])) (sym is) ∙ arrival_clear j h)

    pub child_clear : (j : ℕ) (m : Meaning) → j < s.tribs → slice_get ms j ≡ Some m → arrives_at s (plan.counts path j n) t ≡ true → m.obstacle plan size (came_before s (plan.counts path j) n t) ≡ None
    child_clear j m h at is = ap (λ o. obstacle_of o plan size (came_before s (plan.counts path j) n t)) (sym at) ∙ (two_clear j h is).0

    no_overflow : (j : ℕ) → j < s.tribs → arrives_at s (plan.counts path j n) t ≡ true → stops plan.mode (overflows s j (plan.counts path j) n t) ≡ false
    no_overflow j h is = off (stops plan.mode (overflows s j (plan.counts path j) n t)) (Overflow (place_at path j n t)) (two_clear j h is).1

    no_underflow : (j : ℕ) → j < s.tribs → stops plan.mode (underflows s j (plan.counts path j) n t) ≡ false
    no_underflow j h =
        off (stops plan.mode (underflows s j (plan.counts path j) n t)) (Underflow (place_at path j n t))
        (none_map (λ j. some_if (stops plan.mode (underflows s j (plan.counts path j) n t)) (Underflow (place_at path j n t))) 0 s.tribs j (none_right (arrivals s path plan ms size n t) (reads s path plan n t) rest_clear) (omega arith) (omega arith))

  -- ---- and which brings no slip

  module _ (quiet : slot_slips s path plan ms n t ≡ []) where
    rest_quiet : arrivals_slips s path plan ms n t ++ read_slips s path plan n t ≡ []
    rest_quiet = nil_right (beginning_slips s plan ms n t) (arrivals_slips s path plan ms n t ++ read_slips s path plan n t) quiet

    pub beginning_quiet : beginning_slips s plan ms n t ≡ []
    beginning_quiet = nil_left (beginning_slips s plan ms n t) (arrivals_slips s path plan ms n t ++ read_slips s path plan n t) quiet

    both_quiet : (j : ℕ) → j < s.tribs → arrives_at s (plan.counts path j n) t ≡ true → slips_below (slice_get ms j) plan (came_before s (plan.counts path j) n t) ++ slip_if (slips_over s path plan n t j) true (place_at path j n t) ≡ []
    both_quiet j h is =
        ap (λ b. cond b (slips_below (slice_get ms j) plan (came_before s (plan.counts path j) n t) ++ slip_if (slips_over s path plan n t j) true (place_at path j n t)) []) (sym is)
        ∙ nil_flat (arrival_slips s path plan ms n t) 0 s.tribs j (nil_left (arrivals_slips s path plan ms n t) (read_slips s path plan n t) rest_quiet) (omega arith) (omega arith)

    pub child_quiet : (j : ℕ) (m : Meaning) → j < s.tribs → slice_get ms j ≡ Some m → arrives_at s (plan.counts path j n) t ≡ true → m.slips plan (came_before s (plan.counts path j) n t) ≡ []
    child_quiet j m h at is =
        ap (λ o. slips_below o plan (came_before s (plan.counts path j) n t)) (sym at)
        ∙ nil_left (slips_below (slice_get ms j) plan (came_before s (plan.counts path j) n t)) (slip_if (slips_over s path plan n t j) true (place_at path j n t)) (both_quiet j h is)

    no_slip_over : (j : ℕ) → j < s.tribs → arrives_at s (plan.counts path j n) t ≡ true → slips_over s path plan n t j ≡ false
    no_slip_over j h is =
        no_slip_if (slips_over s path plan n t j) true (place_at path j n t)
        (nil_right (slips_below (slice_get ms j) plan (came_before s (plan.counts path j) n t)) (slip_if (slips_over s path plan n t j) true (place_at path j n t)) (both_quiet j h is))

    no_slip_under : (j : ℕ) → j < s.tribs → slips_under s path plan n t j ≡ false
    no_slip_under j h =
        no_slip_if (slips_under s path plan n t j) false (place_at path j n t)
        (nil_flat (λ j. slip_if (slips_under s path plan n t j) false (place_at path j n t)) 0 s.tribs j (nil_right (arrivals_slips s path plan ms n t) (read_slips s path plan n t) rest_quiet) (omega arith) (omega arith))

  -- so its stores have no event, in either mode
  module _ (stores : HasStores s) (size : ℕ → ℕ) (clear : first_some (steps s path plan ms size n t) ≡ None) (quiet : slot_slips s path plan ms n t ≡ []) (j : ℕ) (known : j < s.tribs) where
    not_full : overs s j (plan.counts path j) plan.mode n t ≡ false
    not_full = elim (cases_Bool (arrives_at s (plan.counts path j n) t)) [
      | inl is ↦ over-off s j (plan.counts path j) plan.mode (steps_of path) n t stores (no_overflow size clear j known is) (no_slip_over quiet j known is)
      | inr none ↦ ap (λ b. b && is_full (read_to s path plan n t j) (came_before s (plan.counts path j) n t)) none
    ]

    not_empty : unders s j (plan.counts path j) plan.mode n t ≡ false
    not_empty = under-off s j (plan.counts path j) plan.mode (steps_of path) n t stores not_full (no_underflow size clear j known) (no_slip_under quiet j known)

-- ---- the slots of a piece

module _ (s : FrameShape) (frame : IsFrame s) (stores : HasStores s) (path : Path) (plan : Plan) (ms : List Meaning) (size : ℕ → ℕ) (n t : ℕ) where
  -- nothing stands in their way, and they bring no slip
  pub record AreClear (len : ℕ) : Type 0 where
    pub clear : (v : ℕ) → v < len → first_some (steps s path plan ms size n (t + v)) ≡ None
    pub quiet : (v : ℕ) → v < len → slot_slips s path plan ms n (t + v) ≡ []

  fewer : (len v : ℕ) → v ≤ len → AreClear len → AreClear v
  fewer len v h are = record { clear = λ i l. are.clear i (omega (arith, h, l)); quiet = λ i l. are.quiet i (omega (arith, h, l)) }

  next_slot : (len : ℕ) → t + suc len ≡ suc (t + len)
  next_slot len = omega arith

  module _ (j : ℕ) (known : j < s.tribs) (fits : plan.counts path j n ≤ s.len) where
    abbrev came : ℕ → ℕ
    came x = came_before s (plan.counts path j) n x

    abbrev out : ℕ → Readout
    out x = read_to s path plan n x j

    abbrev reads_it : ℕ → Bool
    reads_it x = reads_from j ((carriage_in s path plan j).more n) (s.role x)

    abbrev gone : ℕ → ℕ
    gone x = gone_with (out x).edits (out x).read

    abbrev put : ℕ → ℕ
    put x = put_with (out x).edits (came x)

    came_step : (len : ℕ) → came (t + suc len) ≡ came (t + len) + cond (arrives_at s (plan.counts path j n) (t + len)) 1 0
    came_step len = ap came (next_slot len) ∙ came_before-suc s (plan.counts path j) n (t + len) frame fits

    edits_step : (len : ℕ) → AreClear (suc len) → (out (t + suc len)).edits ≡ (out (t + len)).edits
    edits_step len are =
        let clear = are.clear len (omega arith) in
        let quiet = are.quiet len (omega arith) in
        ap (λ x. (out x).edits) (next_slot len)
        ∙ calm-by s j (plan.counts path j) plan.mode n (t + len) stores (not_full s path plan ms n (t + len) stores size clear quiet j known) (not_empty s path plan ms n (t + len) stores size clear quiet j known)

    -- no slip changes its bits
    pub piece_unchanged : (len : ℕ) → AreClear len → (v : ℕ) → v ≤ len → (out (t + v)).edits ≡ (out t).edits
    piece_unchanged len are zero h = (let e : t + 0 ≡ t = omega arith in ap (λ x. (out x).edits) e)
    piece_unchanged len are (suc v) h = edits_step v (fewer len (suc v) h are) ∙ piece_unchanged len are v (omega (arith, h))

    gone_step : (len : ℕ) → AreClear (suc len) → gone (t + suc len) ≡ gone (t + len) + cond (reads_it (t + len)) 1 0
    gone_step len are =
        let c : Carriage = carriage_in s path plan j in
        let E : List Edit = (out (t + len)).edits in
        let one : ℕ = cond (reads_it (t + len)) 1 0 in
        let read : (out (t + suc len)).read ≡ (out (t + len)).read + one = ap (λ x. c.sent n + reads_below s j (c.more n) x) (next_slot len) ∙ omega (arith, reads_below-suc s j (c.more n) (t + len)) in
        ap (λ (e : List Edit). gone_with e (out (t + suc len)).read) (edits_step len are) ∙ ap (gone_with E) read ∙ gone-more E (out (t + len)).read one

    put_step : (len : ℕ) → AreClear (suc len) → put (t + suc len) ≡ put (t + len) + cond (arrives_at s (plan.counts path j n) (t + len)) 1 0
    put_step len are =
        let E : List Edit = (out (t + len)).edits in
        let one : ℕ = cond (arrives_at s (plan.counts path j n) (t + len)) 1 0 in
        ap (λ (e : List Edit). put_with e (came (t + suc len))) (edits_step len are) ∙ ap (put_with E) (came_step len) ∙ put-more E (came (t + len)) one

    -- nothing stands in the way of the child's bits that arrive
    pub piece_clear : (m : Meaning) → slice_get ms j ≡ Some m → (len : ℕ) → AreClear len → (y : ℕ) → came t ≤ y → y < came (t + len) → (m.obstacle plan size y ≡ None) × (m.slips plan y ≡ [])
    piece_clear m at zero are y from to = (let e : t + 0 ≡ t = omega arith in let d = ap came e in absurd (omega arith))
    piece_clear m at (suc len) are y from to = elim (cases_lt y (came (t + len))) [
      | inl before ↦ piece_clear m at len (fewer (suc len) len (omega arith) are) y from before
      | inr here ↦ elim (cases_Bool (arrives_at s (plan.counts path j n) (t + len))) [
        | inl is ↦
            let next : came (t + suc len) ≡ came (t + len) + 1 = came_step len ∙ ap (λ b. came (t + len) + cond b 1 0) is in
            let same : came (t + len) ≡ y = omega arith in (
              ap (m.obstacle plan size) (sym same) ∙ child_clear s path plan ms n (t + len) size (are.clear len (omega arith)) j m known at is,
              ap (m.slips plan) (sym same) ∙ child_quiet s path plan ms n (t + len) (are.quiet len (omega arith)) j m known at is,
            )
        | inr none ↦ let next : came (t + suc len) ≡ came (t + len) + 0 = came_step len ∙ ap (λ b. came (t + len) + cond b 1 0) none in absurd (omega arith)
      ]
    ]

    -- the store doesn't overflow
    pub piece_few : (len : ℕ) → AreClear len → HoldsMost (out t) (came t) store_size → HoldsMost (out (t + len)) (came (t + len)) store_size
    piece_few zero are h = (let e : t ≡ t + 0 = omega arith in subst (λ x. HoldsMost (out x) (came x) store_size) e h)
    piece_few (suc len) are h =
        let before = piece_few len (fewer (suc len) len (omega arith) are) h in
        let fine = not_full s path plan ms n (t + len) stores size (are.clear len (omega arith)) (are.quiet len (omega arith)) j known in
        let later = gone_step len are in
        elim (cases_Bool (arrives_at s (plan.counts path j n) (t + len))) [
          | inl is ↦
              let room : leb (gone (t + len) + store_size) (put (t + len)) ≡ false = ap (λ b. b && leb (gone (t + len) + store_size) (put (t + len))) (sym is) ∙ fine in
              let less : put (t + len) < gone (t + len) + store_size = leb-false _ _ room in
              let next : put (t + suc len) ≡ put (t + len) + 1 = put_step len are ∙ ap (λ b. put (t + len) + cond b 1 0) is in
              omega (arith, next, less, later)
          | inr none ↦ let next : put (t + suc len) ≡ put (t + len) + 0 = put_step len are ∙ ap (λ b. put (t + len) + cond b 1 0) none in omega (arith, next, before, later)
        ]

    -- and isn't read where it is empty
    pub piece_enough : (len : ℕ) → AreClear len → HasCome (out t) (came t) → HasCome (out (t + len)) (came (t + len))
    piece_enough zero are h = (let e : t ≡ t + 0 = omega arith in subst (λ x. HasCome (out x) (came x)) e h)
    piece_enough (suc len) are h =
        let before = piece_enough len (fewer (suc len) len (omega arith) are) h in
        let clear = are.clear len (omega arith) in
        let quiet = are.quiet len (omega arith) in
        let full = not_full s path plan ms n (t + len) stores size clear quiet j known in
        let E : List Edit = (out (t + len)).edits in
        let read : Bool = reads_it (t + len) && leb (put_with E (came (suc (t + len)))) (gone (t + len)) in
        let fine : read ≡ false = sym (ap (λ b. not b && read) full) ∙ not_empty s path plan ms n (t + len) stores size clear quiet j known in
        let later = put_step len are in
        elim (cases_Bool (reads_it (t + len))) [
          | inl is ↦
              let some : leb (put_with E (came (suc (t + len)))) (gone (t + len)) ≡ false = ap (λ b. b && leb (put_with E (came (suc (t + len)))) (gone (t + len))) (sym is) ∙ fine in
              let more : gone (t + len) < put_with E (came (suc (t + len))) = leb-false _ _ some in
              let same : put (t + suc len) ≡ put_with E (came (suc (t + len))) = ap (λ (e : List Edit). put_with e (came (t + suc len))) (edits_step len are) ∙ ap (λ x. put_with E (came x)) (next_slot len) in
              let next : gone (t + suc len) ≡ gone (t + len) + 1 = gone_step len are ∙ ap (λ b. gone (t + len) + cond b 1 0) is in
              omega (arith, next, same, more)
          | inr none ↦ let next : gone (t + suc len) ≡ gone (t + len) + 0 = gone_step len are ∙ ap (λ b. gone (t + len) + cond b 1 0) none in omega (arith, next, before, later)
        ]
