-- What a push does to the fields is a turn of the machine.
use Rattle.std.proofs.Common.{◌≡◌, ℕ, ◌+◌, ◌*◌, ◌/◌, ◌<◌, ◌≤◌, Bool, true, false, cond, ltb, List, [], ◌∷◌, ◌++◌, length, map, take, drop, refl, sym, ap, ◌∙◌, subst, arith, get_or, add-zero}
use Rattle.std.proofs.lemmas.List.{take_all}
use Rattle.std.specs.List.{range_with_len}
use Rattle.std.proofs.lemmas.Bool.{lt-ltb, le-ltb}
use Rattle.std.proofs.lemmas.Nat.{div-mul-add}
use Rattle.pdh_shape.specs.declared.role.Marks.{Marks}
use Rattle.pdh_align.specs.declared.step.Step.{Step}
use Rattle.pdh_align.specs.declared.step.Step.TheVariants.{Nothing, Rejected, Aligned, Frame, Lost}
use Rattle.pdh_shape.specs.Frame.{FrameShape, clean, wrong}
use Rattle.pdh_line.specs.Tracking.{frame_of, is_confirmed}
use Rattle.pdh_align.specs.Searching.{Sought, Searches, Takes, GivesUp}
use Rattle.pdh_align.specs.Aligning.{Phase, Held, Turn, turn, SearchGoesOn, Turns}
use Rattle.pdh_align.specs.Aligning.Phase.{Searching, Tracking}
use Rattle.pdh_align.specs.View.{held_of, held_frame}

-- the fields before a push, and the bits once it has forgotten what was ready and taken the bit
pub record Pushed (s : FrameShape) (len : ℕ) (searching fresh : Bool) (before : List Marks) (bits now : List Bool) (bit : Bool) (search : Sought) (old : Held) : Type 0 where
  pub view : held_of len searching fresh before bits search ≡ old
  pub len_is : s.len ≡ len
  pub now_is : now ≡ cond fresh [] bits ++ bit ∷ []
  pub idle : searching ≡ true → fresh ≡ false

-- turns, from the machine's own state
turns_from : (s : FrameShape) (old before after : Held) (bit : Bool) (step : Step) (t : Turn) → before ≡ old → turn s before.phase bit ≡ t
    → after.phase ≡ t.phase → step ≡ t.step → after.ready ≡ t.ready → SearchGoesOn s bit before.search after.search before.phase after.phase → Turns s old after bit step
turns_from s old before after bit step t e is p st r goes =
    subst (λ (x : Held). Turns s x after bit step) e
    (record { phase = p ∙ ap (λ x. x.phase) (sym is); step_is = st ∙ ap (λ x. x.step) (sym is); ready = r ∙ ap (λ x. x.ready) (sym is); search = goes })

turn_search_short : (s : FrameShape) (held : List Bool) (bit : Bool) → length (held ++ bit ∷ []) < 3 * s.len
    → turn s (Searching held) bit ≡ record { phase = Searching (held ++ bit ∷ []); step = Nothing; ready = [] }
unfolding turn
turn_search_short s held bit h = let short : ltb (length (held ++ bit ∷ [])) (3 * s.len) ≡ true = lt-ltb _ _ h in rw short refl

turn_search_confirmed : (s : FrameShape) (held : List Bool) (bit : Bool) → 3 * s.len ≤ length (held ++ bit ∷ []) → is_confirmed s (held ++ bit ∷ []) ≡ true
    → turn s (Searching held) bit ≡ record { phase = Tracking clean clean clean []; step = Aligned; ready = map (frame_of s (held ++ bit ∷ [])) (0 ∷ 1 ∷ 2 ∷ []) }
unfolding turn
turn_search_confirmed s held bit h k = let long : ltb (length (held ++ bit ∷ [])) (3 * s.len) ≡ false = le-ltb _ _ h in rw (long, k) refl

turn_search_rejected : (s : FrameShape) (held : List Bool) (bit : Bool) → 3 * s.len ≤ length (held ++ bit ∷ []) → is_confirmed s (held ++ bit ∷ []) ≡ false
    → turn s (Searching held) bit ≡ record { phase = Searching (drop 1 (held ++ bit ∷ [])); step = Rejected; ready = [] }
unfolding turn
turn_search_rejected s held bit h k = let long : ltb (length (held ++ bit ∷ [])) (3 * s.len) ≡ false = le-ltb _ _ h in rw (long, k) refl

turn_part : (s : FrameShape) (a b c : Marks) (part : List Bool) (bit : Bool) → length (part ++ bit ∷ []) < s.len
    → turn s (Tracking a b c part) bit ≡ record { phase = Tracking a b c (part ++ bit ∷ []); step = Nothing; ready = [] }
unfolding turn
turn_part s a b c part bit h = let short : ltb (length (part ++ bit ∷ [])) s.len ≡ true = lt-ltb _ _ h in rw short refl

turn_lost : (s : FrameShape) (a b c : Marks) (part : List Bool) (bit : Bool) → s.len ≤ length (part ++ bit ∷ []) → s.loses a b c (wrong s (part ++ bit ∷ [])) ≡ true
    → turn s (Tracking a b c part) bit ≡ record { phase = Searching (part ++ bit ∷ []); step = Lost; ready = [] }
unfolding turn
turn_lost s a b c part bit h k = let long : ltb (length (part ++ bit ∷ [])) s.len ≡ false = le-ltb _ _ h in rw (long, k) refl

turn_frame : (s : FrameShape) (a b c : Marks) (part : List Bool) (bit : Bool) → s.len ≤ length (part ++ bit ∷ []) → s.loses a b c (wrong s (part ++ bit ∷ [])) ≡ false
    → turn s (Tracking a b c part) bit ≡ record { phase = Tracking b c (wrong s (part ++ bit ∷ [])) []; step = Frame; ready = (part ++ bit ∷ []) ∷ [] }
unfolding turn
turn_frame s a b c part bit h k = let long : ltb (length (part ++ bit ∷ [])) s.len ≡ false = le-ltb _ _ h in rw (long, k) refl

-- a search goes on with no position more
pub push_search_short : (s : FrameShape) (len : ℕ) (searching fresh after : Bool) (before : List Marks) (bits now : List Bool) (bit : Bool) (search next : Sought) (old : Held)
    → Pushed s len searching fresh before bits now bit search old → searching ≡ true → after ≡ false → Takes s search next (bit ∷ []) → length now < 3 * len
    → Turns s old (held_of len searching after before now next) bit Nothing
push_search_short s len true false false before bits now bit search next old p is a takes h =
    let now_is : now ≡ bits ++ bit ∷ [] = p.now_is in
    let short : length (bits ++ bit ∷ []) < 3 * s.len = rw (p.len_is, ← now_is) h in
    turns_from s old (held_of len true false before bits search) (held_of len true false before now next) bit Nothing _ p.view (turn_search_short s bits bit short) (ap Searching now_is) refl refl
    (λ since kept. subst (λ x. Searches s next x (since ++ bit ∷ [])) (sym now_is) (takes bits since kept))
push_search_short s len true false true before bits now bit search next old p is a takes h = cc
push_search_short s len true true after before bits now bit search next old p is a takes h = absurd (let e : true ≡ false = p.idle refl in cc)
push_search_short s len false fresh after before bits now bit search next old p is a takes h = cc

-- the ready frames of whole frames that are held
pub three_ready : (s : FrameShape) (len : ℕ) (now : List Bool) → 0 < len → s.len ≡ len → length now ≡ 3 * len
    → map (held_frame len now) (range_with_len 0 (length now / len)) ≡ map (frame_of s now) (0 ∷ 1 ∷ 2 ∷ [])
three_ready s len now pos e h =
    let three : length now / len ≡ 3 = ap (λ n. n / len) (h ∙ sym (add-zero (3 * len))) ∙ div-mul-add 3 len 0 pos in
    ap (λ n. map (held_frame len now) (range_with_len 0 n)) three ∙ ap (λ n. map (held_frame n now) (0 ∷ 1 ∷ 2 ∷ [])) (sym e)

pub one_ready : (len : ℕ) (now : List Bool) → 0 < len → length now ≡ len → map (held_frame len now) (range_with_len 0 (length now / len)) ≡ now ∷ []
one_ready len now pos h =
    let product : length now ≡ 1 * len + 0 = omega arith in
    let one : length now / len ≡ 1 = ap (λ n. n / len) product ∙ div-mul-add 1 len 0 pos in
    let start : 0 * len ≡ 0 = omega arith in
    ap (λ n. map (held_frame len now) (range_with_len 0 n)) one ∙ ap (λ n. take len (drop n now) ∷ []) start ∙ ap (λ x. x ∷ []) (take_all len now (omega arith))

-- three frames are confirmed, and no earlier frame counts
pub push_search_confirmed : (s : FrameShape) (len : ℕ) (searching fresh : Bool) (before : List Marks) (bits now : List Bool) (bit : Bool) (search next : Sought) (old : Held) (a b c : Marks)
    → Pushed s len searching fresh before bits now bit search old → 0 < len → searching ≡ true → length now ≡ 3 * len → is_confirmed s now ≡ true → a ≡ clean → b ≡ clean → c ≡ clean
    → Turns s old (held_of len false true (a ∷ b ∷ c ∷ []) now next) bit Aligned
push_search_confirmed s len true false before bits now bit search next old a b c p pos is h k a_is b_is c_is =
    let now_is : now ≡ bits ++ bit ∷ [] = p.now_is in
    let e : s.len ≡ len = p.len_is in
    let long : 3 * s.len ≤ length (bits ++ bit ∷ []) = rw (e, ← now_is) (omega arith) in
    let k' : is_confirmed s (bits ++ bit ∷ []) ≡ true = rw (← now_is) k in
    turns_from s old (held_of len true false before bits search) (held_of len false true (a ∷ b ∷ c ∷ []) now next) bit Aligned _ p.view (turn_search_confirmed s bits bit long k') (marks_are a b c a_is b_is c_is) refl
    (three_ready s len now pos e h ∙ ap (λ x. map (frame_of s x) (0 ∷ 1 ∷ 2 ∷ [])) now_is) tt
  where
    marks_are : (a b c : Marks) → a ≡ clean → b ≡ clean → c ≡ clean → Tracking a b c [] ≡ Tracking clean clean clean []
    marks_are a b c e f g = ap (λ a. Tracking a b c []) e ∙ ap (λ b. Tracking clean b c []) f ∙ ap (λ c. Tracking clean clean c []) g
push_search_confirmed s len true true before bits now bit search next old a b c p pos is h k a_is b_is c_is = absurd (let e : true ≡ false = p.idle refl in cc)
push_search_confirmed s len false fresh before bits now bit search next old a b c p pos is h k a_is b_is c_is = cc

-- three frames stand there and aren't confirmed
pub push_search_rejected : (s : FrameShape) (len : ℕ) (searching fresh after : Bool) (before : List Marks) (bits now rest : List Bool) (bit : Bool) (search between next : Sought) (old : Held)
    → Pushed s len searching fresh before bits now bit search old → 0 < len → searching ≡ true → after ≡ false → Takes s search between (bit ∷ []) → GivesUp s between next 1
    → 3 * len ≤ length now → is_confirmed s now ≡ false → rest ≡ drop 1 now
    → Turns s old (held_of len searching after before rest next) bit Rejected
push_search_rejected s len true false false before bits now rest bit search between next old p pos is a takes gives h k r =
    let now_is : now ≡ bits ++ bit ∷ [] = p.now_is in
    let long : 3 * s.len ≤ length (bits ++ bit ∷ []) = rw (p.len_is, ← now_is) h in
    let some : 1 ≤ length (bits ++ bit ∷ []) = rw (← now_is) (omega arith) in
    let k' : is_confirmed s (bits ++ bit ∷ []) ≡ false = rw (← now_is) k in
    let rest_is : rest ≡ drop 1 (bits ++ bit ∷ []) = r ∙ ap (drop 1) now_is in
    turns_from s old (held_of len true false before bits search) (held_of len true false before rest next) bit Rejected _ p.view (turn_search_rejected s bits bit long k') (ap Searching rest_is) refl refl
    (λ since kept. subst (λ x. Searches s next x (since ++ bit ∷ [])) (sym rest_is) (gives (bits ++ bit ∷ []) (since ++ bit ∷ []) some (takes bits since kept)))
push_search_rejected s len true false true before bits now rest bit search between next old p pos is a takes gives h k r = cc
push_search_rejected s len true true after before bits now rest bit search between next old p pos is a takes gives h k r = absurd (let e : true ≡ false = p.idle refl in cc)
push_search_rejected s len false fresh after before bits now rest bit search between next old p pos is a takes gives h k r = cc

-- the marks of the last three frames, and a part of the next
abbrev tracking : List Marks → List Bool → Phase
tracking before part = Tracking (get_or before 0 clean) (get_or before 1 clean) (get_or before 2 clean) part

-- an alignment goes on within a frame
pub push_part : (s : FrameShape) (len : ℕ) (searching fresh after : Bool) (before : List Marks) (bits now : List Bool) (bit : Bool) (search next : Sought) (old : Held)
    → Pushed s len searching fresh before bits now bit search old → searching ≡ false → after ≡ false → length now < len
    → Turns s old (held_of len searching after before now next) bit Nothing
push_part s len false fresh false before bits now bit search next old p is a h =
    let short : length (cond fresh [] bits ++ bit ∷ []) < s.len = rw (p.len_is, ← p.now_is) h in
    turns_from s old (held_of len false fresh before bits search) (held_of len false false before now next) bit Nothing _ p.view
    (turn_part s (get_or before 0 clean) (get_or before 1 clean) (get_or before 2 clean) (cond fresh [] bits) bit short) (ap (tracking before) p.now_is) refl refl tt
push_part s len false fresh true before bits now bit search next old p is a h = cc
push_part s len true fresh after before bits now bit search next old p is a h = cc

-- a frame ends and completes a loss
pub push_lost : (s : FrameShape) (len : ℕ) (searching fresh after : Bool) (before : List Marks) (bits now : List Bool) (bit : Bool) (search next : Sought) (old : Held)
    → Pushed s len searching fresh before bits now bit search old → searching ≡ false → after ≡ false → Searches s next now now → length now ≡ len
    → s.loses (get_or before 0 clean) (get_or before 1 clean) (get_or before 2 clean) (wrong s now) ≡ true
    → Turns s old (held_of len true after before now next) bit Lost
push_lost s len false fresh false before bits now bit search next old p is a anew h k =
    let long : s.len ≤ length (cond fresh [] bits ++ bit ∷ []) = rw (p.len_is, ← p.now_is) (omega arith) in
    let k' : s.loses (get_or before 0 clean) (get_or before 1 clean) (get_or before 2 clean) (wrong s (cond fresh [] bits ++ bit ∷ [])) ≡ true = rw (← p.now_is) k in
    turns_from s old (held_of len false fresh before bits search) (held_of len true false before now next) bit Lost _ p.view
    (turn_lost s (get_or before 0 clean) (get_or before 1 clean) (get_or before 2 clean) (cond fresh [] bits) bit long k') (ap Searching p.now_is) refl refl anew
push_lost s len false fresh true before bits now bit search next old p is a anew h k = cc
push_lost s len true fresh after before bits now bit search next old p is a anew h k = cc

-- a frame ends and is ready
pub push_frame : (s : FrameShape) (len : ℕ) (searching fresh : Bool) (before : List Marks) (bits now : List Bool) (bit : Bool) (search next : Sought) (old : Held) (d : Marks)
    → Pushed s len searching fresh before bits now bit search old → 0 < len → searching ≡ false → length now ≡ len → d ≡ wrong s now
    → s.loses (get_or before 0 clean) (get_or before 1 clean) (get_or before 2 clean) d ≡ false
    → Turns s old (held_of len searching true (get_or before 1 clean ∷ get_or before 2 clean ∷ d ∷ []) now next) bit Frame
push_frame s len false fresh before bits now bit search next old d p pos is h w k =
    let now_is : now ≡ cond fresh [] bits ++ bit ∷ [] = p.now_is in
    let e : s.len ≡ len = p.len_is in
    let long : s.len ≤ length (cond fresh [] bits ++ bit ∷ []) = rw (e, ← now_is) (omega arith) in
    let d_is : d ≡ wrong s (cond fresh [] bits ++ bit ∷ []) = w ∙ ap (wrong s) now_is in
    let k' : s.loses (get_or before 0 clean) (get_or before 1 clean) (get_or before 2 clean) (wrong s (cond fresh [] bits ++ bit ∷ [])) ≡ false = rw (← d_is) k in
    turns_from s old (held_of len false fresh before bits search) (held_of len false true (get_or before 1 clean ∷ get_or before 2 clean ∷ d ∷ []) now next) bit Frame _ p.view
    (turn_frame s (get_or before 0 clean) (get_or before 1 clean) (get_or before 2 clean) (cond fresh [] bits) bit long k')
    (ap (λ x. Tracking (get_or before 1 clean) (get_or before 2 clean) x []) d_is) refl (one_ready len now pos h ∙ ap (λ x. x ∷ []) now_is) tt
push_frame s len true fresh before bits now bit search next old d p pos is h w k = cc
