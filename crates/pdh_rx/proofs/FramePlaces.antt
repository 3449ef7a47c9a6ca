-- What a frame, and what the ones of a gap, make a demultiplexer give is what their places give.
use Rattle.std.proofs.Common.{◌≡◌, ℕ, zero, suc, ◌+◌, ◌*◌, ◌%◌, ◌<◌, ◌≤◌, Bool, true, false, cond, List, [], ◌∷◌, ◌++◌, length, filter, get_or, Some, None, refl, sym, ap, ◌∙◌, arith}
use Rattle.std.specs.Prelude.{flat_map}
use Rattle.std.specs.List.{range_with_len, slice_index_or}
use Rattle.std.proofs.lemmas.Nat.{mod-mul-add}
use Rattle.std.proofs.Math.Nat.{suc-mul}
use Rattle.std.proofs.lemmas.List.{get_or-map}
use Rattle.std.proofs.lemmas.List.FromFn.{get_or-map-range_with_len}
use Rattle.std.proofs.lemmas.Bool.{true≢false}
use Rattle.pdh_shape.specs.declared.role.Role.{Role}
use Rattle.pdh_shape.specs.declared.role.Role.TheVariants.{Align, Service, Control, Just, Info}
use Rattle.pdh_shape.specs.Frame.{FrameShape, slots}
use Rattle.pdh_shape.specs.Payload.{PayloadInTurn, is_payload}
use Rattle.pdh_shape.specs.Tributary.{turned}
use Rattle.pdh_runs.specs.Columns.{trib_of, payload_slots}
use Rattle.pdh_runs.proofs.ColumnLaws.{count_is, in_turn_is}
use Rattle.pdh_events.specs.Acts.{Act, role_acts, carries_at, slot_acts, round_acts, rounds_acts}
use Rattle.pdh_events.specs.Acts.Act.{Give}
use Rattle.pdh_rx.specs.Places.{cell_acts, place_acts, places_acts, role_cell, frame_cell, ones_cell}
use Rattle.pdh_rx.proofs.Places.{places_split}

-- ---- lists

-- what gives nothing may be left out
flat_filter : (f : ℕ → List Act) (q : ℕ → Bool) → ((t : ℕ) → q t ≡ false → f t ≡ []) → (xs : List ℕ) → flat_map f xs ≡ flat_map f (filter q xs)
flat_filter f q none [] = refl
flat_filter f q none (x ∷ xs) = kept (q x) refl (flat_filter f q none xs)
  where
    kept : (b : Bool) → q x ≡ b → flat_map f xs ≡ flat_map f (filter q xs) → flat_map f (x ∷ xs) ≡ flat_map f (cond b (x ∷ filter q xs) (filter q xs))
    kept true e rest = ap (λ v. f x ++ v) rest
    kept false e rest = ap (λ v. v ++ flat_map f xs) (none x e) ∙ rest

-- by the places in the list
flat_by_place : (f g : ℕ → List Act) (xs : List ℕ) (from : ℕ) → ((i : ℕ) → i < length xs → f (get_or xs i 0) ≡ g (from + i)) → flat_map f xs ≡ flat_map g (range_with_len from (length xs))
flat_by_place f g [] from h = refl
flat_by_place f g (x ∷ xs) from h =
    let first : from + 0 ≡ from = omega arith in
    let rest = flat_by_place f g xs (from + 1) (λ i lt. (let next : from + suc i ≡ (from + 1) + i = omega arith in h (suc i) (omega (arith, lt)) ∙ ap g next)) in
    ap (λ v. v ++ flat_map f xs) (h 0 (omega arith) ∙ ap g first) ∙ ap (λ v. g from ++ v) rest

-- ---- a frame

pub some_same : (i k : ℕ) → Some i ≡ Some k → i ≡ k
some_same i k e = cc

pub none_some : (i : ℕ) → None ≡ Some i → ⊥
none_some i e = cc

role_is : (s : FrameShape) (r : Role) (more bit : Bool) (j : ℕ) → trib_of r ≡ Some j → role_acts s r more bit ≡ cell_acts j (role_cell s r more bit)
role_is s (Info k) more bit j e = ap (λ v. Give v (turned (s.inverted k) bit) ∷ []) (some_same k j e)
role_is s (Just k) true bit j e = ap (λ v. Give v (turned (s.inverted k) bit) ∷ []) (some_same k j e)
role_is s (Just k) false bit j e = refl
role_is s (Control k copy) more bit j e = absurd (none_some j e)
role_is s (Align x) more bit j e = absurd (none_some j e)
role_is s (Service n) more bit j e = absurd (none_some j e)

role_none : (s : FrameShape) (r : Role) (more bit : Bool) → is_payload r ≡ false → role_acts s r more bit ≡ []
role_none s (Info k) more bit e = absurd (true≢false e)
role_none s (Just k) more bit e = absurd (true≢false e)
role_none s (Control k copy) more bit e = refl
role_none s (Align x) more bit e = refl
role_none s (Service n) more bit e = refl

-- the law: the slots' acts are the places' acts
pub frame_places : (s : FrameShape) (frame : List Bool) → PayloadInTurn s → flat_map (slot_acts s frame) (slots s) ≡ places_acts s.tribs (frame_cell s frame) 0 (s.tribs * suc s.low)
frame_places s frame turns =
    flat_filter (slot_acts s frame) (λ t. is_payload (s.role t)) (λ t e. role_none s (s.role t) (carries_at s frame (s.role t)) (slice_index_or frame t false) e) (slots s)
    ∙ flat_by_place (slot_acts s frame) (place_acts s.tribs (frame_cell s frame)) (payload_slots s) 0 at
    ∙ ap (λ n. places_acts s.tribs (frame_cell s frame) 0 n) (count_is s turns)
  where
    at : (i : ℕ) → i < length (payload_slots s) → slot_acts s frame (get_or (payload_slots s) i 0) ≡ place_acts s.tribs (frame_cell s frame) (0 + i)
    at i lt =
        let t : ℕ = get_or (payload_slots s) i 0 in
        let none : 0 + i ≡ i = omega arith in
        let reads : trib_of (s.role t) ≡ Some (i % s.tribs) =
        sym (get_or-map (λ slot. trib_of (s.role slot)) (payload_slots s) i 0 None lt) ∙ ap (λ l. get_or l i None) (in_turn_is s turns)
        ∙ get_or-map-range_with_len (λ p. Some (p % s.tribs)) 0 (s.tribs * suc s.low) i i None (omega (arith, lt, count_is s turns)) none in
        role_is s (s.role t) (carries_at s frame (s.role t)) (slice_index_or frame t false) (i % s.tribs) reads ∙ ap (place_acts s.tribs (frame_cell s frame)) (sym none)

-- ---- a gap

-- a round from tributary k on
round_at : (tribs round k n : ℕ) → k + n ≤ tribs → flat_map (λ j. Give j true ∷ []) (range_with_len k n) ≡ places_acts tribs ones_cell (round * tribs + k) n
round_at tribs round k zero le = refl
round_at tribs round k (suc n) le =
    let here : (round * tribs + k) % tribs ≡ k = mod-mul-add round tribs k (omega (arith, le)) in
    let next : round * tribs + (k + 1) ≡ (round * tribs + k) + 1 = omega arith in
    let rest = round_at tribs round (k + 1) n (omega (arith, le)) in
    ap (λ j. Give j true ∷ flat_map (λ j. Give j true ∷ []) (range_with_len (k + 1) n)) (sym here)
    ∙ ap (λ v. Give ((round * tribs + k) % tribs) true ∷ v) (rest ∙ ap (λ p. places_acts tribs ones_cell p n) next)

rounds_from : (s : FrameShape) (from n : ℕ) → flat_map (λ round. round_acts s) (range_with_len from n) ≡ places_acts s.tribs ones_cell (from * s.tribs) (n * s.tribs)
rounds_from s from zero = (let none : 0 * s.tribs ≡ 0 = omega arith in ap (places_acts s.tribs ones_cell (from * s.tribs)) (sym none))
rounds_from s from (suc n) =
    let tribs = s.tribs in
    let none : from * tribs + 0 ≡ from * tribs = omega arith in
    let more : tribs + n * tribs ≡ suc n * tribs = sym (suc_times n tribs) in
    let next : (from + 1) * tribs ≡ from * tribs + tribs = plus_times from tribs in
    let one : round_acts s ≡ places_acts tribs ones_cell (from * tribs) tribs = round_at tribs from 0 tribs (omega arith) ∙ ap (λ p. places_acts tribs ones_cell p tribs) none in
    ap (λ v. v ++ flat_map (λ round. round_acts s) (range_with_len (from + 1) n)) one
    ∙ ap (λ v. places_acts tribs ones_cell (from * tribs) tribs ++ v) (rounds_from s (from + 1) n ∙ ap (λ p. places_acts tribs ones_cell p (n * tribs)) next)
    ∙ sym (ap (places_acts tribs ones_cell (from * tribs)) (sym more) ∙ places_split tribs ones_cell (from * tribs) tribs (n * tribs))
  where
    suc_times : (a b : ℕ) → suc a * b ≡ b + a * b
    suc_times a b = omega (arith, suc-mul a b)

    plus_times : (a b : ℕ) → (a + 1) * b ≡ a * b + b
    plus_times a b = let e : a + 1 ≡ suc a = omega arith in ap (λ v. v * b) e ∙ omega (arith, suc-mul a b)

-- the law: the rounds' acts are the places' acts
pub gap_places : (s : FrameShape) (rounds : ℕ) → rounds_acts s rounds ≡ places_acts s.tribs ones_cell 0 (rounds * s.tribs)
gap_places s rounds = (let none : 0 * s.tribs ≡ 0 = omega arith in rounds_from s 0 rounds ∙ ap (λ p. places_acts s.tribs ones_cell p (rounds * s.tribs)) none)
