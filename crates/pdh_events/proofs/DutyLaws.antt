-- The slots of a duty, and their bits.
use Rattle.std.proofs.Common.{◌≡◌, ℕ, zero, suc, ◌+◌, ◌<◌, ◌≤◌, Bool, true, false, not, Some, ◌&&◌, ◌==◌, nat_lt, cond, List, [], ◌∷◌, ◌++◌, length, map, filter, All, get_or, slice_index_or, take, inl, inr, refl, sym, ap, ◌∙◌, subst, arith}
use Rattle.std.specs.Bool.{beq}
use Rattle.std.specs.List.{range_with_len, list_any}
use Rattle.std.proofs.lemmas.Bool.{lt-ltb, le-ltb, cases_Bool, false≢true}
use Rattle.std.proofs.lemmas.Bool.Decides.{nat_tests}
use Rattle.std.proofs.lemmas.List.{map-append, length-map, take_all, take_more}
use Rattle.std.proofs.lemmas.List.Elements.{All-filter, All-map, filter-append}
use Rattle.std.proofs.lemmas.Simd.{map-map}
use Rattle.pdh_shape.specs.declared.role.Duty.{Duty}
use Rattle.pdh_shape.specs.declared.role.Duty.TheVariants.{Alarm, Parity, PathParity}
use Rattle.pdh_shape.specs.declared.role.Role.{Role}
use Rattle.pdh_shape.specs.declared.role.Role.TheVariants.{Align, Service, Control, Just, Info}
use Rattle.pdh_shape.specs.Frame.{FrameShape, slots as slots_of}
use Rattle.pdh_shape.specs.Payload.{is_payload}
use Rattle.pdh_line.proofs.Ranges.{length-range}
use Rattle.pdh_runs.specs.Tables.{is_overhead}
use Rattle.pdh_events.specs.declared.alarm.AlarmSlot.{AlarmSlot}
use Rattle.pdh_events.specs.Duties.{has_duty, slots_with, duty_bits, alarm_says, most_are_ones, TellAlike}
use Rattle.pdh_events.specs.Keeping.{alarm_slot, says_alarm, bits_at}

-- ---- the slots

-- whether a slot has a duty
abbrev pub has_slot : FrameShape → Duty → ℕ → Bool
has_slot s duty slot = has_duty s duty (s.role slot)

-- it carries no bit of a tributary
duty_overhead : (s : FrameShape) (duty : Duty) (slot : ℕ) → has_slot s duty slot ≡ true → is_overhead s slot ≡ true
duty_overhead s duty slot h = of_role (s.role slot) h
  where
    of_role : (r : Role) → has_duty s duty r ≡ true → not (is_payload r) ≡ true
    of_role (Service n) h = refl
    of_role (Align bit) h = refl
    of_role (Control j copy) h = refl
    of_role (Info j) h = absurd (false≢true h)
    of_role (Just j) h = absurd (false≢true h)

-- those that pass a test are among those that pass a wider one
filter_wider : (p q : ℕ → Bool) → ((x : ℕ) → p x ≡ true → q x ≡ true) → (xs : List ℕ) → filter p (filter q xs) ≡ filter p xs
filter_wider p q wider [] = refl
filter_wider p q wider (x ∷ xs) = elim (cases_Bool (q x)) [
  | inl pass ↦ ap (λ b. filter p (cond b (x ∷ filter q xs) (filter q xs))) pass ∙ ap (λ l. cond (p x) (x ∷ l) l) (filter_wider p q wider xs)
  | inr fail ↦ ap (λ b. filter p (cond b (x ∷ filter q xs) (filter q xs))) fail ∙ filter_wider p q wider xs ∙ ap (λ b. cond b (x ∷ filter p xs) (filter p xs)) (sym (fails (p x) (λ h. false≢true (sym fail ∙ wider x h))))
]
  where
    fails : (b : Bool) → (b ≡ true → ⊥) → b ≡ false
    fails true no_way = absurd (no_way refl)
    fails false no_way = refl

-- all slots of a duty, by those that carry no bit of a tributary
pub slots_all : (s : FrameShape) (duty : Duty) (overhead : List ℕ) (n : ℕ) → overhead ≡ filter (is_overhead s) (slots_of s) → length overhead ≤ n → filter (has_slot s duty) (take n overhead) ≡ slots_with s duty
slots_all s duty overhead n is all = ap (filter (has_slot s duty)) (take_all n overhead all ∙ is) ∙ filter_wider (has_slot s duty) (is_overhead s) (duty_overhead s duty) (slots_of s)

-- one slot more of a list, which passes or doesn't
pub slots_more : (p : ℕ → Bool) (xs : List ℕ) (i : ℕ) (is : Bool) (old now : List ℕ) → i < length xs → old ≡ filter p (take i xs) → is ≡ p (get_or xs i 0) → now ≡ old ++ cond is (get_or xs i 0 ∷ []) [] → now ≡ filter p (take (i + 1) xs)
slots_more p xs i is old now inside before test new =
    let x : ℕ = get_or xs i 0 in
    new ∙ ap (λ l. l ++ cond is (x ∷ []) []) before ∙ ap (λ b. filter p (take i xs) ++ cond b (x ∷ []) []) test
    ∙ sym (filter-append p (take i xs) (x ∷ [])) ∙ ap (filter p) (sym (take_more xs i 0 inside))

-- the same of what is kept of each
pub kept_more : {X : Type 0} (f : ℕ → X) (p : ℕ → Bool) (xs : List ℕ) (i : ℕ) (is : Bool) (old now : List X) → i < length xs → old ≡ map f (filter p (take i xs)) → is ≡ p (get_or xs i 0) → now ≡ old ++ cond is (f (get_or xs i 0) ∷ []) [] → now ≡ map f (filter p (take (i + 1) xs))
kept_more f p xs i is old now inside before test new =
    let x : ℕ = get_or xs i 0 in
    new ∙ ap (λ l. l ++ cond is (f x ∷ []) []) before ∙ ap (λ b. map f (filter p (take i xs)) ++ cond b (f x ∷ []) []) test ∙ ap (λ l. map f (filter p (take i xs)) ++ l) (kept (p x))
    ∙ sym (map-append f (filter p (take i xs)) (cond (p x) (x ∷ []) [])) ∙ ap (map f) (slots_more p xs i (p x) (filter p (take i xs)) _ inside refl refl refl)
  where
    kept : (b : Bool) → cond b (f (get_or xs i 0) ∷ []) [] ≡ map f (cond b (get_or xs i 0 ∷ []) [])
    kept true = refl
    kept false = refl

range_at : (a n k d : ℕ) → k < n → get_or (range_with_len a n) k d ≡ a + k
range_at a zero k d lt = absurd (omega (arith, lt))
range_at a (suc n) zero d lt = omega arith
range_at a (suc n) (suc k) d lt = let place : a + 1 + k ≡ a + suc k = omega arith in range_at (a + 1) n k d (omega (arith, lt)) ∙ place

range_below : (n m : ℕ) → n ≤ m → All (λ k. k < m) (range_with_len 0 n)
range_below n m le k d lt =
    let inside : k < n = omega (arith, lt, length-range 0 n) in
    omega (arith, range_at 0 n k d inside, inside, le)

-- each slot that carries no bit of a tributary is one of the frame
pub overhead_inside : (s : FrameShape) (overhead : List ℕ) (i d : ℕ) → overhead ≡ filter (is_overhead s) (slots_of s) → i < length overhead → get_or overhead i d < s.len
overhead_inside s overhead i d is inside =
    let all : All (λ slot. slot < s.len) overhead = subst (All (λ slot. slot < s.len)) (sym is) (All-filter (is_overhead s) (λ slot. slot < s.len) (slots_of s) (range_below s.len s.len (omega arith))) in
    all i d inside

-- so is each of a duty
pub slots_inside : (s : FrameShape) (duty : Duty) (slots : List ℕ) (m : ℕ) → slots ≡ slots_with s duty → s.len ≡ m → All (λ slot. slot < m) slots
slots_inside s duty slots m is long = subst (All (λ slot. slot < m)) (sym is) (All-filter (has_slot s duty) (λ slot. slot < m) (slots_of s) (range_below s.len m (omega (arith, long))))

pub alarms_inside : (s : FrameShape) (slots : List AlarmSlot) (m : ℕ) → slots ≡ map (alarm_slot s) (slots_with s Alarm) → s.len ≡ m → All (λ of. of.slot < m) slots
alarms_inside s slots m is long =
    subst (All (λ of. of.slot < m)) (sym is) (All-map (λ of. of.slot < m) (alarm_slot s) (slots_with s Alarm) (slots_inside s Alarm (slots_with s Alarm) m refl long))

-- ---- their bits

pub bits_are : (s : FrameShape) (duty : Duty) (slots : List ℕ) (frame : List Bool) → slots ≡ slots_with s duty → bits_at slots frame ≡ duty_bits s duty frame
unfolding duty_bits
bits_are s duty slots frame is = ap (λ l. bits_at l frame) is

pub says_are : (s : FrameShape) (slots : List AlarmSlot) (frame : List Bool) → slots ≡ map (alarm_slot s) (slots_with s Alarm) → map (says_alarm frame) slots ≡ alarm_says s frame
unfolding alarm_says
says_are s slots frame is = ap (map (says_alarm frame)) is ∙ map-map (says_alarm frame) (alarm_slot s) (slots_with s Alarm)

-- a bit that isn't 1 is 0
pub other_than_one : (bits : List Bool) → list_any (λ at. not (beq at true)) bits ≡ list_any not bits
other_than_one [] = refl
other_than_one (true ∷ bits) = other_than_one bits
other_than_one (false ∷ bits) = refl

-- path parity bits that there are
pub path_some : (bits : List Bool) (slots : ℕ) (empty most odd : Bool) → empty ≡ (slots == 0) → empty ≡ false → length bits ≡ slots → most ≡ most_are_ones bits → not (beq most odd) ≡ (nat_lt 0 (length bits) && not (beq (most_are_ones bits) odd))
path_some bits slots empty most odd e fails long is =
    let some : 0 < length bits = grind (arith, nat_tests) in
    ap (λ b. not (beq b odd)) is ∙ ap (λ b. b && not (beq (most_are_ones bits) odd)) (sym (lt-ltb 0 (length bits) some))

-- and that there aren't
pub path_none : (bits : List Bool) (slots : ℕ) (empty odd : Bool) → empty ≡ (slots == 0) → empty ≡ true → length bits ≡ slots → not empty ≡ (nat_lt 0 (length bits) && not (beq (most_are_ones bits) odd))
path_none bits slots empty odd e holds long =
    let none : length bits ≤ 0 = grind (arith, nat_tests) in
    ap not holds ∙ ap (λ b. b && not (beq (most_are_ones bits) odd)) (sym (le-ltb 0 (length bits) none))

-- as many bits as slots
pub bits_long : (s : FrameShape) (duty : Duty) (slots : List ℕ) (frame : List Bool) → slots ≡ slots_with s duty → length (duty_bits s duty frame) ≡ length slots
bits_long s duty slots frame is = ap length (sym (bits_are s duty slots frame is)) ∙ length-map slots (λ slot. slice_index_or frame slot false)

-- where no slot tells a parity, all of them are told alike
pub tells_none : (s : FrameShape) → slots_with s Parity ≡ [] → slots_with s PathParity ≡ [] → (a b : Bool) → TellAlike s (Some a) (Some b)
unfolding duty_bits
tells_none s none path a b frame = rw (none, path) refl

-- what was found to be empty
pub none_there : (slots : List ℕ) (len : ℕ) (empty : Bool) → empty ≡ (len == 0) → empty ≡ true → length slots ≡ len → slots ≡ []
none_there [] len empty e holds long = refl
none_there (slot ∷ slots) len empty e holds long = absurd (let none : length (slot ∷ slots) ≤ 0 = grind (arith, nat_tests) in omega (arith, none))

pub not_false : (b : Bool) → not b ≡ false → b ≡ true
not_false true h = refl
not_false false h = absurd (false≢true (sym h))
