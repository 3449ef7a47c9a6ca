-- Where the bits of a tributary stand among the places of a frame, or of a gap.
use Rattle.std.proofs.Common.{◌≡◌, inl, inr, ℕ, zero, suc, ◌+◌, ◌-◌, ◌*◌, ◌/◌, ◌%◌, ◌<◌, ◌≤◌, Bool, true, false, cond, nat_lt, List, [], ◌∷◌, ◌++◌, length, map, filter, take, get_or, Option, Some, None, refl, sym, ap, ◌∙◌, subst, arith, replicate}
use Rattle.std.specs.Prelude.{◌⊎◌}
use Rattle.std.specs.List.{range_with_len}
use Rattle.std.proofs.lemmas.List.{append-nil, length-append, length-replicate, take_at, take_all, get_or_at, get_or-map}
use Rattle.std.proofs.lemmas.List.FromFn.{get_or-map-range_with_len}
use Rattle.std.proofs.lemmas.Bool.{cases_eq, cases_lt, eq-eqb, ne_eqb, lt-ltb, le-ltb}
use Rattle.std.proofs.lemmas.Nat.{mod-mul-add, div-mul-add, div-add-mod'}
use Rattle.std.proofs.Math.Nat.{suc-mul, mul_comm, mul-le-mul_right}
use Rattle.pdh_shape.specs.declared.role.Role.{Role}
use Rattle.pdh_shape.specs.declared.role.Role.TheVariants.{Align, Service, Control, Just, Info}
use Rattle.pdh_shape.specs.Frame.{FrameShape}
use Rattle.pdh_shape.specs.Payload.{PayloadInTurn, is_payload, payload_before}
use Rattle.pdh_shape.specs.Tributary.{turned, carries_more, stripped, HasTributaries}
use Rattle.pdh_edge.specs.Ports.{only}
use Rattle.pdh_line.proofs.Ranges.{numbered}
use Rattle.pdh_runs.specs.Columns.{trib_of, payload_slots}
use Rattle.pdh_runs.specs.Pieces.{turn}
use Rattle.pdh_runs.specs.Taking.{StandsInTurn}
use Rattle.pdh_runs.proofs.Counts.{before_less}
use Rattle.pdh_runs.proofs.ColumnLaws.{count_is, in_turn_is}
use Rattle.pdh_runs.proofs.TableLaws.{just_at, just_one, just_role}
use Rattle.pdh_runs.proofs.EmptyTurns.{one_of_them, just_reads}
use Rattle.pdh_runs.proofs.TakingLaws.{length-stripped}
use Rattle.pdh_events.specs.Acts.{carries_at}
use Rattle.pdh_events.specs.laws.ActsLaws.{bits_to, bits_to-append}
use Rattle.pdh_events.specs.laws.QuietLaws.{OnlyGive}
use Rattle.pdh_rx.specs.Places.{cell_acts, place_acts, places_acts, role_cell, frame_cell, ones_cell, loaded_cell, loaded_places, loaded_bits, loaded_acts, StandsAt}
use Rattle.pdh_rx.proofs.SlotActs.{slots_bits}
use Rattle.pdh_rx.proofs.StepActs.{rounds_give}
use Rattle.pdh_rx.proofs.Places.{places_split, one_place, places_give}
use Rattle.pdh_rx.proofs.FramePlaces.{some_same, none_some, frame_places, gap_places}

some_none : {X : Type 0} (x : X) → Some x ≡ None → ⊥
some_none x e = cc

-- ---- what places give a tributary

-- the bit of a place, if it has one
abbrev pub cell_bits : Option Bool → List Bool
cell_bits None = []
cell_bits (Some bit) = bit ∷ []

cell_own : (j : ℕ) (c : Option Bool) → bits_to (cell_acts j c) j ≡ cell_bits c
cell_own j None = refl
cell_own j (Some bit) = append-nil (only j bit j) ∙ ap (λ b. cond b (bit ∷ []) []) (eq-eqb j j refl)

cell_other : (i j : ℕ) (c : Option Bool) → (i ≡ j → ⊥) → bits_to (cell_acts i c) j ≡ []
cell_other i j None ne = refl
cell_other i j (Some bit) ne = append-nil (only i bit j) ∙ ap (λ b. cond b (bit ∷ []) []) (ne_eqb j i (λ e. ne (sym e)))

-- places of others
pub none_at : (tribs : ℕ) (cell : ℕ → Option Bool) (j from n : ℕ) → ((p : ℕ) → from ≤ p → p < from + n → p % tribs ≡ j → ⊥) → bits_to (places_acts tribs cell from n) j ≡ []
none_at tribs cell j from zero never = refl
none_at tribs cell j from (suc n) never =
    bits_to-append (place_acts tribs cell from) (places_acts tribs cell (from + 1) n) j
    ∙ ap (λ v. v ++ bits_to (places_acts tribs cell (from + 1) n) j) (cell_other (from % tribs) j (cell from) (never from (omega arith) (omega arith)))
    ∙ none_at tribs cell j (from + 1) n (λ p le lt. never p (omega (arith, le)) (omega (arith, lt)))

-- a place of its own, and then others
pub own_first : (tribs : ℕ) (cell : ℕ → Option Bool) (j p n : ℕ) → p % tribs ≡ j → bits_to (places_acts tribs cell p (1 + n)) j ≡ cell_bits (cell p) ++ bits_to (places_acts tribs cell (p + 1) n) j
own_first tribs cell j p n is =
    ap (λ a. bits_to a j) (places_split tribs cell p 1 n) ∙ bits_to-append (places_acts tribs cell p 1) (places_acts tribs cell (p + 1) n) j
    ∙ ap (λ v. v ++ bits_to (places_acts tribs cell (p + 1) n) j) (ap (λ a. bits_to a j) (one_place tribs cell p) ∙ ap (λ i. bits_to (cell_acts i (cell p)) j) is ∙ cell_own j (cell p))

module _ (tribs : ℕ) (cell : ℕ → Option Bool) (j : ℕ) (known : j < tribs) where
  -- its place in turn i
  abbrev pub at : ℕ → ℕ
  at i = i * tribs + j

  pub at_own : (i : ℕ) → at i % tribs ≡ j
  at_own i = mod-mul-add i tribs j known

  between : (i p : ℕ) → at i < p → p < at i + tribs → p % tribs ≡ j → ⊥
  between i p more less is = elim (cases_lt (j + (p - at i)) tribs) [
    | inl here ↦
        let place : p ≡ i * tribs + (j + (p - at i)) = omega (arith, more) in
        let leaves : p % tribs ≡ j + (p - at i) = ap (λ v. v % tribs) place ∙ mod-mul-add i tribs (j + (p - at i)) here in
        absurd (omega (arith, leaves, is, more))
    | inr beyond ↦
        let place : p ≡ suc i * tribs + (j + (p - at i) - tribs) = omega (arith, more, beyond, suc-mul i tribs) in
        let leaves : p % tribs ≡ j + (p - at i) - tribs = ap (λ v. v % tribs) place ∙ mod-mul-add (suc i) tribs (j + (p - at i) - tribs) (omega (arith, less, known)) in
        absurd (omega (arith, leaves, is, less, beyond))
  ]

  -- nothing before its first place
  pub first_none : bits_to (places_acts tribs cell 0 (at 0)) j ≡ []
  first_none = none_at tribs cell j 0 (at 0) (λ p le lt is. (let small : p < tribs = omega (arith, lt, known) in let place : p ≡ 0 * tribs + p = omega arith in let leaves : p % tribs ≡ p = ap (λ v. v % tribs) place ∙ mod-mul-add 0 tribs p small in omega (arith, leaves, is, lt)))

  -- and a turn more
  pub turn_more : (i : ℕ) → bits_to (places_acts tribs cell 0 (at (suc i))) j ≡ bits_to (places_acts tribs cell 0 (at i)) j ++ cell_bits (cell (at i))
  turn_more i =
      let whole : at (suc i) ≡ at i + (1 + (tribs - 1)) = omega (arith, suc-mul i tribs, known) in
      let none : 0 + at i ≡ at i = omega arith in
      let front : List Bool = bits_to (places_acts tribs cell 0 (at i)) j in
      ap (λ n. bits_to (places_acts tribs cell 0 n) j) whole ∙ ap (λ a. bits_to a j) (places_split tribs cell 0 (at i) (1 + (tribs - 1)))
      ∙ bits_to-append (places_acts tribs cell 0 (at i)) (places_acts tribs cell (0 + at i) (1 + (tribs - 1))) j
      ∙ ap (λ p. front ++ bits_to (places_acts tribs cell p (1 + (tribs - 1))) j) none
      ∙ ap (λ v. front ++ v) (own_first tribs cell j (at i) (tribs - 1) (at_own i)
      ∙ ap (λ v. cell_bits (cell (at i)) ++ v) (none_at tribs cell j (at i + 1) (tribs - 1) (λ p le lt. between i p (omega (arith, le)) (omega (arith, lt, known))))
      ∙ append-nil (cell_bits (cell (at i))))

  -- the turns before this one in which it gets nothing: one that is empty, or none
  abbrev pub missing : Bool → ℕ → ℕ → ℕ
  missing empty q i = cond empty (cond (nat_lt q i) 1 0) 0

  -- how many bits it has got before turn i, where the turn that may be empty alone is
  pub turns_give : (empty : Bool) (q i : ℕ) → ((k : ℕ) → k < i → cell (at k) ≡ None → (empty ≡ true) × (k ≡ q)) → (q < i → empty ≡ true → cell (at q) ≡ None)
      → length (bits_to (places_acts tribs cell 0 (at i)) j) + missing empty q i ≡ i
  turns_give empty q zero only_one is = (let none : length (bits_to (places_acts tribs cell 0 (at 0)) j) ≡ 0 = ap length first_none in omega (arith, none, start empty))
    where
      start : (b : Bool) → ◌≡◌ {A = ℕ} (cond b (cond (nat_lt q 0) 1 0) 0) 0
      start true = ap (λ b. cond b 1 0) (le-ltb q 0 (omega arith))
      start false = refl
  turns_give empty q (suc i) only_one is =
      let rest = turns_give empty q i (λ k lt. only_one k (omega (arith, lt))) (λ lt. is (omega (arith, lt))) in
      let long : length (bits_to (places_acts tribs cell 0 (at (suc i))) j) ≡ length (bits_to (places_acts tribs cell 0 (at i)) j) + length (cell_bits (cell (at i))) =
      ap length (turn_more i) ∙ length-append (bits_to (places_acts tribs cell 0 (at i)) j) (cell_bits (cell (at i))) in
      let one = turn_one (cell (at i)) refl in
      omega (arith, rest, long, one)
    where
      same : (empty ≡ true → i ≡ q → ⊥) → (b : Bool) → empty ≡ b → missing b q (suc i) ≡ missing b q i
      same never false e = refl
      same never true e = elim (cases_lt q i) [
        | inl less ↦ ap (λ b. cond b 1 0) (lt-ltb q (suc i) (omega (arith, less)) ∙ sym (lt-ltb q i less))
        | inr more ↦
            let past : suc i ≤ q = apart (λ e'. never e e') more in
            ap (λ b. cond b 1 0) (le-ltb q (suc i) past ∙ sym (le-ltb q i more))
      ]
        where
          apart : (i ≡ q → ⊥) → i ≤ q → suc i ≤ q
          apart ne le = elim (cases_eq i q) [
            | inl e ↦ absurd (ne e)
            | inr ne' ↦ omega (arith, le, ne')
          ]

      turn_one : (c : Option Bool) → cell (at i) ≡ c → length (cell_bits (cell (at i))) + missing empty q (suc i) ≡ missing empty q i + 1
      turn_one (Some b) e =
          let length_one : ◌≡◌ {A = ℕ} (length (cell_bits (cell (at i)))) 1 = ap (λ c. length (cell_bits c)) e in
          let never : empty ≡ true → i ≡ q → ⊥ = λ t iq. some_none b (sym e ∙ ap (λ k. cell (at k)) iq ∙ is (omega (arith, iq)) t) in
          let still : missing empty q (suc i) ≡ missing empty q i = same never empty refl in
          omega (arith, length_one, still)
      turn_one None e =
          let length_none : ◌≡◌ {A = ℕ} (length (cell_bits (cell (at i)))) 0 = ap (λ c. length (cell_bits c)) e in
          let own = only_one i (omega arith) e in
          let now : ◌≡◌ {A = ℕ} (missing empty q (suc i)) 1 = ap (λ b. cond b (cond (nat_lt q (suc i)) 1 0) 0) own.0 ∙ ap (λ b. cond b 1 0) (lt-ltb q (suc i) (omega (arith, own.1))) in
          let was : ◌≡◌ {A = ℕ} (missing empty q i) 0 = ap (λ b. cond b (cond (nat_lt q i) 1 0) 0) own.0 ∙ ap (λ b. cond b 1 0) (le-ltb q i (omega (arith, own.1))) in
          omega (arith, length_none, now, was)

-- ---- a bit at its place

-- where so many bits come before a place of its own that has a bit, that bit is the next
pub stands_here : (tribs : ℕ) (cell : ℕ → Option Bool) (end j : ℕ) (bits : List Bool) (k p : ℕ) (b : Bool) → bits ≡ bits_to (places_acts tribs cell 0 end) j → p < end → p % tribs ≡ j → cell p ≡ Some b
    → length (bits_to (places_acts tribs cell 0 p) j) ≡ k → StandsAt tribs cell end j bits k p
stands_here tribs cell end j bits k p b all less own is long =
    let front : List Bool = bits_to (places_acts tribs cell 0 p) j in
    let later : List Bool = bits_to (places_acts tribs cell (p + 1) (end - (p + 1))) j in
    let count : end ≡ p + (1 + (end - (p + 1))) = omega (arith, less) in
    let none : 0 + p ≡ p = omega arith in
    let parts : bits ≡ front ++ (b ∷ later) =
    all ∙ ap (λ n. bits_to (places_acts tribs cell 0 n) j) count ∙ ap (λ a. bits_to a j) (places_split tribs cell 0 p (1 + (end - (p + 1))))
    ∙ bits_to-append (places_acts tribs cell 0 p) (places_acts tribs cell (0 + p) (1 + (end - (p + 1)))) j
    ∙ ap (λ q. front ++ bits_to (places_acts tribs cell q (1 + (end - (p + 1)))) j) none
    ∙ ap (λ v. front ++ v) (own_first tribs cell j p (end - (p + 1)) own ∙ ap (λ c. cell_bits c ++ later) is) in
    let length_is : length bits ≡ k + suc (length later) = ap length parts ∙ length-append front (b ∷ later) ∙ ap (λ n. n + suc (length later)) long in
    record {
      before = sym (ap (take k) parts ∙ take_at front (b ∷ later) k long);
      within = omega (arith, less);
      few = omega (arith, length_is);
      here = λ lt. (less, own, is ∙ ap Some (sym (ap (λ l. get_or l k false) parts ∙ get_or_at front b later false k long)));
      last = λ e. absurd (omega (arith, e, length_is));
    }

-- all its bits come before the end
pub stands_last : (tribs : ℕ) (cell : ℕ → Option Bool) (end j : ℕ) (bits : List Bool) (k : ℕ) → bits ≡ bits_to (places_acts tribs cell 0 end) j → k ≡ length bits → StandsAt tribs cell end j bits k end
stands_last tribs cell end j bits k all long = record {
  before = sym all ∙ sym (take_all k bits (omega (arith, long)));
  within = omega arith;
  few = omega (arith, long);
  here = λ lt. absurd (omega (arith, lt, long));
  last = λ e. refl;
}

-- ---- the places of a frame

inside_range : (p : ℕ → Bool) (a n i : ℕ) → i < length (filter p (range_with_len a n)) → get_or (filter p (range_with_len a n)) i 0 < a + n
inside_range p a zero i lt = absurd (omega (arith, lt))
inside_range p a (suc n) i lt = go (λ i lt'. inside_range p (a + 1) n i lt') (p a) i lt
  where
    rest : List ℕ
    rest = filter p (range_with_len (a + 1) n)

    go : ((i : ℕ) → i < length rest → get_or rest i 0 < (a + 1) + n) → (b : Bool) (i : ℕ) → i < length (cond b (a ∷ rest) rest) → get_or (cond b (a ∷ rest) rest) i 0 < a + suc n
    go more true zero lt = omega arith
    go more true (suc i) lt = omega (arith, more i (omega (arith, lt)))
    go more false i lt = omega (arith, more i (omega (arith, lt)))

-- a slot of tributary j gives nothing where it is justifiable and there is no additional bit
role_empty : (s : FrameShape) (r : Role) (frame : List Bool) (bit : Bool) (j : ℕ) → trib_of r ≡ Some j → role_cell s r (carries_at s frame r) bit ≡ None → (carries_more s j frame ≡ false) × (r ≡ Just j)
role_empty s (Info k) frame bit j e none = absurd (some_none _ none)
role_empty s (Just k) frame bit j e none =
    let same : k ≡ j = some_same k j e in
    (ap (λ i. carries_more s i frame) (sym same) ∙ gone (carries_more s k frame) none, ap Just same)
  where
    gone : (more : Bool) → cond more (Some (turned (s.inverted k) bit)) None ≡ None → more ≡ false
    gone true h = absurd (some_none _ h)
    gone false h = refl
role_empty s (Control k copy) frame bit j e none = absurd (none_some j e)
role_empty s (Align x) frame bit j e none = absurd (none_some j e)
role_empty s (Service n) frame bit j e none = absurd (none_some j e)

just_gives : (s : FrameShape) (r : Role) (frame : List Bool) (bit : Bool) (j : ℕ) → r ≡ Just j → carries_more s j frame ≡ false → role_cell s r (carries_at s frame r) bit ≡ None
just_gives s r frame bit j e none = ap (λ r. role_cell s r (carries_at s frame r) bit) e ∙ ap (λ more. cond more (Some (turned (s.inverted j) bit)) None) none

of_payload : (r : Role) (j : ℕ) → trib_of r ≡ Some j → is_payload r ≡ true
of_payload (Info k) j e = refl
of_payload (Just k) j e = refl
of_payload (Control k copy) j e = absurd (none_some j e)
of_payload (Align x) j e = absurd (none_some j e)
of_payload (Service n) j e = absurd (none_some j e)

module _ (s : FrameShape) (turns : PayloadInTurn s) (has : HasTributaries s) (j : ℕ) (known : j < s.tribs) where
  abbrev spot : ℕ → ℕ
  spot i = i * s.tribs + j

  abbrev slot : ℕ → ℕ
  slot i = get_or (payload_slots s) (spot i) 0

  -- a place in a turn of the frame is one of its places
  pub spot_inside : (i : ℕ) → i < suc s.low → spot i < s.tribs * suc s.low
  spot_inside i lt =
      let whole : suc i * s.tribs ≤ suc s.low * s.tribs = mul-le-mul_right s.tribs (omega (arith, lt)) in
      omega (arith, whole, suc-mul i s.tribs, known, mul_comm s.tribs (suc s.low))

  spot_there : (i : ℕ) → i < suc s.low → spot i < length (payload_slots s)
  spot_there i lt = omega (arith, spot_inside i lt, count_is s turns)

  slot_inside : (i : ℕ) → i < suc s.low → slot i < s.len
  slot_inside i lt = omega (arith, inside_range (λ t. is_payload (s.role t)) 0 s.len (spot i) (spot_there i lt))

  slot_counts : (i : ℕ) → i < suc s.low → payload_before s (slot i) ≡ spot i
  slot_counts i lt =
      let same : 0 + spot i ≡ spot i = omega arith in
      sym (get_or-map (payload_before s) (payload_slots s) (spot i) 0 0 (spot_there i lt))
      ∙ ap (λ l. get_or l (spot i) 0) (numbered (λ (n : ℕ). n) (λ t. is_payload (s.role t)) s.len ∙ ap (λ n. map (λ (n : ℕ). n) (range_with_len 0 n)) turns.whole)
      ∙ get_or-map-range_with_len (λ (n : ℕ). n) 0 (s.tribs * suc s.low) (spot i) (spot i) 0 (spot_inside i lt) same

  slot_reads : (i : ℕ) → i < suc s.low → trib_of (s.role (slot i)) ≡ Some j
  slot_reads i lt =
      let same : 0 + spot i ≡ spot i = omega arith in
      sym (get_or-map (λ t. trib_of (s.role t)) (payload_slots s) (spot i) 0 None (spot_there i lt)) ∙ ap (λ l. get_or l (spot i) None) (in_turn_is s turns)
      ∙ get_or-map-range_with_len (λ p. Some (p % s.tribs)) 0 (s.tribs * suc s.low) (spot i) (spot i) None (spot_inside i lt) same ∙ ap Some (mod-mul-add i s.tribs j known)

  module _ (q : ℕ) (is : (t : ℕ) → t < s.len → s.role t ≡ Just j → q ≡ turn s t) (frame : List Bool) where
    -- an empty turn is the justifiable slot's, where the frame carries no additional bit
    pub empty_is : (i : ℕ) → i < suc s.low → frame_cell s frame (spot i) ≡ None → (carries_more s j frame ≡ false) × (i ≡ q)
    empty_is i lt none =
        let both = role_empty s (s.role (slot i)) frame (get_or frame (slot i) false) j (slot_reads i lt) none in
        let place : turn s (slot i) ≡ i = ap (λ n. n / s.tribs) (slot_counts i lt) ∙ div-mul-add i s.tribs j known in
        (both.0, sym (is (slot i) (slot_inside i lt) both.1 ∙ place))

    -- and that is empty then
    pub just_empty : q < suc s.low → carries_more s j frame ≡ false → frame_cell s frame (spot q) ≡ None
    just_empty lt none =
        let one = one_of_them (just_at s has j known) s.len (omega (arith, just_one s has j known)) in
        let role : s.role one.0 ≡ Just j = just_role j (s.role one.0) one.2 in
        let turn_is : q ≡ turn s one.0 = is one.0 one.1 role in
        let leaves : j ≡ payload_before s one.0 % s.tribs = turns.turn one.0 j one.1 (just_reads j (s.role one.0) one.2) in
        let place : payload_before s one.0 ≡ spot q = sym (div-add-mod' (payload_before s one.0) s.tribs) ∙ ap (λ n. n * s.tribs + payload_before s one.0 % s.tribs) (sym turn_is) ∙ ap (λ n. q * s.tribs + n) (sym leaves) in
        let same : one.0 ≡ slot q = alike one.0 (slot q) (ap is_payload role) (of_payload (s.role (slot q)) j (slot_reads q lt)) (place ∙ sym (slot_counts q lt)) in
        just_gives s (s.role (slot q)) frame (get_or frame (slot q) false) j (ap s.role (sym same) ∙ role) none
      where
        alike : (t u : ℕ) → is_payload (s.role t) ≡ true → is_payload (s.role u) ≡ true → payload_before s t ≡ payload_before s u → t ≡ u
        alike t u pt pu e = elim (cases_lt t u) [
          | inl less ↦ absurd (omega (arith, before_less (λ t. is_payload (s.role t)) t u pt less, e))
          | inr more ↦ elim (cases_lt u t) [
            | inl less ↦ absurd (omega (arith, before_less (λ t. is_payload (s.role t)) u t pu less, e))
            | inr less ↦ omega (arith, more, less)
          ]
        ]

  -- what a frame gives the tributary
  pub frame_all : (frame : List Bool) → stripped s j frame ≡ bits_to (places_acts s.tribs (frame_cell s frame) 0 (s.tribs * suc s.low)) j
  frame_all frame = sym (slots_bits s frame j) ∙ ap (λ a. bits_to a j) (frame_places s frame turns)

  -- a bit of a frame stands in its turn
  pub frame_stands : (frame : List Bool) (k i p : ℕ) → k < length (stripped s j frame) → StandsInTurn s j frame k i → p ≡ spot i → StandsAt s.tribs (frame_cell s frame) (s.tribs * suc s.low) j (stripped s j frame) k p
  frame_stands frame k i p lt stands e =
      subst (λ p. StandsAt s.tribs (frame_cell s frame) (s.tribs * suc s.low) j (stripped s j frame) k p) (sym e) (by_more (carries_more s j frame) refl (cases_lt k stands.just) (frame_cell s frame (spot i)) refl)
    where
      q : ℕ
      q = stands.just

      long : length (stripped s j frame) ≡ cond (carries_more s j frame) (suc s.low) s.low
      long = length-stripped s j frame has known

      differ : true ≡ false → ⊥
      differ h = cc

      turned_is : (more : Bool) → carries_more s j frame ≡ more → i ≡ cond more k (cond (nat_lt k q) k (suc k))
      turned_is more e = stands.turn_is ∙ ap (λ b. cond b k (cond (nat_lt k q) k (suc k))) e

      counted : (empty : Bool) → i < suc s.low → ((carries_more s j frame ≡ false) → empty ≡ true) → (empty ≡ true → carries_more s j frame ≡ false)
          → length (bits_to (places_acts s.tribs (frame_cell s frame) 0 (spot i)) j) + missing s.tribs (frame_cell s frame) j known empty q i ≡ i
      counted empty inside to from = turns_give s.tribs (frame_cell s frame) j known empty q i
          (λ n lt' none. (let both = empty_is q stands.just_is frame n (omega (arith, lt', inside)) none in (to both.0, both.1)))
          (λ lt' so. just_empty q stands.just_is frame (omega (arith, lt', inside)) (from so))

      put : (b : Bool) → i < suc s.low → frame_cell s frame (spot i) ≡ Some b → length (bits_to (places_acts s.tribs (frame_cell s frame) 0 (spot i)) j) ≡ k → StandsAt s.tribs (frame_cell s frame) (s.tribs * suc s.low) j (stripped s j frame) k (spot i)
      put b inside here count = stands_here s.tribs (frame_cell s frame) (s.tribs * suc s.low) j (stripped s j frame) k (spot i) b (frame_all frame) (spot_inside i inside) (at_own s.tribs (frame_cell s frame) j known i) here count

      by_more : (more : Bool) → carries_more s j frame ≡ more → (k < q) ⊎ (q ≤ k) → (c : Option Bool) → frame_cell s frame (spot i) ≡ c → StandsAt s.tribs (frame_cell s frame) (s.tribs * suc s.low) j (stripped s j frame) k (spot i)
      by_more true e side (Some b) here =
          let few : k < suc s.low = omega (arith, lt, long ∙ ap (λ b. cond b (suc s.low) s.low) e) in
          let inside : i < suc s.low = omega (arith, few, turned_is true e) in
          put b inside here (omega (arith, counted false inside (λ f. absurd (differ (sym e ∙ f))) (λ f. absurd (differ (sym f))), turned_is true e))
      by_more true e side None here =
          let few : k < suc s.low = omega (arith, lt, long ∙ ap (λ b. cond b (suc s.low) s.low) e) in
          let inside : i < suc s.low = omega (arith, few, turned_is true e) in
          absurd (differ (sym e ∙ (empty_is q stands.just_is frame i inside here).0))
      by_more false e (inl before) (Some b) here =
          let few : k < s.low = omega (arith, lt, long ∙ ap (λ b. cond b (suc s.low) s.low) e) in
          let now : i ≡ k = turned_is false e ∙ ap (λ b. cond b k (suc k)) (lt-ltb k q before) in
          let none : ◌≡◌ {A = ℕ} (missing s.tribs (frame_cell s frame) j known true q i) 0 = ap (λ b. cond b 1 0) (le-ltb q i (omega (arith, before, now))) in
          let inside : i < suc s.low = omega (arith, few, now) in
          put b inside here (omega (arith, counted true inside (λ f. refl) (λ f. e), none, now))
      by_more false e (inr behind) (Some b) here =
          let few : k < s.low = omega (arith, lt, long ∙ ap (λ b. cond b (suc s.low) s.low) e) in
          let now : i ≡ suc k = turned_is false e ∙ ap (λ b. cond b k (suc k)) (le-ltb k q behind) in
          let one : ◌≡◌ {A = ℕ} (missing s.tribs (frame_cell s frame) j known true q i) 1 = ap (λ b. cond b 1 0) (lt-ltb q i (omega (arith, behind, now))) in
          let inside : i < suc s.low = omega (arith, few, now) in
          put b inside here (omega (arith, counted true inside (λ f. refl) (λ f. e), one, now))
      by_more false e (inl before) None here =
          let few : k < s.low = omega (arith, lt, long ∙ ap (λ b. cond b (suc s.low) s.low) e) in
          let now : i ≡ k = turned_is false e ∙ ap (λ b. cond b k (suc k)) (lt-ltb k q before) in
          let is : i ≡ q = (empty_is q stands.just_is frame i (omega (arith, few, now)) here).1 in
          absurd (omega (arith, now, is, before))
      by_more false e (inr behind) None here =
          let few : k < s.low = omega (arith, lt, long ∙ ap (λ b. cond b (suc s.low) s.low) e) in
          let now : i ≡ suc k = turned_is false e ∙ ap (λ b. cond b k (suc k)) (le-ltb k q behind) in
          let is : i ≡ q = (empty_is q stands.just_is frame i (omega (arith, few, now)) here).1 in
          absurd (omega (arith, now, is, behind))

  -- ---- the places of a gap

  pub gap_all : replicate s.low true ≡ bits_to (places_acts s.tribs ones_cell 0 (s.low * s.tribs)) j
  gap_all = sym (rounds_give s j s.low known) ∙ ap (λ a. bits_to a j) (gap_places s s.low)

  pub gap_stands : (k p : ℕ) → k < s.low → p ≡ spot k → StandsAt s.tribs ones_cell (s.low * s.tribs) j (replicate s.low true) k p
  gap_stands k p lt e =
      let none_empty : (n : ℕ) → n < k → Some true ≡ None → (false ≡ true) × (n ≡ 0) = λ n lt' none. absurd (some_none true none) in
      let long : length (bits_to (places_acts s.tribs ones_cell 0 (spot k)) j) + missing s.tribs ones_cell j known false 0 k ≡ k = turns_give s.tribs ones_cell j known false 0 k none_empty (λ lt' so. absurd (never so)) in
      let whole : suc k * s.tribs ≤ s.low * s.tribs = mul-le-mul_right s.tribs (omega (arith, lt)) in
      subst (λ p. StandsAt s.tribs ones_cell (s.low * s.tribs) j (replicate s.low true) k p) (sym e)
      (stands_here s.tribs ones_cell (s.low * s.tribs) j (replicate s.low true) k (spot k) true gap_all (omega (arith, whole, suc-mul k s.tribs, known)) (at_own s.tribs ones_cell j known k) refl (omega (arith, long)))
    where
      never : false ≡ true → ⊥
      never h = cc

-- ---- what is loaded

-- all of a tributary's bits come before the end
pub loaded_all : (s : FrameShape) (gap : Bool) (frame : List Bool) (j : ℕ) → PayloadInTurn s → HasTributaries s → j < s.tribs → loaded_bits s gap frame j ≡ bits_to (places_acts s.tribs (loaded_cell s gap frame) 0 (loaded_places s gap)) j
loaded_all s true frame j turns has known = gap_all s turns has j known
loaded_all s false frame j turns has known = frame_all s turns has j known frame

-- what is loaded gives is what its places give
pub loaded_acts_are : (s : FrameShape) (gap : Bool) (frame : List Bool) → PayloadInTurn s → loaded_acts s gap frame ≡ places_acts s.tribs (loaded_cell s gap frame) 0 (loaded_places s gap)
loaded_acts_are s true frame turns = gap_places s s.low
loaded_acts_are s false frame turns = frame_places s frame turns

-- nothing is noted of it
pub loaded_give : (s : FrameShape) (gap : Bool) (frame : List Bool) → PayloadInTurn s → OnlyGive (loaded_acts s gap frame)
loaded_give s gap frame turns = subst OnlyGive (sym (loaded_acts_are s gap frame turns)) (places_give s.tribs (loaded_cell s gap frame) 0 (loaded_places s gap))

-- a bit of what is loaded stands in its turn
pub loaded_stands : (s : FrameShape) (gap : Bool) (frame : List Bool) (j : ℕ) → PayloadInTurn s → HasTributaries s → j < s.tribs → (bits : List Bool) (k i p : ℕ) → bits ≡ loaded_bits s gap frame j → k < length bits
    → (gap ≡ true → i ≡ k) → (gap ≡ false → StandsInTurn s j frame k i) → p ≡ i * s.tribs + j → StandsAt s.tribs (loaded_cell s gap frame) (loaded_places s gap) j bits k p
loaded_stands s true frame j turns has known bits k i p is lt in_gap in_frame e =
    let few : k < s.low = omega (arith, lt, ap length is ∙ length-replicate s.low true) in
    subst (λ b. StandsAt s.tribs ones_cell (s.low * s.tribs) j b k p) (sym is) (gap_stands s turns has j known k p few (e ∙ ap (λ n. n * s.tribs + j) (in_gap refl)))
loaded_stands s false frame j turns has known bits k i p is lt in_gap in_frame e =
    let few : k < length (stripped s j frame) = omega (arith, lt, ap length is) in
    subst (λ b. StandsAt s.tribs (frame_cell s frame) (s.tribs * suc s.low) j b k p) (sym is) (frame_stands s turns has j known frame k i p few (in_frame refl) e)

-- with the numbers as the code has them
pub in_turn : (s : FrameShape) (gap : Bool) (frame bits : List Bool) (j before turn tribs last : ℕ) → PayloadInTurn s → HasTributaries s → j < s.tribs → bits ≡ loaded_bits s gap frame j → before < length bits
    → (gap ≡ true → turn ≡ before) → (gap ≡ false → StandsInTurn s j frame before turn) → tribs ≡ s.tribs → last ≡ j
    → StandsAt s.tribs (loaded_cell s gap frame) (loaded_places s gap) j bits before (turn * tribs + last)
in_turn s gap frame bits j before turn tribs last turns has known is lt in_gap in_frame count own =
    loaded_stands s gap frame j turns has known bits before turn (turn * tribs + last) is lt in_gap in_frame (ap (λ n. turn * n + last) count ∙ ap (λ n. turn * s.tribs + n) own)

pub loaded_last : (s : FrameShape) (gap : Bool) (frame : List Bool) (j : ℕ) → PayloadInTurn s → HasTributaries s → j < s.tribs → (bits : List Bool) (k p : ℕ) → bits ≡ loaded_bits s gap frame j → k ≡ length bits → p ≡ loaded_places s gap
    → StandsAt s.tribs (loaded_cell s gap frame) (loaded_places s gap) j bits k p
loaded_last s gap frame j turns has known bits k p is all e =
    subst (λ p. StandsAt s.tribs (loaded_cell s gap frame) (loaded_places s gap) j bits k p) (sym e) (stands_last s.tribs (loaded_cell s gap frame) (loaded_places s gap) j bits k (is ∙ loaded_all s gap frame j turns has known) all)

-- there are no tributaries only where there are no places
pub loaded_some : (s : FrameShape) (gap : Bool) → (0 < s.tribs) ⊎ (loaded_places s gap ≡ 0)
loaded_some s gap = elim (cases_lt 0 s.tribs) [
  | inl some ↦ inl some
  | inr none ↦ inr (none_there gap (omega (arith, none)))
]
  where
    none_there : (gap : Bool) → s.tribs ≡ 0 → loaded_places s gap ≡ 0
    none_there true e = ap (λ n. s.low * n) e ∙ omega arith
    none_there false e = ap (λ n. n * suc s.low) e ∙ omega arith

-- what is loaded, told in another way
pub read_same : (s : FrameShape) (gap gap' : Bool) (frame frame' : List Bool) (j : ℕ) (bits : List Bool) → gap' ≡ gap → frame' ≡ frame → bits ≡ loaded_bits s gap' frame' j → bits ≡ loaded_bits s gap frame j
read_same s gap gap' frame frame' j bits eg ef eb = eb ∙ ap (λ x. loaded_bits s x frame' j) eg ∙ ap (λ x. loaded_bits s gap x j) ef
