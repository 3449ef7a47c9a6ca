-- Which turns of a tributary carry its bits, and which one is empty.
use Rattle.std.proofs.Common.{◌≡◌, ℕ, zero, suc, ◌+◌, ◌-◌, ◌<◌, ◌≤◌, Bool, true, false, ◌&&◌, nat_lt, cond, List, [], ◌∷◌, ◌++◌, length, map, take, drop, get_or, Option, Some, None, replicate, append_assoc, sym, ap, ◌∙◌, inl, inr, subst, arith, add-one}
use Rattle.std.specs.Prelude.{is_some, IfSome, ◌⊎◌}
use Rattle.std.proofs.lemmas.Bool.{cases_Bool, cases_lt, lt-ltb, ltb-true}
use Rattle.std.proofs.lemmas.List.{get_or_append_left, get_or_at, get_or-append_right, get_or-append-add, get_or-map, get_or-take, get_or-drop, length-append, length-map, length-take, length-drop, length-replicate}
use Rattle.pdh_bits.specs.BitOut.{BoundedBits}
use Rattle.pdh_packed.specs.Words.{bounded}
use Rattle.pdh_shape.specs.declared.role.Role.{Role}
use Rattle.pdh_shape.specs.declared.role.Role.TheVariants.{Align, Service, Control, Just, Info}
use Rattle.pdh_shape.specs.Frame.{FrameShape}
use Rattle.pdh_shape.specs.Tributary.{reads_from, reads_below, turned, is_just, HasTributaries}
use Rattle.pdh_shape.specs.Payload.{PayloadInTurn, payload_before}
use Rattle.pdh_runs.specs.Pieces.{turn, row, rows, FillsColumn}
use Rattle.pdh_runs.specs.declared.turns.Turns.{Turns}
use Rattle.pdh_runs.specs.Turns.{empty_before, AreTurns, turn_bits}
use Rattle.pdh_runs.proofs.Counts.{before, before_pass, before_fail, before_less, before_grows}
use Rattle.pdh_runs.proofs.TurnLaws.{turn_is, reads_are, dealt_bounds, dealt_begun}
use Rattle.pdh_runs.proofs.TableLaws.{just_at, just_below, just_one, just_role}
use Rattle.pdh_runs.proofs.PieceLaws.{reads_more, turn_within as turn_within_piece}

-- ---- the justifiable slot among those of its tributary

-- one past a number or none
abbrev pub past : ℕ → ℕ → ℕ
past q x = cond (nat_lt q x) 1 0

pub past_cases : (q x : ℕ) → ((q < x) × (past q x ≡ 1)) ⊎ ((x ≤ q) × (past q x ≡ 0))
past_cases q x = elim (cases_lt q x) [
  | inl less ↦ inl (less, ap (λ b. cond b 1 0) (lt-ltb q x less))
  | inr more ↦ elim (cases_Bool (nat_lt q x)) [
    | inl less ↦ absurd (omega (arith, ltb-true q x less, more))
    | inr not_less ↦ inr (more, ap (λ b. cond b 1 0) not_less)
  ]
]

-- the justifiable slot may carry a bit
pub just_reads : (j : ℕ) (role : Role) → is_just j role ≡ true → reads_from j true role ≡ true
just_reads j (Just i) h = ap (λ b. b && true) h
just_reads j (Info i) h = cc
just_reads j (Align signal) h = cc
just_reads j (Service number) h = cc
just_reads j (Control i copy) h = cc

-- where some pass there is one
pub one_of_them : (p : ℕ → Bool) (n : ℕ) → 0 < before p n → (u : ℕ) × (u < n) × (p u ≡ true)
one_of_them p zero some = absurd (omega (arith, some))
one_of_them p (suc n) some = elim (cases_Bool (p n)) [
  | inl pass ↦ (n, omega arith, pass)
  | inr fail ↦
      let rest = one_of_them p n (omega (arith, some, ap (before p) (sym (add-one n)) ∙ before_fail p n fail)) in
      (rest.0, omega (arith, rest.1), rest.2)
]

module _ (s : FrameShape) (turns : PayloadInTurn s) (has : HasTributaries s) (j : ℕ) (known : j < s.tribs) (q : ℕ) (is : (t : ℕ) → t < s.len → s.role t ≡ Just j → q ≡ turn s t) where
  passed_at : (u t : ℕ) → u < s.len → just_at s has j known u ≡ true → t ≤ s.len → before (just_at s has j known) t ≡ past q (reads_below s j true t)
  passed_at u t inside just within =
      let role : s.role u ≡ Just j = just_role j (s.role u) just in
      let reads : reads_from j true (s.role u) ≡ true = just_reads j (s.role u) just in
      let here : q ≡ reads_below s j true u = is u inside role ∙ turn_is s turns j known u inside reads in
      let one = just_one s has j known in
      let p = past_cases q (reads_below s j true t) in
      elim (cases_lt u t) [
        | inl behind ↦
            let less = before_less (λ t. reads_from j true (s.role t)) u t reads behind in
            let some = before_less (just_at s has j known) u t just behind in
            let most = before_grows (just_at s has j known) t s.len within in
            elim p [
              | inl more ↦ omega (arith, some, most, one, more.1)
              | inr none ↦ absurd (omega (arith, none.0, here, less))
            ]
        | inr yet ↦
            let less = before_grows (λ t. reads_from j true (s.role t)) t u yet in
            let none = before_grows (just_at s has j known) t u yet in
            let most = before_less (just_at s has j known) u s.len just inside in
            elim p [
              | inl more ↦ absurd (omega (arith, more.0, here, less))
              | inr zero' ↦ omega (arith, none, most, one, zero'.1)
            ]
      ]

  -- a frame that carries no additional bit carries one fewer past the justifiable slot's turn
  pub just_passed : (t : ℕ) → t ≤ s.len → reads_below s j true t ≡ reads_below s j false t + past q (reads_below s j true t)
  just_passed t within =
      let one = one_of_them (just_at s has j known) s.len (omega (arith, just_one s has j known)) in
      omega (arith, just_below s has j known t, passed_at one.0 t one.1 one.2 within)

  module _ (more : Bool) (first len : ℕ) (inside : first + len ≤ s.len) where
    abbrev from : ℕ
    from = reads_below s j true first

    abbrev to : ℕ
    to = reads_below s j true (first + len)

    grows : (a b : ℕ) → a ≤ b → reads_below s j true a ≤ reads_below s j true b
    grows a b h = before_grows (λ t. reads_from j true (s.role t)) a b h

    -- no turn of the piece is empty
    pub none_empty : (turns : Turns) → turns.from ≡ from → turns.from + turns.count ≡ to → turns.empty ≡ None → (more ≡ true) ⊎ ((q < from) ⊎ (to ≤ q)) → AreTurns s j more first len turns
    none_empty turns f c e why = record {
      from_is = f;
      count_is = c;
      carries = λ t h h'.
          let none : empty_before turns.empty (reads_below s j true t - turns.from) ≡ 0 = ap (λ e. empty_before e (reads_below s j true t - turns.from)) e in
          omega (arith, none, same t h h' why, f);
      empty_is = subst (λ e. IfSome e (λ place. place < turns.count)) (sym e) tt;
    }
      where
        same : (t : ℕ) → first ≤ t → t ≤ first + len → (more ≡ true) ⊎ ((q < from) ⊎ (to ≤ q)) → reads_below s j more t + from ≡ reads_below s j more first + reads_below s j true t
        same t h h' why = elim (cases_Bool more) [
          | inl all ↦ omega (arith, ap (λ b. reads_below s j b t) all, ap (λ b. reads_below s j b first) all)
          | inr fewer ↦
              let here = just_passed t (omega (arith, h', inside)) in
              let begun = just_passed first (omega (arith, inside)) in
              let low = grows first t h in
              let high = grows t (first + len) h' in
              let a : reads_below s j more t ≡ reads_below s j false t = ap (λ b. reads_below s j b t) fewer in
              let b : reads_below s j more first ≡ reads_below s j false first = ap (λ b. reads_below s j b first) fewer in
              elim why [
                | inl all ↦ absurd (differ (sym all ∙ fewer))
                | inr out ↦ outside here begun low high a b out (past_cases q (reads_below s j true t)) (past_cases q from)
              ]
        ]
          where
            differ : true ≡ false → ⊥
            differ h = cc

            outside : reads_below s j true t ≡ reads_below s j false t + past q (reads_below s j true t) → from ≡ reads_below s j false first + past q from → from ≤ reads_below s j true t → reads_below s j true t ≤ to
                → reads_below s j more t ≡ reads_below s j false t → reads_below s j more first ≡ reads_below s j false first → (q < from) ⊎ (to ≤ q)
                → ((q < reads_below s j true t) × (past q (reads_below s j true t) ≡ 1)) ⊎ ((reads_below s j true t ≤ q) × (past q (reads_below s j true t) ≡ 0)) → ((q < from) × (past q from ≡ 1)) ⊎ ((from ≤ q) × (past q from ≡ 0))
                → reads_below s j more t + from ≡ reads_below s j more first + reads_below s j true t
            outside here begun low high a b (inl before) (inl x) (inl y) = omega (arith, here, begun, a, b, x.1, y.1)
            outside here begun low high a b (inl before) (inl x) (inr y) = absurd (omega (arith, before, y.0))
            outside here begun low high a b (inl before) (inr x) y = absurd (omega (arith, before, x.0, low))
            outside here begun low high a b (inr after) (inl x) y = absurd (omega (arith, after, x.0, high))
            outside here begun low high a b (inr after) (inr x) (inl y) = absurd (omega (arith, after, y.0, low, high))
            outside here begun low high a b (inr after) (inr x) (inr y) = omega (arith, here, begun, a, b, x.1, y.1)

    -- the justifiable slot's is
    pub just_empty : (turns : Turns) → turns.from ≡ from → turns.from + turns.count ≡ to → turns.empty ≡ Some (q - turns.from) → more ≡ false → from ≤ q → q < to → AreTurns s j more first len turns
    just_empty turns f c e fewer low high = record {
      from_is = f;
      count_is = c;
      carries = λ t h h'.
          let one : empty_before turns.empty (reads_below s j true t - turns.from) ≡ past (q - turns.from) (reads_below s j true t - turns.from) = ap (λ e. empty_before e (reads_below s j true t - turns.from)) e in
          counted (reads_below s j true t) (reads_below s j more t) one (grows first t h) (just_passed t (omega (arith, h', inside))) (just_passed first (omega (arith, inside))) (ap (λ b. reads_below s j b t) fewer) (ap (λ b. reads_below s j b first) fewer)
          (past_cases (q - turns.from) (reads_below s j true t - turns.from)) (past_cases q (reads_below s j true t)) (past_cases q from);
      empty_is = subst (λ e. IfSome e (λ place. place < turns.count)) (sym e) within;
    }
      where
        within : q - turns.from < turns.count
        within = omega (arith, f, c, low, high)

        counted : (now here : ℕ) {all : ℕ} → empty_before turns.empty (now - turns.from) ≡ past (q - turns.from) (now - turns.from) → from ≤ now → now ≡ all + past q now → from ≡ reads_below s j false first + past q from
            → here ≡ all → reads_below s j more first ≡ reads_below s j false first
            → ((q - turns.from < now - turns.from) × (past (q - turns.from) (now - turns.from) ≡ 1)) ⊎ ((now - turns.from ≤ q - turns.from) × (past (q - turns.from) (now - turns.from) ≡ 0))
            → ((q < now) × (past q now ≡ 1)) ⊎ ((now ≤ q) × (past q now ≡ 0)) → ((q < from) × (past q from ≡ 1)) ⊎ ((from ≤ q) × (past q from ≡ 0))
            → here + turns.from + empty_before turns.empty (now - turns.from) ≡ reads_below s j more first + now
        counted now here one begun passed passed_first a b x y (inl z) = absurd (omega (arith, z.0, low))
        counted now here one begun passed passed_first a b (inl x) (inl y) (inr z) = omega (arith, one, passed, passed_first, a, b, x.1, y.1, z.1, f)
        counted now here one begun passed passed_first a b (inl x) (inr y) (inr z) = absurd (omega (arith, x.0, y.0, f, begun, low))
        counted now here one begun passed passed_first a b (inr x) (inl y) (inr z) = absurd (omega (arith, x.0, y.0, f, begun, low))
        counted now here one begun passed passed_first a b (inr x) (inr y) (inr z) = omega (arith, one, passed, passed_first, a, b, x.1, y.1, z.1, f)

-- ---- the bits of turns

module _ (inverted : Bool) (count : ℕ) (queue : List Bool) where
  taken_at : (place n m : ℕ) → n < m → place + m ≤ length queue → get_or (map (turned inverted) (take m (drop place queue))) n false ≡ turned inverted (get_or queue (place + n) false)
  taken_at place n m less within =
      get_or-map (turned inverted) (take m (drop place queue)) n false false (omega (arith, less, within, length-take m (drop place queue), length-drop place queue))
      ∙ ap (turned inverted) (get_or-take m (drop place queue) n false less ∙ get_or-drop place queue n false)

  pub length-turn_bits : (empty : Option ℕ) → IfSome empty (λ place. place < count) → count ≤ length queue + cond (is_some empty) 1 0 → length (turn_bits inverted empty count queue) ≡ count
  length-turn_bits None within held = omega (arith, length-map (take count queue) (turned inverted), length-take count queue, held)
  length-turn_bits (Some place) within held =
      let behind : ℕ = count - place - 1 in
      omega (
        arith,
        length-append (map (turned inverted) (take place queue)) (true ∷ map (turned inverted) (take behind (drop place queue))),
        length-map (take place queue) (turned inverted),
        length-take place queue,
        length-map (take behind (drop place queue)) (turned inverted),
        length-take behind (drop place queue),
        length-drop place queue,
        within,
        held,
      )

  -- a turn that isn't empty has the next bit
  pub turn_carried : (empty : Option ℕ) (n i : ℕ) → IfSome empty (λ place. place < count) → count ≤ length queue + cond (is_some empty) 1 0 → n < count → empty_before empty (n + 1) ≡ empty_before empty n → i + empty_before empty n ≡ n
      → get_or (turn_bits inverted empty count queue) n false ≡ turned inverted (get_or queue i false)
  turn_carried None n i within held less same is =
      let here : 0 + n ≡ i = omega (arith, is) in
      taken_at 0 n count less (omega (arith, held)) ∙ ap (λ k. turned inverted (get_or queue k false)) here
  turn_carried (Some place) n i within held less same is = elim (past_cases place n) [
    | inl behind ↦
        let first : List Bool = map (turned inverted) (take place queue) in
        let rest : List Bool = map (turned inverted) (take (count - place - 1) (drop place queue)) in
        let long : length first ≡ place = omega (arith, length-map (take place queue) (turned inverted), length-take place queue, within, held) in
        let at : n - place ≡ suc (n - place - 1) = omega (arith, behind.0) in
        let here : place + (n - place - 1) ≡ i = omega (arith, is, behind.0, behind.1) in
        get_or-append_right first (true ∷ rest) place n false long (omega (arith, behind.0)) ∙ ap (λ k. get_or (true ∷ rest) k false) at
        ∙ taken_at place (n - place - 1) (count - place - 1) (omega (arith, less, behind.0)) (omega (arith, within, held)) ∙ ap (λ k. turned inverted (get_or queue k false)) here
    | inr yet ↦
        let first : List Bool = map (turned inverted) (take place queue) in
        let rest : List Bool = map (turned inverted) (take (count - place - 1) (drop place queue)) in
        let long : length first ≡ place = omega (arith, length-map (take place queue) (turned inverted), length-take place queue, within, held) in
        let before : n < place = front (past_cases place (n + 1)) (omega (arith, same, yet.1)) yet.0 in
        let here : 0 + n ≡ i = omega (arith, is, yet.1) in
        get_or_append_left first (true ∷ rest) false n (omega (arith, long, before))
        ∙ taken_at 0 n place before (omega (arith, within, held)) ∙ ap (λ k. turned inverted (get_or queue k false)) here
  ]
    where
      front : ((place < n + 1) × (past place (n + 1) ≡ 1)) ⊎ ((n + 1 ≤ place) × (past place (n + 1) ≡ 0)) → past place (n + 1) ≡ 0 → n ≤ place → n < place
      front (inl x) none h = absurd (omega (arith, x.1, none))
      front (inr x) none h = omega (arith, x.0)

  -- the empty one is 1
  pub turn_empty : (empty : Option ℕ) (n : ℕ) → IfSome empty (λ place. place < count) → count ≤ length queue + cond (is_some empty) 1 0 → empty_before empty (n + 1) ≡ suc (empty_before empty n)
      → get_or (turn_bits inverted empty count queue) n false ≡ true
  turn_empty None n within held more = absurd (omega (arith, more))
  turn_empty (Some place) n within held more = elim (past_cases place n) [
    | inl behind ↦ absurd (too_many (past_cases place (n + 1)) behind.1)
    | inr yet ↦
        let first : List Bool = map (turned inverted) (take place queue) in
        let rest : List Bool = map (turned inverted) (take (count - place - 1) (drop place queue)) in
        let long : length first ≡ n = omega (arith, length-map (take place queue) (turned inverted), length-take place queue, within, held, here (past_cases place (n + 1)) yet.0 yet.1) in
        get_or_at first true rest false n long
  ]
    where
      too_many : ((place < n + 1) × (past place (n + 1) ≡ 1)) ⊎ ((n + 1 ≤ place) × (past place (n + 1) ≡ 0)) → past place n ≡ 1 → ⊥
      too_many (inl x) one = omega (arith, x.1, one, more)
      too_many (inr x) one = omega (arith, x.1, one, more)

      here : ((place < n + 1) × (past place (n + 1) ≡ 1)) ⊎ ((n + 1 ≤ place) × (past place (n + 1) ≡ 0)) → n ≤ place → past place n ≡ 0 → place ≡ n
      here (inl x) h none = omega (arith, x.0, h)
      here (inr x) h none = absurd (omega (arith, x.1, none, more))

-- ---- a column

module _ (s : FrameShape) (payload : PayloadInTurn s) (j : ℕ) (known : j < s.tribs) (more : Bool) (first len : ℕ) (inside : first + len ≤ s.len) (queue : List Bool) (turns : Turns) (are : AreTurns s j more first len turns) where
  abbrev may : ℕ → Bool
  may t = reads_from j true (s.role t)

  -- as many bits are needed as the queue has
  pub turns_held : reads_below s j more (first + len) ≤ reads_below s j more first + length queue → turns.count ≤ length queue + cond (is_some turns.empty) 1 0
  turns_held held =
      let all = are.carries (first + len) (omega arith) (omega arith) in
      let count : reads_below s j true (first + len) - turns.from ≡ turns.count = omega (arith, are.count_is) in
      omega (arith, held, all, are.count_is, ap (empty_before turns.empty) count, most turns.empty are.empty_is)
    where
      most : (empty : Option ℕ) → IfSome empty (λ place. place < turns.count) → empty_before empty turns.count ≤ cond (is_some empty) 1 0
      most None within = omega arith
      most (Some place) within = at_most (past_cases place turns.count)
        where
          at_most : ((place < turns.count) × (past place turns.count ≡ 1)) ⊎ ((turns.count ≤ place) × (past place turns.count ≡ 0)) → past place turns.count ≤ 1
          at_most (inl x) = omega (arith, x.1)
          at_most (inr x) = omega (arith, x.1)

  -- a slot's turn among those of the piece
  here_of : ℕ → ℕ
  here_of v = reads_below s j true (first + v) - turns.from

  turn_within : (v : ℕ) → v < len → may (first + v) ≡ true → (turns.from + here_of v ≡ reads_below s j true (first + v)) × (here_of v < turns.count)
  unfolding here_of
  turn_within v h reads =
      let low = before_grows may first (first + v) (omega arith) in
      let high = before_less may (first + v) (first + len) reads (omega (arith, h)) in
      (omega (arith, are.from_is, low), omega (arith, are.from_is, are.count_is, low, high))

  carried_here : (v : ℕ) → v < len → reads_below s j more (first + v) + turns.from + empty_before turns.empty (here_of v) ≡ reads_below s j more first + reads_below s j true (first + v)
  unfolding here_of
  carried_here v h = are.carries (first + v) (omega arith) (omega (arith, h))

  carried_next : (v : ℕ) → v < len → may (first + v) ≡ true → reads_below s j more (first + v + 1) + turns.from + empty_before turns.empty (here_of v + 1) ≡ reads_below s j more first + reads_below s j true (first + v) + 1
  unfolding here_of
  carried_next v h reads =
      let next : reads_below s j true (first + v + 1) ≡ reads_below s j true (first + v) + 1 = before_pass may (first + v) reads in
      let low = before_grows may first (first + v) (omega arith) in
      let count : reads_below s j true (first + v + 1) - turns.from ≡ here_of v + 1 = omega (arith, next, are.from_is, low) in
      omega (arith, are.carries (first + v + 1) (omega arith) (omega (arith, h)), ap (empty_before turns.empty) count, next)

  column_at : (pad rest column : List Bool) (v : ℕ) → turns.count ≤ length queue + cond (is_some turns.empty) 1 0 → turn s first + length pad ≡ turns.from → column ≡ pad ++ (turn_bits (s.inverted j) turns.empty turns.count queue ++ rest)
      → v < len → may (first + v) ≡ true → get_or column (row s first v) false ≡ get_or (turn_bits (s.inverted j) turns.empty turns.count queue) (here_of v) false
  column_at pad rest column v held begun is h reads =
      let bits : List Bool = turn_bits (s.inverted j) turns.empty turns.count queue in
      let within = turn_within v h reads in
      let at : row s first v ≡ length pad + here_of v = omega (arith, turn_is s payload j known (first + v) (omega (arith, h, inside)) reads, within.0, begun) in
      let long : length bits ≡ turns.count = length-turn_bits (s.inverted j) turns.count queue turns.empty are.empty_is held in
      ap (λ l. get_or l (row s first v) false) is ∙ ap (λ k. get_or (pad ++ (bits ++ rest)) k false) at ∙ get_or-append-add pad (bits ++ rest) (here_of v) false
      ∙ get_or_append_left bits rest false (here_of v) (omega (arith, long, within.1))

  pub fills_column : (pad rest column : List Bool) → turns.count ≤ length queue + cond (is_some turns.empty) 1 0 → turn s first + length pad ≡ turns.from → column ≡ pad ++ (turn_bits (s.inverted j) turns.empty turns.count queue ++ rest)
      → FillsColumn s j more first len queue column
  fills_column pad rest column held begun is = record {
    carried = λ v i h pass at.
        let reads : may (first + v) ≡ true = reads_more j more (s.role (first + v)) pass in
        let within = turn_within v h reads in
        let now = carried_here v h in
        let next = carried_next v h reads in
        let more' : reads_below s j more (first + v + 1) ≡ reads_below s j more (first + v) + 1 = before_pass (λ t. reads_from j more (s.role t)) (first + v) pass in
        column_at pad rest column v held begun is h reads
        ∙ turn_carried (s.inverted j) turns.count queue turns.empty (here_of v) i are.empty_is held within.1 (omega (arith, now, next, more')) (omega (arith, now, at, within.0));
    justified = λ v h reads none.
        let now = carried_here v h in
        let next = carried_next v h reads in
        let same : reads_below s j more (first + v + 1) ≡ reads_below s j more (first + v) = before_fail (λ t. reads_from j more (s.role t)) (first + v) none in
        column_at pad rest column v held begun is h reads ∙ turn_empty (s.inverted j) turns.count queue turns.empty (here_of v) are.empty_is held (omega (arith, now, next, same));
  }

  -- the piece begins in the tributary's next turn, or in one that it has had
  pub begins : (turn s first ≤ turns.from) × (turns.from ≤ turn s first + 1)
  begins =
      let is = reads_are s payload j known first (omega (arith, inside)) in
      let bounds = dealt_bounds s.tribs j (payload_before s first) known in
      (omega (arith, is, are.from_is, bounds.0), omega (arith, is, are.from_is, bounds.1))

  -- it ends in the tributary's last turn, or in one that it has yet to have
  pub ends : (turns.from + turns.count ≤ turn s first + rows s first len) × (turn s first + rows s first len ≤ turns.from + turns.count + 1)
  ends =
      let is = reads_are s payload j known (first + len) inside in
      let bounds = dealt_begun s.tribs j (payload_before s (first + len)) known in
      let within = turn_within_piece s (omega (arith, known)) first len in
      (omega (arith, is, are.count_is, bounds.0, within), omega (arith, is, are.count_is, bounds.1, within, begins.0))

  -- no more bits than the tributary has in a frame
  pub turns_few : turns.from + turns.count ≤ before may s.len
  turns_few = omega (arith, are.count_is, before_grows may (first + len) s.len inside)

  -- the column before its first turn, after its last, and filled up
  module _ (held : reads_below s j more (first + len) ≤ reads_below s j more first + length queue) (at all : ℕ) (inverted : Bool) (old cleared begun turned' filled : BoundedBits) (at_is : at ≡ turn s first) (all_is : all ≡ rows s first len) (inverted_is : inverted ≡ s.inverted j) (clears : cleared ≡ bounded old.capacity [])
      (begin_is : begun ≡ bounded cleared.capacity (cleared.bits ++ replicate (turns.from - at - length cleared.bits) false)) where
    pub begun_long : turn s first + length begun.bits ≡ turns.from
    begun_long =
        let none : length cleared.bits ≡ 0 = ap (λ (b : BoundedBits). length b.bits) clears in
        omega (
          arith,
          begins.0,
          at_is,
          none,
          ap (λ (b : BoundedBits). length b.bits) begin_is,
          length-append cleared.bits (replicate (turns.from - at - length cleared.bits) false),
          length-replicate (turns.from - at - length cleared.bits) false,
        )

    pub begun_room : begun.capacity ≡ old.capacity
    begun_room = ap (λ (b : BoundedBits). b.capacity) begin_is ∙ ap (λ (b : BoundedBits). b.capacity) clears

    module _ (turn_is' : turned' ≡ bounded begun.capacity (begun.bits ++ turn_bits inverted turns.empty turns.count queue)) where
      pub turned_long : turn s first + length turned'.bits ≡ turns.from + turns.count
      turned_long =
          omega (
            arith,
            begun_long,
            ap (λ (b : BoundedBits). length b.bits) turn_is',
            length-append begun.bits (turn_bits inverted turns.empty turns.count queue),
            length-turn_bits inverted turns.count queue turns.empty are.empty_is (turns_held held),
          )

      pub turned_room : turned'.capacity ≡ old.capacity
      turned_room = ap (λ (b : BoundedBits). b.capacity) turn_is' ∙ begun_room

      module _ (fill_is : filled ≡ bounded turned'.capacity (turned'.bits ++ replicate (all - length turned'.bits) false)) where
        pub filled_long : length filled.bits ≡ rows s first len
        filled_long =
            omega (
              arith,
              ends.0,
              all_is,
              turned_long,
              ap (λ (b : BoundedBits). length b.bits) fill_is,
              length-append turned'.bits (replicate (all - length turned'.bits) false),
              length-replicate (all - length turned'.bits) false,
            )

        pub filled_room : filled.capacity ≡ old.capacity
        filled_room = ap (λ (b : BoundedBits). b.capacity) fill_is ∙ turned_room

        pub filled_fills : FillsColumn s j more first len queue filled.bits
        filled_fills =
            let rest : List Bool = replicate (all - length turned'.bits) false in
            fills_column begun.bits rest filled.bits (turns_held held) begun_long
            (ap (λ (b : BoundedBits). b.bits) fill_is ∙ ap (λ (b : BoundedBits). b.bits ++ rest) turn_is' ∙ append_assoc begun.bits (turn_bits inverted turns.empty turns.count queue) rest
            ∙ ap (λ i. begun.bits ++ (turn_bits i turns.empty turns.count queue ++ rest)) inverted_is)
