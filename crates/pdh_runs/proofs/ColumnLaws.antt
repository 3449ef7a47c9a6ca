-- The payload of a frame, dealt to the tributaries in turn.
use Rattle.std.proofs.Common.{◌≡◌, ◌≢◌, ℕ, zero, suc, ◌+◌, ◌*◌, ◌-◌, ◌%◌, ◌<◌, ◌≤◌, Bool, true, false, ◌&&◌, cond, List, [], ◌∷◌, ◌++◌, length, map, filter, get_or, refl, sym, ap, ◌∙◌, inl, inr, arith, append_assoc, eq-eqb}
use Rattle.std.specs.Prelude.{count_by, ◌==◌}
use Rattle.std.specs.List.{range_with_len}
use Rattle.std.proofs.lemmas.Bool.{cases_Bool, cases_eq, eqb-true}
use Rattle.std.proofs.lemmas.List.{length_push, get_or_at, map_push}
use Rattle.std.proofs.lemmas.List.Elements.{filter-append}
use Rattle.std.proofs.lemmas.List.Sums.{length-filter}
use Rattle.std.proofs.lemmas.Nat.{mod-mul-add}
use Rattle.std.proofs.lemmas.Simd.{map-map}
use Rattle.std.specs.Prelude.{Some}
use Rattle.pdh_shape.specs.declared.role.Role.{Role}
use Rattle.pdh_shape.specs.declared.role.Role.TheVariants.{Align, Service, Control, Just, Info}
use Rattle.pdh_shape.specs.Frame.{FrameShape, slots}
use Rattle.pdh_shape.specs.Tributary.{reads_from, turned, bits_read}
use Rattle.pdh_shape.specs.Payload.{PayloadInTurn, is_payload, payload_before}
use Rattle.pdh_line.proofs.Ranges.{count_push, range_push, range_append, numbered}
use Rattle.pdh_runs.specs.Columns.{trib_of, payload_slots, payload_bits, trib_bits, column}

-- ---- what a range has where one number passes, or none

filter_none : (p : ℕ → Bool) (a n : ℕ) → ((k : ℕ) → a ≤ k → k < a + n → p k ≡ false) → filter p (range_with_len a n) ≡ []
filter_none p a zero fails = refl
filter_none p a (suc n) fails =
    ap (λ b. cond b (a ∷ filter p (range_with_len (a + 1) n)) (filter p (range_with_len (a + 1) n))) (fails a (omega arith) (omega arith))
    ∙ filter_none p (a + 1) n (λ k h h'. fails k (omega arith) (omega arith))

filter_one : (p : ℕ → Bool) (a n u : ℕ) → a ≤ u → u < a + n → p u ≡ true → ((k : ℕ) → a ≤ k → k < a + n → k ≢ u → p k ≡ false) → filter p (range_with_len a n) ≡ u ∷ []
filter_one p a zero u h h' pass fails = absurd (omega arith)
filter_one p a (suc n) u h h' pass fails =
    let rest : List ℕ = filter p (range_with_len (a + 1) n) in
    elim (cases_eq a u) [
      | inl same ↦
          let others : rest ≡ [] = filter_none p (a + 1) n (λ k h h'. fails k (omega arith) (omega arith) (λ e. absurd (omega (arith, e, same, h)))) in
          ap (λ b. cond b (a ∷ rest) rest) (ap p same ∙ pass) ∙ ap (λ l. a ∷ l) others ∙ ap (λ k. k ∷ []) same
      | inr other ↦
          ap (λ b. cond b (a ∷ rest) rest) (fails a (omega arith) (omega arith) other)
          ∙ filter_one p (a + 1) n u (omega (arith, other)) (omega arith) pass (λ k h h'. fails k (omega arith) (omega arith))
    ]

-- ---- the numbers that leave j

false_from : (b : Bool) → (b ≡ true → ⊥) → b ≡ false
false_from true never = absurd (never refl)
false_from false never = refl

-- one turn has one of them
one_turn : (n j e c : ℕ) → j < n → c ≡ e * n → filter (λ i. i % n == j) (range_with_len c n) ≡ (c + j) ∷ []
one_turn n j e c known is = filter_one (λ i. i % n == j) c n (c + j) (omega arith) (omega arith) here others
  where
    here : ((c + j) % n == j) ≡ true
    here = eq-eqb ((c + j) % n) j (ap (λ m. (m + j) % n) is ∙ mod-mul-add e n j known)

    others : (k : ℕ) → c ≤ k → k < c + n → k ≢ c + j → (k % n == j) ≡ false
    others k h h' other =
        let r : ℕ = k - c in
        let parts : k ≡ e * n + r = omega (arith, h, is) in
        let less : r < n = omega (arith, h, h') in
        let leaves : k % n ≡ r = ap (λ m. m % n) parts ∙ mod-mul-add e n r less in
        false_from (k % n == j) (λ so. other (omega (arith, eqb-true (k % n) j so, leaves, h)))

pub all_turns_dealt : (n j e m : ℕ) → j < n → m ≡ e * n → filter (λ i. i % n == j) (range_with_len 0 m) ≡ map (λ i. i * n + j) (range_with_len 0 e)
all_turns_dealt n j zero m known is =
    let none : m ≡ 0 = omega (arith, is) in
    ap (λ m. filter (λ i. i % n == j) (range_with_len 0 m)) none
all_turns_dealt n j (suc e) m known is =
    let test : ℕ → Bool = λ i. i % n == j in
    let place : ℕ → ℕ = λ i. i * n + j in
    let whole : m ≡ e * n + n = omega (arith, is) in
    let first : 0 + e * n ≡ e * n = omega arith in
    let last : 0 + e ≡ e = omega arith in
    ap (λ m. filter test (range_with_len 0 m)) whole ∙ ap (filter test) (range_append 0 (e * n) n) ∙ filter-append test (range_with_len 0 (e * n)) (range_with_len (0 + e * n) n)
    ∙ ap (λ l. l ++ filter test (range_with_len (0 + e * n) n)) (all_turns_dealt n j e (e * n) known refl)
    ∙ ap (λ l. map place (range_with_len 0 e) ++ l) (one_turn n j e (0 + e * n) known first)
    ∙ ap (λ k. map place (range_with_len 0 e) ++ (k + j) ∷ []) first ∙ ap (λ k. map place (range_with_len 0 e) ++ place k ∷ []) (sym last)
    ∙ sym (map_push place (range_with_len 0 e) (0 + e)) ∙ ap (map place) (sym (range_push 0 e))

-- ---- those of the numbers that pass a test whose places among them pass another

module _ (p q : ℕ → Bool) (f : ℕ → Bool) (test : ℕ → Bool) (end : ℕ) (all : List Bool) (picks : (t : ℕ) → t < end → q t ≡ (p t && test (count_by p (range_with_len 0 t)))) where
  abbrev before : ℕ → ℕ
  before t = count_by p (range_with_len 0 t)

  abbrev read : ℕ → Bool
  read i = get_or all i false

  joined : (b : Bool) (a c : ℕ) (slots places : List ℕ) → f a ≡ read c → map f slots ≡ map read places → map f (cond b (a ∷ slots) slots) ≡ map read (cond b (c ∷ places) places)
  joined true a c slots places here rest = cc
  joined false a c slots places here rest = rest

  dealt : (m a : ℕ) (ys : List Bool) → a + m ≤ end → length ys ≡ before a → all ≡ ys ++ map f (filter p (range_with_len a m))
      → map f (filter q (range_with_len a m)) ≡ map read (filter test (range_with_len (before a) (length (filter p (range_with_len a m)))))
  dealt zero a ys within long is = refl
  dealt (suc m) a ys within long is =
      let more : List ℕ = range_with_len (a + 1) m in
      let next : before (a + 1) ≡ before a + cond (p a) 1 0 = count_push p a in
      let picked : q a ≡ (p a && test (before a)) = picks a (omega arith) in
      elim (cases_Bool (p a)) [
        | inl pass ↦
            let take_a : filter p (a ∷ more) ≡ a ∷ filter p more = ap (λ b. cond b (a ∷ filter p more) (filter p more)) pass in
            let whole : all ≡ ys ++ f a ∷ map f (filter p more) = is ∙ ap (λ l. ys ++ map f l) take_a in
            let count : before (a + 1) ≡ before a + 1 = next ∙ ap (λ b. before a + cond b 1 0) pass in
            let rest : map f (filter q more) ≡ map read (filter test (range_with_len (before (a + 1)) (length (filter p more)))) =
            dealt m (a + 1) (ys ++ f a ∷ []) (omega arith) (omega (arith, length_push ys (f a), count, long)) (whole ∙ sym (append_assoc ys (f a ∷ []) (map f (filter p more)))) in
            let here : f a ≡ read (before a) = sym (ap (λ l. get_or l (before a) false) whole ∙ get_or_at ys (f a) (map f (filter p more)) false (before a) long) in
            let places : List ℕ = filter test (range_with_len (before a + 1) (length (filter p more))) in
            ap (λ b. map f (cond b (a ∷ filter q more) (filter q more))) (picked ∙ ap (λ b. b && test (before a)) pass)
            ∙ joined (test (before a)) a (before a) (filter q more) places here (rest ∙ ap (λ n. map read (filter test (range_with_len n (length (filter p more))))) count)
            ∙ ap (λ l. map read (filter test (range_with_len (before a) (length l)))) (sym take_a)
        | inr fail ↦
            let drop_a : filter p (a ∷ more) ≡ filter p more = ap (λ b. cond b (a ∷ filter p more) (filter p more)) fail in
            let count : before (a + 1) ≡ before a = next ∙ ap (λ b. before a + cond b 1 0) fail ∙ omega arith in
            let rest : map f (filter q more) ≡ map read (filter test (range_with_len (before (a + 1)) (length (filter p more)))) =
            dealt m (a + 1) ys (omega arith) (omega (arith, count, long)) (is ∙ ap (λ l. ys ++ map f l) drop_a) in
            ap (λ b. map f (cond b (a ∷ filter q more) (filter q more))) (picked ∙ ap (λ b. b && test (before a)) fail)
            ∙ rest ∙ ap (λ n. map read (filter test (range_with_len n (length (filter p more))))) count
            ∙ ap (λ l. map read (filter test (range_with_len (before a) (length l)))) (sym drop_a)
      ]

-- ---- the payload of a frame

pub turn_tested : (s : FrameShape) (t j : ℕ) → PayloadInTurn s → t < s.len → reads_from j true (s.role t) ≡ (is_payload (s.role t) && (payload_before s t % s.tribs == j))
turn_tested s t j turns h = one (s.role t) refl
  where
    turn_of : (i : ℕ) → reads_from i true (s.role t) ≡ true → i ≡ payload_before s t % s.tribs
    turn_of i reads = turns.turn t i h reads

    one : (role : Role) → s.role t ≡ role → reads_from j true role ≡ (is_payload role && (payload_before s t % s.tribs == j))
    one (Info i) is = ap (λ n. n == j) (turn_of i (ap (reads_from i true) is ∙ eq-eqb i i refl))
    one (Just i) is =
        let own : (i == i) ≡ true = eq-eqb i i refl in
        and_true_is (i == j) ∙ ap (λ n. n == j) (turn_of i (ap (reads_from i true) is ∙ ap (λ b. b && true) own))
      where
        and_true_is : (b : Bool) → (b && true) ≡ b
        and_true_is true = refl
        and_true_is false = refl
    one (Align signal) is = refl
    one (Service number) is = refl
    one (Control i copy) is = refl

pub count_is : (s : FrameShape) → PayloadInTurn s → length (payload_slots s) ≡ s.tribs * suc s.low
count_is s turns = length-filter (λ slot. is_payload (s.role slot)) (slots s) ∙ turns.whole

-- two functions that agree on those that pass
map-filter_same : {X : Type 0} (f g : ℕ → X) (p : ℕ → Bool) (a n : ℕ) → ((k : ℕ) → k < a + n → p k ≡ true → f k ≡ g k) → map f (filter p (range_with_len a n)) ≡ map g (filter p (range_with_len a n))
map-filter_same f g p a zero same = refl
map-filter_same f g p a (suc n) same = one (p a) (filter p (range_with_len (a + 1) n)) (same a (omega arith)) (map-filter_same f g p (a + 1) n (λ k h. same k (omega arith)))
  where
    one : (b : Bool) (rest : List ℕ) → (b ≡ true → f a ≡ g a) → map f rest ≡ map g rest → map f (cond b (a ∷ rest) rest) ≡ map g (cond b (a ∷ rest) rest)
    one true rest here others = (let e : f a ≡ g a = here refl in cc)
    one false rest here others = others

pub in_turn_is : (s : FrameShape) → PayloadInTurn s → map (λ slot. trib_of (s.role slot)) (payload_slots s) ≡ map (λ p. Some (p % s.tribs)) (range_with_len 0 (s.tribs * suc s.low))
in_turn_is s turns =
    map-filter_same (λ slot. trib_of (s.role slot)) (λ slot. Some (payload_before s slot % s.tribs)) (λ slot. is_payload (s.role slot)) 0 s.len here
    ∙ numbered (λ p. Some (p % s.tribs)) (λ slot. is_payload (s.role slot)) s.len ∙ ap (λ n. map (λ p. Some (p % s.tribs)) (range_with_len 0 n)) turns.whole
  where
    here : (t : ℕ) → t < 0 + s.len → is_payload (s.role t) ≡ true → trib_of (s.role t) ≡ Some (payload_before s t % s.tribs)
    here t h pass = one (s.role t) refl
      where
        one : (role : Role) → s.role t ≡ role → trib_of role ≡ Some (payload_before s t % s.tribs)
        one (Info i) is = ap Some (turns.turn t i (omega arith) (ap (reads_from i true) is ∙ eq-eqb i i refl))
        one (Just i) is =
            let own : (i == i) ≡ true = eq-eqb i i refl in
            ap Some (turns.turn t i (omega arith) (ap (reads_from i true) is ∙ ap (λ b. b && true) own))
        one (Align signal) is = (let none : false ≡ true = ap is_payload (sym is) ∙ pass in cc)
        one (Service number) is = (let none : false ≡ true = ap is_payload (sym is) ∙ pass in cc)
        one (Control i copy) is = (let none : false ≡ true = ap is_payload (sym is) ∙ pass in cc)

pub column_is : (s : FrameShape) (frame : List Bool) (j : ℕ) → PayloadInTurn s → j < s.tribs → trib_bits s j frame ≡ column s.tribs (suc s.low) (payload_bits s frame) j
column_is s frame j turns known =
    let read : ℕ → Bool = λ i. get_or (payload_bits s frame) i false in
    let test : ℕ → Bool = λ i. i % s.tribs == j in
    let order : s.tribs * suc s.low ≡ suc s.low * s.tribs = omega arith in
    dealt
    (λ slot. is_payload (s.role slot))
    (λ slot. reads_from j true (s.role slot))
    (λ slot. get_or frame slot false)
    test
    s.len
    (payload_bits s frame)
    (λ t h. turn_tested s t j turns h)
    s.len
    0
    []
    (omega arith)
    refl
    refl
    ∙ ap (λ n. map read (filter test (range_with_len 0 n))) (count_is s turns)
    ∙ ap (map read) (all_turns_dealt s.tribs j (suc s.low) (s.tribs * suc s.low) known order)
    ∙ map-map read (λ i. i * s.tribs + j) (range_with_len 0 (suc s.low))

pub read_is : (s : FrameShape) (frame : List Bool) (j : ℕ) → PayloadInTurn s → j < s.tribs → bits_read s j true frame ≡ map (turned (s.inverted j)) (column s.tribs (suc s.low) (payload_bits s frame) j)
read_is s frame j turns known =
    sym (map-map (turned (s.inverted j)) (λ slot. get_or frame slot false) (filter (λ slot. reads_from j true (s.role slot)) (slots s)))
    ∙ ap (map (turned (s.inverted j))) (column_is s frame j turns known)
