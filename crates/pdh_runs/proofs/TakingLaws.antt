-- A frame that is taken apart: its columns, and the bits of a tributary that are read from one.
use Rattle.std.proofs.Common.{not, All, ◌≡◌, ℕ, zero, suc, ◌+◌, ◌-◌, ◌<◌, ◌≤◌, Bool, true, false, cond, List, [], ◌∷◌, ◌++◌, length, map, take, drop, get_or, refl, sym, ap, ◌∙◌, inl, inr, arith, append_assoc}
use Rattle.std.specs.Prelude.{◌⊎◌, ◌&&◌, nat_lt, count_by, filter}
use Rattle.std.specs.List.{range_with_len}
use Rattle.std.proofs.lemmas.List.Recursion.{is_count_by}
use Rattle.std.proofs.lemmas.List.Sums.{sum_by-cons}
use Rattle.std.proofs.lemmas.Bool.{cases_Bool, le-ltb}
use Rattle.std.proofs.lemmas.List.{map-append, take-map, drop-map, append-nil, length-append, length-map, take_all, drop_all, take-append-le, drop-append-le, take_at, get_or-map}
use Rattle.std.proofs.lemmas.Simd.{map-map}
use Rattle.pdh_bits.specs.BitOut.{BoundedBits}
use Rattle.pdh_packed.specs.Words.{bounded}
use Rattle.pdh_interleaving.specs.Interleaving.{dealt, column}
use Rattle.pdh_interleaving.proofs.DealtLaws.{dealt_is, length-dealt, get_or-appended_to_each}
use Rattle.pdh_shape.specs.declared.role.Role.TheVariants.{Just}
use Rattle.pdh_shape.specs.Frame.{FrameShape, slots}
use Rattle.pdh_shape.specs.Tributary.{reads_from, reads_below, turned, bits_read, carries_more, stripped, HasTributaries}
use Rattle.pdh_shape.specs.Payload.{PayloadInTurn, is_payload, payload_ones}
use Rattle.pdh_runs.specs.Pieces.{turn}
use Rattle.pdh_runs.specs.Tables.{is_overhead}
use Rattle.pdh_runs.specs.Columns.{payload_bits, trib_bits}
use Rattle.pdh_runs.specs.Taking.{emptied, HasColumns}
use Rattle.pdh_runs.proofs.ColumnLaws.{column_is}
use Rattle.pdh_runs.proofs.Counts.{picked, picked_next, before_pass, before_fail, before_less, length-picked}
use Rattle.pdh_runs.proofs.PieceLaws.{reads_more}
use Rattle.pdh_runs.proofs.StretchLaws.{cut}
use Rattle.pdh_runs.proofs.TurnLaws.{turn_is}
use Rattle.pdh_runs.proofs.TableLaws.{just_at, just_one, just_role}
use Rattle.pdh_runs.proofs.EmptyTurns.{past, past_cases, just_passed, one_of_them, just_reads}

-- ---- the columns

pub length-trib_bits : (s : FrameShape) (j : ℕ) (frame : List Bool) → HasTributaries s → j < s.tribs → length (trib_bits s j frame) ≡ suc s.low
length-trib_bits s j frame has known =
    length-map (picked (λ slot. reads_from j true (s.role slot)) s.len) (λ slot. get_or frame slot false) ∙ length-picked (λ slot. reads_from j true (s.role slot)) s.len ∙ has.high j known

-- an emptied list
pub emptied_at : (lists : List BoundedBits) (j : ℕ) (d : BoundedBits) → j < length lists → get_or (emptied lists) j d ≡ bounded (get_or lists j d).capacity []
emptied_at lists j d within = get_or-map (λ (list : BoundedBits). bounded list.capacity []) lists j d d within

-- the payload is dealt out
pub dealt_columns : (s : FrameShape) (frame : List Bool) (old columns : List BoundedBits) (each : ℕ) → PayloadInTurn s → columns ≡ dealt each (payload_bits s frame) old → length old ≡ s.tribs → each ≡ suc s.low
    → All (λ column. column.bits ≡ []) old → All (λ column. suc s.low ≤ column.capacity) old → HasColumns s (λ j. trib_bits s j frame) columns
dealt_columns s frame old columns each turns is many all empty room = record {
  count = ap length is ∙ length-dealt each (payload_bits s frame) old ∙ many;
  each = λ j d h. ap (λ (b : BoundedBits). b.bits) (at j d h) ∙ ap (λ n. column n each (payload_bits s frame) j) many ∙ ap (λ n. column s.tribs n (payload_bits s frame) j) all ∙ sym (column_is s frame j turns h);
  room = λ j d h. omega (arith, room j d (omega (arith, h, many)), ap (λ (b : BoundedBits). b.capacity) (at j d h));
}
  where
    at : (j : ℕ) (d : BoundedBits) → j < s.tribs → get_or columns j d ≡ bounded (get_or old j d).capacity (column (length old) each (payload_bits s frame) j)
    at j d h =
        let first : j + 0 ≡ j = omega arith in
        let theirs : ℕ → List Bool = column (length old) each (payload_bits s frame) in
        ap (λ l. get_or l j d) (is ∙ dealt_is each (payload_bits s frame) old) ∙ get_or-appended_to_each theirs 0 old j d (omega (arith, h, many))
        ∙ ap (λ bits. bounded (get_or old j d).capacity (bits ++ theirs (j + 0))) (empty j d (omega (arith, h, many)))
        ∙ ap (λ i. bounded (get_or old j d).capacity (theirs i)) first

-- ---- the columns, one after another

-- those of the first so many tributaries have their bits, and the others still those from before
pub record HasSome (s : FrameShape) (theirs before : ℕ → List Bool) (k : ℕ) (columns : List BoundedBits) : Type 0 where
  pub count : length columns ≡ s.tribs
  pub done : (j : ℕ) (d : BoundedBits) → j < k → j < s.tribs → (get_or columns j d).bits ≡ theirs j
  pub left : (j : ℕ) (d : BoundedBits) → k ≤ j → j < s.tribs → (get_or columns j d).bits ≡ before j
  pub room : (j : ℕ) (d : BoundedBits) → j < s.tribs → suc s.low ≤ (get_or columns j d).capacity

-- ---- the bits that a frame gives a tributary

module _ (s : FrameShape) (turns : PayloadInTurn s) (has : HasTributaries s) (j : ℕ) (known : j < s.tribs) (q : ℕ) (is : (t : ℕ) → t < s.len → s.role t ≡ Just j → q ≡ turn s t) where
  abbrev may : ℕ → Bool
  may t = reads_from j true (s.role t)

  abbrev must : ℕ → Bool
  must t = reads_from j false (s.role t)

  -- the justifiable slot's turn is one of the tributary's
  pub just_inside : q < suc s.low
  just_inside =
      let one = one_of_them (just_at s has j known) s.len (omega (arith, just_one s has j known)) in
      let reads = just_reads j (s.role one.0) one.2 in
      omega (arith, is one.0 one.1 (just_role j (s.role one.0) one.2), turn_is s turns j known one.0 one.1 reads, before_less may one.0 s.len reads one.1, has.high j known)

  -- the slots that always carry a bit are all that may but one
  picked_without : (n : ℕ) → n ≤ s.len → picked must n ≡ take q (picked may n) ++ drop (q + 1) (picked may n)
  picked_without zero within = sym (ap (λ l. l ++ drop (q + 1) []) (take_all q [] (omega arith)) ∙ drop_all (q + 1) [] (omega arith))
  picked_without (suc n) within =
      let e : suc n ≡ n + 1 = omega arith in
      let rest = picked_without n (omega (arith, within)) in
      let xs : List ℕ = picked may n in
      let long : length xs ≡ reads_below s j true n = length-picked may n in
      let here = just_passed s turns has j known q is n (omega (arith, within)) in
      let next : reads_below s j true (n + 1) ≡ reads_below s j false (n + 1) + past q (reads_below s j true (n + 1)) = just_passed s turns has j known q is (n + 1) (omega (arith, within)) in
      elim (cases_Bool (may n)) [
        | inr fail ↦
            let fails : must n ≡ false = never (must n) (λ m. absurd (differ (sym (reads_more j false (s.role n) m) ∙ fail))) in
            ap (picked must) e ∙ stays must n fails ∙ rest ∙ sym (ap (λ l. take q l ++ drop (q + 1) l) (ap (picked may) e ∙ stays may n fail))
        | inl pass ↦
            let one : reads_below s j true (n + 1) ≡ reads_below s j true n + 1 = before_pass may n pass in
            let theirs : picked may (suc n) ≡ xs ++ n ∷ [] = ap (picked may) e ∙ gains may n pass in
            elim (cases_Bool (must n)) [
              | inl keeps ↦
                  let more : reads_below s j false (n + 1) ≡ reads_below s j false n + 1 = before_pass must n keeps in
                  ap (picked must) e ∙ gains must n keeps ∙ ap (λ l. l ++ n ∷ []) rest
                  ∙ kept xs n (apart (reads_below s j true n) (past_cases q (reads_below s j true n)) (past_cases q (reads_below s j true n + 1)) (omega (arith, here, next, one, more, ap (past q) one)) long) ∙ sym (ap (λ l. take q l ++ drop (q + 1) l) theirs)
              | inr drops ↦
                  let same : reads_below s j false (n + 1) ≡ reads_below s j false n = before_fail must n drops in
                  ap (picked must) e ∙ stays must n drops ∙ rest
                  ∙ dropped xs n (at (reads_below s j true n) (past_cases q (reads_below s j true n)) (past_cases q (reads_below s j true n + 1)) (omega (arith, here, next, one, same, ap (past q) one)) long) ∙ sym (ap (λ l. take q l ++ drop (q + 1) l) theirs)
            ]
      ]
    where
      differ : true ≡ false → ⊥
      differ h = cc

      never : (b : Bool) → (b ≡ true → b ≡ false) → b ≡ false
      never true h = h refl
      never false h = refl

      stays : (p : ℕ → Bool) (n : ℕ) → p n ≡ false → picked p (n + 1) ≡ picked p n
      stays p n h = picked_next p n ∙ ap (λ b. picked p n ++ cond b (n ∷ []) []) h ∙ append-nil (picked p n)

      gains : (p : ℕ → Bool) (n : ℕ) → p n ≡ true → picked p (n + 1) ≡ picked p n ++ n ∷ []
      gains p n h = picked_next p n ∙ ap (λ b. picked p n ++ cond b (n ∷ []) []) h

      apart : (x : ℕ) {k : ℕ} → ((q < x) × (past q x ≡ 1)) ⊎ ((x ≤ q) × (past q x ≡ 0)) → ((q < x + 1) × (past q (x + 1) ≡ 1)) ⊎ ((x + 1 ≤ q) × (past q (x + 1) ≡ 0)) → past q (x + 1) ≡ past q x → k ≡ x → (k < q) ⊎ (q < k)
      apart x (inl a) b same long = inr (omega (arith, a.0, long))
      apart x (inr a) (inl b) same long = absurd (omega (arith, a.1, b.1, same))
      apart x (inr a) (inr b) same long = inl (omega (arith, b.0, long))

      at : (x : ℕ) {k : ℕ} → ((q < x) × (past q x ≡ 1)) ⊎ ((x ≤ q) × (past q x ≡ 0)) → ((q < x + 1) × (past q (x + 1) ≡ 1)) ⊎ ((x + 1 ≤ q) × (past q (x + 1) ≡ 0)) → past q (x + 1) ≡ past q x + 1 → k ≡ x → k ≡ q
      at x (inl a) (inl b) more long = absurd (omega (arith, a.1, b.1, more))
      at x (inl a) (inr b) more long = absurd (omega (arith, a.1, b.1, more))
      at x (inr a) (inl b) more long = omega (arith, a.0, b.0, long)
      at x (inr a) (inr b) more long = absurd (omega (arith, a.1, b.1, more))

      kept : (xs : List ℕ) (n : ℕ) → (length xs < q) ⊎ (q < length xs) → (take q xs ++ drop (q + 1) xs) ++ n ∷ [] ≡ take q (xs ++ n ∷ []) ++ drop (q + 1) (xs ++ n ∷ [])
      kept xs n (inl few) =
          let long : length (xs ++ n ∷ []) ≡ length xs + 1 = length-append xs (n ∷ []) in
          ap (λ l. (l ++ drop (q + 1) xs) ++ n ∷ []) (take_all q xs (omega (arith, few))) ∙ ap (λ l. (xs ++ l) ++ n ∷ []) (drop_all (q + 1) xs (omega (arith, few))) ∙ ap (λ l. l ++ n ∷ []) (append-nil xs)
          ∙ sym (ap (λ l. l ++ drop (q + 1) (xs ++ n ∷ [])) (take_all q (xs ++ n ∷ []) (omega (arith, long, few))) ∙ ap (λ l. (xs ++ n ∷ []) ++ l) (drop_all (q + 1) (xs ++ n ∷ []) (omega (arith, long, few))) ∙ append-nil (xs ++ n ∷ []))
      kept xs n (inr many) =
          append_assoc (take q xs) (drop (q + 1) xs) (n ∷ [])
          ∙ sym (ap (λ l. l ++ drop (q + 1) (xs ++ n ∷ [])) (take-append-le q xs (n ∷ []) (omega (arith, many))) ∙ ap (λ l. take q xs ++ l) (drop-append-le (q + 1) xs (n ∷ []) (omega (arith, many))))

      dropped : (xs : List ℕ) (n : ℕ) → length xs ≡ q → take q xs ++ drop (q + 1) xs ≡ take q (xs ++ n ∷ []) ++ drop (q + 1) (xs ++ n ∷ [])
      dropped xs n long =
          let all : length (xs ++ n ∷ []) ≡ length xs + 1 = length-append xs (n ∷ []) in
          ap (λ l. l ++ drop (q + 1) xs) (take_all q xs (omega (arith, long))) ∙ ap (λ l. xs ++ l) (drop_all (q + 1) xs (omega (arith, long)))
          ∙ sym (ap (λ l. l ++ drop (q + 1) (xs ++ n ∷ [])) (take_at xs (n ∷ []) q long) ∙ ap (λ l. xs ++ l) (drop_all (q + 1) (xs ++ n ∷ []) (omega (arith, all, long))))

  pub read_fewer : (frame : List Bool) → bits_read s j false frame ≡ map (turned (s.inverted j)) (take q (trib_bits s j frame) ++ drop (q + 1) (trib_bits s j frame))
  read_fewer frame =
      let read : ℕ → Bool = λ slot. get_or frame slot false in
      let xs : List ℕ = picked may s.len in
      sym (map-map (turned (s.inverted j)) read (picked must s.len)) ∙ ap (λ l. map (turned (s.inverted j)) (map read l)) (picked_without s.len (omega arith))
      ∙ ap (map (turned (s.inverted j))) (map-append read (take q xs) (drop (q + 1) xs))
      ∙ ap (λ l. map (turned (s.inverted j)) (l ++ map read (drop (q + 1) xs))) (sym (take-map read q xs))
      ∙ ap (λ l. map (turned (s.inverted j)) (take q (map read xs) ++ l)) (sym (drop-map read (q + 1) xs))

-- the bits of a frame that carries an additional one
pub read_more : (s : FrameShape) (j : ℕ) (frame : List Bool) → bits_read s j true frame ≡ map (turned (s.inverted j)) (trib_bits s j frame)
read_more s j frame = sym (map-map (turned (s.inverted j)) (λ slot. get_or frame slot false) (picked (λ slot. reads_from j true (s.role slot)) s.len))

-- bits of a tributary that isn't inverted
pub unturned : (bits : List Bool) → map (turned false) bits ≡ bits
unturned [] = refl
unturned (bit ∷ bits) = ap (λ (rest : List Bool). bit ∷ rest) (unturned bits)

-- what a frame gives a tributary of its column
pub stripped_more : (s : FrameShape) (j : ℕ) (frame : List Bool) (inverted : Bool) → inverted ≡ s.inverted j → carries_more s j frame ≡ true → stripped s j frame ≡ map (turned inverted) (trib_bits s j frame)
unfolding stripped
stripped_more s j frame inverted is more =
    ap (λ b. bits_read s j b frame) more ∙ read_more s j frame ∙ ap (λ b. map (turned b) (trib_bits s j frame)) (sym is)

pub stripped_fewer : (s : FrameShape) → PayloadInTurn s → HasTributaries s → (j : ℕ) → j < s.tribs → (q : ℕ) → ((t : ℕ) → t < s.len → s.role t ≡ Just j → q ≡ turn s t) → (frame : List Bool) (inverted : Bool) → inverted ≡ s.inverted j → carries_more s j frame ≡ false
    → stripped s j frame ≡ map (turned inverted) (take q (trib_bits s j frame) ++ drop (q + 1) (trib_bits s j frame))
unfolding stripped
stripped_fewer s turns has j known q just frame inverted is fewer =
    ap (λ b. bits_read s j b frame) fewer ∙ read_fewer s turns has j known q just frame
    ∙ ap (λ b. map (turned b) (take q (trib_bits s j frame) ++ drop (q + 1) (trib_bits s j frame))) (sym is)

-- how many bits a frame gives a tributary
pub length-stripped : (s : FrameShape) (j : ℕ) (frame : List Bool) → HasTributaries s → j < s.tribs → length (stripped s j frame) ≡ cond (carries_more s j frame) (suc s.low) s.low
unfolding stripped
length-stripped s j frame has known = by_more (carries_more s j frame)
  where
    by_more : (more : Bool) → length (bits_read s j more frame) ≡ cond more (suc s.low) s.low
    by_more true = length-map (picked (λ slot. reads_from j true (s.role slot)) s.len) (λ slot. turned (s.inverted j) (get_or frame slot false)) ∙ length-picked (λ slot. reads_from j true (s.role slot)) s.len ∙ has.high j known
    by_more false = length-map (picked (λ slot. reads_from j false (s.role slot)) s.len) (λ slot. turned (s.inverted j) (get_or frame slot false)) ∙ length-picked (λ slot. reads_from j false (s.role slot)) s.len ∙ has.low j known

pub few_bits : (more : Bool) (n low : ℕ) → n ≡ cond more (suc low) low → n ≤ suc low
few_bits true n low e = omega (arith, e)
few_bits false n low e = omega (arith, e)

pub both_same : (b : Bool) (n : ℕ) → cond b n n ≡ n
both_same true n = refl
both_same false n = refl

-- behind the justifiable slot a bit stands a turn later, where that is empty
pub later_turn : (more : Bool) (k q low low' n len : ℕ) → n ≡ cond more (suc low) low → q ≤ k → low' ≡ low → len ≡ n → k + (low' + 1 - len) ≡ cond more k (cond (nat_lt k q) k (suc k))
later_turn true k q low low' n len long behind is count = omega (arith, long, is, count)
later_turn false k q low low' n len long behind is count =
    let one : suc k ≡ k + (low' + 1 - len) = omega (arith, long, is, count) in
    sym (ap (λ b. cond b k (suc k)) (le-ltb k q behind) ∙ one)

-- ---- the parity of the payload

count_bit : (b : Bool) (bits : List Bool) → count_by (λ (v : Bool). v) (b ∷ bits) ≡ cond b (1 + count_by (λ (v : Bool). v) bits) (count_by (λ (v : Bool). v) bits)
count_bit true bits = sum_by-cons (λ (v : Bool). cond v 1 0) true bits
count_bit false bits = sum_by-cons (λ (v : Bool). cond v 1 0) false bits ∙ none (count_by (λ (v : Bool). v) bits)
  where
    none : (n : ℕ) → 0 + n ≡ n
    none n = omega arith

-- the ones of a frame's payload are those of its payload bits
pub ones_are : (s : FrameShape) (frame : List Bool) → length frame ≡ s.len → payload_ones s 0 frame ≡ count_by (λ (v : Bool). v) (payload_bits s frame)
ones_are s frame whole =
    ap (λ n. count_by (λ v. get_or frame v false && is_payload (s.role (0 + v))) (range_with_len 0 n)) whole
    ∙ sym (is_count_by (λ xs. count_by (λ (v : Bool). v) (map (λ slot. get_or frame slot false) (filter (λ slot. is_payload (s.role slot)) xs))) (λ v. get_or frame v false && is_payload (s.role (0 + v))) refl step (range_with_len 0 s.len))
  where
    one : (q : Bool) (x : ℕ) (ys : List ℕ) → count_by (λ (v : Bool). v) (map (λ slot. get_or frame slot false) (cond q (x ∷ ys) ys))
        ≡ cond (get_or frame x false && q) (1 + count_by (λ (v : Bool). v) (map (λ slot. get_or frame slot false) ys)) (count_by (λ (v : Bool). v) (map (λ slot. get_or frame slot false) ys))
    one true x ys = count_bit (get_or frame x false) (map (λ slot. get_or frame slot false) ys) ∙ ap (λ b. cond b (1 + count_by (λ (v : Bool). v) (map (λ slot. get_or frame slot false) ys)) (count_by (λ (v : Bool). v) (map (λ slot. get_or frame slot false) ys))) (and_yes (get_or frame x false))
      where
        and_yes : (b : Bool) → b ≡ (b && true)
        and_yes true = refl
        and_yes false = refl
    one false x ys = ap (λ b. cond b (1 + count_by (λ (v : Bool). v) (map (λ slot. get_or frame slot false) ys)) (count_by (λ (v : Bool). v) (map (λ slot. get_or frame slot false) ys))) (and_no (get_or frame x false))
      where
        and_no : (b : Bool) → false ≡ (b && false)
        and_no true = refl
        and_no false = refl

    step : (x : ℕ) (xs : List ℕ) → count_by (λ (v : Bool). v) (map (λ slot. get_or frame slot false) (filter (λ slot. is_payload (s.role slot)) (x ∷ xs)))
        ≡ cond (get_or frame x false && is_payload (s.role (0 + x))) (1 + count_by (λ (v : Bool). v) (map (λ slot. get_or frame slot false) (filter (λ slot. is_payload (s.role slot)) xs))) (count_by (λ (v : Bool). v) (map (λ slot. get_or frame slot false) (filter (λ slot. is_payload (s.role slot)) xs)))
    step x xs =
        let e : 0 + x ≡ x = omega arith in
        one (is_payload (s.role x)) x (filter (λ slot. is_payload (s.role slot)) xs)
        ∙ ap (λ t. cond (get_or frame x false && is_payload (s.role t)) (1 + count_by (λ (v : Bool). v) (map (λ slot. get_or frame slot false) (filter (λ slot. is_payload (s.role slot)) xs))) (count_by (λ (v : Bool). v) (map (λ slot. get_or frame slot false) (filter (λ slot. is_payload (s.role slot)) xs)))) (sym e)

-- and the others those of the slots that carry no bit of a tributary
pub ones_both : (s : FrameShape) (frame : List Bool) → length frame ≡ s.len → payload_ones s 0 frame + count_by (λ slot. get_or frame slot false) (filter (is_overhead s) (slots s)) ≡ count_by (λ (v : Bool). v) frame
ones_both s frame whole =
    let bits : ℕ → Bool = λ slot. get_or frame slot false in
    let all : map bits (range_with_len 0 s.len) ≡ frame = cut frame (λ u. u) 0 0 s.len (λ u h h'. omega arith) (omega (arith, whole)) ∙ take_all s.len frame (omega (arith, whole)) in
    ap (λ n. n + count_by bits (filter (is_overhead s) (slots s))) (ones_are s frame whole) ∙ split (slots s) ∙ ap (count_by (λ (v : Bool). v)) all
  where
    split : (xs : List ℕ) → count_by (λ (v : Bool). v) (map (λ slot. get_or frame slot false) (filter (λ slot. is_payload (s.role slot)) xs)) + count_by (λ slot. get_or frame slot false) (filter (is_overhead s) xs)
        ≡ count_by (λ (v : Bool). v) (map (λ slot. get_or frame slot false) xs)
    split [] = refl
    split (x ∷ xs) = at (is_payload (s.role x)) (split xs)
      where
        at : (q : Bool) → count_by (λ (v : Bool). v) (map (λ slot. get_or frame slot false) (filter (λ slot. is_payload (s.role slot)) xs)) + count_by (λ slot. get_or frame slot false) (filter (is_overhead s) xs)
            ≡ count_by (λ (v : Bool). v) (map (λ slot. get_or frame slot false) xs)
            → count_by (λ (v : Bool). v) (map (λ slot. get_or frame slot false) (cond q (x ∷ filter (λ slot. is_payload (s.role slot)) xs) (filter (λ slot. is_payload (s.role slot)) xs)))
            + count_by (λ slot. get_or frame slot false) (cond (not q) (x ∷ filter (is_overhead s) xs) (filter (is_overhead s) xs))
            ≡ count_by (λ (v : Bool). v) (map (λ slot. get_or frame slot false) (x ∷ xs))
        at true rest =
            omega (
              arith,
              rest,
              sum_by-cons (λ (v : Bool). cond v 1 0) (get_or frame x false) (map (λ slot. get_or frame slot false) (filter (λ slot. is_payload (s.role slot)) xs)),
              sum_by-cons (λ (v : Bool). cond v 1 0) (get_or frame x false) (map (λ slot. get_or frame slot false) xs),
            )
        at false rest =
            omega (
              arith,
              rest,
              sum_by-cons (λ slot. cond (get_or frame slot false) 1 0) x (filter (is_overhead s) xs),
              sum_by-cons (λ (v : Bool). cond v 1 0) (get_or frame x false) (map (λ slot. get_or frame slot false) xs),
            )
