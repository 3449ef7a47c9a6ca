-- A piece of a frame that is made of its payload and its overhead, stretch by stretch.
use Rattle.std.proofs.Common.{◌≡◌, ℕ, zero, suc, ◌+◌, ◌-◌, ◌*◌, ◌/◌, ◌%◌, ◌<◌, ◌≤◌, Bool, true, false, ◌&&◌, cond, List, [], ◌∷◌, ◌++◌, length, map, take, drop, get_or, refl, sym, ap, ◌∙◌, inl, inr, arith, append_assoc}
use Rattle.std.specs.Prelude.{count_by}
use Rattle.std.specs.List.{range_with_len}
use Rattle.std.proofs.lemmas.Bool.{cases_Bool}
use Rattle.std.proofs.lemmas.List.{map-append, length-append, take_more, get_or-drop, length-drop}
use Rattle.std.proofs.lemmas.List.FromFn.{get_or-map-range_with_len, length-map-range_with_len}
use Rattle.std.proofs.lemmas.List.Sums.{sum_by_push}
use Rattle.std.proofs.lemmas.Nat.{div-add-mod', mod_below, div-mul-add, mod-mul-add, mul-add-lt}
use Rattle.pdh_bits.specs.BitOut.{BoundedBits}
use Rattle.pdh_packed.specs.Words.{bounded}
use Rattle.pdh_interleaving.specs.Interleaving.{interleaved, bit_in_turn}
use Rattle.pdh_packed.proofs.BoundedLaws.{bits_grow}
use Rattle.pdh_interleaving.proofs.TurnLaws.{length-interleaved, get_or-interleaved}
use Rattle.pdh_line.proofs.Ranges.{range_append, range_push, map-range_same_on}
use Rattle.pdh_shape.specs.Frame.{FrameShape}
use Rattle.pdh_shape.specs.Tributary.{reads_from}
use Rattle.pdh_shape.specs.Payload.{PayloadInTurn, is_payload, payload_before, payload_ones}
use Rattle.pdh_runs.specs.Pieces.{turn, overhead_before, rows, row, slot_bit, slot_bits, Assembled}
use Rattle.pdh_runs.proofs.Counts.{before_pass, before_fail}
use Rattle.pdh_runs.proofs.StretchLaws.{before_all, before_no, cut}
use Rattle.pdh_runs.proofs.PieceLaws.{reads_payload, payload_grows, overhead_grows, payload_most, turn_grows_to, turn_within, row_within, rows_grow, payload_ones_push}

module _ (s : FrameShape) (first skipped : ℕ) (payload overhead : List Bool) where
  abbrev bit_of : ℕ → Bool
  bit_of t = slot_bit s first skipped payload overhead t

  abbrev made : ℕ → List Bool
  made t = slot_bits s first skipped payload overhead (t - first)

  module _ (a next : ℕ) (begun : first ≤ a) (onwards : a ≤ next) where
    made_parts : made next ≡ made a ++ map bit_of (range_with_len a (next - a))
    made_parts =
        let parts : next - first ≡ a - first + (next - a) = omega (arith, begun, onwards) in
        let from : first + (a - first) ≡ a = omega (arith, begun) in
        ap (λ n. map bit_of (range_with_len first n)) parts ∙ ap (map bit_of) (range_append first (a - first) (next - a))
        ∙ map-append bit_of (range_with_len first (a - first)) (range_with_len (first + (a - first)) (next - a)) ∙ ap (λ k. made a ++ map bit_of (range_with_len k (next - a))) from

    -- payload slots follow
    pub made_payload : ((u : ℕ) → a ≤ u → u < next → is_payload (s.role u) ≡ true) → skipped ≤ payload_before s a → payload_before s next - skipped ≤ length payload → made next ≡ made a ++ take (next - a) (drop (payload_before s a - skipped) payload)
    made_payload all past within =
        let p : ℕ → Bool = λ u. is_payload (s.role u) in
        let whole : a + (next - a) ≡ next = omega (arith, onwards) in
        let count : payload_before s next ≡ payload_before s a + (next - a) = ap (payload_before s) (sym whole) ∙ before_all p a (next - a) (λ u h h'. all u h (omega (arith, h', onwards))) in
        let place : (u : ℕ) → a ≤ u → u < a + (next - a) → payload_before s u - skipped + a ≡ payload_before s a - skipped + u = λ u h h'.
        (let parts : a + (u - a) ≡ u = omega (arith, h) in
        let here : payload_before s u ≡ payload_before s a + (u - a) = ap (payload_before s) (sym parts) ∙ before_all p a (u - a) (λ v g g'. all v g (omega (arith, g', h, h', onwards))) in
        omega (arith, here, h, past)) in
        made_parts ∙ ap (λ l. made a ++ l) (map-range_same_on bit_of (λ u. get_or payload (payload_before s u - skipped) false) a (next - a) (λ u h h'.
        ap (λ b. cond b (get_or payload (payload_before s u - skipped) false) (get_or overhead (overhead_before s u - overhead_before s first) false)) (all u h (omega (arith, h', onwards)))))
        ∙ ap (λ l. made a ++ l) (cut payload (λ u. payload_before s u - skipped) a (payload_before s a - skipped) (next - a) place (omega (arith, within, count, past)))

    -- other slots follow
    pub made_overhead : ((u : ℕ) → a ≤ u → u < next → is_payload (s.role u) ≡ false) → overhead_before s next ≤ overhead_before s first + length overhead → made next ≡ made a ++ take (next - a) (drop (overhead_before s a - overhead_before s first) overhead)
    made_overhead none within =
        let p : ℕ → Bool = λ u. is_payload (s.role u) in
        let whole : a + (next - a) ≡ next = omega (arith, onwards) in
        let count : payload_before s next ≡ payload_before s a = ap (payload_before s) (sym whole) ∙ before_no p a (next - a) (λ u h h'. none u h (omega (arith, h', onwards))) in
        let low = overhead_grows s first a begun in
        let place : (u : ℕ) → a ≤ u → u < a + (next - a) → overhead_before s u - overhead_before s first + a ≡ overhead_before s a - overhead_before s first + u = λ u h h'.
        (let parts : a + (u - a) ≡ u = omega (arith, h) in
        let here : payload_before s u ≡ payload_before s a = ap (payload_before s) (sym parts) ∙ before_no p a (u - a) (λ v g g'. none v g (omega (arith, g', h, h', onwards))) in
        omega (arith, here, h, low, payload_most s a, payload_most s u)) in
        made_parts ∙ ap (λ l. made a ++ l) (map-range_same_on bit_of (λ u. get_or overhead (overhead_before s u - overhead_before s first) false) a (next - a) (λ u h h'.
        ap (λ b. cond b (get_or payload (payload_before s u - skipped) false) (get_or overhead (overhead_before s u - overhead_before s first) false)) (none u h (omega (arith, h', onwards)))))
        ∙ ap (λ l. made a ++ l) (cut overhead (λ u. overhead_before s u - overhead_before s first) a (overhead_before s a - overhead_before s first) (next - a) place (omega (arith, within, count, low, payload_most s a, payload_most s next)))

    -- they stand in the payload
    pub payload_within : (end : ℕ) → ((u : ℕ) → a ≤ u → u < next → is_payload (s.role u) ≡ true) → next ≤ end → skipped ≤ payload_before s first → payload_before s end ≤ skipped + length payload
        → (skipped ≤ payload_before s a) × (payload_before s a - skipped + (next - a) ≤ length payload)
    payload_within end all inside past held =
        let whole : a + (next - a) ≡ next = omega (arith, onwards) in
        let count : payload_before s next ≡ payload_before s a + (next - a) = ap (payload_before s) (sym whole) ∙ before_all (λ u. is_payload (s.role u)) a (next - a) (λ u h h'. all u h (omega (arith, h', onwards))) in
        let low = payload_grows s first a begun in
        let high = payload_grows s next end inside in
        (omega (arith, past, low), omega (arith, past, low, high, count, held))

    -- in the overhead
    pub overhead_within : (end : ℕ) → ((u : ℕ) → a ≤ u → u < next → is_payload (s.role u) ≡ false) → next ≤ end → overhead_before s end ≡ overhead_before s first + length overhead
        → (overhead_before s first ≤ overhead_before s a) × (overhead_before s a - overhead_before s first + (next - a) ≤ length overhead)
    overhead_within end none inside held =
        let whole : a + (next - a) ≡ next = omega (arith, onwards) in
        let count : payload_before s next ≡ payload_before s a = ap (payload_before s) (sym whole) ∙ before_no (λ u. is_payload (s.role u)) a (next - a) (λ u h h'. none u h (omega (arith, h', onwards))) in
        let low = overhead_grows s first a begun in
        let high = overhead_grows s next end inside in
        (low, omega (arith, low, high, count, held, payload_most s a, payload_most s next, onwards))

    module _ (old now after : BoundedBits) (mine : List Bool) (was : now ≡ bounded old.capacity (mine ++ made a)) where
      -- there is room for them
      pub made_room : (len : ℕ) → next ≤ first + len → length mine + len ≤ old.capacity → length now.bits + (next - a) ≤ now.capacity
      made_room len inside room =
          omega (arith, ap (λ (b : BoundedBits). length b.bits) was, ap (λ (b : BoundedBits). b.capacity) was, length-append mine (made a), length-map-range_with_len bit_of first (a - first), room, inside, begun, onwards)

      pub made_more : (more : List Bool) → made next ≡ made a ++ more → after ≡ bounded now.capacity (now.bits ++ more) → after ≡ bounded old.capacity (mine ++ made next)
      made_more more parts grown =
          bits_grow old now after (mine ++ made a) more (mine ++ made next) was grown (ap (λ l. mine ++ l) parts ∙ sym (append_assoc mine (made a) more))

-- a list and the bits that are held back from it
pub ends_with : (bits held : List Bool) (capacity old : ℕ) (was more : List Bool) → bits ++ held ≡ was ++ more → capacity ≡ old → bounded capacity (bits ++ held) ≡ bounded old (was ++ more)
ends_with bits held capacity old was more is same = ap (λ n. bounded n (bits ++ held)) same ∙ ap (bounded old) is

-- ---- what the piece is

-- how many turns hold so many payload slots
begun_hold : (n p : ℕ) → 0 < n → p ≤ (p + n - 1) / n * n
begun_hold n p some = omega (arith, div-add-mod' (p + n - 1) n, mod_below (p + n - 1) n some, some)

module _ (s : FrameShape) (turns : PayloadInTurn s) (some : 0 < s.tribs) (first len : ℕ) (inside : first + len ≤ s.len) where
  -- the payload slots that stand before the first turn of a piece
  abbrev pub passed : ℕ
  passed = turn s first * s.tribs

  pub passed_few : passed ≤ payload_before s first
  passed_few = omega (arith, div-add-mod' (payload_before s first) s.tribs)

  -- its turns hold the payload slots up to its end
  pub turns_hold : payload_before s (first + len) ≤ passed + rows s first len * s.tribs
  turns_hold =
      let begun : ℕ = (payload_before s (first + len) + s.tribs - 1) / s.tribs in
      let parts : begun ≡ turn s first + rows s first len = omega (arith, turn_within s some first len) in
      omega (arith, begun_hold s.tribs (payload_before s (first + len)) some, ap (λ n. n * s.tribs) parts)

  -- where the bit of a payload slot stands among them
  place_is : (t j : ℕ) → t < s.len → first ≤ t → reads_from j true (s.role t) ≡ true → payload_before s t - passed ≡ (turn s t - turn s first) * s.tribs + j
  place_is t j within begun reads =
      let own : j ≡ payload_before s t % s.tribs = turns.turn t j within reads in
      let parts : turn s t ≡ turn s first + (turn s t - turn s first) = omega (arith, turn_grows_to s some first t begun) in
      omega (arith, div-add-mod' (payload_before s t) s.tribs, own, ap (λ n. n * s.tribs) parts)

  module _ (columns : List (List Bool)) (overhead : List Bool) (payload : List Bool) (count : length columns ≡ s.tribs) (payload_is : payload ≡ interleaved columns (rows s first len)) where
    abbrev bits : List Bool
    bits = slot_bits s first passed payload overhead len

    pub length-payload : length payload ≡ rows s first len * s.tribs
    length-payload = ap length payload_is ∙ length-interleaved columns (rows s first len) ∙ ap (λ n. rows s first len * n) count

    bit_at : (v : ℕ) → v < len → get_or bits v false ≡ slot_bit s first passed payload overhead (first + v)
    bit_at v h = get_or-map-range_with_len (slot_bit s first passed payload overhead) first len v (first + v) false h refl

    pub assembled_made : Assembled s first len overhead columns bits
    assembled_made = record {
      payload = λ v j h reads.
          let t : ℕ = first + v in
          let within : t < s.len = omega (arith, h, inside) in
          let pass : is_payload (s.role t) ≡ true = reads_payload j (s.role t) reads in
          let at : payload_before s t - passed ≡ row s first v * s.tribs + j = place_is t j within (omega arith) reads in
          let own : j ≡ payload_before s t % s.tribs = turns.turn t j within reads in
          let less : j < s.tribs = omega (arith, own, mod_below (payload_before s t) s.tribs some) in
          let less_row : row s first v < rows s first len = row_inside t within (omega arith) (omega (arith, h)) pass in
          let low : row s first v * s.tribs + j < rows s first len * length columns = omega (arith, mul-add-lt (row s first v) s.tribs j (rows s first len) less_row less, ap (λ n. rows s first len * n) count) in
          bit_at v h ∙ ap (λ b. cond b (get_or payload (payload_before s t - passed) false) (get_or overhead (overhead_before s t - overhead_before s first) false)) pass
          ∙ ap (λ k. get_or payload k false) at ∙ ap (λ l. get_or l (row s first v * s.tribs + j) false) payload_is
          ∙ get_or-interleaved columns (rows s first len) (row s first v * s.tribs + j) false low ∙ turn_at (row s first v) j less;
      others = λ v h none.
          bit_at v h ∙ ap (λ b. cond b (get_or payload (payload_before s (first + v) - passed) false) (get_or overhead (overhead_before s (first + v) - overhead_before s first) false)) none;
    }
      where
        turn_at : (row j : ℕ) → j < s.tribs → bit_in_turn columns (row * s.tribs + j) ≡ get_or (get_or columns j []) row false
        turn_at row j less =
            ap (λ n. get_or (get_or columns ((row * s.tribs + j) % n) []) ((row * s.tribs + j) / n) false) count
            ∙ ap (λ i. get_or (get_or columns i []) ((row * s.tribs + j) / s.tribs) false) (mod-mul-add row s.tribs j less)
            ∙ ap (λ i. get_or (get_or columns j []) i false) (div-mul-add row s.tribs j less)

        row_inside : (t : ℕ) → t < s.len → first ≤ t → t + 1 ≤ first + len → is_payload (s.role t) ≡ true → turn s t - turn s first < rows s first len
        row_inside t within begun h pass = omega (arith, row_within s some first t begun pass, rows_grow s some first (t + 1 - first) len (omega (arith, h)))

    abbrev ones : List Bool → ℕ
    ones bits = count_by (λ bit. bit) bits

    -- the payload from the piece's first slot on
    abbrev held : List Bool
    held = drop (payload_before s first - passed) payload

    pub ones_made : (n : ℕ) → n ≤ len → payload_ones s first (slot_bits s first passed payload overhead n) ≡ ones (take (payload_before s (first + n) - payload_before s first) held)
    ones_made zero h =
        let here : first + 0 ≡ first = omega arith in
        let none : payload_before s (first + 0) - payload_before s first ≡ 0 = omega (arith, ap (payload_before s) here) in
        sym (ap (λ k. ones (take k held)) none)
    ones_made (suc n) h =
        let t : ℕ = first + n in
        let before : List Bool = slot_bits s first passed payload overhead n in
        let bit : Bool = slot_bit s first passed payload overhead t in
        let m : ℕ = payload_before s t - payload_before s first in
        let long : length before ≡ n = length-map-range_with_len (slot_bit s first passed payload overhead) first n in
        let parts : slot_bits s first passed payload overhead (suc n) ≡ before ++ bit ∷ [] =
        ap (map (slot_bit s first passed payload overhead)) (range_push first n) ∙ map-append (slot_bit s first passed payload overhead) (range_with_len first n) (t ∷ []) in
        let after : first + suc n ≡ t + 1 = omega arith in
        let grows = payload_grows s first t (omega arith) in
        let mine : payload_ones s first (slot_bits s first passed payload overhead (suc n)) ≡ ones (take m held) + cond (bit && is_payload (s.role t)) 1 0 =
        ap (payload_ones s first) parts ∙ payload_ones_push s first before bit ∙ ap (λ k. payload_ones s first before + cond (bit && is_payload (s.role (first + k))) 1 0) long
        ∙ ap (λ k. k + cond (bit && is_payload (s.role t)) 1 0) (ones_made n (omega (arith, h))) in
        elim (cases_Bool (is_payload (s.role t))) [
          | inl pass ↦
              let next : payload_before s (first + suc n) - payload_before s first ≡ m + 1 = omega (arith, ap (payload_before s) after, before_pass (λ t. is_payload (s.role t)) t pass, grows) in
              let bound = payload_grows s (first + suc n) (first + len) (omega (arith, h)) in
              let within : m < length held =
              omega (arith, length-drop (payload_before s first - passed) payload, length-payload, turns_hold, bound, next, passed_few, grows) in
              let at : payload_before s first - passed + m ≡ payload_before s t - passed = omega (arith, grows, passed_few) in
              let is : get_or held m false ≡ bit =
              get_or-drop (payload_before s first - passed) payload m false ∙ ap (λ k. get_or payload k false) at
              ∙ sym (ap (λ b. cond b (get_or payload (payload_before s t - passed) false) (get_or overhead (overhead_before s t - overhead_before s first) false)) pass) in
              let theirs : ones (take (payload_before s (first + suc n) - payload_before s first) held) ≡ ones (take m held) + cond bit 1 0 =
              ap (λ k. ones (take k held)) next ∙ ap ones (take_more held m false within) ∙ sum_by_push (λ b. cond b 1 0) (take m held) (get_or held m false) ∙ ap (λ b. ones (take m held) + cond b 1 0) is in
              mine ∙ ap (λ b. ones (take m held) + cond (bit && b) 1 0) pass ∙ ap (λ b. ones (take m held) + cond b 1 0) (and_true_is bit) ∙ sym theirs
          | inr fail ↦
              let next : payload_before s (first + suc n) - payload_before s first ≡ m = omega (arith, ap (payload_before s) after, before_fail (λ t. is_payload (s.role t)) t fail) in
              mine ∙ ap (λ b. ones (take m held) + cond (bit && b) 1 0) fail ∙ ap (λ b. ones (take m held) + cond b 1 0) (and_false bit) ∙ none_more (ones (take m held)) ∙ sym (ap (λ k. ones (take k held)) next)
        ]
      where
        and_true_is : (b : Bool) → (b && true) ≡ b
        and_true_is true = refl
        and_true_is false = refl

        and_false : (b : Bool) → (b && false) ≡ false
        and_false true = refl
        and_false false = refl

        none_more : (k : ℕ) → k + 0 ≡ k
        none_more k = omega arith
