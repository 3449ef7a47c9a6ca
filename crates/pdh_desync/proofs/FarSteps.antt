-- One more piece through a far store.
use Rattle.std.proofs.Common.{◌≡◌, ℕ, suc, ◌+◌, ◌-◌, ◌<◌, ◌≤◌, Bool, true, false, cond, leb, List, [], ◌∷◌, ◌++◌, length, map, take, drop, replicate, sym, ap, ◌∙◌, inl, inr, arith, append_assoc, length-append, length-take, length-drop}
use Rattle.std.specs.Prelude.{sum_by}
use Rattle.std.specs.List.{range_with_len}
use Rattle.std.proofs.lemmas.Bool.{cases_lt, lt-leb, le-leb}
use Rattle.std.proofs.lemmas.List.{map-append, take-append-le, drop-append-le, drop-drop, drop-take, drop_all, length-replicate}
use Rattle.std.proofs.lemmas.List.Sums.{sum_by-cons, sum_by-append}
use Rattle.std.proofs.Math.Seq.{take-add, take-append-add, drop-append-add}
use Rattle.pdh_shape.specs.Frame.{FrameShape}
use Rattle.pdh_shape.specs.OwnNumbers.{threshold}
use Rattle.pdh_line.specs.Sending.{carried}
use Rattle.pdh_line.proofs.Ranges.{range_append, map-range_same_on}
use Rattle.pdh_desync.specs.FarStore.{FarPiece, came, start_fill, reads_more, reads, reads_over, comes_over}
use Rattle.pdh_desync.specs.Held.{Held}
use Rattle.pdh_desync.specs.FarHolds.{read_in, marks_of, FarHolds, FarPasses}
use Rattle.pdh_desync.specs.laws.FarBounds.{IsEven, start_fill-zero, start_bounds, run-balance, came-is, carried-least, carried-most}
use Rattle.pdh_desync.specs.laws.SmoothLaws.{reads_all, came_in, reads_more-append, start_fill-append}

-- whether an additional bit is read in the piece behind these
abbrev pub more_behind : FrameShape → ℕ → List FarPiece → Bool
more_behind s j pieces = leb threshold (start_fill s j pieces (length pieces))

more_next : (s : FrameShape) (j : ℕ) (pieces : List FarPiece) (piece : FarPiece) → reads_more s j (pieces ++ piece ∷ []) (length pieces) ≡ more_behind s j pieces
more_next s j pieces piece = ap (leb threshold) (start_fill-append s j pieces (piece ∷ []) (length pieces) (omega arith))

read_next : (s : FrameShape) (j : ℕ) (pieces : List FarPiece) (piece : FarPiece) → read_in s j (pieces ++ piece ∷ []) ≡ read_in s j pieces + carried s (more_behind s j pieces)
read_next s j pieces piece =
    let at : 0 + length pieces ≡ length pieces = omega arith in
    let one : reads_over s j (pieces ++ piece ∷ []) (0 + length pieces) 1 ≡ carried s (more_behind s j pieces) =
    sum_by-cons (reads s j (pieces ++ piece ∷ [])) (0 + length pieces) []
    ∙ ap (λ n. reads s j (pieces ++ piece ∷ []) n + 0) at
    ∙ ap (λ b. carried s b + 0) (more_next s j pieces piece) ∙ omega arith in
    reads_all s j pieces (piece ∷ []) ∙ ap (λ n. read_in s j pieces + n) one

come_next : (s : FrameShape) (j : ℕ) (pieces : List FarPiece) (piece : FarPiece) → comes_over s j (pieces ++ piece ∷ []) 0 (length (pieces ++ piece ∷ [])) ≡ comes_over s j pieces 0 (length pieces) + came s j piece
come_next s j pieces piece =
    let one : sum_by (came s j) (piece ∷ []) ≡ came s j piece = sum_by-cons (came s j) piece [] ∙ omega arith in
    came_in s j (pieces ++ piece ∷ []) ∙ sum_by-append (came s j) pieces (piece ∷ []) ∙ omega (arith, one, came_in s j pieces)

-- what is read and held is what came and the ones of the beginning
pub balance : (s : FrameShape) (j : ℕ) (pieces : List FarPiece) (got : List Bool) (held : Held) → IsEven s → j < s.tribs → FarHolds s j pieces got held
    → threshold + length got ≡ start_fill s j pieces (length pieces) + read_in s j pieces
balance s j pieces got held laws known holds =
    let at : 0 + length pieces ≡ length pieces = omega arith in
    omega (arith, run-balance s j pieces 0 (length pieces) laws known, start_fill-zero s j pieces, holds.come, ap (start_fill s j pieces) at)

pub held_long : (s : FrameShape) (j : ℕ) (pieces : List FarPiece) (got : List Bool) (held : Held) → IsEven s → j < s.tribs → FarHolds s j pieces got held
    → length held.bits ≡ start_fill s j pieces (length pieces)
held_long s j pieces got held laws known holds =
    ap length holds.bits
    ∙ length-drop (read_in s j pieces) (replicate threshold true ++ got)
    ∙ omega (arith, length-append (replicate threshold true) got, length-replicate threshold true, balance s j pieces got held laws known holds)

-- ---- lists

-- what is read, without the ones of the beginning that were not read before
out_is : (got bits : List Bool) (read more : ℕ) → read ≤ threshold + length got
    → take (read + more - threshold) (got ++ bits) ≡ take (read - threshold) got ++ drop (threshold - read) (take more (drop read (replicate threshold true ++ got) ++ bits))
out_is got bits read more within =
    let front : List Bool = replicate threshold true in
    let all : List Bool = front ++ (got ++ bits) in
    let front_long : length front ≡ threshold = length-replicate threshold true in
    let joined : drop read (front ++ got) ++ bits ≡ drop read all =
    sym (drop-append-le read (front ++ got) bits (omega (arith, length-append front got, front_long))) ∙ ap (drop read) (append_assoc front got bits) in
    let read_out : drop (threshold - read) (take more (drop read (front ++ got) ++ bits)) ≡ drop (threshold - read) (take more (drop read all)) = ap (λ (x : List Bool). drop (threshold - read) (take more x)) joined in
    elim (cases_lt threshold read) [
      | inl past ↦
          let none : threshold - read ≡ 0 = omega arith in
          let at : read ≡ length front + (read - threshold) = omega (arith, front_long) in
          let behind : drop read all ≡ drop (read - threshold) (got ++ bits) = ap (λ n. drop n all) at ∙ drop-append-add front (got ++ bits) (read - threshold) in
          let count : read + more - threshold ≡ read - threshold + more = omega arith in
          ap (λ n. take n (got ++ bits)) count
          ∙ take-add (read - threshold) more (got ++ bits)
          ∙ ap (λ (x : List Bool). x ++ take more (drop (read - threshold) (got ++ bits))) (take-append-le (read - threshold) got bits (omega arith))
          ∙ sym (ap (λ (x : List Bool). take (read - threshold) got ++ x) (read_out ∙ ap (λ n. drop n (take more (drop read all))) none ∙ ap (take more) behind))
      | inr before ↦
          let none : read - threshold ≡ 0 = omega arith in
          let shift : drop (threshold - read) (take more (drop read all)) ≡ drop threshold (take (read + more) all) =
          ap (drop (threshold - read)) (sym (drop-take read more all)) ∙ drop-drop (threshold - read) read (take (read + more) all) ∙ ap (λ n. drop n (take (read + more) all)) (back read before) in
          let rest : drop threshold (take (read + more) all) ≡ take (read + more - threshold) (got ++ bits) =
          elim (cases_lt (read + more) threshold) [
            | inl few ↦
                let zero_more : read + more - threshold ≡ 0 = omega arith in
                drop_all threshold (take (read + more) all) (omega (arith, length-take (read + more) all)) ∙ sym (ap (λ n. take n (got ++ bits)) zero_more)
            | inr enough ↦
                let at : read + more ≡ length front + (read + more - threshold) = omega (arith, front_long) in
                let taken : take (read + more) all ≡ front ++ take (read + more - threshold) (got ++ bits) = ap (λ n. take n all) at ∙ take-append-add front (got ++ bits) (read + more - threshold) in
                let at' : threshold ≡ length front + 0 = omega (arith, front_long) in
                ap (drop threshold) taken ∙ ap (λ n. drop n (front ++ take (read + more - threshold) (got ++ bits))) at' ∙ drop-append-add front (take (read + more - threshold) (got ++ bits)) 0
          ] in
          sym (ap (λ n. take n got ++ drop (threshold - read) (take more (drop read (front ++ got) ++ bits))) none ∙ read_out ∙ shift ∙ rest)
    ]
  where
    back : (read : ℕ) → read ≤ threshold → read + (threshold - read) ≡ threshold
    back read h = omega arith

-- ---- one more piece

pub passed : (s : FrameShape) (j : ℕ) (pieces : List FarPiece) (got : List Bool) (piece : FarPiece) (bits : List Bool) (held new : Held) (out : List Bool) (mark : Bool) → IsEven s → j < s.tribs
    → FarHolds s j pieces got held → length bits ≡ came s j piece → mark ≡ leb threshold (length held.bits)
    → new.bits ≡ drop (s.low + cond mark 1 0) (held.bits ++ bits) → new.ones ≡ held.ones - (s.low + cond mark 1 0) → new.room ≡ held.room
    → out ≡ drop held.ones (take (s.low + cond mark 1 0) (held.bits ++ bits)) → FarPasses s j pieces got piece bits new out mark
passed s j pieces got piece bits held new out mark laws known holds brought mark_is new_bits new_ones new_room out_of =
    let read : ℕ = read_in s j pieces in
    let front : List Bool = replicate threshold true in
    let more : mark ≡ more_behind s j pieces = mark_is ∙ ap (leb threshold) (held_long s j pieces got held laws known holds) in
    let count : s.low + cond mark 1 0 ≡ carried s (more_behind s j pieces) = ap (λ b. s.low + cond b 1 0) more ∙ either (more_behind s j pieces) in
    let total : read_in s j (pieces ++ piece ∷ []) ≡ read + (s.low + cond mark 1 0) = read_next s j pieces piece ∙ ap (λ n. read + n) (sym count) in
    let within : read ≤ threshold + length got = omega (arith, balance s j pieces got held laws known holds) in
    let front_long : length front ≡ threshold = length-replicate threshold true in
    let joined : held.bits ++ bits ≡ drop read (front ++ (got ++ bits)) =
    ap (λ (x : List Bool). x ++ bits) holds.bits ∙ sym (drop-append-le read (front ++ got) bits (omega (arith, length-append front got, front_long))) ∙ ap (drop read) (append_assoc front got bits) in
    record {
      holds = record {
        come = length-append got bits ∙ omega (arith, brought, holds.come, come_next s j pieces piece);
        bits = new_bits ∙ ap (drop (s.low + cond mark 1 0)) joined ∙ drop-drop (s.low + cond mark 1 0) read (front ++ (got ++ bits)) ∙ sym (ap (λ n. drop n (front ++ (got ++ bits))) total);
        ones = new_ones ∙ omega (arith, holds.ones, total);
        room = new_room ∙ holds.room;
      };
      smooth_is =
          ap (λ n. take (n - threshold) (got ++ bits)) total
          ∙ out_is got bits read (s.low + cond mark 1 0) within
          ∙ ap (λ (x : List Bool). take (read - threshold) got ++ drop (threshold - read) (take (s.low + cond mark 1 0) (x ++ bits))) (sym holds.bits)
          ∙ ap (λ n. take (read - threshold) got ++ drop n (take (s.low + cond mark 1 0) (held.bits ++ bits))) (sym holds.ones)
          ∙ ap (λ (x : List Bool). take (read - threshold) got ++ x) (sym out_of);
      marks_are =
          ap (λ n. map (reads_more s j (pieces ++ piece ∷ [])) (range_with_len 0 n)) (length-append pieces (piece ∷ []))
          ∙ ap (map (reads_more s j (pieces ++ piece ∷ []))) (range_append 0 (length pieces) 1)
          ∙ map-append (reads_more s j (pieces ++ piece ∷ [])) (range_with_len 0 (length pieces)) (range_with_len (0 + length pieces) 1)
          ∙ ap (λ (x : List Bool). x ++ reads_more s j (pieces ++ piece ∷ []) (0 + length pieces) ∷ []) (map-range_same_on (reads_more s j (pieces ++ piece ∷ [])) (reads_more s j pieces) 0 (length pieces) (λ k h h'. reads_more-append s j pieces (piece ∷ []) k (omega arith)))
          ∙ ap (λ b. marks_of s j pieces ++ b ∷ []) (ap (reads_more s j (pieces ++ piece ∷ [])) at ∙ more_next s j pieces piece ∙ sym more);
    }
  where
    either : (b : Bool) → s.low + cond b 1 0 ≡ carried s b
    either true = omega arith
    either false = omega arith

    at : 0 + length pieces ≡ length pieces
    at = omega arith

-- what the store needs of a piece
pub piece_bounds : (s : FrameShape) (j : ℕ) (pieces : List FarPiece) (got : List Bool) (piece : FarPiece) (bits : List Bool) (held : Held) → IsEven s → j < s.tribs
    → FarHolds s j pieces got held → length bits ≡ came s j piece
    → (s.low + 1 ≤ length held.bits + length bits) × (length held.bits + length bits ≤ s.low + cond (leb threshold (length held.bits)) 1 0 + threshold) × (length held.bits + length bits ≤ held.room)
piece_bounds s j pieces got piece bits held laws known holds brought =
    let fill : length held.bits ≡ start_fill s j pieces (length pieces) = held_long s j pieces got held laws known holds in
    let near = start_bounds s j pieces (length pieces) laws known in
    let some = came-is s j piece laws known in
    let least : s.low ≤ length bits = omega (arith, brought, some.1, carried-least s some.0) in
    let most : length bits ≤ suc s.low = omega (arith, brought, some.1, carried-most s some.0) in
    (omega (arith, fill, near.0, least), few (length held.bits) (length bits) (omega (arith, fill, near.1)) most, omega (arith, fill, near.1, most, holds.room))
  where
    few : (fill more : ℕ) → fill ≤ threshold → more ≤ suc s.low → fill + more ≤ s.low + cond (leb threshold fill) 1 0 + threshold
    few fill more h h' = elim (cases_lt fill threshold) [
      | inl less ↦ rw (lt-leb threshold fill less) (omega arith)
      | inr full ↦ rw (le-leb threshold fill full) (omega arith)
    ]
