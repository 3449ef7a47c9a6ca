-- A node that has come back to its line gives each tributary the bits of its own, down to the leaves of a chain.
use Rattle.std.proofs.Common.{◌≡◌, ℕ, zero, suc, ◌+◌, ◌-◌, ◌*◌, ◌/◌, ◌%◌, ◌<◌, ◌≤◌, Bool, true, false, cond, List, [], ◌∷◌, ◌++◌, length, map, take, drop, refl, sym, ap, ◌∙◌, subst, inl, inr, arith, append_assoc, length-append, length-drop}
use Rattle.std.specs.Prelude.{flat_map, ◌⊎◌}
use Rattle.std.specs.List.{range_with_len}
use Rattle.std.proofs.lemmas.Grind.{flat_map-append}
use Rattle.std.proofs.lemmas.List.{take_all, drop_at, append-nil, map-append, drop-drop}
use Rattle.std.proofs.lemmas.List.FromFn.{length-map-range_with_len}
use Rattle.std.proofs.lemmas.Bool.{le-ltb, cases_lt}
use Rattle.std.proofs.lemmas.Nat.{div-add-mod', mod_below, le-div}
use Rattle.std.proofs.Math.Nat.{mul-le-mul_right}
use Rattle.pdh_shape.specs.Frame.{FrameShape, IsFrame, is_right}
use Rattle.pdh_line.specs.Tracking.{Piece, frame_of, gap_of, is_found, is_lost, aligned, delivered, frames_in, track}
use Rattle.pdh_line.specs.Tracking.Piece.{Gap, Delivered}
use Rattle.pdh_shape.specs.Frame.{idle}
use Rattle.pdh_shape.specs.Tributary.{HasTributaries, stripped}
use Rattle.pdh_shape.specs.declared.role.Service.{Service as Say}
use Rattle.pdh_line.specs.Receiving.{piece_bits, received}
use Rattle.pdh_line.specs.Sending.Mode.{Plain}
use Rattle.pdh_line.specs.Sending.{HasStores, Source, sent, carried, sends_more, line_bit, given, given_back, frames_found}
use Rattle.pdh_line.specs.Nodes.{child, Counts, given_at}
use Rattle.pdh_nesting.specs.Chains.{width, AreFrames}
use Rattle.pdh_nesting.specs.Sending.{chain_line, line_with, content_of, given_below}
use Rattle.pdh_nesting.specs.Events.{NoneEmpty}
use Rattle.pdh_nesting.proofs.Nodes.{sent-grows, given_back-given}
use Rattle.pdh_line.specs.Events.{underflows}
use Rattle.pdh_nesting.specs.Receiving.{far}
use Rattle.pdh_align.specs.OpenGap.{covered}
use Rattle.pdh_line.proofs.TrackingLaws as laws
use Rattle.pdh_align.proofs.AligningLaws.{all_delivered, covered-append}
use Rattle.pdh_line.proofs.Ranges.{range_push, range_append, map-range_same_on, map-range_shift}
use Rattle.pdh_line.proofs.LeafNumbers.{leaf-tributary, leaf-below, leaf-number}
use Rattle.pdh_line.proofs.SendingLaws.{sent-suc}
use Rattle.pdh_line.proofs.SentFrames.{sent_frame, line_bit-at, sent_frame-right, stripped-plain}
use Rattle.pdh_recovery.specs.Losing.{KeepsRight}
use Rattle.pdh_recovery.specs.Recovering.{Rejoins, RejoinsList, IsTruePosition, IsQuietFrom, AllRight, RecoversAfter}
use Rattle.pdh_recovery.specs.Downwards.{ChildPlace, IsQuietDown, ComesBack, KeepRight, LeafComesBack}
use Rattle.pdh_recovery.proofs.PieceLaws.{covered-cons, covered-frames, SearchAt, search_now, ends_in_frames}
use Rattle.pdh_recovery.proofs.PlaceLaws.{true_step, true_frame, sent_at}
use Rattle.pdh_recovery.proofs.RecoverLaws.{recovers_by, recovers, bits_from}

-- a frame of a sent line, by its bits
pub sent_bits : (s : FrameShape) (source : Source) (n : ℕ) → map (line_bit s source) (range_with_len (n * s.len) s.len) ≡ sent_frame s source n
sent_bits s source n =
    let e : n * s.len ≡ n * s.len + 0 = omega arith in
    ap (λ m. map (line_bit s source) (range_with_len m s.len)) e ∙ map-range_shift (line_bit s source) (n * s.len) 0 s.len
    ∙ map-range_same_on _ _ 0 s.len (λ t l h. line_bit-at s source n t (omega arith))

pub sent_all_right : (s : FrameShape) (source : Source) (n : ℕ) → AllRight s (line_bit s source) n
sent_all_right s source n k h = ap (is_right s) (sent_bits s source k) ∙ sent_frame-right s source k

bits_of_frame : (s : FrameShape) (j : ℕ) (frame : List Bool) → piece_bits s j (Delivered frame) ≡ stripped s j frame
unfolding piece_bits
bits_of_frame s j frame = refl

-- the frames of a sent line from frame a on give back the tributary's bits from there on
pub frames_give_from : (s : FrameShape) (source : Source) (a m j : ℕ) → source.mode ≡ Plain → HasTributaries s → j < s.tribs
    → (n : ℕ) × (sent s (source.counts j) (a + m) ≡ sent s (source.counts j) a + n)
    × (flat_map (piece_bits s j) (map (λ k. Delivered (sent_frame s source (a + k))) (range_with_len 0 m)) ≡ map (source.inputs j) (range_with_len (sent s (source.counts j) a) n))
frames_give_from s source a zero j plain tribs h =
    let e : a + 0 ≡ a = omega arith in
    (0, ap (sent s (source.counts j)) e ∙ omega arith, refl)
frames_give_from s source a (suc m) j plain tribs h =
    let before = frames_give_from s source a m j plain tribs h in
    let e : 0 + m ≡ m = omega arith in
    let next : a + suc m ≡ suc (a + m) = omega arith in
    let f : ℕ → Piece = λ k. Delivered (sent_frame s source (a + k)) in
    let from : ℕ = sent s (source.counts j) a in
    let n : ℕ = before.0 in
    let c : ℕ = carried s (sends_more s (source.counts j) (a + m)) in
    let here : sent s (source.counts j) (a + m) ≡ from + n = before.1 in
    let last : flat_map (piece_bits s j) (f (0 + m) ∷ []) ≡ map (source.inputs j) (range_with_len (from + n) c) =
    append-nil (piece_bits s j (f (0 + m))) ∙ bits_of_frame s j (sent_frame s source (a + (0 + m))) ∙ ap (λ k. stripped s j (sent_frame s source (a + k))) e ∙ stripped-plain s source (a + m) j plain tribs h
    ∙ sym (map-range_shift (source.inputs j) (sent s (source.counts j) (a + m)) 0 c) ∙ ap (λ k. map (source.inputs j) (range_with_len k c)) (omega arith) in
    let grown : sent s (source.counts j) (a + suc m) ≡ from + (n + c) =
    ap (sent s (source.counts j)) next ∙ sent-suc s (source.counts j) (a + m) ∙ ap (λ k. k + c) here ∙ omega arith in (
      n + c,
      grown,
      ap (λ x. flat_map (piece_bits s j) (map f x)) (range_push 0 m)
          ∙ ap (flat_map (piece_bits s j)) (map-append f (range_with_len 0 m) ((0 + m) ∷ []))
          ∙ flat_map-append (piece_bits s j) (map f (range_with_len 0 m)) (f (0 + m) ∷ [])
          ∙ ap (λ x. x ++ flat_map (piece_bits s j) (f (0 + m) ∷ [])) before.2
          ∙ ap (λ x. map (source.inputs j) (range_with_len from n) ++ x) last
          ∙ sym (map-append (source.inputs j) (range_with_len from n) (range_with_len (from + n) c))
          ∙ ap (map (source.inputs j)) (sym (range_append from n c)),
    )

-- the first frame start at or after a place
pub first_from : (s : FrameShape) (p e : ℕ) → 0 < s.len → (k : ℕ) × (e ≤ p + k * s.len) × ((i : ℕ) → e ≤ p + i * s.len → k ≤ i) × ((p + k * s.len ≡ p) ⊎ (p + k * s.len < e + s.len))
first_from s p e some =
    elim (cases_lt p e) [
      | inr late ↦ (0, omega arith, λ i h. omega arith, inl (omega arith))
      | inl early ↦
          let w : ℕ = e - p in
          let q : ℕ = w / s.len in
          let r : ℕ = w % s.len in
          let split : q * s.len + r ≡ w = div-add-mod' w s.len in
          let below : r < s.len = mod_below w s.len some in
          elim (cases_lt 0 r) [
            | inl part ↦ (suc q, omega arith, λ i h. elim (cases_lt i (suc q)) [ inl less ↦ (let m : i * s.len ≤ q * s.len = mul-le-mul_right s.len (pred i q less) in absurd (omega arith)) | inr ok ↦ ok ], inr (omega arith))
            | inr exact ↦ (q, omega arith, λ i h. elim (cases_lt i q) [ inl less ↦ (let m : suc i * s.len ≤ q * s.len = mul-le-mul_right s.len (up i q less) in absurd (omega arith)) | inr ok ↦ ok ], inr (omega arith))
          ]
    ]
  where
    pred : (i q : ℕ) → i < suc q → i ≤ q
    pred i q h = omega arith

    up : (i q : ℕ) → i < q → suc i ≤ q
    up i q h = omega arith

map_twice : {X Y Z : Type 0} (f : X → Y) (g : Y → Z) (xs : List X) → map g (map f xs) ≡ map (λ x. g (f x)) xs
map_twice f g [] = refl
map_twice f g (x ∷ xs) = ap (λ r. g (f x) ∷ r) (map_twice f g xs)

-- a list that begins with these and goes on as a line does
rejoins_by : (all before : List Bool) (bits : ℕ → Bool) (from n : ℕ) → all ≡ before ++ map bits (range_with_len from n) → Rejoins all bits (length before) from
rejoins_by all before bits from n is =
    let rest : List Bool = map bits (range_with_len from n) in
    let len : length rest ≡ n = length-map-range_with_len bits from n in
    let many : length all - length before ≡ n = omega (arith, ap length is, length-append before rest, len) in
    ap (drop (length before)) is ∙ drop_at before rest (length before) refl ∙ ap (λ k. map bits (range_with_len from k)) (sym many)

-- the bits that a tributary gets from its rejoining place on are those that the sent line's whole frames carry, up to the last that came
abbrev pub EndsWithFrames : FrameShape → (ℕ → ℕ) → List Bool → ℕ → ℕ → ℕ → ℕ → ℕ → ℕ → Type 0
EndsWithFrames s counts line e u j e' u' last = (last * s.len ≤ u + (length line - e)) × (u' + (length (received s j line) - e') ≡ sent s counts last)

-- a node that has come back gives tributary j its own bits from the first frame at or after the rejoining place on
pub downwards_to : (s : FrameShape) (source : Source) (line : List Bool) (e u m j : ℕ) → source.mode ≡ Plain → IsFrame s → HasTributaries s → KeepsRight s → j < s.tribs → Rejoins line (line_bit s source) e u
    → IsQuietFrom s line e u m → e + (m + 3) * s.len ≤ length line
    → (e' : ℕ) × (u' : ℕ) × ChildPlace s (source.counts j) line e u j e' u' × Rejoins (received s j line) (source.inputs j) e' u' × (last : ℕ) × EndsWithFrames s (source.counts j) line e u j e' u' last
unfolding received
downwards_to s source line e u m j plain shape tribs keeps h same quiet long =
    let some : 0 < s.len = shape.some_slots in
    let stays = recovers_by s line (line_bit s source) e u m shape keeps same (sent_all_right s source (u + (length line - e))) quiet long in
    let c : ℕ = stays.c in
    let whole : take (length line) line ≡ line = take_all (length line) line (omega arith) in
    let search : SearchAt s line c = subst (λ l. SearchAt s l c) whole (stays.search (length line) long (omega arith)) in
    let good = stays.good (length line) long (omega arith) in
    let x : List Bool = drop c line in
    let found : is_found s x ≡ true = ap (λ l. is_found s (drop c l)) (sym whole) ∙ good.0 in
    let kept : is_lost s x ≡ false = ap (λ l. is_lost s (drop c l)) (sym whole) ∙ good.1 in
    let p : ℕ = c + gap_of s x in
    let early : p < e + m * s.len = subst (λ l. c + gap_of s (drop c l) < e + m * s.len) whole good.2 in
    let true_place : IsTruePosition s e u p = subst (λ l. IsTruePosition s e u (c + gap_of s (drop c l))) whole good.3 in
    let a : List Bool = aligned s x in
    let a_at : a ≡ drop p line = drop-drop (gap_of s x) c line in
    let len_a : length a ≡ length line - p = ap length a_at ∙ length-drop p line in
    let d : ℕ = delivered s x in
    let all : d ≡ frames_in s a = all_delivered s x found kept in
    let first = first_from s p e some in
    let k : ℕ = first.0 in
    let v : ℕ = p + k * s.len in
    let from_e : e ≤ v = first.1 in
    let v_most : v < e + m * s.len + s.len = elim first.3 [ inl here ↦ omega arith | inr soon ↦ omega arith ] in
    let k_fits : k ≤ d = rw all (le-div k (length a) s.len some (omega arith)) in
    let v_true : IsTruePosition s e u v = true_step s e u p k some true_place in
    let number = true_frame s e u v some v_true from_e in
    let n : ℕ = number.0 in
    let v_is : v + u ≡ e + n * s.len = number.1 in
    let f : ℕ → Piece = λ i. Delivered (frame_of s a i) in
    let d_is : d ≡ k + (d - k) = omega arith in
    let before : List Piece = search.settled ++ (Gap (gap_of s x) ∷ map f (range_with_len 0 k)) in
    let later : List (List Bool) = map (λ i. sent_frame s source (n + i)) (range_with_len 0 (d - k)) in
    let whole_at : (i : ℕ) → i < d → i * s.len + s.len ≤ length a = λ i lt. laws.whole_frame s a i shape (omega arith) in
    let frame_is : (i : ℕ) → 0 ≤ i → i < 0 + (d - k) → f (k + i) ≡ Delivered (sent_frame s source (n + i)) = λ i l lt.
    let fits : (k + i) * s.len + s.len ≤ length a = whole_at (k + i) (omega arith) in
    let t : ℕ = p + (k + i) * s.len in
    let t_is : t + u ≡ e + (n + i) * s.len = omega arith in
    ap Delivered (ap (λ l. frame_of s l (k + i)) a_at ∙ ap (take s.len) (drop-drop ((k + i) * s.len) p line)
    ∙ sent_at s line (line_bit s source) e u t (n + i) same (omega arith) t_is (omega arith) ∙ sent_bits s source (n + i)) in
    let later_is : map f (range_with_len k (d - k)) ≡ map Delivered later =
    ap (λ b. map f (range_with_len b (d - k))) (omega arith) ∙ map-range_shift f k 0 (d - k)
    ∙ map-range_same_on (λ i. f (k + i)) (λ i. Delivered (sent_frame s source (n + i))) 0 (d - k) frame_is
    ∙ sym (map_twice (λ i. sent_frame s source (n + i)) Delivered (range_with_len 0 (d - k))) in
    let frames : map f (range_with_len 0 d) ≡ map f (range_with_len 0 k) ++ map Delivered later =
    ap (λ b. map f (range_with_len 0 b)) d_is ∙ ap (map f) (range_append 0 k (d - k)) ∙ map-append f (range_with_len 0 k) (range_with_len (0 + k) (d - k))
    ∙ ap (λ b. map f (range_with_len 0 k) ++ map f (range_with_len b (d - k))) (omega arith) ∙ ap (λ y. map f (range_with_len 0 k) ++ y) later_is in
    let pieces : track s line ≡ before ++ map Delivered later =
    search_now s line c search ∙ ap (λ y. search.settled ++ y) (laws.track_open s x kept ∙ laws.one_search_is s x ∙ ap (λ y. Gap (gap_of s x) ∷ y) frames)
    ∙ sym (append_assoc search.settled (Gap (gap_of s x) ∷ map f (range_with_len 0 k)) (map Delivered later)) in
    let those : covered s (map f (range_with_len 0 k)) ≡ k * s.len =
    ap (covered s) (sym (map_twice (frame_of s a) Delivered (range_with_len 0 k))) ∙ covered-frames s (map (frame_of s a) (range_with_len 0 k))
    ∙ ap (λ y. y * s.len) (length-map-range_with_len (frame_of s a) 0 k) in
    let settled : covered s search.settled ≡ c = search.cover in
    let covers : covered s before ≡ v =
    omega (arith, covered-append s search.settled (Gap (gap_of s x) ∷ map f (range_with_len 0 k)), covered-cons s (Gap (gap_of s x)) (map f (range_with_len 0 k)), those, settled) in
    let gives = frames_give_from s source n (d - k) j plain tribs h in
    let got : flat_map (piece_bits s j) (track s line) ≡ flat_map (piece_bits s j) before ++ map (source.inputs j) (range_with_len (sent s (source.counts j) n) gives.0) =
    ap (flat_map (piece_bits s j)) pieces ∙ flat_map-append (piece_bits s j) before (map Delivered later)
    ∙ ap (λ y. flat_map (piece_bits s j) before ++ y) (ap (flat_map (piece_bits s j)) (map_twice (λ i. sent_frame s source (n + i)) Delivered (range_with_len 0 (d - k))) ∙ gives.2) in
    let those_bits : List Bool = map (source.inputs j) (range_with_len (sent s (source.counts j) n) gives.0) in
    let many : length (flat_map (piece_bits s j) (track s line)) ≡ length (flat_map (piece_bits s j) before) + gives.0 =
    ap length got ∙ length-append (flat_map (piece_bits s j) before) those_bits ∙ ap (λ y. length (flat_map (piece_bits s j) before) + y) (length-map-range_with_len (source.inputs j) (sent s (source.counts j) n) gives.0) in
    let upto : sent s (source.counts j) n + (length (flat_map (piece_bits s j) (track s line)) - length (flat_map (piece_bits s j) before)) ≡ sent s (source.counts j) (n + (d - k)) = omega (arith, many, gives.1) in
    let fits : d * s.len ≤ length a = laws.delivered_within s x shape found in
    let parts : d * s.len ≡ k * s.len + (d - k) * s.len = ap (λ y. y * s.len) d_is ∙ omega arith in
    let sum : (n + (d - k)) * s.len ≡ n * s.len + (d - k) * s.len = omega arith in
    let within : (n + (d - k)) * s.len ≤ u + (length line - e) = omega arith in (
      length (flat_map (piece_bits s j) before),
      sent s (source.counts j) n,
      record {
        place = p;
        stands = ends_in_frames s line c shape search found kept;
        before = before;
        frames = later;
        pieces = pieces;
        steps = k;
        at = covers;
        from_e = from_e;
        first = first.2;
        number = n;
        sent_before = ap (λ y. y + u) covers ∙ v_is;
        got = refl;
        carried = refl;
      },
      rejoins_by (flat_map (piece_bits s j) (track s line)) (flat_map (piece_bits s j) before) (source.inputs j) (sent s (source.counts j) n) gives.0 got,
      n + (d - k),
      (within, upto),
    )

pub downwards : (s : FrameShape) (source : Source) (line : List Bool) (e u m j : ℕ) → source.mode ≡ Plain → IsFrame s → HasTributaries s → KeepsRight s → j < s.tribs → Rejoins line (line_bit s source) e u
    → IsQuietFrom s line e u m → e + (m + 3) * s.len ≤ length line
    → (e' : ℕ) × (u' : ℕ) × ChildPlace s (source.counts j) line e u j e' u' × Rejoins (received s j line) (source.inputs j) e' u'
downwards s source line e u m j plain shape tribs keeps h same quiet long =
    let down = downwards_to s source line e u m j plain shape tribs keeps h same quiet long in
    (down.0, down.1, down.2, down.3)

-- no more bits come by a place than the node has made there, so no more of a tributary come than it has taken
taken_enough : (s : FrameShape) (counts : ℕ → ℕ) (j x last : ℕ) → IsFrame s → HasTributaries s → j < s.tribs → (HasStores s → (n t : ℕ) → t < s.len → n * s.len + t < x → underflows s j counts n t ≡ false)
    → 3 * s.len ≤ x → last * s.len ≤ x → sent s counts last ≤ given s j counts x
taken_enough s counts j x last shape has known full three h =
    let whole : last ≤ x / s.len = le-div last x s.len shape.some_slots h in
    let enough : 3 ≤ x / s.len = le-div 3 x s.len shape.some_slots three in
    let found : frames_found (x / s.len) ≡ x / s.len = ap (λ b. cond b 0 (x / s.len)) (le-ltb _ _ enough) in
    let all : given_back s counts (x / s.len) ≡ sent s counts (x / s.len) = ap (sent s counts) found in
    omega (arith, sent-grows s counts last (x / s.len) whole, all, given_back-given s counts j x shape has known full)

-- each node on the way down comes back to its line in turn, and the leaf at the end gets its own bits from the last rejoining
-- place on: no more than it gave for the bits of the top that were made, if no store underflowed
pub comes_back_in : (chain : List FrameShape) (counts : Counts) (bits : ℕ → ℕ → Bool) (says : ℕ → Say) (path : List ℕ) (first : ℕ) (line : List Bool) (e u k : ℕ) (ms : List ℕ) → AreFrames chain → KeepRight chain → k < width chain
    → Rejoins line (chain_line Plain chain counts bits says path first) e u → IsQuietDown chain counts path line e u k ms
    → (e' : ℕ) × (u' : ℕ) × ComesBack chain counts bits path first line e u k ms e' u' × Rejoins (far chain line k) (bits (first + k)) e' u'
    × ((x : ℕ) → NoneEmpty chain counts path x → u + (length line - e) ≤ x → u' + (length (far chain line k) - e') ≤ given_below chain counts path x k)
unfolding far chain_line IsQuietDown ComesBack NoneEmpty given_at
comes_back_in [] counts bits says path first line e u k ms are keep h same quiet =
    let here : first ≡ first + k = omega arith in
    (e, u, (refl, refl, same), subst (λ n. Rejoins line (bits n) e u) here same, λ x full most. most)
comes_back_in (s ∷ below) counts bits says path first line e u k [] are keep h same quiet = absurd quiet
comes_back_in (s ∷ below) counts bits says path first line e u k (m ∷ ms) are keep h same quiet =
    let w : ℕ = width below in
    let j : ℕ = k / w in
    let at : List ℕ = child path j in
    let source : Source = record { mode = Plain; counts = counts path; inputs = λ j. chain_line Plain below counts bits (λ n. idle) (child path j) (first + j * w); says = says } in
    let known : j < s.tribs = leaf-tributary s.tribs w k h in
    let here : RecoversAfter s line e u m = recovers s line (line_bit s source) e u m are.0 keep.0 same (sent_all_right s source (u + (length line - e))) quiet.0 quiet.1 in
    let down = downwards_to s source line e u m j refl are.0 are.1 keep.0 known same quiet.0 quiet.1 in
    let rest = comes_back_in below counts bits (λ n. idle) at (first + j * w) (received s j line) down.0 down.1 (k % w) ms are.2 keep.1 (leaf-below s.tribs w k h) down.3 (quiet.2 down.0 down.1 down.2) in (
      rest.0,
      rest.1,
      (down.0, down.1, here, down.2, down.3, rest.2),
      subst (λ n. Rejoins (far below (received s j line) (k % w)) (bits n) rest.0 rest.1) (leaf-number first w k) rest.3,
      λ x full most.
          let long : e + (m + 3) * s.len ≤ length line = quiet.1 in
          let three : 3 * s.len ≤ x = omega arith in
          let taken = taken_enough s (counts path j) j x down.4 are.0 are.1 known (full j known).0 three (omega (arith, down.5.0)) in
          rest.4 (given s j (counts path j) x) (full j known).1 (omega (arith, down.5.1, taken)),
    )

pub comes_back : (chain : List FrameShape) (counts : Counts) (bits : ℕ → ℕ → Bool) (says : ℕ → Say) (path : List ℕ) (first : ℕ) (line : List Bool) (e u k : ℕ) (ms : List ℕ) → AreFrames chain → KeepRight chain → k < width chain
    → Rejoins line (chain_line Plain chain counts bits says path first) e u → IsQuietDown chain counts path line e u k ms
    → (e' : ℕ) × (u' : ℕ) × ComesBack chain counts bits path first line e u k ms e' u' × Rejoins (far chain line k) (bits (first + k)) e' u'
comes_back chain counts bits says path first line e u k ms are keep h same quiet =
    let back = comes_back_in chain counts bits says path first line e u k ms are keep h same quiet in
    (back.0, back.1, back.2, back.3)

-- where the leaf has a list that holds what it gave, the bits that come back are the list's
pub comes_back_list : (chain : List FrameShape) (counts : Counts) (lists : ℕ → List Bool) (says : ℕ → Say) (line : List Bool) (e u x k : ℕ) (ms : List ℕ) → AreFrames chain → KeepRight chain → k < width chain
    → NoneEmpty chain counts [] x → u + (length line - e) ≤ x → given_below chain counts [] x k ≤ length (lists k)
    → Rejoins line (line_with chain counts (content_of lists says)) e u → IsQuietDown chain counts [] line e u k ms
    → (e' : ℕ) × (u' : ℕ) × ComesBack chain counts (content_of lists says).bits [] 0 line e u k ms e' u' × RejoinsList (far chain line k) (lists k) e' u'
comes_back_list chain counts lists says line e u x k ms are keep h full most held same quiet =
    let first : 0 + k ≡ k = omega arith in
    let back = comes_back_in chain counts (content_of lists says).bits says [] 0 line e u k ms are keep h same quiet in
    let rejoins : Rejoins (far chain line k) ((content_of lists says).bits k) back.0 back.1 = subst (λ n. Rejoins (far chain line k) ((content_of lists says).bits n) back.0 back.1) first back.3 in
    let enough : back.1 + (length (far chain line k) - back.0) ≤ length (lists k) = omega (arith, back.4 x full most, held) in
    (back.0, back.1, back.2, (enough, rejoins ∙ bits_from (lists k) back.1 (length (far chain line k) - back.0) enough))

-- what a leaf receives comes back
pub leaf_comes_back : (shapes : List FrameShape) (line : List Bool) (leaf : ℕ) → AreFrames shapes → KeepRight shapes → leaf < width shapes → LeafComesBack shapes line leaf (far shapes line leaf)
leaf_comes_back shapes line leaf are keep known counts lists says bits e u quiet full held most same down =
    comes_back_list shapes counts lists says line e u bits leaf quiet are keep known full most held same down
