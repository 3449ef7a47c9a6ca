-- What the bits that are held say, by their places.
use Rattle.std.proofs.Common.{◌≡◌, ◌≢◌, ℕ, zero, suc, ◌+◌, ◌-◌, ◌*◌, ◌/◌, ◌%◌, ◌<◌, ◌≤◌, Bool, true, false, ◌&&◌, not, List, [], ◌∷◌, ◌++◌, length, map, get_or, take, drop, cond, refl, sym, ap, ◌∙◌, inl, inr, arith, add-one, length-drop}
use Rattle.std.specs.Prelude.{◌==◌, flat_map, nat_le, nat_lt}
use Rattle.std.specs.Bool.{beq}
use Rattle.std.specs.List.{range_with_len, list_all}
use Rattle.std.proofs.lemmas.Bool.{cases_Bool, false≢true, and_left, and_right, and_from, eq-eqb, ne_eqb, lt-ltb, le-ltb, le-leb, lt-leb, not_from_true, not_from_false}
use Rattle.std.proofs.Math.Seq.{take-add}
use Rattle.std.proofs.lemmas.Grind.{flat_map-append}
use Rattle.std.proofs.lemmas.List.Concat.{flat_map-cons}
use Rattle.std.proofs.lemmas.List.FromFn.{length-map-range_with_len, take-map-range_with_len}
use Rattle.std.proofs.lemmas.List.{append-nil, map-append, drop-drop, drop-take, drop_at, get_or-take, get_or-drop, take_more}
use Rattle.std.proofs.lemmas.List.Folds.{list_all-append}
use mir.Val.{bool_byte}
use Rattle.pdh_bits.specs.Bits.{bit_value, number_of}
use Rattle.pdh_e1.specs.Crc4.{crc4, cleared}
use Rattle.pdh_edge.specs.Ports.{IsPrefix}
use Rattle.pdh_line.proofs.Ranges.{range_push, range_append, list_all-at, count_push}
use Rattle.pdh_g706.specs.Frames.{bit_of, alignment_signal, has_signal, is_confirmed, frame_of, frames_of}
use Rattle.pdh_g706.specs.Alignment.{frame, loses, multiframe_signal, has_multi, earlier, reaches, eight, sent_check, errs}
use Rattle.pdh_g706.specs.Machine.{payload_from, frames_from, errs_in, each_errs}
use Rattle.pdh_g706.specs.Events.{odd_frame, has_alarm, alarm_before, tells_error, odd_kinds, frames_kinds, crc_kinds}
use Rattle.pdh_watch.specs.declared.kind.Kind.{Kind}
use Rattle.pdh_watch.specs.declared.kind.TheConstants.Kind.{ALARM_ON, ALARM_OFF, CRC, EBIT}
use Rattle.pdh_events.specs.Telling.{changed}
use Rattle.pdh_g706.proofs.EventLaws.{odd_kinds_is}
use Rattle.pdh_line.specs.Least.{least_below}
use Rattle.pdh_line.proofs.LeastLaws.{least_below-le, least_below_yes, least_below_none, least_below_more}
use Rattle.pdh_g706.proofs.FrameLists.{frames_of_is, length_frames, frame_at}
use Rattle.pdh_g706.proofs.AlignmentLaws.{earlier_is, second_of}
use Rattle.pdh_g706.proofs.GrowthLaws.{errs_is, loses_is}

-- ---- a bit of a frame

-- a bit of the frame that begins at a bit
pub bit_in_frame : (bits : List Bool) (start i n : ℕ) → i < n → bit_of (take n (drop start bits)) i ≡ get_or bits (start + i) false
bit_in_frame bits start i n lt = get_or-take n (drop start bits) i false lt ∙ get_or-drop start bits i false

-- a bit of a frame of those that are held
pub bit_of_frame : (bits : List Bool) (k i place : ℕ) → i < 256 → 256 * k + 256 ≤ length bits → 256 * k + i ≡ place → bit_of (frame (frames_of bits) k) i ≡ get_or bits place false
bit_of_frame bits k i place lt room e =
    ap (λ (x : List Bool). bit_of x i) (frame_at bits k (omega arith)) ∙ bit_in_frame bits (256 * k) i 256 lt ∙ ap (λ n. get_or bits n false) e

-- ---- a signal

-- the bits of a signal so far, with one more
pub all_more : (p : ℕ → Bool) (n : ℕ) → list_all p (range_with_len 0 n) ≡ true → p n ≡ true → list_all p (range_with_len 0 (n + 1)) ≡ true
all_more p n before here =
    ap (λ k. list_all p (range_with_len 0 k)) (add-one n) ∙ ap (list_all p) (range_push 0 n) ∙ list_all-append p (range_with_len 0 n) ((0 + n) ∷ [])
    ∙ ap (λ b. b && list_all p ((0 + n) ∷ [])) before ∙ ap (λ b. b && true) (ap p (omega arith) ∙ here)

-- one is wrong
pub all_fails : (p : ℕ → Bool) (n m : ℕ) → n < m → p n ≡ false → list_all p (range_with_len 0 m) ≡ false
all_fails p n m lt fails = elim (cases_Bool (list_all p (range_with_len 0 m))) [
  | inl all ↦ absurd (false≢true (sym fails ∙ list_all-at p 0 m n all (omega arith) (omega arith)))
  | inr none ↦ none
]

-- the test of a bit of the alignment signal
abbrev pub signal_test : List Bool → ℕ → Bool
signal_test frame i = beq (bit_of frame (i + 1)) (bit_of alignment_signal i)

pub has_signal_is : (frame : List Bool) → has_signal frame ≡ list_all (signal_test frame) (range_with_len 0 7)
unfolding has_signal
has_signal_is frame = refl

-- the test of a bit of the multiframe alignment signal
abbrev pub multi_test : List (List Bool) → ℕ → ℕ → Bool
multi_test frames k i = beq (bit_of (frame frames (k + 2 * i + 1)) 0) (bit_of multiframe_signal i)

pub multi_at : (bits : List Bool) (k i : ℕ) (bit want wrong : Bool) → i < 6 → 256 * k + 3072 ≤ length bits → bit ≡ get_or bits (256 * (k + 2 * i + 1)) false → want ≡ bit_of multiframe_signal i → not (beq bit want) ≡ wrong
    → multi_test (frames_of bits) k i ≡ not wrong
multi_at bits k i bit want wrong lt room is want_is differs =
    let at : bit_of (frame (frames_of bits) (k + 2 * i + 1)) 0 ≡ bit = bit_of_frame bits (k + 2 * i + 1) 0 (256 * (k + 2 * i + 1)) (omega arith) (omega arith) (omega arith) ∙ sym is in
    ap (λ b. beq b (bit_of multiframe_signal i)) at ∙ ap (beq bit) (sym want_is) ∙ twice (beq bit want) wrong differs
  where
    twice : (a b : Bool) → not a ≡ b → a ≡ not b
    twice true b h = ap not h
    twice false b h = ap not h

pub has_multi_is : (frames : List (List Bool)) (k : ℕ) → has_multi frames k ≡ list_all (multi_test frames k) (range_with_len 0 6)
unfolding has_multi
has_multi_is frames k = refl

-- ---- an earlier signal

pub earlier_found : (fs : List (List Bool)) (k j : ℕ) → j < k → ((i : ℕ) → i < j → (((k - i) % 16 == 0) && has_multi fs i) ≡ false) → (k - j) % 16 ≡ 0 → has_multi fs j ≡ true → j ≡ earlier fs k
earlier_found fs k j lt before multiple right =
    let test : ℕ → Bool = λ i. ((k - i) % 16 == 0) && has_multi fs i in
    let here : test j ≡ true = and_from _ _ (eq-eqb _ _ multiple) right in
    let up : least_below (suc j) test ≡ j = least_below_yes j test (least_below_none j test before) here in
    let long : suc j + (k - suc j) ≡ k = omega arith in
    sym (earlier_is fs k ∙ ap (λ n. least_below n test) (sym long) ∙ least_below_more (suc j) (k - suc j) test (omega arith) ∙ up)

pub earlier_none : (fs : List (List Bool)) (k : ℕ) → ((i : ℕ) → i < k → (((k - i) % 16 == 0) && has_multi fs i) ≡ false) → k ≡ earlier fs k
earlier_none fs k before = sym (earlier_is fs k ∙ least_below_none k (λ i. ((k - i) % 16 == 0) && has_multi fs i) before)

-- ---- multiframe alignment

pub reaches_is : (fs : List (List Bool)) (n k : ℕ) → length fs ≡ n → n - 12 ≡ k → reaches fs ≡ (nat_le 12 n && nat_le n 64 && (k % 2 == 0) && has_multi fs k && nat_lt (earlier fs k) k)
unfolding reaches
reaches_is fs n k e f =
    ap (λ m. nat_le 12 m && nat_le m 64 && ((m - 12) % 2 == 0) && has_multi fs (m - 12) && nat_lt (earlier fs (m - 12)) (m - 12)) e
    ∙ ap (λ j. nat_le 12 n && nat_le n 64 && (j % 2 == 0) && has_multi fs j && nat_lt (earlier fs j) j) f

pub reaches_short : (fs : List (List Bool)) (n : ℕ) → length fs ≡ n → n < 12 → reaches fs ≡ false
reaches_short fs n e lt =
    let short : nat_le 12 n ≡ false = lt-leb _ _ lt in
    reaches_is fs n (n - 12) e refl ∙ and_left _ _ (and_left _ _ (and_left _ _ (and_left _ _ short)))

pub reaches_odd : (fs : List (List Bool)) (n k : ℕ) → length fs ≡ n → n - 12 ≡ k → k % 2 ≡ 1 → reaches fs ≡ false
reaches_odd fs n k e f odd =
    let other : (k % 2 == 0) ≡ false = ne_eqb _ _ (λ z. absurd (omega arith)) in
    reaches_is fs n k e f ∙ and_left _ _ (and_left _ _ (and_right _ _ other))

pub reaches_wrong : (fs : List (List Bool)) (n k : ℕ) → length fs ≡ n → n - 12 ≡ k → has_multi fs k ≡ false → reaches fs ≡ false
reaches_wrong fs n k e f wrong = reaches_is fs n k e f ∙ and_left _ _ (and_right _ _ wrong)

pub reaches_first : (fs : List (List Bool)) (n k : ℕ) → length fs ≡ n → n - 12 ≡ k → earlier fs k ≡ k → reaches fs ≡ false
reaches_first fs n k e f none =
    let no : nat_lt (earlier fs k) k ≡ false = le-ltb _ _ (omega arith) in
    reaches_is fs n k e f ∙ and_right _ _ no

earlier_le : (fs : List (List Bool)) (k : ℕ) → earlier fs k ≤ k
earlier_le fs k = omega (arith, earlier_is fs k, least_below-le k (λ i. ((k - i) % 16 == 0) && has_multi fs i))

pub reaches_right : (fs : List (List Bool)) (n k : ℕ) → length fs ≡ n → n - 12 ≡ k → 12 ≤ n → n ≤ 64 → k % 2 ≢ 1 → has_multi fs k ≡ true → earlier fs k ≢ k → reaches fs ≡ true
reaches_right fs n k e f least most even right some =
    let zero_is : k % 2 ≡ 0 = omega arith in
    let under : earlier fs k ≤ k = earlier_le fs k in
    let lt : earlier fs k < k = less (earlier fs k) k under some in
    reaches_is fs n k e f ∙ and_from _ _ (and_from _ _ (and_from _ _ (and_from _ _ (le-leb _ _ least) (le-leb _ _ most)) (eq-eqb _ _ zero_is)) right) (lt-ltb _ _ lt)
  where
    less : (a b : ℕ) → a ≤ b → a ≢ b → a < b
    less a b le ne = omega arith

-- where the first multiframe begins, two signals stand a multiple of 16 frames apart
pub second_long : (fs : List (List Bool)) (bits n first : ℕ) → length fs ≡ n → n ≡ bits / 256 → bits % 256 ≡ 0 → reaches fs ≡ true → first ≡ earlier fs (n - 12) → 256 * first + 7168 ≤ bits
second_long fs bits n first count n_is whole right is =
    let second = second_of fs right in
    let same : earlier fs (length fs - 12) ≡ first = ap (λ k. earlier fs (k - 12)) count ∙ sym is in
    let before : earlier fs (length fs - 12) < length fs - 12 = second.before in
    let multiple : (length fs - 12 - earlier fs (length fs - 12)) % 16 ≡ 0 = second.multiple in
    omega arith

-- ---- a loss

-- the signal of a frame that is held
pub signal_of_frame : (bits : List Bool) (k place : ℕ) → 256 * k + 256 ≤ length bits → 256 * k ≡ place → has_signal (frame (frames_of bits) k) ≡ has_signal (take 256 (drop place bits))
signal_of_frame bits k place room e = ap has_signal (frame_at bits k (omega arith)) ∙ ap (λ n. has_signal (take 256 (drop n bits))) e

pub loses_at : (fs : List (List Bool)) (n : ℕ) → length fs ≡ n
    → loses fs ≡ (nat_le 5 n && (n % 2 == 1) && not (has_signal (frame fs (n - 5))) && not (has_signal (frame fs (n - 3))) && not (has_signal (frame fs (n - 1))))
loses_at fs n e = loses_is fs ∙ ap (λ m. nat_le 5 m && (m % 2 == 1) && not (has_signal (frame fs (m - 5))) && not (has_signal (frame fs (m - 3))) && not (has_signal (frame fs (m - 1)))) e

pub loses_few : (fs : List (List Bool)) (n : ℕ) → length fs ≡ n → n < 5 → loses fs ≡ false
loses_few fs n e lt =
    let short : nat_le 5 n ≡ false = lt-leb _ _ lt in
    loses_at fs n e ∙ and_left _ _ (and_left _ _ (and_left _ _ (and_left _ _ short)))

pub loses_even : (fs : List (List Bool)) (n : ℕ) → length fs ≡ n → n % 2 ≡ 0 → loses fs ≡ false
loses_even fs n e even =
    let other : (n % 2 == 1) ≡ false = ne_eqb _ _ (λ z. absurd (omega arith)) in
    loses_at fs n e ∙ and_left _ _ (and_left _ _ (and_left _ _ (and_right _ _ other)))

pub loses_newest : (fs : List (List Bool)) (n : ℕ) → length fs ≡ n → has_signal (frame fs (n - 1)) ≡ true → loses fs ≡ false
loses_newest fs n e right = loses_at fs n e ∙ and_right _ _ (not_from_true _ right)

pub loses_middle : (fs : List (List Bool)) (n : ℕ) → length fs ≡ n → has_signal (frame fs (n - 3)) ≡ true → loses fs ≡ false
loses_middle fs n e right = loses_at fs n e ∙ and_left _ _ (and_right _ _ (not_from_true _ right))

pub loses_oldest : (fs : List (List Bool)) (n : ℕ) → length fs ≡ n → 5 ≤ n → n % 2 ≢ 0 → has_signal (frame fs (n - 1)) ≡ false → has_signal (frame fs (n - 3)) ≡ false → loses fs ≡ not (has_signal (frame fs (n - 5)))
loses_oldest fs n e least odd newest middle =
    let one : n % 2 ≡ 1 = omega arith in
    loses_at fs n e
    ∙ last (nat_le 5 n && (n % 2 == 1)) (not (has_signal (frame fs (n - 5)))) (not (has_signal (frame fs (n - 3)))) (not (has_signal (frame fs (n - 1))))
    (and_from _ _ (le-leb _ _ least) (eq-eqb _ _ one)) (not_from_false _ middle) (not_from_false _ newest)
  where
    last : (a b c d : Bool) → a ≡ true → c ≡ true → d ≡ true → (a && b && c && d) ≡ b
    last a true c d e f g = and_from _ _ (and_from _ _ (and_from _ _ e refl) f) g
    last a false c d e f g = and_left _ _ (and_left _ _ (and_right _ _ refl))

-- ---- a search

pub confirmed_is : (bits : List Bool) → is_confirmed bits ≡ (nat_le 768 (length bits) && has_signal (frame_of bits 0) && bit_of (frame_of bits 1) 1 && has_signal (frame_of bits 2))
unfolding is_confirmed
confirmed_is bits = refl

pub confirmed_first : (bits : List Bool) → has_signal (take 256 (drop 0 bits)) ≡ false → is_confirmed bits ≡ false
confirmed_first bits wrong = confirmed_is bits ∙ and_left _ _ (and_left _ _ (and_right _ _ wrong))

pub confirmed_second : (bits : List Bool) → bit_of (take 256 (drop 256 bits)) 1 ≡ false → is_confirmed bits ≡ false
confirmed_second bits wrong = confirmed_is bits ∙ and_left _ _ (and_right _ _ wrong)

pub confirmed_third : (bits : List Bool) → 768 ≤ length bits → has_signal (take 256 (drop 0 bits)) ≡ true → bit_of (take 256 (drop 256 bits)) 1 ≡ true → is_confirmed bits ≡ has_signal (take 256 (drop 512 bits))
confirmed_third bits long first second = confirmed_is bits ∙ ap (λ b. b && has_signal (frame_of bits 2)) (and_from _ _ (and_from _ _ (le-leb _ _ long) first) second)

-- ---- blocks

pub worth : (b : Bool) → bool_byte b ≡ bit_value b
worth true = refl
worth false = refl

-- the number of four bits
pub four_bits : (bits : List Bool) (start : ℕ) (a b c d : Bool) (p q r s : ℕ) → a ≡ get_or bits start false → b ≡ get_or bits (start + 512) false → c ≡ get_or bits (start + 1024) false → d ≡ get_or bits (start + 1536) false
    → p ≡ bool_byte a → q ≡ bool_byte b → r ≡ bool_byte c → s ≡ bool_byte d → 8 * p + 4 * q + 2 * r + s ≡ sent_check (take 2048 (drop start bits))
four_bits bits start a b c d p q r s e f g h i j k l =
    let block : List Bool = take 2048 (drop start bits) in
    let first : bit_of block 0 ≡ a = bit_in_frame bits start 0 2048 (omega arith) ∙ ap (λ n. get_or bits n false) (omega arith) ∙ sym e in
    let second : bit_of block 512 ≡ b = bit_in_frame bits start 512 2048 (omega arith) ∙ sym f in
    let third : bit_of block 1024 ≡ c = bit_in_frame bits start 1024 2048 (omega arith) ∙ sym g in
    let fourth : bit_of block 1536 ≡ d = bit_in_frame bits start 1536 2048 (omega arith) ∙ sym h in
    value p q r s a b c d (i ∙ worth a) (j ∙ worth b) (k ∙ worth c) (l ∙ worth d)
    ∙ sym (ap (λ x. number_of (x ∷ bit_of block 512 ∷ bit_of block 1024 ∷ bit_of block 1536 ∷ [])) first ∙ ap (λ x. number_of (a ∷ x ∷ bit_of block 1024 ∷ bit_of block 1536 ∷ [])) second
    ∙ ap (λ x. number_of (a ∷ b ∷ x ∷ bit_of block 1536 ∷ [])) third ∙ ap (λ x. number_of (a ∷ b ∷ c ∷ x ∷ [])) fourth)
  where
    value : (p q r s : ℕ) (a b c d : Bool) → p ≡ bit_value a → q ≡ bit_value b → r ≡ bit_value c → s ≡ bit_value d → 8 * p + 4 * q + 2 * r + s ≡ number_of (a ∷ b ∷ c ∷ d ∷ [])
    value p q r s a b c d e f g h = omega arith

-- whole frames one after another
pub take_frames : (bits : List Bool) (k n : ℕ) → 256 * k + 256 * n ≤ length bits → take n (drop k (frames_of bits)) ≡ map (frame_of bits) (range_with_len (0 + k) n)
take_frames bits k n room =
    let f : ℕ → List Bool = frame_of bits in
    let more : ℕ = length bits / 256 - k - n in
    let all : length bits / 256 ≡ k + (n + more) = omega arith in
    ap (λ (x : List (List Bool)). take n (drop k x)) (frames_of_is bits ∙ ap (λ m. map f (range_with_len 0 m)) all ∙ ap (map f) (range_append 0 k (n + more)) ∙ map-append f (range_with_len 0 k) (range_with_len (0 + k) (n + more)))
    ∙ ap (take n) (drop_at (map f (range_with_len 0 k)) (map f (range_with_len (0 + k) (n + more))) k (length-map-range_with_len f 0 k))
    ∙ take-map-range_with_len f (0 + k) (n + more) n (omega arith)

-- their bits
joined : (bits : List Bool) (k n : ℕ) → flat_map (λ (x : List Bool). x) (map (frame_of bits) (range_with_len k n)) ≡ take (256 * n) (drop (256 * k) bits)
joined bits k zero = refl
joined bits k (suc n) =
    let size : 256 * suc n ≡ 256 + 256 * n = omega arith in
    let next : 256 * k + 256 ≡ 256 * (k + 1) = omega arith in
    flat_map-cons (λ (x : List Bool). x) (frame_of bits k) (map (frame_of bits) (range_with_len (k + 1) n))
    ∙ ap (λ (x : List Bool). frame_of bits k ++ x) (joined bits (k + 1) n)
    ∙ sym (ap (λ m. take m (drop (256 * k) bits)) size ∙ take-add 256 (256 * n) (drop (256 * k) bits)
    ∙ ap (λ (x : List Bool). frame_of bits k ++ take (256 * n) x) (drop-drop 256 (256 * k) bits ∙ ap (λ m. drop m bits) next))

pub eight_bits : (bits : List Bool) (k place : ℕ) → 256 * k + 2048 ≤ length bits → 256 * k ≡ place → eight (frames_of bits) k ≡ take 2048 (drop place bits)
eight_bits bits k place room e =
    let start : 256 * (0 + k) ≡ place = omega arith in
    ap (flat_map (λ (x : List Bool). x)) (take_frames bits k 8 (omega arith)) ∙ joined bits (0 + k) 8 ∙ ap (λ m. take 2048 (drop m bits)) start

-- the judgement of a block, read from the bits
pub errs_read : (bits : List Bool) (k sent word : ℕ) → 256 * k + 4096 ≤ length bits → sent ≡ sent_check (take 2048 (drop (256 * k + 2048) bits)) → word ≡ crc4 (cleared (take 2048 (drop (256 * k) bits)))
    → not (sent == word) ≡ errs (frames_of bits) k
errs_read bits k sent word room s_is w_is =
    let second : eight (frames_of bits) (k + 8) ≡ take 2048 (drop (256 * k + 2048) bits) = eight_bits bits (k + 8) (256 * k + 2048) (omega arith) (omega arith) in
    let first : eight (frames_of bits) k ≡ take 2048 (drop (256 * k) bits) = eight_bits bits k (256 * k) (omega arith) refl in
    ap (λ n. not (n == word)) (s_is ∙ ap sent_check (sym second)) ∙ ap (λ n. not (sent_check (eight (frames_of bits) (k + 8)) == n)) (w_is ∙ ap (λ (x : List Bool). crc4 (cleared x)) (sym first))
    ∙ sym (errs_is (frames_of bits) k)

-- ---- payload

-- one more frame
pub payload_more : (bits : List Bool) (k n place : ℕ) → 256 * k + 256 * n + 256 ≤ length bits → 256 * (k + n) + 8 ≡ place
    → payload_from (frames_of bits) k (n + 1) ≡ payload_from (frames_of bits) k n ++ take 248 (drop place bits)
payload_more bits k n place room e =
    let fs : List (List Bool) = frames_of bits in
    let count : length fs ≡ length bits / 256 = length_frames bits in
    let some : n < length (drop k fs) = omega (arith, length-drop k fs) in
    let at : get_or (drop k fs) n [] ≡ frame_of bits (k + n) = get_or-drop k fs n [] ∙ frame_at bits (k + n) (omega arith) in
    let bits_are : drop 8 (frame_of bits (k + n)) ≡ take 248 (drop place bits) =
    drop-take 8 248 (drop (256 * (k + n)) bits) ∙ ap (take 248) (drop-drop 8 (256 * (k + n)) bits ∙ ap (λ m. drop m bits) e) in
    ap (flat_map (drop 8)) (take_more (drop k fs) n [] some) ∙ flat_map-append (drop 8) (take n (drop k fs)) (get_or (drop k fs) n [] ∷ [])
    ∙ ap (λ (x : List Bool). payload_from fs k n ++ x) (flat_map_one (get_or (drop k fs) n []) ∙ ap (drop 8) at ∙ bits_are)
  where
    flat_map_one : (x : List Bool) → flat_map (drop 8) (x ∷ []) ≡ drop 8 x
    flat_map_one x = flat_map-cons (drop 8) x [] ∙ append-nil (drop 8 x)

-- some of the frames are the first of them
pub payload_begins : (bits : List Bool) (k n m : ℕ) → n ≤ m → IsPrefix (payload_from (frames_of bits) k n) (payload_from (frames_of bits) k m)
payload_begins bits k n m le =
    let xs : List (List Bool) = drop k (frames_of bits) in
    let size : m ≡ n + (m - n) = omega arith in
    (flat_map (drop 8) (take (m - n) (drop n xs)), ap (λ i. flat_map (drop 8) (take i xs)) size ∙ ap (flat_map (drop 8)) (take-add n (m - n) xs) ∙ flat_map-append (drop 8) (take n xs) (take (m - n) (drop n xs)))

-- one more block
pub errs_more : (fs : List (List Bool)) (k n before now : ℕ) (bad : Bool) → before ≡ errs_in fs k n → bad ≡ errs fs (k + 8 * n) → now ≡ before + bool_byte bad → now ≡ errs_in fs k (n + 1)
errs_more fs k n before now bad b_is bad_is is =
    is ∙ ap (λ m. m + bool_byte bad) b_is ∙ ap (λ b. errs_in fs k n + b) (worth bad ∙ ap bit_value bad_is) ∙ sym (count_push (λ b. errs fs (k + 8 * b)) n)

pub bool_le : (b : Bool) → bool_byte b ≤ 1
bool_le true = omega arith
bool_le false = omega arith

-- ---- what is told

-- one more block
pub crc_more : (fs : List (List Bool)) (k n : ℕ) (bad : Bool) → bad ≡ errs fs (k + 8 * n) → crc_kinds (each_errs fs k n) ++ crc_kinds (bad ∷ []) ≡ crc_kinds (each_errs fs k (n + 1))
crc_more fs k n bad is =
    let f : ℕ → Bool = λ b. errs fs (k + 8 * b) in
    let more : each_errs fs k (n + 1) ≡ each_errs fs k n ++ bad ∷ [] =
    ap (λ m. map f (range_with_len 0 m)) (add-one n) ∙ ap (map f) (range_push 0 n) ∙ map-append f (range_with_len 0 n) ((0 + n) ∷ []) ∙ ap (λ b. map f (range_with_len 0 n) ++ b ∷ []) (ap f (omega arith) ∙ sym is) in
    sym (flat_map-append (λ errored. cond errored (CRC ∷ []) []) (each_errs fs k n) (bad ∷ [])) ∙ ap crc_kinds (sym more)

-- an odd frame of some from a frame on
pub odd_bit : (bits : List Bool) (k pairs i place bit : ℕ) → 256 * k + 512 * pairs ≤ length bits → i < pairs → bit < 256 → 256 * (k + 2 * i + 1) + bit ≡ place
    → bit_of (odd_frame (frames_from (frames_of bits) k (2 * pairs)) i) bit ≡ get_or bits place false
odd_bit bits k pairs i place bit room lt few e =
    let xs : List (List Bool) = drop k (frames_of bits) in
    let place_is : k + (2 * i + 1) ≡ k + 2 * i + 1 = omega arith in
    let at : odd_frame (frames_from (frames_of bits) k (2 * pairs)) i ≡ frame (frames_of bits) (k + 2 * i + 1) =
    get_or-take (2 * pairs) xs (2 * i + 1) [] (omega arith) ∙ get_or-drop k (frames_of bits) (2 * i + 1) [] ∙ ap (frame (frames_of bits)) place_is in
    ap (λ (x : List Bool). bit_of x bit) at ∙ bit_of_frame bits (k + 2 * i + 1) bit place few (omega arith) e

-- what one more shows
pub frames_more : (alarm : Bool) (fs : List (List Bool)) (i : ℕ) (was is tells : Bool) → was ≡ alarm_before alarm fs i → is ≡ has_alarm (odd_frame fs i) → tells ≡ tells_error fs i
    → frames_kinds alarm fs 0 i ++ (changed ALARM_ON ALARM_OFF was is ++ cond tells (EBIT ∷ []) []) ≡ frames_kinds alarm fs 0 (i + 1)
frames_more alarm fs i was is tells w_is i_is t_is =
    let f : ℕ → List Kind = odd_kinds alarm fs in
    let here : f i ≡ changed ALARM_ON ALARM_OFF was is ++ cond tells (EBIT ∷ []) [] =
    odd_kinds_is alarm fs i ∙ ap (λ b. changed ALARM_ON ALARM_OFF b (has_alarm (odd_frame fs i)) ++ cond (tells_error fs i) (EBIT ∷ []) []) (sym w_is)
    ∙ ap (λ b. changed ALARM_ON ALARM_OFF was b ++ cond (tells_error fs i) (EBIT ∷ []) []) (sym i_is)
    ∙ ap (λ b. changed ALARM_ON ALARM_OFF was is ++ cond b (EBIT ∷ []) []) (sym t_is) in
    sym (ap (λ m. flat_map f (range_with_len 0 m)) (add-one i) ∙ ap (flat_map f) (range_push 0 i) ∙ flat_map-append f (range_with_len 0 i) ((0 + i) ∷ [])
    ∙ ap (λ x. flat_map f (range_with_len 0 i) ++ x) (flat_map-cons f (0 + i) [] ∙ append-nil (f (0 + i)) ∙ ap f (omega arith) ∙ here))
