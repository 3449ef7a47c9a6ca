-- What the calls do to the fields is a turn of the machine.
use Rattle.std.proofs.Common.{◌≡◌, ◌≢◌, ℕ, ◌+◌, ◌-◌, ◌*◌, ◌/◌, ◌%◌, ◌<◌, ◌≤◌, Bool, true, false, cond, ltb, List, [], ◌∷◌, ◌++◌, length, get_or, take, drop, refl, sym, ap, ◌∙◌, subst, inl, inr, arith, length-drop}
use Rattle.std.specs.Prelude.{◌==◌, ◌^◌, min, Result, Ok, Err, OnOk, OnErr}
use Rattle.std.proofs.lemmas.Bool.{cases_Bool, lt-ltb, le-ltb, eq-eqb, ne_eqb}
use Rattle.std.proofs.lemmas.List.{append-nil, map-append, length_push, length-take-le, append_assoc, take_more, take-append-drop}
use Rattle.pdh_edge.proofs.Runs.{puts_begin}
use Rattle.pdh_bits.specs.Bits.{bit_value}
use Rattle.pdh_edge.specs.Ports.{Outputs, Puts, PutsPart, IsPrefix, for_leaf}
use Rattle.pdh_g706.specs.declared.align.E1Align.{E1Align}
use Rattle.pdh_g706.specs.declared.counts.Counts.{Counts}
use Rattle.pdh_g706.specs.declared.counts.Group.{Group}
use Rattle.pdh_g706.specs.declared.stage.Stage.{Stage}
use Rattle.pdh_g706.specs.declared.stage.Stage.TheVariants as stages
use Rattle.pdh_g706.specs.Frames.{frames_of, is_confirmed}
use Rattle.pdh_g706.specs.Alignment.{loses, earlier, reaches, errs}
use Rattle.pdh_g706.specs.Tracking.{Signs, Share, e1_far, multiframes_in, blocks_in, errors_in, signs_in, counted}
use Rattle.pdh_watch.specs.declared.kind.Kind.{Kind}
use Rattle.pdh_watch.specs.declared.kind.TheConstants.Kind.{ALIGNED, LOST}
use Rattle.pdh_watch.specs.declared.event.Event.{Event}
use Rattle.pdh_watch.specs.Seen.{SawPart}
use Rattle.pdh_line.specs.Paths.{top}
use Rattle.pdh_events.specs.Telling.{tell, event_of, ais_kinds}
use Rattle.pdh_events.specs.Keeping.{OnesRun, CountsOnes}
use Rattle.pdh_g706.specs.Events.{alarm_after, frames_kinds, rise, crc_kinds, ais_length, e1_bit_events}
use Rattle.pdh_g706.specs.Machine.{Phase, Holds, Fits, Turn, no_signs, nothing, loss_after, added_kinds, still, last_bits, lost_turn, payload_from, frames_from, errs_in, each_errs, is_false_group, search_turn, framing_turn, aligned_turn, aligned_bits, group_phase, block_turn, framed_turn, framed_bits, turn}
use Rattle.pdh_g706.specs.Machine.Phase.{Searching, Aligned, Framed}
use Rattle.pdh_g706.specs.View.{phase_of, phase, is_framed, turn_events, StandsFor, Counted, Becomes, Turned, Gains, GainsPart}
use Rattle.pdh_g706.proofs.FrameLists.{length_frames}
use Rattle.pdh_g706.proofs.TurnLaws.{framing_turn_is, aligned_turn_is}
use Rattle.pdh_g706.proofs.SignLaws.{signs}
use Rattle.pdh_g706.proofs.HoldsLaws.{holds_turn, e1_far_grows}
use Rattle.pdh_g706.proofs.EventLaws.{added_is, events_turn, alarm_turn}

-- ---- answers

pub on_ok : {T F : Type 0} (r : Result T F) (P Q : Type 0) → (P → Q) → OnOk r P → OnOk r Q
on_ok (Ok x) P Q f h = f h
on_ok (Err e) P Q f h = tt

pub on_err : {T F : Type 0} (r : Result T F) (P Q : Type 0) → (P → Q) → OnErr r P → OnErr r Q
on_err (Ok x) P Q f h = tt
on_err (Err e) P Q f h = f h

-- ---- turns

pub search_short : (bits : List Bool) → length bits < 768 → search_turn bits ≡ still (Searching bits)
unfolding search_turn
search_short bits short = ap (λ b. cond b (still (Searching bits)) (cond (is_confirmed bits) (still (Aligned bits)) (still (Searching (drop 1 bits))))) (lt-ltb _ _ short)

pub search_long : (bits : List Bool) (right : Bool) → 768 ≤ length bits → right ≡ is_confirmed bits → search_turn bits ≡ cond right (still (Aligned bits)) (still (Searching (drop 1 bits)))
unfolding search_turn
search_long bits right long is =
    ap (λ b. cond b (still (Searching bits)) (cond (is_confirmed bits) (still (Aligned bits)) (still (Searching (drop 1 bits))))) (le-ltb _ _ long)
    ∙ ap (λ b. cond b (still (Aligned bits)) (still (Searching (drop 1 bits)))) (sym is)

-- the way of the bits where no frame ends, or a loss is complete, or neither
pub ends_none : (bits : List Bool) (lost other here : Turn) → length bits % 256 ≢ 0 → cond (length bits % 256 == 0) (cond (loses (frames_of bits)) lost other) here ≡ here
ends_none bits lost other here part = ap (λ b. cond b (cond (loses (frames_of bits)) lost other) here) (ne_eqb _ _ part)

pub ends_loss : (bits : List Bool) (lost other here : Turn) → length bits % 256 ≡ 0 → loses (frames_of bits) ≡ true → cond (length bits % 256 == 0) (cond (loses (frames_of bits)) lost other) here ≡ lost
ends_loss bits lost other here whole is = ap (λ b. cond b (cond (loses (frames_of bits)) lost other) here) (eq-eqb _ _ whole) ∙ ap (λ b. cond b lost other) is

pub ends_frame : (bits : List Bool) (lost other here : Turn) → length bits % 256 ≡ 0 → loses (frames_of bits) ≡ false → cond (length bits % 256 == 0) (cond (loses (frames_of bits)) lost other) here ≡ other
ends_frame bits lost other here whole is = ap (λ b. cond b (cond (loses (frames_of bits)) lost other) here) (eq-eqb _ _ whole) ∙ ap (λ b. cond b lost other) is

pub aligned_found : (bits : List Bool) (first : ℕ) → reaches (frames_of bits) ≡ true → first ≡ earlier (frames_of bits) (length bits / 256 - 12) → aligned_turn bits ≡ framing_turn bits first
aligned_found bits first right is =
    aligned_turn_is bits (frames_of bits) refl
    ∙ ap (λ b. cond b (framing_turn bits (earlier (frames_of bits) (length (frames_of bits) - 12))) (cond (length (frames_of bits) == 64) (still (Searching (last_bits 255 bits))) (still (Aligned bits)))) right
    ∙ ap (framing_turn bits) (ap (λ n. earlier (frames_of bits) (n - 12)) (length_frames bits) ∙ sym is)

pub aligned_none : (bits : List Bool) (last : Bool) → reaches (frames_of bits) ≡ false → (length (frames_of bits) == 64) ≡ last → aligned_turn bits ≡ cond last (still (Searching (last_bits 255 bits))) (still (Aligned bits))
aligned_none bits last wrong is =
    aligned_turn_is bits (frames_of bits) refl
    ∙ ap (λ b. cond b (framing_turn bits (earlier (frames_of bits) (length (frames_of bits) - 12))) (cond (length (frames_of bits) == 64) (still (Searching (last_bits 255 bits))) (still (Aligned bits)))) wrong
    ∙ ap (λ b. cond b (still (Searching (last_bits 255 bits))) (still (Aligned bits))) is

-- what is made where the multiframes are found
abbrev pub begun : List Bool → ℕ → ℕ → ℕ → ℕ → Turn
begun bits first whole blocks wrong = record {
  phase = Framed (drop (256 * (first + 16 * (whole - 1))) bits) blocks wrong;
  gained = record {
    payload = payload_from (frames_of bits) first (16 * whole);
    multiframes = whole;
    blocks = blocks;
    errored = wrong;
    signs = signs 1 0 0 (each_errs (frames_of bits) first blocks) (frames_from (frames_of bits) first (16 * whole));
  };
}

pub framing_is : (bits : List Bool) (first whole blocks wrong : ℕ) → (length bits / 256 - first) / 16 ≡ whole → (length bits / 256 - first) / 8 - 1 ≡ blocks → wrong ≡ errs_in (frames_of bits) first blocks
    → framing_turn bits first ≡ begun bits first whole blocks wrong
framing_is bits first whole blocks wrong w_is b_is e_is =
    let n_is : length (frames_of bits) ≡ length bits / 256 = length_frames bits in
    let w : (length (frames_of bits) - first) / 16 ≡ whole = ap (λ n. (n - first) / 16) n_is ∙ w_is in
    let b : (length (frames_of bits) - first) / 8 - 1 ≡ blocks = ap (λ n. (n - first) / 8 - 1) n_is ∙ b_is in
    framing_turn_is bits (frames_of bits) first refl
    ∙ ap (λ m. begun bits first m ((length (frames_of bits) - first) / 8 - 1) (errs_in (frames_of bits) first ((length (frames_of bits) - first) / 8 - 1))) w
    ∙ ap (λ m. begun bits first whole m (errs_in (frames_of bits) first m)) b
    ∙ ap (begun bits first whole blocks) (sym e_is)

-- what is made where a sub-multiframe ends, and perhaps a multiframe
abbrev pub block_with : List Bool → ℕ → ℕ → Bool → Bool → Turn
block_with bits group wrong full bad =
    let frames = frames_of bits in
    let errored = wrong + bit_value bad in
    record {
      phase = group_phase bits (cond full (drop 4096 bits) bits) (group + 1) errored;
      gained = record {
        payload = cond full (payload_from frames 16 16) [];
        multiframes = bit_value full;
        blocks = 1;
        errored = bit_value bad;
        signs = signs 0 0 (bit_value (is_false_group (group + 1) errored)) (bad ∷ []) (cond full (frames_from frames 16 16) []);
      };
    }

block_is : (bits : List Bool) (group wrong : ℕ) (full : Bool) (i : ℕ) (bad : Bool) → (length (frames_of bits) == 32) ≡ full → i ≡ length bits / 256 - 16 → bad ≡ errs (frames_of bits) i
    → block_turn bits group wrong ≡ block_with bits group wrong full bad
unfolding block_turn
block_is bits group wrong full i bad f_is i_is b_is =
    let fs = frames_of bits in
    let one : errs fs (length fs - 16) ≡ bad = ap (λ n. errs fs (n - 16)) (length_frames bits) ∙ ap (errs fs) (sym i_is) ∙ sym b_is in
    ap (λ b. block_with bits group wrong b (errs fs (length fs - 16))) f_is ∙ ap (block_with bits group wrong full) one

pub block_full : (bits : List Bool) (group wrong i : ℕ) (bad : Bool) → length bits ≡ 8192 → i ≡ length bits / 256 - 16 → bad ≡ errs (frames_of bits) i
    → block_turn bits group wrong ≡ block_with bits group wrong true bad
block_full bits group wrong i bad long i_is b_is =
    let size : length (frames_of bits) ≡ 32 = length_frames bits ∙ ap (λ n. n / 256) long in
    block_is bits group wrong true i bad (eq-eqb _ _ size) i_is b_is

pub block_half : (bits : List Bool) (group wrong i : ℕ) (bad : Bool) → length bits % 2048 ≡ 0 → length bits ≢ 8192 → i ≡ length bits / 256 - 16 → bad ≡ errs (frames_of bits) i
    → block_turn bits group wrong ≡ block_with bits group wrong false bad
block_half bits group wrong i bad whole other i_is b_is =
    let size : length (frames_of bits) ≢ 32 = λ e. other (exact (length bits) whole (sym (length_frames bits) ∙ e)) in
    block_is bits group wrong false i bad (ne_eqb _ _ size) i_is b_is
  where
    exact : (n : ℕ) → n % 2048 ≡ 0 → n / 256 ≡ 32 → n ≡ 8192
    exact n e f = omega arith

pub framed_block : (bits : List Bool) (group wrong : ℕ) → length bits % 2048 ≡ 0 → framed_turn bits group wrong ≡ block_turn bits group wrong
unfolding framed_turn
framed_block bits group wrong whole =
    let eighth : length (frames_of bits) % 8 ≡ 0 = ap (λ n. n % 8) (length_frames bits) ∙ omega arith in
    ap (λ b. cond b (block_turn bits group wrong) (still (Framed bits group wrong))) (eq-eqb _ _ eighth)

pub framed_frame : (bits : List Bool) (group wrong : ℕ) → length bits % 256 ≡ 0 → length bits % 2048 ≢ 0 → framed_turn bits group wrong ≡ still (Framed bits group wrong)
unfolding framed_turn
framed_frame bits group wrong whole part =
    let eighth : length (frames_of bits) % 8 ≢ 0 = λ e. part (exact (length bits) whole (ap (λ n. n % 8) (sym (length_frames bits)) ∙ e)) in
    ap (λ b. cond b (block_turn bits group wrong) (still (Framed bits group wrong))) (ne_eqb _ _ eighth)
  where
    exact : (n : ℕ) → n % 256 ≡ 0 → n / 256 % 8 ≡ 0 → n % 2048 ≡ 0
    exact n e f = omega arith

-- ---- what becomes of the fields

pub becomes : (t u : Turn) (old new : E1Align) → t ≡ u → Becomes u old new → Becomes t old new
becomes t u old new e b = subst (λ (x : Turn). Becomes x old new) (sym e) b

-- nothing else than this was gained: perhaps a loss
abbrev pub only_lost : Phase → ℕ → Turn
only_lost p losses = record { phase = p; gained = record nothing { signs = record no_signs { losses = losses } } }

-- nothing was counted
pub uncounted : (p : Phase) (losses : ℕ) (old new : Counts) → new ≡ old → Counted (only_lost p losses).gained old new
uncounted p losses old new same = record {
  multiframes_are = λ n is. ap (λ (c : Counts). c.multiframes) same ∙ is ∙ ap counted (plus_none n);
  blocks_are = λ n is. ap (λ (c : Counts). c.blocks) same ∙ is ∙ ap counted (plus_none n);
  errored_are = λ n is. ap (λ (c : Counts). c.errored) same ∙ is ∙ ap counted (plus_none n);
}
  where
    plus_none : (n : ℕ) → n ≡ n + 0
    plus_none n = omega arith

-- so much was counted
pub counted_more : (old : Counts) (new : Counts) (gained : Share) → new.multiframes ≡ counted (old.multiframes + gained.multiframes) → new.blocks ≡ counted (old.blocks + gained.blocks) → new.errored ≡ counted (old.errored + gained.errored) → Counted gained old new
counted_more old new gained m b e = record {
  multiframes_are = λ n is. m ∙ more old.multiframes n gained.multiframes is;
  blocks_are = λ n is. b ∙ more old.blocks n gained.blocks is;
  errored_are = λ n is. e ∙ more old.errored n gained.errored is;
}
  where
    more : (x n g : ℕ) → x ≡ counted n → counted (x + g) ≡ counted (n + g)
    more x n g e = omega arith

pub becomes_lost : (t : Turn) (p : Phase) (losses : ℕ) (old new : E1Align) → t ≡ only_lost p losses → phase new ≡ p → new.counts ≡ old.counts → new.held.capacity ≡ old.held.capacity
    → new.bits ≡ old.bits → new.ais ≡ old.ais → new.alarm ≡ old.alarm → Becomes t old new
becomes_lost t p losses old new e p_is c_is r_is n_is o_is a_is =
    becomes t (only_lost p losses) old new e (record { phase_is = p_is; counts = uncounted p losses old.counts new.counts c_is; room = r_is; number = n_is; ais = o_is; alarm = a_is })

pub becomes_still : (t : Turn) (p : Phase) (old new : E1Align) → t ≡ still p → phase new ≡ p → new.counts ≡ old.counts → new.held.capacity ≡ old.held.capacity
    → new.bits ≡ old.bits → new.ais ≡ old.ais → new.alarm ≡ old.alarm → Becomes t old new
becomes_still t p old new e p_is c_is r_is n_is o_is a_is = becomes_lost t p 0 old new e p_is c_is r_is n_is o_is a_is

-- ---- what comes to the watch

-- events that two steps tell
pub tell_join : {W : Type 0} (saw : W → List Event → W → Type 0) (join : (a b c : W) (xs ys : List Event) → saw a xs b → saw b ys c → saw a (xs ++ ys) c) (n : ℕ) (xs ys : List Kind) (a b c : W)
    → saw a (tell top n xs) b → saw b (tell top n ys) c → saw a (tell top n (xs ++ ys)) c
tell_join saw join n xs ys a b c p q = subst (λ (x : List Event). saw a x c) (sym (map-append (event_of top n) xs ys)) (join a b c (tell top n xs) (tell top n ys) p q)

pub events_of : (seen : List Event → Type 0) (old : E1Align) (t u : Turn) → t ≡ u → seen (turn_events old u) → seen (turn_events old t)
events_of seen old t u e h = subst (λ (x : Turn). seen (turn_events old x)) (sym e) h

-- a turn that adds these kinds
pub kinds_of : (seen : List Event → Type 0) (old : E1Align) (t u : Turn) (kinds : List Kind) → t ≡ u → added_kinds old.alarm u.gained.signs ≡ kinds → seen (tell top old.bits kinds) → seen (turn_events old t)
kinds_of seen old t u kinds e is h = events_of seen old t u e (subst (λ (x : List Kind). seen (tell top old.bits x)) (sym is) h)

pub still_kinds : (alarm : Bool) → added_kinds alarm no_signs ≡ []
still_kinds alarm = added_is alarm no_signs

pub loss_kinds : (alarm reached : Bool) → added_kinds alarm (loss_after reached).signs ≡ cond reached (LOST ∷ []) []
loss_kinds alarm true = added_is alarm (loss_after true).signs
loss_kinds alarm false = added_is alarm (loss_after false).signs

-- pairs of frames
pub pairs_half : (bits : List Bool) (k pairs : ℕ) → 256 * k + 512 * pairs ≤ length bits → pairs ≡ length (frames_from (frames_of bits) k (2 * pairs)) / 2
pairs_half bits k pairs room = omega (arith, length-take-le (2 * pairs) (drop k (frames_of bits)) (omega (arith, length-drop k (frames_of bits), length_frames bits)))

-- what delivered frames show, as they are counted by pairs
pub pairs_kinds : (alarm : Bool) (bits : List Bool) (k pairs n : ℕ) → 256 * k + 512 * pairs ≤ length bits → n ≡ 2 * pairs
    → frames_kinds alarm (frames_from (frames_of bits) k (2 * pairs)) 0 pairs ≡ frames_kinds alarm (frames_from (frames_of bits) k n) 0 (length (frames_from (frames_of bits) k n) / 2)
pairs_kinds alarm bits k pairs n room is =
    let size : length (frames_from (frames_of bits) k n) ≡ n = length-take-le n (drop k (frames_of bits)) (omega (arith, length-drop k (frames_of bits), length_frames bits)) in
    let half : pairs ≡ length (frames_from (frames_of bits) k n) / 2 = omega arith in
    ap (λ m. frames_kinds alarm (frames_from (frames_of bits) k m) 0 pairs) (sym is) ∙ ap (frames_kinds alarm (frames_from (frames_of bits) k n) 0) half

pub block_kinds : (alarm : Bool) (bits : List Bool) (group wrong : ℕ) (bad : Bool) → added_kinds alarm (block_with bits group wrong false bad).gained.signs ≡ crc_kinds (bad ∷ []) ++ rise LOST 0 (bit_value (is_false_group (group + 1) (wrong + bit_value bad)))
block_kinds alarm bits group wrong bad =
    added_is alarm (block_with bits group wrong false bad).gained.signs
    ∙ ap (λ x. x ++ rise LOST 0 (bit_value (is_false_group (group + 1) (wrong + bit_value bad)))) (append-nil (crc_kinds (bad ∷ [])))

pub whole_kinds : (alarm : Bool) (bits : List Bool) (group wrong : ℕ) (bad : Bool) → length bits ≡ 8192
    → added_kinds alarm (block_with bits group wrong true bad).gained.signs
    ≡ crc_kinds (bad ∷ []) ++ frames_kinds alarm (frames_from (frames_of bits) 16 (2 * 8)) 0 8 ++ rise LOST 0 (bit_value (is_false_group (group + 1) (wrong + bit_value bad)))
whole_kinds alarm bits group wrong bad long =
    added_is alarm (block_with bits group wrong true bad).gained.signs
    ∙ ap (λ x. crc_kinds (bad ∷ []) ++ x ++ rise LOST 0 (bit_value (is_false_group (group + 1) (wrong + bit_value bad)))) (sym (pairs_kinds alarm bits 16 8 16 (omega arith) refl))

pub begun_kinds : (alarm : Bool) (bits : List Bool) (first whole blocks wrong : ℕ) → 256 * first + 512 * (8 * whole) ≤ length bits
    → added_kinds alarm (begun bits first whole blocks wrong).gained.signs
    ≡ (ALIGNED ∷ []) ++ crc_kinds (each_errs (frames_of bits) first blocks) ++ frames_kinds alarm (frames_from (frames_of bits) first (2 * (8 * whole))) 0 (8 * whole)
begun_kinds alarm bits first whole blocks wrong room =
    let crc : List Kind = (ALIGNED ∷ []) ++ crc_kinds (each_errs (frames_of bits) first blocks) in
    let frames : List (List Bool) = frames_from (frames_of bits) first (16 * whole) in
    added_is alarm (begun bits first whole blocks wrong).gained.signs
    ∙ append-nil (crc ++ frames_kinds alarm frames 0 (length frames / 2))
    ∙ ap (λ x. crc ++ x) (sym (pairs_kinds alarm bits first (8 * whole) (16 * whole) room (omega arith)))

-- ---- what comes to the drain

pub puts_of : (t u : Turn) (o p : Outputs) → t ≡ u → Puts (for_leaf 0 u.gained.payload) o p → Puts (for_leaf 0 t.gained.payload) o p
puts_of t u o p e h = subst (λ (x : Turn). Puts (for_leaf 0 x.gained.payload) o p) (sym e) h

pub part_of : (t u : Turn) (o p : Outputs) → t ≡ u → PutsPart (for_leaf 0 u.gained.payload) o p → PutsPart (for_leaf 0 t.gained.payload) o p
part_of t u o p e h = subst (λ (x : Turn). PutsPart (for_leaf 0 x.gained.payload) o p) (sym e) h

-- ---- what the machine stands for

-- what a bit leaves, with its ones counted and its number gone on
pub stands_push : (old out : E1Align) (ones : OnesRun) (number : ℕ) (bit : Bool) (line : List Bool) → Becomes (turn (phase old) bit) (record old { ais = ones }) out
    → number ≡ min (out.bits + 1) (2 ^ 64 - 1) → ones.long ≡ old.ais.long → (CountsOnes old.ais line → CountsOnes ones (line ++ bit ∷ [])) → StandsFor old line → StandsFor (record out { bits = number }) (line ++ bit ∷ [])
stands_push old out ones number bit line b next long counts h =
    let facts = holds_turn (phase old) line bit h.holds in
    let grows = facts.1 in
    record {
      holds = subst (λ (p : Phase). Holds p (line ++ bit ∷ [])) (sym b.phase_is) facts.0;
      counts = record {
        multiframes_are = b.counts.multiframes_are (multiframes_in line) h.counts.multiframes_are ∙ ap counted (sym grows.multiframes_are);
        blocks_are = b.counts.blocks_are (blocks_in line) h.counts.blocks_are ∙ ap counted (sym grows.blocks_are);
        errored_are = b.counts.errored_are (errors_in line) h.counts.errored_are ∙ ap counted (sym grows.errored_are);
      };
      room = b.room ∙ h.room;
      number = omega (arith, next, b.number, h.number, length_push line bit);
      long = ap (λ (o : OnesRun). o.long) b.ais ∙ long ∙ h.long;
      ones = subst (λ (o : OnesRun). CountsOnes o (line ++ bit ∷ [])) (sym b.ais) (counts h.ones);
      alarm = b.alarm ∙ ap (λ a. alarm_after a (turn (phase old) bit).gained.signs.frames) h.alarm ∙ alarm_turn (phase old) line bit h.holds;
    }

-- the events of a bit: those of AIS, and then those of the turn
pub push_events : (old : E1Align) (bit : Bool) (line : List Bool) → StandsFor old line
    → e1_bit_events line bit ≡ tell top old.bits (ais_kinds old.ais.long line bit) ++ turn_events old (turn (phase old) bit)
push_events old bit line h =
    let gained : Signs = (turn (phase old) bit).gained.signs in
    events_turn (phase old) line bit h.holds
    ∙ ap (λ n. tell top n (ais_kinds ais_length line bit ++ added_kinds (alarm_after false (signs_in line).frames) gained)) (sym h.number)
    ∙ ap (λ n. tell top old.bits (ais_kinds n line bit ++ added_kinds (alarm_after false (signs_in line).frames) gained)) (sym h.long)
    ∙ ap (λ a. tell top old.bits (ais_kinds old.ais.long line bit ++ added_kinds a gained)) (sym h.alarm)
    ∙ map-append (event_of top old.bits) (ais_kinds old.ais.long line bit) (added_kinds old.alarm gained)

pub seen_push : {W : Type 0} (saw : W → List Event → W → Type 0) (join : (a b c : W) (xs ys : List Event) → saw a xs b → saw b ys c → saw a (xs ++ ys) c) (old : E1Align) (bit : Bool) (line : List Bool) (a b c : W)
    → (CountsOnes old.ais line → saw a (tell top old.bits (ais_kinds old.ais.long line bit)) b) → saw b (turn_events old (turn (phase old) bit)) c → StandsFor old line → saw a (e1_bit_events line bit) c
seen_push saw join old bit line a b c ais turned h = subst (λ (x : List Event). saw a x c) (sym (push_events old bit line h)) (join a b c _ _ (ais h.ones) turned)

pub seen_part : {W : Type 0} (saw : W → List Event → W → Type 0) (join : (a b c : W) (xs ys : List Event) → saw a xs b → saw b ys c → saw a (xs ++ ys) c) (old : E1Align) (bit : Bool) (line : List Bool) (a b c : W)
    → (CountsOnes old.ais line → saw a (tell top old.bits (ais_kinds old.ais.long line bit)) b) → saw b [] c → StandsFor old line → SawPart saw a (e1_bit_events line bit) c
seen_part saw join old bit line a b c ais none h =
    let first : List Event = tell top old.bits (ais_kinds old.ais.long line bit) in
    let rest : List Event = turn_events old (turn (phase old) bit) in (
      first ++ [],
      rest,
      push_events old bit line h ∙ ap (λ (x : List Event). x ++ rest) (sym (append-nil first)),
      join a b c first [] (ais h.ones) none,
    )

pub gains_push : (old : E1Align) (bit : Bool) (line : List Bool) (o p : Outputs) → Puts (for_leaf 0 (turn (phase old) bit).gained.payload) o p → StandsFor old line → Gains line (line ++ bit ∷ []) o p
gains_push old bit line o p puts h = record { more = (turn (phase old) bit).gained.payload; gained = (holds_turn (phase old) line bit h.holds).1.payload_is; puts = puts }

pub gains_part : (old : E1Align) (bit : Bool) (line : List Bool) (o p : Outputs) → PutsPart (for_leaf 0 (turn (phase old) bit).gained.payload) o p → StandsFor old line → GainsPart line (line ++ bit ∷ []) o p
gains_part old bit line o p puts h = record { more = (turn (phase old) bit).gained.payload; gained = (holds_turn (phase old) line bit h.holds).1.payload_is; puts = puts }

-- ---- calls

-- where multiframe alignment isn't reached
pub aligned_gives_up : (bits : List Bool) → reaches (frames_of bits) ≡ false → length bits ≡ 16384 → aligned_turn bits ≡ still (Searching (last_bits 255 bits))
aligned_gives_up bits wrong last =
    let size : length (frames_of bits) ≡ 64 = length_frames bits ∙ ap (λ n. n / 256) last in
    aligned_none bits true wrong (eq-eqb _ _ size)

pub aligned_goes : (bits : List Bool) → length bits % 256 ≡ 0 → reaches (frames_of bits) ≡ false → length bits ≢ 16384 → aligned_turn bits ≡ still (Aligned bits)
aligned_goes bits whole wrong other =
    let size : length (frames_of bits) ≢ 64 = λ e. other (exact (length bits) whole (sym (length_frames bits) ∙ e)) in
    aligned_none bits false wrong (ne_eqb _ _ size)
  where
    exact : (n : ℕ) → n % 256 ≡ 0 → n / 256 ≡ 64 → n ≡ 16384
    exact n e f = omega arith

-- ---- one bit, by the stage

pub turn_searching : (a : E1Align) (bit : Bool) → a.stage ≡ stages.Searching → turn (phase a) bit ≡ search_turn (a.held.bits ++ bit ∷ [])
unfolding turn
turn_searching a bit e = ap (λ s. turn (phase_of s a.held.bits a.group) bit) e

pub turn_aligned : (a : E1Align) (bit : Bool) (bits : List Bool) → a.stage ≡ stages.Aligned → bits ≡ a.held.bits ++ bit ∷ [] → length bits % 256 ≡ 0 → loses (frames_of bits) ≡ false → turn (phase a) bit ≡ aligned_turn bits
unfolding turn
turn_aligned a bit bits e is whole fine =
    ap (λ s. turn (phase_of s a.held.bits a.group) bit) e ∙ ap (λ (x : List Bool). aligned_bits x) (sym is)
    ∙ ends_frame bits (lost_turn false bits) (aligned_turn bits) (still (Aligned bits)) whole fine

pub turn_framed : (a : E1Align) (bit : Bool) (bits : List Bool) → a.stage ≡ stages.Framed → bits ≡ a.held.bits ++ bit ∷ [] → length bits % 256 ≡ 0 → loses (frames_of bits) ≡ false
    → turn (phase a) bit ≡ framed_turn bits a.group.judged a.group.errored
unfolding turn
turn_framed a bit bits e is whole fine =
    ap (λ s. turn (phase_of s a.held.bits a.group) bit) e ∙ ap (λ (x : List Bool). framed_bits x a.group.judged a.group.errored) (sym is)
    ∙ ends_frame bits (lost_turn true bits) (framed_turn bits a.group.judged a.group.errored) (still (Framed bits a.group.judged a.group.errored)) whole fine

-- no frame ends in an alignment
pub turn_part : (stage : Stage) (held bits : List Bool) (group : Group) (bit : Bool) → (stage ≡ stages.Searching → ⊥) → bits ≡ held ++ bit ∷ [] → length bits % 256 ≢ 0 → turn (phase_of stage held group) bit ≡ still (phase_of stage bits group)
unfolding turn
turn_part stages.Searching held bits group bit other is part = absurd (other refl)
turn_part stages.Aligned held bits group bit other is part =
    ap (λ (x : List Bool). aligned_bits x) (sym is) ∙ ends_none bits (lost_turn false bits) (aligned_turn bits) (still (Aligned bits)) part
turn_part stages.Framed held bits group bit other is part =
    ap (λ (x : List Bool). framed_bits x group.judged group.errored) (sym is)
    ∙ ends_none bits (lost_turn true bits) (framed_turn bits group.judged group.errored) (still (Framed bits group.judged group.errored)) part

-- a frame completes a loss
pub turn_lost : (stage : Stage) (held bits : List Bool) (group : Group) (bit : Bool) → (stage ≡ stages.Searching → ⊥) → bits ≡ held ++ bit ∷ [] → length bits % 256 ≡ 0 → loses (frames_of bits) ≡ true
    → turn (phase_of stage held group) bit ≡ lost_turn (is_framed stage) bits
unfolding turn
turn_lost stages.Searching held bits group bit other is whole lost = absurd (other refl)
turn_lost stages.Aligned held bits group bit other is whole lost =
    ap (λ (x : List Bool). aligned_bits x) (sym is) ∙ ends_loss bits (lost_turn false bits) (aligned_turn bits) (still (Aligned bits)) whole lost
turn_lost stages.Framed held bits group bit other is whole lost =
    ap (λ (x : List Bool). framed_bits x group.judged group.errored) (sym is)
    ∙ ends_loss bits (lost_turn true bits) (framed_turn bits group.judged group.errored) (still (Framed bits group.judged group.errored)) whole lost

-- the stage that is left
pub stage_left : (stage : Stage) → (stage ≡ stages.Searching → ⊥) → (stage ≡ stages.Aligned → ⊥) → stage ≡ stages.Framed
stage_left stages.Searching a b = absurd (a refl)
stage_left stages.Aligned a b = absurd (b refl)
stage_left stages.Framed a b = refl

pub fits_stage : (a : E1Align) (s : Stage) → a.stage ≡ s → Fits (phase a) → Fits (phase_of s a.held.bits a.group)
fits_stage a s e h = subst (λ (x : Stage). Fits (phase_of x a.held.bits a.group)) e h

-- there is room for a bit more
pub has_room : (stage : Stage) (bits : List Bool) (group : Group) → Fits (phase_of stage bits group) → length bits < 16384
has_room stages.Searching bits group h = omega arith
has_room stages.Aligned bits group h = h
has_room stages.Framed bits group h = omega (arith, h.1)

-- the payload that is put where the multiframes are found
pub framing_payload : (bits : List Bool) (first whole : ℕ) → (length bits / 256 - first) / 16 ≡ whole → (framing_turn bits first).gained.payload ≡ payload_from (frames_of bits) first (16 * whole)
framing_payload bits first whole is =
    ap (λ (t : Turn). t.gained.payload)
    (framing_is bits first whole ((length bits / 256 - first) / 8 - 1) (errs_in (frames_of bits) first ((length bits / 256 - first) / 8 - 1)) is refl refl)

-- a turn was made of what a bit was added to
pub becomes_from : (t u : Turn) (mid old new : E1Align) → t ≡ u → mid.counts ≡ old.counts → mid.held.capacity ≡ old.held.capacity → mid.bits ≡ old.bits → mid.ais ≡ old.ais → mid.alarm ≡ old.alarm
    → Becomes u mid new → Becomes t old new
becomes_from t u mid old new e c_is r_is n_is o_is a_is b =
    let same : Becomes u old new = record {
      phase_is = b.phase_is;
      counts = subst (λ (c : Counts). Counted u.gained c new.counts) c_is b.counts;
      room = b.room ∙ r_is;
      number = b.number ∙ n_is;
      ais = b.ais ∙ o_is;
      alarm = b.alarm ∙ ap (λ x. alarm_after x u.gained.signs.frames) a_is;
    } in
    becomes t u old new e same

-- what a call says of a turn, said of the same turn and of a machine that was the same but for what it holds
pub turned_from : {D W T F : Type 0} (outputs : D → Outputs) (faults : D → ℕ) (drained : D → D → Type 0) (saw : W → List Event → W → Type 0) (r : Result T F) (t u : Turn) (mid old new : E1Align) (before after : D) (was is : W)
    → t ≡ u → mid.counts ≡ old.counts → mid.held.capacity ≡ old.held.capacity → mid.bits ≡ old.bits → mid.ais ≡ old.ais → mid.alarm ≡ old.alarm
    → Turned outputs faults drained saw u mid new before after was is r → Turned outputs faults drained saw t old new before after was is r
turned_from outputs faults drained saw r t u mid old new before after was is e c_is r_is n_is o_is a_is h =
    let same : turn_events mid u ≡ turn_events old t =
    ap (λ n. tell top n (added_kinds mid.alarm u.gained.signs)) n_is ∙ ap (λ a. tell top old.bits (added_kinds a u.gained.signs)) a_is ∙ ap (turn_events old) (sym e) in
    record {
      becomes = on_ok r (Becomes u mid new) (Becomes t old new) (becomes_from t u mid old new e c_is r_is n_is o_is a_is) h.becomes;
      put = subst (λ (x : Turn). OnOk r (Puts (for_leaf 0 x.gained.payload) (outputs before) (outputs after))) (sym e) h.put;
      part = subst (λ (x : Turn). OnErr r (PutsPart (for_leaf 0 x.gained.payload) (outputs before) (outputs after))) (sym e) h.part;
      seen = subst (λ (x : List Event). OnOk r (saw was x is)) same h.seen;
      unseen = h.unseen;
      cause = h.cause;
      drains = h.drains;
    }

-- what is judged of a group with one block more
pub group_is : (now old : Group) (bad : Bool) → now.judged ≡ old.judged + 1 → now.errored ≡ old.errored + bit_value bad → is_false_group now.judged now.errored ≡ is_false_group (old.judged + 1) (old.errored + bit_value bad)
group_is now old bad judged errored = ap (λ n. is_false_group n now.errored) judged ∙ ap (is_false_group (old.judged + 1)) errored

-- a call that puts nothing
pub turned_none : {D W T F : Type 0} (outputs : D → Outputs) (faults : D → ℕ) (drained : D → D → Type 0) (saw : W → List Event → W → Type 0) (x : T) (t : Turn) (old new : E1Align) (d : D) (was is : W)
    → t.gained.payload ≡ [] → drained d d → Becomes t old new → saw was (turn_events old t) is → Turned {E = F} outputs faults drained saw t old new d d was is (Ok x)
turned_none outputs faults drained saw x t old new d was is none drains b seen = record {
  becomes = b;
  put = subst (λ (p : List Bool). Puts (for_leaf 0 p) (outputs d) (outputs d)) (sym none) (puts_begin 0 (outputs d));
  part = tt;
  seen = seen;
  unseen = tt;
  cause = refl;
  drains = drains;
}

-- a call that leaves all as it is but what is held
pub turned_still : {D W T F : Type 0} (outputs : D → Outputs) (faults : D → ℕ) (drained : D → D → Type 0) (saw : W → List Event → W → Type 0) (x : T) (t : Turn) (p : Phase) (old new : E1Align) (d : D) (w : W)
    → drained d d → saw w [] w → t ≡ still p → phase new ≡ p → new.counts ≡ old.counts → new.held.capacity ≡ old.held.capacity → new.bits ≡ old.bits → new.ais ≡ old.ais → new.alarm ≡ old.alarm
    → Turned {E = F} outputs faults drained saw t old new d d w w (Ok x)
turned_still outputs faults drained saw x t p old new d w drains none e p_is c_is r_is n_is o_is a_is =
    turned_none outputs faults drained saw x t old new d w w (ap (λ (u : Turn). u.gained.payload) e) drains (becomes_still t p old new e p_is c_is r_is n_is o_is a_is)
    (kinds_of (λ (s : List Event). saw w s w) old t (still p) [] e (still_kinds old.alarm) none)

-- a search gains nothing
pub search_gains : (bits : List Bool) → (search_turn bits).gained ≡ nothing
unfolding search_turn
search_gains bits = elim (cases_Bool (ltb (length bits) 768)) [
  | inl short ↦ rw short refl
  | inr long ↦ elim (cases_Bool (is_confirmed bits)) [
    | inl right ↦ rw (long, right) refl
    | inr wrong ↦ rw (long, wrong) refl
  ]
]

-- ---- many bits

-- a line with the bits so far, and one more
pub line_more : (line bits : List Bool) (i : ℕ) → i < length bits → line ++ take i bits ++ get_or bits i false ∷ [] ≡ line ++ take (i + 1) bits
line_more line bits i lt = append_assoc line (take i bits) (get_or bits i false ∷ []) ∙ ap (λ (x : List Bool). line ++ x) (sym (take_more bits i false lt))

-- what the whole line gives begins with what the bits so far and one more give
pub line_grows : (line bits : List Bool) (i : ℕ) → i < length bits → IsPrefix (e1_far (line ++ take i bits ++ get_or bits i false ∷ [])) (e1_far (line ++ bits))
line_grows line bits i lt =
    let all : line ++ take (i + 1) bits ++ drop (i + 1) bits ≡ line ++ bits = append_assoc line (take (i + 1) bits) (drop (i + 1) bits) ∙ ap (λ (x : List Bool). line ++ x) (take-append-drop (i + 1) bits) in
    subst (λ (x : List Bool). IsPrefix (e1_far x) (e1_far (line ++ bits))) (sym (line_more line bits i lt))
    (subst (λ (x : List Bool). IsPrefix (e1_far (line ++ take (i + 1) bits)) (e1_far x)) all (e1_far_grows (line ++ take (i + 1) bits) (drop (i + 1) bits)))
