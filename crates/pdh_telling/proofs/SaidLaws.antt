-- What the service bits of a sent frame tell is what the frame says.
use Rattle.std.proofs.Common.{◌≡◌, ℕ, zero, suc, ◌+◌, ◌/◌, ◌<◌, Bool, true, false, cond, not, ◌&&◌, ◌||◌, List, [], ◌∷◌, ◌++◌, All, map, length, get_or, slice_index_or, refl, ap, ◌∙◌, arith}
use Rattle.std.specs.Prelude.{count_by}
use Rattle.std.specs.Bool.{beq}
use Rattle.std.specs.List.{range_with_len, list_any}
use Rattle.std.proofs.lemmas.List.{length-map}
use Rattle.std.proofs.lemmas.List.Elements.{All-head, All-tail, All-map, filter_passes}
use Rattle.std.proofs.lemmas.List.FromFn.{get_or-map-range_with_len}
use Rattle.std.proofs.lemmas.List.Sums.{fold-append, sum_by-append}
use Rattle.pdh_shape.specs.declared.role.Role.{Role}
use Rattle.pdh_shape.specs.declared.role.Role.TheVariants.{Align, Service, Control, Just, Info}
use Rattle.pdh_shape.specs.declared.role.Duty.{Duty}
use Rattle.pdh_shape.specs.declared.role.Duty.TheVariants.{Alarm, Febe}
use Rattle.pdh_shape.specs.Frame.{FrameShape, IsFrame, slots}
use Rattle.pdh_line.specs.Paths.{top}
use Rattle.pdh_line.specs.Sending.{Source, front, slot_bit, line_bit, odd_before, frames_found}
use Rattle.pdh_line.proofs.SentFrames.{sent_frame}
use Rattle.pdh_watch.specs.declared.kind.TheConstants.Kind.{ALARM_ON, FEBE}
use Rattle.pdh_events.specs.Duties.{has_duty, slots_with, duty_bits, alarm_bit, alarm_says, agreed, alarm_after}
use Rattle.pdh_events.specs.Chain.{bit_events, bits_events, chain_events}
use Rattle.pdh_events.proofs.DutyLaws.{slots_inside}
use Rattle.pdh_telling.specs.Top.{is_of_top}
use Rattle.pdh_telling.specs.Saying.{SaysAlarm, SaysBlockErrors, SaysNoBlockErrors, alarm_begins}
use Rattle.pdh_telling.proofs.TopEvents.{told, bit_told, alarm_on, tells_block_error, alarms_come, block_errors_come}
use Rattle.pdh_telling.proofs.SentTold.{frames_sent, sent_push, line_turns}

-- ---- bits that are all the same

any_same : (test : Bool → Bool) (b : Bool) (bits : List Bool) → All (λ bit. bit ≡ b) bits → 0 < length bits → list_any test bits ≡ test b
any_same test b [] same some = absurd (omega arith)
any_same test b (bit ∷ []) same some = ap (λ bit. test bit || false) (All-head (λ bit. bit ≡ b) bit [] same) ∙ or_false (test b)
  where
    or_false : (b : Bool) → (b || false) ≡ b
    or_false true = refl
    or_false false = refl
any_same test b (bit ∷ more ∷ bits) same some =
    ap (λ bit. test bit || list_any test (more ∷ bits)) (All-head (λ bit. bit ≡ b) bit (more ∷ bits) same)
    ∙ ap (λ any. test b || any) (any_same test b (more ∷ bits) (All-tail (λ bit. bit ≡ b) bit (more ∷ bits) same) (omega arith)) ∙ twice (test b)
  where
    twice : (b : Bool) → (b || b) ≡ b
    twice true = refl
    twice false = refl

agreed_same : (before b : Bool) (says : List Bool) → All (λ bit. bit ≡ b) says → 0 < length says → agreed before says ≡ b
agreed_same before b says same some =
    let is : list_any (λ says. says) says ≡ b = any_same (λ says. says) b says same some in
    ap (λ any. cond (beq any (list_any not says)) before any) is ∙ ap (λ none. cond (beq b none) before b) (any_same not b says same some) ∙ go b
  where
    go : (b : Bool) → cond (beq b (not b)) before b ≡ b
    go true = refl
    go false = refl

-- ---- the slots of a duty

-- what is made of each slot of a duty is the same, where it is so for each slot of the frame that has the duty
same_made : (s : FrameShape) (duty : Duty) (f : ℕ → Bool) (b : Bool) → ((t : ℕ) → t < s.len → has_duty s duty (s.role t) ≡ true → f t ≡ b) → All (λ bit. bit ≡ b) (map f (slots_with s duty))
same_made s duty f b each =
    All-map (λ bit. bit ≡ b) f (slots_with s duty)
    (λ k d h. each (get_or (slots_with s duty) k d) (slots_inside s duty (slots_with s duty) s.len refl refl k d h) (filter_passes (λ slot. has_duty s duty (s.role slot)) (slots s) k d h))

module _ (s : FrameShape) (source : Source) where
  bit_at : (n t : ℕ) → t < s.len → get_or (sent_frame s source n) t false ≡ slot_bit s source n t (s.role t)
  bit_at n t h = get_or-map-range_with_len (λ t. slot_bit s source n t (s.role t)) 0 s.len t t false h (omega arith)

  -- ---- alarms

  alarm_said : SaysAlarm s → (n t : ℕ) (r : Role) → has_duty s Alarm r ≡ true → beq (slot_bit s source n t r) (alarm_bit s r) ≡ (source.says n).alarm
  alarm_said says n t (Service number) h = says.bits number h (source.says n) (odd_before s source n)
  alarm_said says n t (Align bit) h = cc
  alarm_said says n t (Control j copy) h = cc
  alarm_said says n t (Just j) h = cc
  alarm_said says n t (Info j) h = cc

  alarm_is : SaysAlarm s → (before : List (List Bool)) (n : ℕ) → alarm_after s (before ++ sent_frame s source n ∷ []) ≡ (source.says n).alarm
  unfolding alarm_after alarm_says
  alarm_is says before n =
      let frame : List Bool = sent_frame s source n in
      let f : ℕ → Bool = λ t. beq (slice_index_or frame t false) (alarm_bit s (s.role t)) in
      fold-append (λ alarm frame. agreed alarm (alarm_says s frame)) false before (frame ∷ [])
      ∙ agreed_same (alarm_after s before) (source.says n).alarm (map f (slots_with s Alarm))
      (same_made s Alarm f (source.says n).alarm (λ t h has. ap (λ bit. beq bit (alarm_bit s (s.role t))) (bit_at n t h) ∙ alarm_said says n t (s.role t) has)) (omega (arith, length-map (slots_with s Alarm) f, says.some))

  alarm_turns : SaysAlarm s → (n : ℕ) → alarm_on s (frames_sent s source n) (sent_frame s source n) ≡ alarm_begins (λ n. (source.says n).alarm) n
  unfolding alarm_after
  alarm_turns says zero = alone _ (alarm_is says (frames_sent s source 0) 0)
    where
      alone : (a : Bool) {b : Bool} → a ≡ b → (a && true) ≡ b
      alone true is = is
      alone false is = is
  alarm_turns says (suc n) =
      ap (λ b. b && not (alarm_after s (frames_sent s source (suc n)))) (alarm_is says (frames_sent s source (suc n)) (suc n))
      ∙ ap (λ b. (source.says (suc n)).alarm && not b) (ap (alarm_after s) (sent_push s source n) ∙ alarm_is says (frames_sent s source n) n)

  -- ---- far end block errors

  block_said : SaysBlockErrors s → (n t : ℕ) (r : Role) → has_duty s Febe r ≡ true → slot_bit s source n t r ≡ (source.says n).febe
  block_said says n t (Service number) h = says.bits number h (source.says n) (odd_before s source n)
  block_said says n t (Align bit) h = cc
  block_said says n t (Control j copy) h = cc
  block_said says n t (Just j) h = cc
  block_said says n t (Info j) h = cc

  block_is : SaysBlockErrors s → (n : ℕ) → tells_block_error s (frames_sent s source n) (sent_frame s source n) ≡ not (source.says n).febe
  unfolding duty_bits
  block_is says n =
      let f : ℕ → Bool = λ t. slice_index_or (sent_frame s source n) t false in
      any_same not (source.says n).febe (map f (slots_with s Febe)) (same_made s Febe f (source.says n).febe (λ t h has. bit_at n t h ∙ block_said says n t (s.role t) has)) (omega (arith, length-map (slots_with s Febe) f, says.some))

-- ---- the laws

pub alarms_told : (s : FrameShape) (below : List FrameShape) (source : Source) (bits : ℕ) → IsFrame s → SaysAlarm s
    → count_by (is_of_top ALARM_ON) (chain_events (s ∷ below) (front (line_bit s source) bits)) ≡ count_by (alarm_begins (λ n. (source.says n).alarm)) (range_with_len 0 (frames_found (bits / s.len)))
alarms_told s below source bits shape says = line_turns s source shape ALARM_ON (alarm_on s) (alarm_begins (λ n. (source.says n).alarm)) (alarms_come s) (alarm_turns s source says) below bits

pub block_errors_told : (s : FrameShape) (below : List FrameShape) (source : Source) (bits : ℕ) → IsFrame s → SaysBlockErrors s
    → count_by (is_of_top FEBE) (chain_events (s ∷ below) (front (line_bit s source) bits)) ≡ count_by (λ n. not (source.says n).febe) (range_with_len 0 (frames_found (bits / s.len)))
block_errors_told s below source bits shape says = line_turns s source shape FEBE (tells_block_error s) (λ n. not (source.says n).febe) (block_errors_come s) (block_is s source says) below bits

module _ (s : FrameShape) (below : List FrameShape) (says : SaysNoBlockErrors s) where
  none_told : (before frames : List (List Bool)) → told (tells_block_error s) before frames ≡ 0
  unfolding duty_bits
  none_told before [] = refl
  none_told before (frame ∷ frames) =
      ap (λ slots. cond (list_any not (map (λ t. slice_index_or frame t false) slots)) 1 0 + told (tells_block_error s) (before ++ frame ∷ []) frames) says.none
      ∙ ap (λ n. 0 + n) (none_told (before ++ frame ∷ []) frames) ∙ omega arith

  none_after : (line bits : List Bool) → count_by (is_of_top FEBE) (bits_events (bit_events (s ∷ below) top) line bits) ≡ 0
  none_after line [] = refl
  none_after line (bit ∷ bits) =
      let here = bit_events (s ∷ below) top line bit in
      let rest = bits_events (bit_events (s ∷ below) top) (line ++ bit ∷ []) bits in
      sum_by-append (λ e. cond (is_of_top FEBE e) 1 0) here rest ∙ ap (λ n. n + count_by (is_of_top FEBE) rest) (bit_told s FEBE (tells_block_error s) (block_errors_come s) below line bit ∙ none_told _ _)
      ∙ ap (λ n. 0 + n) (none_after (line ++ bit ∷ []) bits) ∙ omega arith

  pub no_block_errors : (line : List Bool) → count_by (is_of_top FEBE) (chain_events (s ∷ below) line) ≡ 0
  unfolding chain_events
  no_block_errors line = none_after [] line
