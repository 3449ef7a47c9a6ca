-- What an undisturbed line tells the end that receives it.
use Rattle.std.proofs.Common.{◌≡◌, ℕ, zero, suc, ◌+◌, ◌-◌, ◌*◌, ◌/◌, ◌<◌, ◌≤◌, Bool, true, false, cond, not, ◌&&◌, List, [], ◌∷◌, ◌++◌, length, refl, ap, sym, ◌∙◌, inl, inr, arith, add-one}
use Rattle.std.specs.Prelude.{count_by}
use Rattle.std.specs.List.{range_with_len, slice_index_or}
use Rattle.std.proofs.lemmas.Bool.{cases_lt, le-ltb}
use Rattle.std.proofs.lemmas.List.Sums.{sum_by-cons}
use Rattle.std.proofs.lemmas.Nat.{div-mul-add}
use Rattle.std.proofs.Math.Seq.{get_or-append_seam}
use Rattle.pdh_shape.specs.declared.role.Service.{Service}
use Rattle.pdh_shape.specs.Frame.{FrameShape, IsFrame, idle}
use Rattle.pdh_line.specs.Nodes.{Counts}
use Rattle.pdh_line.specs.Sending.Mode.{Plain}
use Rattle.pdh_line.specs.Sending.{front, frames_found}
use Rattle.pdh_line.proofs.Ranges.{count-range_same}
use Rattle.pdh_nesting.specs.Chains.{top_len, AreFrames}
use Rattle.pdh_nesting.specs.Sending.{chain_line}
use Rattle.pdh_watch.specs.declared.kind.TheConstants.Kind.{ALARM_ON, FEBE}
use Rattle.pdh_events.specs.Chain.{chain_events}
use Rattle.pdh_telling.specs.Top.{is_of_top}
use Rattle.pdh_telling.specs.Saying.{SaysAlarm, SaysBlockErrors, alarm_begins}
use Rattle.pdh_telling.proofs.KnownFrames.{e2_alarm, e3_alarm, e4_alarm, ds2_alarm, ds3_alarm, ds3c_alarm, ds3c_block_errors, e2_none, e3_none, e4_none, ds2_none, ds3_none}
use Rattle.pdh_telling.proofs.SaidLaws.{alarms_told, block_errors_told, no_block_errors}
use Rattle.pdh_chain.specs.Chains.{shapes_of}
use Rattle.pdh_chain.specs.declared.chain.Chain.{Chain}
use Rattle.pdh_chain.specs.declared.chain.Chain.TheVariants.{E12, E23, E34, E13, E24, E14, M12, M23, M13, C13}
use Rattle.pdh_chain.proofs.ChainLaws.{are_frames}
use Rattle.pdh_duplex.specs.Hearing.{Heard, next_say}
use Rattle.pdh_duplex.specs.Laws.{ReceivesDisturbed, TellsUndisturbed, block_errors_in}
use Rattle.pdh_duplex.specs.Session.{Setting, IsSetting, ends_after, ends_of, line_upto}
use Rattle.pdh_duplex.specs.Top.{is_aligned}
use Rattle.pdh_duplex.proofs.FramesSent.{said_before}
use Rattle.pdh_duplex.proofs.Received.{received, same_line}
use Rattle.pdh_duplex.proofs.SessionLines.{long}

-- ---- whole frames

-- of three whole frames or more all are found
found_all : (len n : ℕ) → 0 < len → 3 ≤ n → frames_found (n * len / len) ≡ n
found_all len n some three =
    let more : n * len ≡ n * len + 0 = omega arith in
    let whole : n * len / len ≡ n = ap (λ x. x / len) more ∙ div-mul-add n len 0 some in
    ap frames_found whole ∙ ap (λ b. cond b 0 n) (le-ltb _ _ three)

-- ---- chains

-- the frames of the top say whether there is an alarm
abbrev TopSaysAlarm : List FrameShape → Type 0
TopSaysAlarm [] = ⊥
TopSaysAlarm (s ∷ below) = SaysAlarm s

top_says : (chain : Chain) → TopSaysAlarm (shapes_of chain)
top_says E12 = e2_alarm
top_says E23 = e3_alarm
top_says E34 = e4_alarm
top_says E13 = e3_alarm
top_says E24 = e4_alarm
top_says E14 = e4_alarm
top_says M12 = ds2_alarm
top_says M23 = ds3_alarm
top_says M13 = ds3_alarm
top_says C13 = ds3c_alarm

-- so many frames of a chain's line
abbrev line_of : List FrameShape → Counts → (ℕ → ℕ → Bool) → (ℕ → Service) → ℕ → List Bool
line_of shapes counts bits says n = front (chain_line Plain shapes counts bits says [] 0) (n * top_len shapes)

alarms_of : (shapes : List FrameShape) (counts : Counts) (bits : ℕ → ℕ → Bool) (says : ℕ → Service) (n : ℕ) → AreFrames shapes → TopSaysAlarm shapes → 3 ≤ n
    → count_by (is_of_top ALARM_ON) (chain_events shapes (line_of shapes counts bits says n)) ≡ count_by (alarm_begins (λ n. (says n).alarm)) (range_with_len 0 n)
unfolding chain_line
alarms_of [] counts bits says n are top three = absurd top
alarms_of (s ∷ below) counts bits says n are top three =
    alarms_told s below _ (n * s.len) are.0 top ∙ ap (λ n. count_by (alarm_begins (λ n. (says n).alarm)) (range_with_len 0 n)) (found_all s.len n are.0.some_slots three)

-- the far end block errors of a top that says them
blocks_of : (s : FrameShape) (below : List FrameShape) (counts : Counts) (bits : ℕ → ℕ → Bool) (says : ℕ → Service) (n : ℕ) → IsFrame s → SaysBlockErrors s → 3 ≤ n
    → count_by (is_of_top FEBE) (chain_events (s ∷ below) (line_of (s ∷ below) counts bits says n)) ≡ count_by (λ n. not (says n).febe) (range_with_len 0 n)
unfolding chain_line
blocks_of s below counts bits says n frame top three =
    block_errors_told s below _ (n * s.len) frame top ∙ ap (λ n. count_by (λ n. not (says n).febe) (range_with_len 0 n)) (found_all s.len n frame.some_slots three)

-- those of each chain
block_errors_of : (chain : Chain) (counts : Counts) (bits : ℕ → ℕ → Bool) (says : ℕ → Service) (n : ℕ) → 3 ≤ n
    → count_by (is_of_top FEBE) (chain_events (shapes_of chain) (line_of (shapes_of chain) counts bits says n)) ≡ block_errors_in chain (count_by (λ n. not (says n).febe) (range_with_len 0 n))
block_errors_of E12 counts bits says n three = no_block_errors _ _ e2_none _
block_errors_of E23 counts bits says n three = no_block_errors _ _ e3_none _
block_errors_of E34 counts bits says n three = no_block_errors _ _ e4_none _
block_errors_of E13 counts bits says n three = no_block_errors _ _ e3_none _
block_errors_of E24 counts bits says n three = no_block_errors _ _ e4_none _
block_errors_of E14 counts bits says n three = no_block_errors _ _ e4_none _
block_errors_of M12 counts bits says n three = no_block_errors _ _ ds2_none _
block_errors_of M23 counts bits says n three = no_block_errors _ _ ds3_none _
block_errors_of M13 counts bits says n three = no_block_errors _ _ ds3_none _
block_errors_of C13 counts bits says n three = blocks_of _ _ counts bits says n (are_frames C13).0 ds3c_block_errors three

-- ---- what was said

-- what frame k said, once it is sent
said_at : (says : ℕ → List Service) (say : ℕ → Service) → ((n : ℕ) → length (says n) ≡ n) → ((n : ℕ) → says (suc n) ≡ says n ++ say n ∷ []) → (n k : ℕ) → k < n → slice_index_or (says n) k idle ≡ say k
said_at says say count next zero k less = absurd (omega arith)
said_at says say count next (suc n) k less = ap (λ (l : List Service). slice_index_or l k idle) (next n) ∙ elim (cases_lt k n) [
  | inl before ↦ said_before (says n) (say n) k (omega (arith, before, count n)) ∙ said_at says say count next n k before
  | inr last ↦
      let here : k ≡ n = omega (arith, last, less) in
      let place : k ≡ length (says n) = omega (arith, here, count n) in
      ap (λ k. slice_index_or (says n ++ say n ∷ []) k idle) place ∙ get_or-append_seam (says n) (say n) [] idle ∙ ap say (sym here)
]

begins_same : (a b : ℕ → Bool) (n : ℕ) → ((k : ℕ) → k < suc n → a k ≡ b k) → alarm_begins a n ≡ alarm_begins b n
begins_same a b zero same = same 0 (omega arith)
begins_same a b (suc n) same = ap (λ now. now && not (a n)) (same (suc n) (omega arith)) ∙ ap (λ before. b (suc n) && not before) (same n (omega arith))

count_shift : (p : ℕ → Bool) (a n : ℕ) → count_by p (range_with_len (a + 1) n) ≡ count_by (λ k. p (suc k)) (range_with_len a n)
count_shift p a zero = refl
count_shift p a (suc n) =
    sum_by-cons (λ k. cond (p k) 1 0) (a + 1) (range_with_len (a + 1 + 1) n) ∙ ap (λ k. cond (p k) 1 0 + count_by p (range_with_len (a + 1 + 1) n)) (add-one a) ∙ ap (λ c. cond (p (suc a)) 1 0 + c) (count_shift p (a + 1) n)
    ∙ sym (sum_by-cons (λ k. cond (p (suc k)) 1 0) a (range_with_len (a + 1) n))

-- a number after which none comes
count_later : (p : ℕ → Bool) (n : ℕ) → 0 < n → p 0 ≡ false → count_by p (range_with_len 0 n) ≡ count_by (λ k. p (suc k)) (range_with_len 0 (n - 1))
count_later p zero some first = absurd (omega arith)
count_later p (suc n) some first =
    let rest : suc n - 1 ≡ n = omega arith in
    sum_by-cons (λ k. cond (p k) 1 0) 0 (range_with_len (0 + 1) n) ∙ ap (λ b. cond b 1 0 + count_by p (range_with_len (0 + 1) n)) first ∙ ap (λ c. 0 + c) (count_shift p 0 n) ∙ omega arith
    ∙ ap (λ n. count_by (λ k. p (suc k)) (range_with_len 0 n)) (sym rest)

not_twice : (b : Bool) → not (not b) ≡ b
not_twice true = refl
not_twice false = refl

-- ---- one way

module _ (z : Setting) (three : 3 ≤ z.frames) (says : List Service) (heard : ℕ → Heard) (said : (n : ℕ) → n < z.frames → slice_index_or says n idle ≡ next_say (shapes_of z.chain) (heard n)) where
  alarms_heard : count_by (is_of_top ALARM_ON) (chain_events (shapes_of z.chain) (line_upto z says z.frames)) ≡ count_by (alarm_begins (λ n. not (is_aligned (shapes_of z.chain) (heard n).got))) (range_with_len 0 z.frames)
  alarms_heard =
      alarms_of (shapes_of z.chain) _ _ _ z.frames (are_frames z.chain) (top_says z.chain) three
      ∙ count-range_same _ _ 0 z.frames (λ n from h. begins_same _ _ n (λ k less. ap (λ (say : Service). say.alarm) (said k (omega (arith, less, h)))))

  errors_heard : (heard 0).in_error ≡ false → count_by (is_of_top FEBE) (chain_events (shapes_of z.chain) (line_upto z says z.frames)) ≡ block_errors_in z.chain (count_by (λ n. (heard (suc n)).in_error) (range_with_len 0 (z.frames - 1)))
  errors_heard none =
      block_errors_of z.chain _ _ _ z.frames three
      ∙ ap (block_errors_in z.chain) (count-range_same _ _ 0 z.frames (λ n from h. ap (λ (say : Service). not say.febe) (said n (omega (arith, h))) ∙ not_twice (heard n).in_error) ∙ count_later (λ n. (heard n).in_error) z.frames (omega (arith, three)) none)

said_west : (z : Setting) (n k : ℕ) → k < n → slice_index_or (ends_after z n).west.says k idle ≡ next_say (shapes_of z.chain) (ends_after z k).west.heard
unfolding ends_after
said_west z =
    said_at (λ n. (ends_after z n).west.says) (λ n. next_say (shapes_of z.chain) (ends_after z n).west.heard)
    (long z z.to_east (λ n. (ends_after z n).west.says) (λ n. next_say (shapes_of z.chain) (ends_after z n).west.heard) (λ n. (ends_after z n).east.heard.got) refl refl (λ n. refl) (λ n. refl)) (λ n. refl)

said_east : (z : Setting) (n k : ℕ) → k < n → slice_index_or (ends_after z n).east.says k idle ≡ next_say (shapes_of z.chain) (ends_after z k).east.heard
unfolding ends_after
said_east z =
    said_at (λ n. (ends_after z n).east.says) (λ n. next_say (shapes_of z.chain) (ends_after z n).east.heard)
    (long z z.to_west (λ n. (ends_after z n).east.says) (λ n. next_say (shapes_of z.chain) (ends_after z n).east.heard) (λ n. (ends_after z n).west.heard.got) refl refl (λ n. refl) (λ n. refl)) (λ n. refl)

no_error_first : (z : Setting) → ((ends_after z 0).west.heard.in_error ≡ false) × ((ends_after z 0).east.heard.in_error ≡ false)
unfolding ends_after
no_error_first z = (refl, refl)

pub tells : (z : Setting) → IsSetting z → 3 ≤ z.frames → TellsUndisturbed z
tells z is three =
    let have : ReceivesDisturbed z = received z is in
    let shapes = shapes_of z.chain in
    record {
      east = λ none.
          let line : (ends_of z).east.heard.got ≡ line_upto z (ends_of z).west.says z.frames = same_line _ _ z.to_east none (have.east (λ zero. omega (arith, zero, three))) in
          let heard : ℕ → Heard = λ n. (ends_after z n).west.heard in
          record {
            alarms = ap (λ got. count_by (is_of_top ALARM_ON) (chain_events shapes got)) line ∙ alarms_heard z three (ends_of z).west.says heard (said_west z z.frames);
            block_errors = ap (λ got. count_by (is_of_top FEBE) (chain_events shapes got)) line ∙ errors_heard z three (ends_of z).west.says heard (said_west z z.frames) (no_error_first z).0;
          };
      west = λ none.
          let line : (ends_of z).west.heard.got ≡ line_upto z (ends_of z).east.says z.frames = same_line _ _ z.to_west none (have.west (λ zero. omega (arith, zero, three))) in
          let heard : ℕ → Heard = λ n. (ends_after z n).east.heard in
          record {
            alarms = ap (λ got. count_by (is_of_top ALARM_ON) (chain_events shapes got)) line ∙ alarms_heard z three (ends_of z).east.says heard (said_east z z.frames);
            block_errors = ap (λ got. count_by (is_of_top FEBE) (chain_events shapes got)) line ∙ errors_heard z three (ends_of z).east.says heard (said_east z z.frames) (no_error_first z).1;
          };
    }
