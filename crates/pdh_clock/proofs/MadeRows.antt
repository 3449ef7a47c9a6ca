-- The row of a node of a made schedule, and its frames.
use Rattle.std.proofs.Common.{◌≡◌, ◌==◌, ℕ, suc, ◌+◌, ◌-◌, ◌<◌, ◌≤◌, ◌^◌, cond, List, [], ◌∷◌, length, map, take, All, inl, inr, refl, ap, sym, ◌∙◌, subst, arith, slice_index, Some, is_some, append-nil}
use Rattle.std.specs.List.{range_with_len, slice_index_or}
use Rattle.std.proofs.lemmas.Bool.{cases_Bool, eqb-true, eqb-false}
use Rattle.std.proofs.lemmas.List.{length-map, length-take-le, get_or-take}
use Rattle.std.proofs.lemmas.List.Elements.{All-nil, All-cons, All-map, All-from_get_or}
use Rattle.std.proofs.lemmas.List.FromFn.{get_or-map-range_with_len, length-map-range_with_len, fill_by_all}
use Rattle.std.proofs.Math.Nat.{mul-le-mul_left, mul-le-mul_right, pos_of_ne-zero}
use Rattle.pdh_shape.specs.declared.place.Level.{Level}
use Rattle.pdh_rows.specs.declared.flow.Flow.{Flow}
use Rattle.pdh_rows.specs.declared.flow.Says.TheVariants.{Rates}
use Rattle.pdh_rows.specs.Flows.{flowed, flow_count, flow_in, FlowFits}
use Rattle.pdh_rows.specs.Rows.{NodeRow, frames_in, node_frames}
use Rattle.pdh_rows.specs.Stored.{row_frames, said_row}
use Rattle.pdh_clock.specs.declared.bias.Bias.{Bias}
use Rattle.pdh_clock.specs.declared.bias.Offset.{Offset}
use Rattle.pdh_levels.specs.Levels.{IsLevel, level_at, level_stores, most_tributaries}
use Rattle.pdh_clock.specs.Row.{ratio_of}
use Rattle.pdh_clock.specs.Contents.{IsRowOf}
use Rattle.pdh_clock.specs.Made.{IsRated, scale_of, tributary_offset, made_arrived, made_count, made_frames, most_made}
use Rattle.pdh_clock.specs.Making.{made_rows}
use Rattle.pdh_clock.specs.Stored.{at_path, most_node_frames}
use Rattle.pdh_levels.proofs.LevelLaws.{stores_count, stores_few, len_is}
use Rattle.pdh_clock.proofs.MadeLaws.{made_arrived-most, scale-most, scale-least}
use Rattle.pdh_clock.proofs.Growing.{flowed_most}
use Rattle.pdh_clock.proofs.RatedFlows.{AreRates, rated, rated-some, rated-fits, rated-counts, made-rated}

-- the counts of frame n
abbrev made_frame : Level → Bias → ℕ → Offset → ℕ → List ℕ
made_frame level bias height line n = map (λ trib. made_count level line (tributary_offset level bias height line (suc trib)) n) (range_with_len 0 (level_stores level))

-- the rate of a tributary, and those of all
abbrev made_rate : Level → Bias → ℕ → Offset → ℕ → ℕ
made_rate level bias height line trib = scale_of (tributary_offset level bias height line (suc trib)) level.trib_ppm

abbrev pub made_rates : Level → Bias → ℕ → Offset → List ℕ
made_rates level bias height line = map (made_rate level bias height line) (range_with_len 0 (level_stores level))

-- the row of so many frames
abbrev pub made_row : Level → Bias → ℕ → Offset → ℕ → NodeRow
made_row level bias height line frames = said_row (ratio_of level) frames (Rates (scale_of line level.ppm)) (made_rates level bias height line)

pub made_rows-none : (level : Level) (bias : Bias) (height : ℕ) (line : Offset) (frames : ℕ) → frames ≡ 0 → made_rows level bias height line frames ≡ []
made_rows-none level bias height line frames none = ap (λ n. made_rows level bias height line n) none

made_rows-one : (level : Level) (bias : Bias) (height : ℕ) (line : Offset) (frames : ℕ) → (frames ≡ 0 → ⊥)
    → made_rows level bias height line frames ≡ made_row level bias height line frames ∷ []
made_rows-one level bias height line frames some = elim (cases_Bool (frames == 0)) [
  | inl none ↦ absurd (some (eqb-true frames 0 none))
  | inr isnt ↦ ap (λ b. cond b [] (made_row level bias height line frames ∷ [])) isnt
]

pub length-made_frames : (level : Level) (bias : Bias) (height : ℕ) (line : Offset) (frames : ℕ) → length (made_frames level bias height line frames) ≡ frames
unfolding made_frames
length-made_frames level bias height line frames = length-map-range_with_len (made_frame level bias height line) 0 frames

-- ---- the row is sound

pub made_count-most : (level : Level) (line trib : Offset) (n : ℕ) → IsRated level → made_count level line trib n ≤ level.len
made_count-most level line trib n rated = omega (arith, made_arrived-most level line trib n rated)

pub made_are : (level : Level) (line trib : Offset) → IsRated level → AreRates (scale_of line level.ppm) (scale_of trib level.trib_ppm)
made_are level line trib rated = record {
  line_least = scale-least line level.ppm rated.offset;
  line_most = scale-most line level.ppm rated.offset;
  trib_most = scale-most trib level.trib_ppm rated.trib_offset;
}

made_row-sound : (levels : List Level) (path : List ℕ) (level : Level) (bias : Bias) (height : ℕ) (line : Offset) (frames : ℕ)
    → level_at levels path ≡ Some level → IsRated level → 0 < frames → IsRowOf levels (at_path path (made_row level bias height line frames))
made_row-sound levels path level bias height line frames is rated some =
    let flow = flow_in (ratio_of level) (Rates (scale_of line level.ppm)) in
    record {
      node = ap is_some is;
      some_frames = some;
      stores = length-map (made_rates level bias height line) flow ∙ length-map-range_with_len (made_rate level bias height line) 0 (level_stores level)
          ∙ sym (stores_count levels path level is);
      most = subst (λ len. All (λ (flow : Flow). (n : ℕ) → flow_count flow n ≤ len) (map flow (made_rates level bias height line))) (sym (len_is levels path level is))
          (All-map (λ (flow : Flow). (n : ℕ) → flow_count flow n ≤ level.len) flow (made_rates level bias height line)
          (All-map (λ rate. (n : ℕ) → flow_count (flow rate) n ≤ level.len) (made_rate level bias height line) (range_with_len 0 (level_stores level))
          (All-from_get_or (λ trib. (n : ℕ) → flow_count (flow (made_rate level bias height line trib)) n ≤ level.len) (range_with_len 0 (level_stores level)) 0
          (λ i h n. rated-counts level (scale_of line level.ppm) _ n rated (made_are level line _ rated)))));
    }

pub made_rows-sound : (levels : List Level) (path : List ℕ) (level : Level) (bias : Bias) (height : ℕ) (line : Offset) (frames : ℕ)
    → level_at levels path ≡ Some level → IsRated level → All (IsRowOf levels) (map (at_path path) (made_rows level bias height line frames))
made_rows-sound levels path level bias height line frames is rated = elim (cases_Bool (frames == 0)) [
  | inl none ↦ subst (λ rows. All (IsRowOf levels) (map (at_path path) rows)) (sym (made_rows-none level bias height line frames (eqb-true frames 0 none))) (All-nil (IsRowOf levels))
  | inr some ↦
      let isnt = eqb-false frames 0 some in
      subst (λ rows. All (IsRowOf levels) (map (at_path path) rows)) (sym (made_rows-one level bias height line frames isnt))
      (All-cons (IsRowOf levels) (at_path path (made_row level bias height line frames)) [] (made_row-sound levels path level bias height line frames is rated (pos_of_ne-zero isnt)) (All-nil (IsRowOf levels)))
]

pub made_rows-few : (level : Level) (bias : Bias) (height : ℕ) (line : Offset) (frames : ℕ) → frames ≤ most_made
    → row_frames (made_rows level bias height line frames) ≤ most_node_frames
made_rows-few level bias height line frames few = elim (cases_Bool (frames == 0)) [
  | inl none ↦ subst (λ rows. row_frames rows ≤ most_node_frames) (sym (made_rows-none level bias height line frames (eqb-true frames 0 none))) (omega arith)
  | inr some ↦ subst (λ rows. row_frames rows ≤ most_node_frames) (sym (made_rows-one level bias height line frames (eqb-false frames 0 some))) (omega (arith, few))
]

-- ---- its sums fit

rate_is : (level : Level) (bias : Bias) (height : ℕ) (line : Offset) (trib : ℕ) → trib < level_stores level
    → slice_index (made_rates level bias height line) trib ≡ made_rate level bias height line trib
rate_is level bias height line trib m = get_or-map-range_with_len (made_rate level bias height line) 0 (level_stores level) trib trib 0 m (omega arith)

made_fits : (level : Level) (bias : Bias) (height : ℕ) (line : Offset) (frames trib : ℕ) → IsLevel level → IsRated level → frames ≤ most_made → trib < level_stores level
    → FlowFits frames (rated level (scale_of line level.ppm) (slice_index (made_rates level bias height line) trib))
made_fits level bias height line frames trib is rates few m =
    subst (λ rate. FlowFits frames (rated level (scale_of line level.ppm) rate)) (sym (rate_is level bias height line trib m))
    (rated-fits level (scale_of line level.ppm) (made_rate level bias height line trib) frames is rates (made_are level line (tributary_offset level bias height line (suc trib)) rates) (omega (arith, few)))

made_few : (level : Level) (bias : Bias) (height : ℕ) (line : Offset) (frames trib : ℕ) → IsLevel level → IsRated level → frames ≤ most_made → trib < level_stores level
    → flowed (rated level (scale_of line level.ppm) (slice_index (made_rates level bias height line) trib)) frames < 2 ^ 64
made_few level bias height line frames trib is rates few m =
    let rate = made_rate level bias height line trib in
    let are = made_are level line (tributary_offset level bias height line (suc trib)) rates in
    let bits = flowed_most (rated level (scale_of line level.ppm) rate) level.len frames (rated-some level (scale_of line level.ppm) rate rates are)
    (λ n. rated-counts level (scale_of line level.ppm) rate n rates are) in
    subst (λ rate. flowed (rated level (scale_of line level.ppm) rate) frames < 2 ^ 64) (sym (rate_is level bias height line trib m))
    (omega (arith, bits, mul-le-mul_right level.len few, mul-le-mul_left most_made is.longest))

-- ---- the frames

-- the count of a tributary is that of its flow
count_is : (level : Level) (line trib : Offset) (n : ℕ) → flow_count (rated level (scale_of line level.ppm) (scale_of trib level.trib_ppm)) n ≡ made_count level line trib n
count_is level line trib n =
    let flow = rated level (scale_of line level.ppm) (scale_of trib level.trib_ppm) in
    ap (λ after. after - flowed flow n) (sym (made-rated level line trib (suc n)))
    ∙ ap (λ before. made_arrived level line trib (suc n) - before) (sym (made-rated level line trib n))

frame_is : (level : Level) (bias : Bias) (height : ℕ) (line : Offset) (n : ℕ) (tribs : List ℕ)
    → map (λ flow. flow_count flow n) (map (flow_in (ratio_of level) (Rates (scale_of line level.ppm))) (map (made_rate level bias height line) tribs))
    ≡ map (λ trib. made_count level line (tributary_offset level bias height line (suc trib)) n) tribs
frame_is level bias height line n [] = refl
frame_is level bias height line n (trib ∷ tribs) =
    let counts = λ (tribs : List ℕ). map (λ flow. flow_count flow n) (map (flow_in (ratio_of level) (Rates (scale_of line level.ppm))) (map (made_rate level bias height line) tribs)) in
    ap (λ count. count ∷ counts tribs) (count_is level line (tributary_offset level bias height line (suc trib)) n)
    ∙ ap (λ counts. made_count level line (tributary_offset level bias height line (suc trib)) n ∷ counts) (frame_is level bias height line n tribs)

map-same : {X Y : Type 0} (f g : X → Y) (xs : List X) → ((x : X) → f x ≡ g x) → map f xs ≡ map g xs
map-same f g [] same = refl
map-same f g (x ∷ xs) same = ap (λ y. y ∷ map f xs) (same x) ∙ ap (λ ys. g x ∷ ys) (map-same f g xs same)

frames_in-made : (level : Level) (bias : Bias) (height : ℕ) (line : Offset) (frames : ℕ)
    → frames_in (made_row level bias height line frames) ≡ made_frames level bias height line frames
unfolding made_frames
frames_in-made level bias height line frames =
    map-same (λ n. map (λ flow. flow_count flow n) (made_row level bias height line frames).flows) (made_frame level bias height line) (range_with_len 0 frames)
    (λ n. frame_is level bias height line n (range_with_len 0 (level_stores level)))

pub node_frames-made : (level : Level) (bias : Bias) (height : ℕ) (line : Offset) (frames : ℕ)
    → node_frames (made_rows level bias height line frames) ≡ made_frames level bias height line frames
unfolding node_frames made_frames
node_frames-made level bias height line frames = elim (cases_Bool (frames == 0)) [
  | inl none ↦
      let is : frames ≡ 0 = eqb-true frames 0 none in
      ap node_frames (made_rows-none level bias height line frames is) ∙ ap (λ n. made_frames level bias height line n) (sym is)
  | inr some ↦ ap node_frames (made_rows-one level bias height line frames (eqb-false frames 0 some))
      ∙ append-nil (frames_in (made_row level bias height line frames)) ∙ frames_in-made level bias height line frames
]

-- the count of a tributary in a frame
pub counts-made : (level : Level) (bias : Bias) (height : ℕ) (line : Offset) (frames trib n : ℕ) → n < frames → trib < level_stores level
    → slice_index (slice_index_or (made_frames level bias height line frames) n []) trib ≡ made_count level line (tributary_offset level bias height line (suc trib)) n
unfolding made_frames
counts-made level bias height line frames trib n h m =
    ap (λ frame. slice_index frame trib) (get_or-map-range_with_len (made_frame level bias height line) 0 frames n n [] h (omega arith))
    ∙ get_or-map-range_with_len (λ trib. made_count level line (tributary_offset level bias height line (suc trib)) n) 0 (level_stores level) trib trib 0 m (omega arith)

-- ---- the row, as it is said

-- the flow of a tributary at the nominal rates, the rate of the line, and the rates of the tributaries
pub record SaysMade (level : Level) (bias : Bias) (height : ℕ) (line : Offset) (ratio : Flow) (rate : ℕ) (rates : List ℕ) : Type 0 where
  pub ratio_is : ratio ≡ ratio_of level
  pub line_is : rate ≡ scale_of line level.ppm
  pub rates_are : rates ≡ made_rates level bias height line

-- the rates of the tributaries, where those of all stand in a list before others
rates-taken : (level : Level) (bias : Bias) (height : ℕ) (line : Offset) (tribs : ℕ) (xs : List ℕ) → tribs ≡ level_stores level → level_stores level ≤ length xs
    → ((trib : ℕ) → trib < level_stores level → slice_index xs trib ≡ scale_of (tributary_offset level bias height line (trib + 1)) level.trib_ppm)
    → take tribs xs ≡ made_rates level bias height line
rates-taken level bias height line tribs xs same long each =
    ap (λ k. take k xs) same
    ∙ fill_by_all (made_rate level bias height line) (take (level_stores level) xs) (level_stores level) 0 (length-take-le (level_stores level) xs long)
    (λ trib m.
    let next : trib + 1 ≡ suc trib = omega arith in
    get_or-take (level_stores level) xs trib 0 m ∙ each trib m ∙ ap (λ number. scale_of (tributary_offset level bias height line number) level.trib_ppm) next)

pub says_made : (level : Level) (bias : Bias) (height : ℕ) (line : Offset) (ratio : Flow) (rate tribs : ℕ) (xs : List ℕ) → IsLevel level → ratio ≡ ratio_of level
    → rate ≡ scale_of line level.ppm → tribs ≡ level_stores level → length xs ≡ most_tributaries
    → ((trib : ℕ) → trib < level.tribs → slice_index xs trib ≡ scale_of (tributary_offset level bias height line (trib + 1)) level.trib_ppm)
    → SaysMade level bias height line ratio rate (take tribs xs)
says_made level bias height line ratio rate tribs xs is ratio_is line_is same long each = record {
  ratio_is = ratio_is;
  line_is = line_is;
  rates_are = rates-taken level bias height line tribs xs same (omega (arith, long, is.most, stores_few level))
      (λ trib m. each trib (omega (arith, m, stores_few level)));
}

said_flow-made : (level : Level) (bias : Bias) (height : ℕ) (line : Offset) (ratio : Flow) (rate : ℕ) (rates : List ℕ) (trib : ℕ) → SaysMade level bias height line ratio rate rates
    → flow_in ratio (Rates rate) (slice_index rates trib) ≡ rated level (scale_of line level.ppm) (slice_index (made_rates level bias height line) trib)
said_flow-made level bias height line ratio rate rates trib s =
    ap (λ flow. flow_in flow (Rates rate) (slice_index rates trib)) s.ratio_is
    ∙ ap (λ line. rated level line (slice_index rates trib)) s.line_is
    ∙ ap (λ rates. rated level (scale_of line level.ppm) (slice_index rates trib)) s.rates_are

pub said-fits : (level : Level) (bias : Bias) (height : ℕ) (line : Offset) (ratio : Flow) (rate : ℕ) (rates : List ℕ) (frames trib : ℕ) → SaysMade level bias height line ratio rate rates
    → IsLevel level → IsRated level → frames ≤ most_made → trib < level_stores level → FlowFits frames (flow_in ratio (Rates rate) (slice_index rates trib))
said-fits level bias height line ratio rate rates frames trib s is rated few m =
    subst (FlowFits frames) (sym (said_flow-made level bias height line ratio rate rates trib s)) (made_fits level bias height line frames trib is rated few m)

pub said-few : (level : Level) (bias : Bias) (height : ℕ) (line : Offset) (ratio : Flow) (rate : ℕ) (rates : List ℕ) (frames trib : ℕ) → SaysMade level bias height line ratio rate rates
    → IsLevel level → IsRated level → frames ≤ most_made → trib < level_stores level → flowed (flow_in ratio (Rates rate) (slice_index rates trib)) frames < 2 ^ 64
said-few level bias height line ratio rate rates frames trib s is rated few m =
    subst (λ flow. flowed flow frames < 2 ^ 64) (sym (said_flow-made level bias height line ratio rate rates trib s)) (made_few level bias height line frames trib is rated few m)

pub said-made : (level : Level) (bias : Bias) (height : ℕ) (line : Offset) (ratio : Flow) (rate : ℕ) (rates : List ℕ) (frames : ℕ) → SaysMade level bias height line ratio rate rates
    → (frames ≡ 0 → ⊥) → said_row ratio frames (Rates rate) rates ∷ [] ≡ made_rows level bias height line frames
said-made level bias height line ratio rate rates frames s some =
    ap (λ flow. said_row flow frames (Rates rate) rates ∷ []) s.ratio_is
    ∙ ap (λ rate. said_row (ratio_of level) frames (Rates rate) rates ∷ []) s.line_is
    ∙ ap (λ rates. said_row (ratio_of level) frames (Rates (scale_of line level.ppm)) rates ∷ []) s.rates_are
    ∙ sym (made_rows-one level bias height line frames some)
