-- What holds of each row that a text says, and so of the counts and sums that a schedule gives a node.
use Rattle.std.proofs.Common.{◌≡◌, ℕ, zero, suc, ◌*◌, ◌<◌, ◌≤◌, ◌^◌, ◌==◌, ◌&&◌, ◌⊎◌, Bool, true, false, cond, nat_lt, nat_le, List, [], ◌∷◌, length, map, find, Option, Some, None, is_some, Result, Ok, Err, All, refl, ap, sym, ◌∙◌, subst, inl, inr, arith, slice_index, suc-mul}
use Rattle.std.specs.Prelude.{codes}
use Rattle.std.specs.List.{flat_map, range_with_len}
use Rattle.std.specs.Str.{bytes_eq}
use Rattle.std.specs.Option.{ok_or, option_map_or, option_and_then}
use Rattle.std.proofs.lemmas.Bool.{cases_Bool, cases_lt, ltb-false, leb-true, eqb-true, eqb-false, and_parts, false≢true}
use Rattle.std.proofs.lemmas.List.{get_or_past, length-map}
use Rattle.std.proofs.lemmas.List.Elements.{All-nil, All-cons, All-head, All-tail, All-append, All-map, All-get_or, All-from_get_or, All-weaker, All-filter}
use Rattle.std.proofs.Math.Nat.{pos_of_ne-zero}
use Rattle.pdh_shape.specs.OwnNumbers.{most_bytes, most_frames}
use Rattle.pdh_shape.specs.declared.place.Level.{Level}
use Rattle.pdh_line.specs.Progress.{arrived}
use Rattle.pdh_line.proofs.SendingLaws.{arrived-suc}
use Rattle.pdh_rows.specs.declared.flow.Flow.{Flow}
use Rattle.pdh_rows.specs.declared.flow.Says.{Says}
use Rattle.pdh_rows.specs.declared.flow.Says.TheVariants.{Counts, Rates}
use Rattle.pdh_rows.specs.Flows.{flow_count, flow_in, each, FlowFits}
use Rattle.pdh_rows.proofs.Counted.{each_fits}
use Rattle.pdh_rows.proofs.Joining.{each_count, frame_count, no_flow}
use Rattle.pdh_levels.specs.Levels.{IsLevel, nodes_in, level_at, level_stores, len_at}
use Rattle.pdh_levels.proofs.LevelLaws.{level_in, level_is, stores_count, len_is}
use Rattle.pdh_clock.specs.declared.fault.ScheduleFault.{ScheduleFault}
use Rattle.pdh_clock.specs.declared.fault.ScheduleFault.TheVariants.{BadRow, UnknownNode, CountOver}
use Rattle.pdh_row_text.specs.declared.row.Version.{Version}
use Rattle.pdh_row_text.specs.declared.row.Version.TheVariants.{First, Second}
use Rattle.pdh_row_text.specs.Text.{lines_of, number_of, each_of, path_of, words_of}
use Rattle.pdh_row_text.specs.RateWords.{rate_of}
use Rattle.pdh_row_text.specs.Form.{Form, counts_form, rates_form, counts_row, rates_row, form_of_words, form_of}
use Rattle.pdh_clock.specs.Row.{Row, ratio_of, row_of}
use Rattle.pdh_row_text.specs.Text.{is_passed_over}
use Rattle.pdh_clock.specs.Judged.{◌>>=◌, first_over, counts_judged, row_judged, rows_judged, versions_judged, schedule_of}
use Rattle.pdh_clock.specs.Contents.{IsRowOf, rows_at, by_nodes, frames_of_row, frames_of, counts, same_path}
use Rattle.pdh_clock.specs.Made.{IsRated}
use Rattle.pdh_row_text.proofs.RateLaws.{IsRate, rate_is, rates_are}
use Rattle.pdh_clock.proofs.RatedFlows.{rated-fits, rated-counts}

-- ---- steps that may fail

-- a step that has a value, and the rest at it
record Steps {A B : Type 0} (first : Result A ScheduleFault) (rest : A → Result B ScheduleFault) (y : B) : Type 0 where
  value : A
  is : first ≡ Ok value
  then_is : rest value ≡ Ok y

steps : {A B : Type 0} (first : Result A ScheduleFault) (rest : A → Result B ScheduleFault) (y : B) → (first >>= rest) ≡ Ok y
    → Steps first rest y
steps (Ok x) rest y h = record { value = x; is = refl; then_is = h }
steps (Err fault) rest y h = cc

ok_or_some : {A : Type 0} (o : Option A) (fault : ScheduleFault) (x : A) → ok_or o fault ≡ Ok x → o ≡ Some x
ok_or_some None fault x h = cc
ok_or_some (Some y) fault x h = cc

chosen : {A : Type 0} (b : Bool) (read : Result A ScheduleFault) (fault : ScheduleFault) (y : A) → cond b read (Err fault) ≡ Ok y
    → (b ≡ true) × (read ≡ Ok y)
chosen true read fault y h = (refl, h)
chosen false read fault y h = cc

-- ---- a row that is judged

not_found : (b : Bool) (x : ℕ) (rest : Option ℕ) → cond b (Some x) rest ≡ None → (b ≡ false) × (rest ≡ None)
not_found true x rest h = cc
not_found false x rest h = (refl, h)

find_none : (p : ℕ → Bool) (xs : List ℕ) → find p xs ≡ None → All (λ x. p x ≡ false) xs
find_none p [] h = All-nil (λ x. p x ≡ false)
find_none p (x ∷ xs) h = let rest = not_found (p x) x (find p xs) h in All-cons (λ x. p x ≡ false) x xs rest.0
    (find_none p xs rest.1)

none_over : (o : Option ℕ) (fault : ℕ → ScheduleFault) (row y : Row) → option_map_or (λ count. Err (fault count)) o (Ok row) ≡ Ok y
    → (o ≡ None) × (row ≡ y)
none_over None fault row y h = (refl, cc)
none_over (Some count) fault row y h = cc

-- no count of a row is above so much
abbrev pub CountsWithin : ℕ → Says → List ℕ → Type 0
CountsWithin most Counts counts = All (λ count. count ≤ most) counts
CountsWithin most (Rates line) rates = Unit {0}

none_first : (most : ℕ) (says : Says) (numbers : List ℕ) → first_over most says numbers ≡ None → CountsWithin most says numbers
none_first most Counts counts h = All-weaker (λ count. nat_lt most count ≡ false) (λ count. count ≤ most)
    (λ count low. ltb-false most count low) counts (find_none (nat_lt most) counts h)
none_first most (Rates line) rates h = tt

-- the same of an option
record OptionSteps {A B : Type 0} (first : Option A) (rest : A → Option B) (y : B) : Type 0 where
  value : A
  is : first ≡ Some value
  then_is : rest value ≡ Some y

option_steps : {A B : Type 0} (first : Option A) (rest : A → Option B) (y : B) → option_and_then rest first ≡ Some y
    → OptionSteps first rest y
option_steps None rest y h = cc
option_steps (Some x) rest y h = record { value = x; is = refl; then_is = h }

-- rates of a row are from clocks of at most 1000 parts per million, and it is of no more frames than a line
abbrev pub HasRates : Says → ℕ → List ℕ → Type 0
HasRates Counts repeat counts = Unit {0}
HasRates (Rates line) repeat rates = (repeat ≤ most_frames) × IsRate line × All IsRate rates

-- what a row says
pub record IsFormed (form : Form) : Type 0 where
  pub some : 0 < form.repeat
  pub rates : HasRates form.says form.repeat form.numbers

none_or : (b : Bool) (x y : Form) → cond b None (Some x) ≡ Some y → (b ≡ false) × (x ≡ y)
none_or true x y h = cc
none_or false x y h = (refl, cc)

some_or : (b : Bool) (x y : Form) → cond b (Some x) None ≡ Some y → (b ≡ true) × (x ≡ y)
some_or true x y h = (refl, cc)
some_or false x y h = cc

counts_formed : (words : List (List ℕ)) (form : Form) → counts_row words ≡ Some form → IsFormed form
counts_formed [] form h = cc
counts_formed (word ∷ []) form h = cc
counts_formed (path_word ∷ repeat_word ∷ count_words) form h =
    let path = option_steps (path_of path_word) _ form h in
    let repeat = option_steps (number_of repeat_word) _ form path.then_is in
    let counts = option_steps (each_of number_of count_words) _ form repeat.then_is in
    let some = none_or (repeat.value == 0) (counts_form path.value repeat.value counts.value) form counts.then_is in
    subst IsFormed some.1 (record { some = pos_of_ne-zero (eqb-false repeat.value 0 some.0); rates = tt })

rates_formed : (words : List (List ℕ)) (form : Form) → rates_row words ≡ Some form → IsFormed form
rates_formed [] form h = cc
rates_formed (word ∷ []) form h = cc
rates_formed (word ∷ word' ∷ []) form h = cc
rates_formed (path_word ∷ repeat_word ∷ line_word ∷ trib_words) form h =
    let path = option_steps (path_of path_word) _ form h in
    let repeat = option_steps (number_of repeat_word) _ form path.then_is in
    let line = option_steps (rate_of line_word) _ form repeat.then_is in
    let tribs = option_steps (each_of rate_of trib_words) _ form line.then_is in
    let few = some_or (nat_le 1 repeat.value && nat_le repeat.value most_frames) (rates_form path.value repeat.value line.value tribs.value) form tribs.then_is in
    let both = and_parts (nat_le 1 repeat.value) (nat_le repeat.value most_frames) few.0 in
    subst IsFormed few.1 (record {
      some = (let least = leb-true 1 repeat.value both.0 in omega arith);
      rates = (leb-true repeat.value most_frames both.1, rate_is line_word line.value line.is, rates_are trib_words tribs.value tribs.is);
    })

either_row : (b : Bool) (x y : Option Form) (form : Form) → cond b x y ≡ Some form → (x ≡ Some form) ⊎ (y ≡ Some form)
either_row true x y form h = inl h
either_row false x y form h = inr h

words_formed : (version : Version) (words : List (List ℕ)) (form : Form) → form_of_words version words ≡ Some form → IsFormed form
words_formed First words form h = counts_formed words form h
words_formed Second [] form h = cc
words_formed Second (word ∷ words) form h = elim (either_row (bytes_eq word (codes "rate")) (rates_row words) (counts_row (word ∷ words)) form h) [
  | inl rates ↦ rates_formed words form rates
  | inr counts ↦ counts_formed (word ∷ words) form counts
]

-- a row that was judged, with what its line says
pub record IsJudged (levels : List Level) (row : Row) : Type 0 where
  pub form : Form
  pub formed : IsFormed form
  pub level : Level
  pub known : level_at levels form.path ≡ Some level
  pub stores : length form.numbers ≡ level_stores level
  pub within : CountsWithin level.len form.says form.numbers
  pub row_is : row_of (ratio_of level) form ≡ row

pub row_judged_is : (levels : List Level) (version : Version) (number : ℕ) (line : List ℕ) (row : Row) → row_judged levels version number line ≡ Ok row
    → IsJudged levels row
row_judged_is levels version number line row h =
    let found = steps (ok_or (form_of version line) (BadRow number)) _ row h in
    let known = steps (ok_or (level_at levels found.value.path) (UnknownNode number)) _ row found.then_is in
    let fits = chosen (length found.value.numbers == level_stores known.value) (counts_judged number known.value found.value) (BadRow number) row known.then_is in
    let none = none_over (first_over known.value.len found.value.says found.value.numbers) (λ count. CountOver number count known.value.len)
    (row_of (ratio_of known.value) found.value) row fits.1 in
    record {
      form = found.value;
      formed = words_formed version (words_of line) found.value (ok_or_some (form_of version line) (BadRow number) found.value found.is);
      level = known.value;
      known = ok_or_some (level_at levels found.value.path) (UnknownNode number) known.value known.is;
      stores = eqb-true (length found.value.numbers) (level_stores known.value) fits.0;
      within = none_first known.value.len found.value.says found.value.numbers none.0;
      row_is = none.1;
    }

pub rated_is : (levels : List Level) (path : List ℕ) (level : Level) → All IsRated levels → level_at levels path ≡ Some level → IsRated level
rated_is levels path level each h =
    let at = level_in levels path level h in
    subst IsRated (at.at level) (All-get_or IsRated levels (length path) level at.inside each)

-- ---- its flows

fits_said : (level : Level) (repeat : ℕ) (says : Says) (numbers : List ℕ) → IsLevel level → IsRated level → repeat < 10 ^ 9
    → HasRates says repeat numbers → CountsWithin level.len says numbers → All (λ number. FlowFits repeat (flow_in (ratio_of level) says number)) numbers
fits_said level repeat Counts counts is rated few rates within =
    All-weaker (λ count. count ≤ level.len) (λ count. FlowFits repeat (each count))
    (λ count h. each_fits repeat count (omega arith) (let longest = is.longest in omega arith)) counts within
fits_said level repeat (Rates line) tribs is rated few rates within =
    All-weaker IsRate (λ trib. FlowFits repeat (flow_in (ratio_of level) (Rates line) trib))
    (λ trib h. rated-fits level line trib repeat is rated (record { line_least = rates.1.0; line_most = rates.1.1; trib_most = h.1 }) (let short = rates.0 in omega arith))
    tribs rates.2

-- each flow of a row fits
pub judged_fits : (levels : List Level) (row : Row) → IsJudged levels row → All IsLevel levels → All IsRated levels → row.repeat < 10 ^ 9
    → All (FlowFits row.repeat) row.flows
judged_fits levels row j are rated few =
    let said = fits_said j.level j.form.repeat j.form.says j.form.numbers (level_is levels j.form.path j.level are j.known) (rated_is levels j.form.path j.level rated j.known)
    (subst (λ (r : Row). r.repeat < 10 ^ 9) (sym j.row_is) few) j.formed.rates j.within in
    subst (λ (r : Row). All (FlowFits r.repeat) r.flows) j.row_is
    (All-map (FlowFits j.form.repeat) (flow_in (ratio_of j.level) j.form.says) j.form.numbers said)

-- and brings a frame no more bits than it has
counts_said : (level : Level) (says : Says) (repeat : ℕ) (numbers : List ℕ) → IsRated level → HasRates says repeat numbers → CountsWithin level.len says numbers
    → All (λ number. (n : ℕ) → flow_count (flow_in (ratio_of level) says number) n ≤ level.len) numbers
counts_said level Counts repeat counts rated rates within =
    All-weaker (λ count. count ≤ level.len) (λ count. (n : ℕ) → flow_count (each count) n ≤ level.len) (λ count h n. subst (λ k. k ≤ level.len) (sym (each_count count n)) h) counts within
counts_said level (Rates line) repeat tribs rated rates within =
    All-weaker IsRate (λ trib. (n : ℕ) → flow_count (flow_in (ratio_of level) (Rates line) trib) n ≤ level.len)
    (λ trib h n. rated-counts level line trib n rated (record { line_least = rates.1.0; line_most = rates.1.1; trib_most = h.1 })) tribs rates.2

pub judged_sound : (levels : List Level) (row : Row) → IsJudged levels row → All IsRated levels → IsRowOf levels row
judged_sound levels row j rated =
    let flow = flow_in (ratio_of j.level) j.form.says in
    subst (IsRowOf levels) j.row_is (record {
      node = ap is_some j.known;
      some_frames = j.formed.some;
      stores = length-map j.form.numbers flow ∙ j.stores ∙ sym (stores_count levels j.form.path j.level j.known);
      most = subst (λ len. All (λ (flow : Flow). (n : ℕ) → flow_count flow n ≤ len) (map flow j.form.numbers)) (sym (len_is levels j.form.path j.level j.known))
          (All-map (λ (flow : Flow). (n : ℕ) → flow_count flow n ≤ j.level.len) flow j.form.numbers
          (counts_said j.level j.form.says j.form.repeat j.form.numbers (rated_is levels j.form.path j.level rated j.known) j.formed.rates j.within));
    })

pub row_judged_sound : (levels : List Level) (version : Version) (number : ℕ) (line : List ℕ) (row : Row) → All IsRated levels
    → row_judged levels version number line ≡ Ok row → IsRowOf levels row
row_judged_sound levels version number line row rated h = judged_sound levels row (row_judged_is levels version number line row h) rated

-- ---- all rows of a text

one_line : (levels : List Level) (b : Bool) (judged : Result Row ScheduleFault) (rest : Result (List Row) ScheduleFault)
    (rows : List Row)
    → ((row : Row) → judged ≡ Ok row → IsRowOf levels row) → ((rows : List Row) → rest ≡ Ok rows → All (IsRowOf levels) rows)
    → cond b rest (judged >>= λ row. rest >>= λ rows. Ok (row ∷ rows)) ≡ Ok rows → All (IsRowOf levels) rows
one_line levels true judged rest rows first others h = others rows h
one_line levels false judged rest rows first others h =
    let row = steps judged _ rows h in
    let more = steps rest _ rows row.then_is in
    let same : row.value ∷ more.value ≡ rows = cc in
    subst (λ rs. All (IsRowOf levels) rs) same
    (All-cons (IsRowOf levels) row.value more.value (first row.value row.is) (others more.value more.is))

rows_judged_sound : (levels : List Level) (version : Version) (number : ℕ) (lines : List (List ℕ)) (rows : List Row) → All IsRated levels
    → rows_judged levels version number lines ≡ Ok rows → All (IsRowOf levels) rows
rows_judged_sound levels version number [] rows rated h =
    let none : [] ≡ rows = cc in subst (λ rs. All (IsRowOf levels) rs) none (All-nil (IsRowOf levels))
rows_judged_sound levels version number (line ∷ lines) rows rated h =
    one_line levels (is_passed_over line) (row_judged levels version number line) (rows_judged levels version (suc number) lines) rows
    (λ row e. row_judged_sound levels version number line row rated e) (λ rows e. rows_judged_sound levels version (suc number) lines rows rated e) h

either_version : (b : Bool) (x y : Result (List Row) ScheduleFault) (rows : List Row) → cond b x y ≡ Ok rows → (x ≡ Ok rows) ⊎ (y ≡ Ok rows)
either_version true x y rows h = inl h
either_version false x y rows h = inr h

versions_judged_sound : (levels : List Level) (lines : List (List ℕ)) (rows : List Row) → All IsRated levels → versions_judged levels lines ≡ Ok rows
    → All (IsRowOf levels) rows
versions_judged_sound levels [] rows rated h = rows_judged_sound levels First 1 [] rows rated h
versions_judged_sound levels (line ∷ lines) rows rated h =
    elim (either_version (bytes_eq line (codes "version 2")) (rows_judged levels Second 2 lines) (rows_judged levels First 1 (line ∷ lines)) rows h) [
      | inl second ↦ rows_judged_sound levels Second 2 lines rows rated second
      | inr first ↦ rows_judged_sound levels First 1 (line ∷ lines) rows rated first
    ]

-- what holds of each row holds of each where the nodes are in order
by_nodes_each : (P : Row → Type 0) (rows : List Row) (nodes : List (List ℕ)) → All P rows → All P (flat_map (rows_at rows) nodes)
by_nodes_each P rows [] h = All-nil P
by_nodes_each P rows (path ∷ nodes) h = All-append P (rows_at rows path) (flat_map (rows_at rows) nodes)
    (All-filter (λ row. same_path row.path path) P rows h) (by_nodes_each P rows nodes h)

not_long : (b : Bool) (fault : ScheduleFault) (read : Result (List Row) ScheduleFault) (rows : List Row)
    → cond b (Err fault) read ≡ Ok rows → read ≡ Ok rows
not_long true fault read rows h = cc
not_long false fault read rows h = h

-- each row of a text is one of a node of the levels
pub schedule_of_sound : (levels : List Level) (text : List ℕ) (rows : List Row) → All IsRated levels → schedule_of levels text ≡ Ok rows
    → All (IsRowOf levels) rows
unfolding schedule_of
schedule_of_sound levels text rows rated h =
    let read = steps (versions_judged levels (lines_of text)) _ rows (not_long (nat_lt most_bytes (length text)) _ _ rows h) in
    let same : by_nodes levels read.value ≡ rows = cc in
    subst (All (IsRowOf levels)) same
    (by_nodes_each (IsRowOf levels) read.value (nodes_in levels) (versions_judged_sound levels (lines_of text) read.value rated read.is))

-- ---- counts and sums

pub same_path-true : (path path' : List ℕ) → same_path path path' ≡ true → path ≡ path'
same_path-true [] [] h = refl
same_path-true [] (b ∷ path') h = absurd (false≢true h)
same_path-true (a ∷ path) [] h = absurd (false≢true h)
same_path-true (a ∷ path) (b ∷ path') h =
    let both = and_parts (a == b) (same_path path path') h in
    let first = eqb-true a b both.0 in
    let rest = same_path-true path path' both.1 in
    cc

-- the count of a tributary is no more than the bits of a frame
abbrev HasMost : List Level → List ℕ → ℕ → List ℕ → Type 0
HasMost levels path trib frame = slice_index frame trib ≤ len_at levels path

frame_most : (flows : List Flow) (trib n len : ℕ) → All (λ flow. (n : ℕ) → flow_count flow n ≤ len) flows
    → slice_index (map (λ flow. flow_count flow n) flows) trib ≤ len
frame_most flows trib n len most =
    let value = frame_count (record { repeat = 0; flows = flows }) trib n in
    elim (cases_lt trib (length flows)) [
      | inl within ↦ subst (λ count. count ≤ len) (sym value) (most trib (each 0) within n)
      | inr past ↦
          let none : slice_index (map (λ flow. flow_count flow n) flows) trib ≡ 0 =
          value ∙ ap (λ flow. flow_count flow n) (get_or_past flows trib (each 0) past) ∙ no_flow n in
          omega (arith, none)
    ]

row_most : (levels : List Level) (path : List ℕ) (trib : ℕ) (row : Row) → IsRowOf levels row → row.path ≡ path
    → All (HasMost levels path trib) (frames_of_row row)
row_most levels path trib row h same =
    let most = subst (λ p. All (λ (flow : Flow). (n : ℕ) → flow_count flow n ≤ len_at levels p) row.flows) same h.most in
    All-map (HasMost levels path trib) (λ n. map (λ flow. flow_count flow n) row.flows) (range_with_len 0 row.repeat)
    (All-from_get_or (λ n. HasMost levels path trib (map (λ flow. flow_count flow n) row.flows)) (range_with_len 0 row.repeat) 0
    (λ i l. frame_most row.flows trib _ (len_at levels path) most))

frames_most : (levels : List Level) (path : List ℕ) (trib : ℕ) (rows : List Row) → All (IsRowOf levels) rows
    → All (HasMost levels path trib) (frames_of rows path)
unfolding frames_of
frames_most levels path trib [] h = All-nil (HasMost levels path trib)
frames_most levels path trib (row ∷ rows) h =
    let rest = frames_most levels path trib rows (All-tail (IsRowOf levels) row rows h) in
    let first = All-head (IsRowOf levels) row rows h in
    elim (cases_Bool (same_path row.path path)) [
      | inl is ↦ rw is (All-append (HasMost levels path trib) (frames_of_row row) (frames_of rows path)
          (row_most levels path trib row first (same_path-true row.path path is)) rest)
      | inr isnt ↦ rw isnt rest
    ]

-- no count of a frame is above the frame's bits
pub counts_most : (levels : List Level) (rows : List Row) (path : List ℕ) (trib frame : ℕ) → All (IsRowOf levels) rows
    → counts rows path trib frame ≤ len_at levels path
counts_most levels rows path trib frame h = elim (cases_lt frame (length (frames_of rows path))) [
  | inl within ↦ All-get_or (HasMost levels path trib) (frames_of rows path) frame [] within (frames_most levels path trib rows h)
  | inr past ↦ subst (λ (frame : List ℕ). slice_index frame trib ≤ len_at levels path)
      (sym (get_or_past (frames_of rows path) frame [] past)) (omega arith)
]

pub arrived_most : (counts : ℕ → ℕ) (len : ℕ) → ((frame : ℕ) → counts frame ≤ len) → (n : ℕ) → arrived counts n ≤ n * len
unfolding arrived
arrived_most counts len h zero = omega arith
arrived_most counts len h (suc n) = omega (arith, arrived_most counts len h n, h n, suc-mul n len, arrived-suc counts n)
