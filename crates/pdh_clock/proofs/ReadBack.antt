-- The text that a schedule is written as reads back as a schedule with the same frames.
use Rattle.std.proofs.Common.{◌≡◌, ℕ, suc, ◌+◌, ◌-◌, ◌*◌, ◌/◌, ◌%◌, ◌<◌, ◌≤◌, ◌==◌, ◌&&◌, true, false, cond, nat_lt, nat_le, List, [], ◌∷◌, ◌++◌, length, get_or, map, find, replicate, decimal, Some, None, Ok, Err, All, is_some, IsSome, refl, ap, sym, ◌∙◌, subst, arith, inl, inr, lit<, append_assoc, append-nil, eq-eqb}
use Rattle.std.specs.Prelude.{codes}
use Rattle.std.specs.List.{flat_map, list_all, onto_first, range_with_len}
use Rattle.std.specs.Str.{bytes_eq}
use Rattle.std.specs.Char.{is_ascii_digit}
use Rattle.std.specs.Option.{ok_or, option_map_or}
use Rattle.std.proofs.lemmas.Bool.{cases_Bool, cases_lt, eqb-true, le-leb, le-ltb, false≢true}
use Rattle.std.proofs.lemmas.Bool.Decides.{nat_tests}
use Rattle.std.proofs.lemmas.Fmt.{decimal_by_steps, decimal_digit, decimal_nonempty, first_decimal, length-decimal-le}
use Rattle.std.proofs.lemmas.List.{length-map, map-append}
use Rattle.std.proofs.lemmas.List.Elements.{All-nil, All-cons, All-head, All-tail, All-append, All-map, All-from_get_or, All-weaker}
use Rattle.std.proofs.lemmas.List.Folds.{list_all-append}
use Rattle.std.proofs.lemmas.List.Splits.{slice_split_at, slice_split_none}
use Rattle.std.proofs.lemmas.List.Sums.{fold_push, AllPass-from_list_all}
use Rattle.std.proofs.lemmas.Slice.Eq.{bytes_eq-Decides}
use Rattle.pdh_shape.specs.declared.place.Level.{Level}
use Rattle.pdh_clock.specs.declared.fault.ScheduleFault.TheVariants.{TooLong, BadRow, UnknownNode, CountOver}
use Rattle.pdh_row_text.specs.Text.{lines_of, words_of, digits_value, is_number, number_of, each_of, path_of}
use Rattle.pdh_rows.specs.declared.flow.Flow.{Flow}
use Rattle.pdh_rows.specs.declared.flow.Says.{Says}
use Rattle.pdh_rows.specs.declared.flow.Says.TheVariants.{Counts}
use Rattle.pdh_rows.specs.Flows.{flow_count, each}
use Rattle.pdh_rows.specs.Rows.{frames_in}
use Rattle.pdh_rows.proofs.Counted.{said_row-each}
use Rattle.pdh_rows.proofs.Joining.{frames_in-each}
use Rattle.pdh_row_text.specs.declared.row.Version.TheVariants.{First, Second}
use Rattle.pdh_row_text.specs.Form.{Form, counts_form, counts_row, form_of}
use Rattle.pdh_clock.specs.Row.{Row, ratio_of, row_of}
use Rattle.pdh_levels.specs.Levels.{most_tributaries, IsLevel, AreLevels, nodes_in, level_at, level_stores, stores_at, len_at, place_of}
use Rattle.pdh_clock.specs.Contents.{IsRowOf, rows_at, by_nodes, frames_of_row, frames_of, same_path}
use Rattle.pdh_row_text.specs.Text.{is_passed_over}
use Rattle.pdh_clock.specs.Judged.{◌>>=◌, first_over, counts_judged, stores_judged, row_judged, rows_judged, versions_judged, lines_judged, schedule_of}
use Rattle.pdh_shape.specs.OwnNumbers.{most_bytes}
use Rattle.pdh_clock.specs.Stored.{ratio_at, row_in}
use Rattle.pdh_clock.specs.Written.{text_with, with_frame, longest_rows, rows_written, number_words, row_line, text_of, ReadsBack}
use Rattle.pdh_line.specs.Paths.{path_text}
use Rattle.pdh_clock.proofs.Laws.{same_path-true}
use Rattle.pdh_levels.proofs.NodeOrder.{is_below, only_at, node_place, placed, nodes_known}
use Rattle.pdh_levels.proofs.LevelLaws.{has_level, level_in, level_is, stores_count, len_is}
use Rattle.pdh_clock.proofs.Trees.{AtPath, rows_at_all, rows_at_none, rows_at-joined, frames_of-by_nodes}

-- ---- numbers

-- digits that write a number
record Writes (number : ℕ) (digits : List ℕ) : Type 0 where
  each : list_all is_ascii_digit digits ≡ true
  value : digits_value digits ≡ number

is_digit : (n : ℕ) → n < 10 → is_ascii_digit (48 + n) ≡ true
is_digit n l = grind (arith, nat_tests)

writes_digit : (n : ℕ) → n < 10 → Writes n ((48 + n) ∷ [])
writes_digit n l = record { each = rw (is_digit n l) refl; value = omega arith }

writes_more : (n : ℕ) (digits : List ℕ) → 10 ≤ n → Writes (n / 10) digits → Writes n (digits ++ (48 + n % 10) ∷ [])
writes_more n digits l h = record {
  each = list_all-append is_ascii_digit digits ((48 + n % 10) ∷ []) ∙ rw (h.each, is_digit (n % 10) (omega arith)) refl;
  value = fold_push (λ value digit. 10 * value + (digit - 48)) 0 digits (48 + n % 10) ∙ omega (arith, h.value);
}

writes_decimal : (n : ℕ) → n ≤ 999999999 → Writes n (decimal n)
writes_decimal n l = decimal_by_steps Writes writes_digit writes_more n (omega arith)

-- a digit 1 to 9 and at most eight digits, or `0`
is_number_digits : (digits : List ℕ) → 0 < length digits → length digits ≤ 9 → list_all is_ascii_digit digits ≡ true
    → (get_or digits 0 0 ≡ 48 → length digits ≡ 1) → is_number digits ≡ true
is_number_digits [] some short each first = absurd (omega arith)
is_number_digits (digit ∷ digits) some short each first =
    let few : nat_le (length digits) 8 ≡ true = le-leb (length digits) 8 (omega arith) in
    rw (each, few) (elim (cases_Bool (digit == 48)) [
      | inl is ↦
          let alone : (length digits == 0) ≡ true = eq-eqb (length digits) 0 (omega (arith, first (eqb-true digit 48 is))) in
          rw (is, alone) refl
      | inr isnt ↦ rw isnt refl
    ])

-- only `0` begins with a zero
zero_alone : (n : ℕ) → n ≤ 999999999 → get_or (decimal n) 0 0 ≡ 48 → length (decimal n) ≡ 1
zero_alone n l zero_first = elim (cases_lt 0 n) [
  | inl some ↦ absurd (omega (arith, first_decimal n some (omega arith)))
  | inr none ↦ ap length (decimal_digit n (omega arith))
]

number_of_decimal : (n : ℕ) → n ≤ 999999999 → number_of (decimal n) ≡ Some n
number_of_decimal n l =
    let written = writes_decimal n l in
    let short = length-decimal-le 9 n (omega arith) (omega arith) (omega arith) in
    let is = is_number_digits (decimal n) (decimal_nonempty n (omega arith)) short written.each (zero_alone n l) in
    ap (λ b. cond b (Some (digits_value (decimal n))) None) is ∙ ap Some written.value

numbers_of_decimals : (numbers : List ℕ) → All (λ n. n ≤ 999999999) numbers → each_of number_of (map decimal numbers) ≡ Some numbers
numbers_of_decimals [] h = refl
numbers_of_decimals (n ∷ numbers) h =
    let first = number_of_decimal n (All-head (λ n. n ≤ 999999999) n numbers h) in
    let rest = numbers_of_decimals numbers (All-tail (λ n. n ≤ 999999999) n numbers h) in
    rw (first, rest) refl

-- ---- words and lines

-- none of the bytes is the mark
abbrev Lacks : ℕ → List ℕ → Type 0
Lacks mark bytes = All (λ byte. (byte == mark) ≡ false) bytes

digit_other : (mark byte : ℕ) → mark < 48 → is_ascii_digit byte ≡ true → (byte == mark) ≡ false
digit_other mark byte l h = grind (arith, nat_tests)

decimal_lacks : (mark n : ℕ) → mark < 48 → n ≤ 999999999 → Lacks mark (decimal n)
decimal_lacks mark n l small = All-weaker (λ byte. is_ascii_digit byte ≡ true) (λ byte. (byte == mark) ≡ false)
    (λ byte h. digit_other mark byte l h) (decimal n)
    (AllPass-from_list_all is_ascii_digit (decimal n) (writes_decimal n small).each)

words_of_numbers : (word numbers : List ℕ) → Lacks 32 word → All (λ n. n ≤ 999999999) numbers
    → words_of (word ++ number_words numbers) ≡ word ∷ map decimal numbers
words_of_numbers word [] h small = ap words_of (append-nil word) ∙ slice_split_none (λ byte. byte == 32) word h
words_of_numbers word (n ∷ numbers) h small =
    let first = All-head (λ n. n ≤ 999999999) n numbers small in
    slice_split_at (λ byte. byte == 32) word 32 (decimal n ++ number_words numbers) h refl
    ∙ ap (λ words. word ∷ words)
    (words_of_numbers (decimal n) numbers (decimal_lacks 32 n (lit< tt) first) (All-tail (λ n. n ≤ 999999999) n numbers small))

number_words_lack : (numbers : List ℕ) → All (λ n. n ≤ 999999999) numbers → Lacks 10 (number_words numbers)
number_words_lack [] small = All-nil (λ byte. (byte == 10) ≡ false)
number_words_lack (n ∷ numbers) small =
    let first = All-head (λ n. n ≤ 999999999) n numbers small in
    All-append (λ byte. (byte == 10) ≡ false) (32 ∷ decimal n) (number_words numbers)
    (All-cons (λ byte. (byte == 10) ≡ false) 32 (decimal n) refl (decimal_lacks 10 n (lit< tt) first))
    (number_words_lack numbers (All-tail (λ n. n ≤ 999999999) n numbers small))

line_read : (line rest : List ℕ) → Lacks 10 line → lines_of (line ++ 10 ∷ rest) ≡ line ∷ lines_of rest
line_read [] rest h = refl
line_read (byte ∷ line) rest h =
    let first = All-head (λ byte. (byte == 10) ≡ false) byte line h in
    ap (λ b. cond b ([] ∷ lines_of (line ++ 10 ∷ rest)) (onto_first byte (lines_of (line ++ 10 ∷ rest)))) first
    ∙ ap (onto_first byte) (line_read line rest (All-tail (λ byte. (byte == 10) ≡ false) byte line h))

-- ---- paths

-- a word that is read as a path, in which no space and no line feed stands
record IsPathWord (path word : List ℕ) : Type 0 where
  reads : path_of word ≡ Some path
  no_space : Lacks 32 word
  no_feed : Lacks 10 word

digit_lacks : (mark a : ℕ) → mark < 47 → ((48 + a) == mark) ≡ false
digit_lacks mark a h = grind (arith, nat_tests)

slash_lacks : (mark : ℕ) → mark < 47 → (47 == mark) ≡ false
slash_lacks mark h = grind (arith, nat_tests)

step_lacks : (mark a : ℕ) (rest : List ℕ) → mark < 47 → Lacks mark rest → Lacks mark (47 ∷ (48 + a) ∷ rest)
step_lacks mark a rest h lacks =
    All-cons (λ byte. (byte == mark) ≡ false) 47 ((48 + a) ∷ rest) (slash_lacks mark h)
    (All-cons (λ byte. (byte == mark) ≡ false) (48 + a) rest (digit_lacks mark a h) lacks)

is_step_digit : (a : ℕ) → 1 ≤ a → a ≤ most_tributaries → (nat_le 49 (48 + a) && nat_le (48 + a) 57) ≡ true
is_step_digit a low high = rw (le-leb 49 (48 + a) (omega arith), le-leb (48 + a) 57 (omega arith)) refl

word_of_one : (a : ℕ) → 1 ≤ a → a ≤ most_tributaries → IsPathWord (a ∷ []) (47 ∷ (48 + a) ∷ [])
word_of_one a low high =
    let back : 48 + a - 48 ≡ a = omega arith in
    record {
      reads = rw (is_step_digit a low high) (ap (λ n. Some (n ∷ [])) back);
      no_space = step_lacks 32 a [] (lit< tt) (All-nil (λ byte. (byte == 32) ≡ false));
      no_feed = step_lacks 10 a [] (lit< tt) (All-nil (λ byte. (byte == 10) ≡ false));
    }

word_of_two : (a b : ℕ) → 1 ≤ a → a ≤ most_tributaries → 1 ≤ b → b ≤ most_tributaries → IsPathWord (a ∷ b ∷ []) (47 ∷ (48 + a) ∷ 47 ∷ (48 + b) ∷ [])
word_of_two a b low high low' high' =
    let back : 48 + a - 48 ≡ a = omega arith in
    let back' : 48 + b - 48 ≡ b = omega arith in
    record {
      reads = rw (is_step_digit a low high, is_step_digit b low' high') (ap (λ n. Some (n ∷ (48 + b - 48) ∷ [])) back ∙ ap (λ n. Some (a ∷ n ∷ [])) back');
      no_space = step_lacks 32 a (47 ∷ (48 + b) ∷ []) (lit< tt) (step_lacks 32 b [] (lit< tt) (All-nil (λ byte. (byte == 32) ≡ false)));
      no_feed = step_lacks 10 a (47 ∷ (48 + b) ∷ []) (lit< tt) (step_lacks 10 b [] (lit< tt) (All-nil (λ byte. (byte == 10) ≡ false)));
    }

-- the steps to a node are numbers of tributaries
record IsStep (levels : List Level) (step : ℕ) (path : List ℕ) : Type 0 where
  low : 1 ≤ step
  high : step ≤ most_tributaries
  below : List Level
  each : All IsLevel below
  rest : IsSome (level_at below path)

step_of : (levels : List Level) (step : ℕ) (path : List ℕ) → All IsLevel levels → IsSome (level_at levels (step ∷ path)) → IsStep levels step path
step_of [] step path each some = absurd (false≢true some)
step_of (level ∷ below) step path each some =
    let is = is_below level below step path some in
    let high = is.high in
    let most = (All-head IsLevel level below each).most in
    record { low = is.low; high = omega arith; below = below; each = All-tail IsLevel level below each; rest = is.rest }

path_word_is : (levels : List Level) (path : List ℕ) → AreLevels levels → IsSome (level_at levels path) → IsPathWord path (path_text path)
path_word_is levels [] h some = record {
  reads = refl;
  no_space = All-cons (λ byte. (byte == 32) ≡ false) 47 [] refl (All-nil (λ byte. (byte == 32) ≡ false));
  no_feed = All-cons (λ byte. (byte == 10) ≡ false) 47 [] refl (All-nil (λ byte. (byte == 10) ≡ false));
}
path_word_is levels (a ∷ []) h some =
    let is = step_of levels a [] h.each some in
    let high = is.high in
    let digit : decimal a ≡ (48 + a) ∷ [] = decimal_digit a (omega arith) in
    subst (IsPathWord (a ∷ [])) (ap (λ digits. 47 ∷ digits ++ []) (sym digit)) (word_of_one a is.low is.high)
path_word_is levels (a ∷ b ∷ []) h some =
    let is = step_of levels a (b ∷ []) h.each some in
    let is' = step_of is.below b [] is.each is.rest in
    let high = is.high in
    let high' = is'.high in
    let digit : decimal a ≡ (48 + a) ∷ [] = decimal_digit a (omega arith) in
    let digit' : decimal b ≡ (48 + b) ∷ [] = decimal_digit b (omega arith) in
    subst (IsPathWord (a ∷ b ∷ [])) (ap (λ digits. 47 ∷ digits ++ 47 ∷ (48 + b) ∷ []) (sym digit) ∙ ap (λ digits. 47 ∷ decimal a ++ (47 ∷ digits ++ [])) (sym digit'))
    (word_of_two a b is.low is.high is'.low is'.high)
path_word_is levels (a ∷ b ∷ c ∷ path) h some =
    let has = has_level (level_at levels (a ∷ b ∷ c ∷ path)) some in
    let inside = (level_in levels (a ∷ b ∷ c ∷ path) has.level has.is).inside in
    let few = h.few in
    absurd (omega arith)

-- a line that begins with a path isn't passed over, and says no version
not_passed : (path rest : List ℕ) → is_passed_over (path_text path ++ rest) ≡ false
not_passed [] rest = refl
not_passed (step ∷ path) rest = refl

not_version : (path rest : List ℕ) → bytes_eq (path_text path ++ rest) (codes "version 2") ≡ false
not_version [] rest = refl
not_version (step ∷ path) rest = refl

-- ---- a row

-- counts of a frame
pub record IsFrame (level : Level) (counts : List ℕ) : Type 0 where
  pub number : length counts ≡ level_stores level
  pub most : All (λ count. count ≤ level.len) counts

-- frames of each node, no more than one row can say
pub record AreWritable (levels : List Level) (frames : List ℕ → List (List ℕ)) : Type 0 where
  pub each : (path : List ℕ) (level : Level) → level_at levels path ≡ Some level → All (IsFrame level) (frames path)
  pub few : (path : List ℕ) → IsSome (level_at levels path) → length (frames path) ≤ 999999999

-- a row of counts of a node with a repeat that a text may have
record IsWritable (levels : List Level) (most : ℕ) (row : Form) : Type 0 where
  says : row.says ≡ Counts
  some : 0 < row.repeat
  repeat : row.repeat ≤ most
  level : Level
  known : level_at levels row.path ≡ Some level
  frame : IsFrame level row.numbers

-- the line of a row without its line feed
abbrev node_line : Form → List ℕ
node_line row = path_text row.path ++ number_words (row.repeat ∷ row.numbers)

numbers_small : (levels : List Level) (row : Form) → AreLevels levels → IsWritable levels 999999999 row
    → All (λ n. n ≤ 999999999) (row.repeat ∷ row.numbers)
numbers_small levels row l w =
    let longest = (level_is levels row.path w.level l.each w.known).longest in
    All-cons (λ n. n ≤ 999999999) row.repeat row.numbers w.repeat
    (All-weaker (λ n. n ≤ w.level.len) (λ n. n ≤ 999999999) (λ n h. omega arith) row.numbers w.frame.most)

not_zero : (n : ℕ) → 0 < n → (n == 0) ≡ false
not_zero n some = grind (arith, nat_tests)

word_of_row : (levels : List Level) (row : Form) → AreLevels levels → IsWritable levels 999999999 row → IsPathWord row.path (path_text row.path)
word_of_row levels row l w = path_word_is levels row.path l (ap is_some w.known)

abbrev with_says : Form → Says → Form
with_says row says = record { path = row.path; repeat = row.repeat; says = says; numbers = row.numbers }

row_of_line : (levels : List Level) (row : Form) → AreLevels levels → IsWritable levels 999999999 row → form_of First (node_line row) ≡ Some row
row_of_line levels row l w =
    let small = numbers_small levels row l w in
    let word = word_of_row levels row l w in
    let words = words_of_numbers (path_text row.path) (row.repeat ∷ row.numbers) word.no_space small in
    let repeat = number_of_decimal row.repeat w.repeat in
    let counts = numbers_of_decimals row.numbers (All-tail (λ n. n ≤ 999999999) row.repeat row.numbers small) in
    let some : (row.repeat == 0) ≡ false = not_zero row.repeat w.some in
    ap counts_row words ∙ rw (word.reads, repeat, counts, some) (ap (λ says. Some (with_says row says)) (sym w.says))

none_over : (most : ℕ) (counts : List ℕ) → All (λ count. count ≤ most) counts → find (nat_lt most) counts ≡ None
none_over most [] h = refl
none_over most (count ∷ counts) h =
    let first : nat_lt most count ≡ false = le-ltb most count (All-head (λ count. count ≤ most) count counts h) in
    ap (λ b. cond b (Some count) (find (nat_lt most) counts)) first
    ∙ none_over most counts (All-tail (λ count. count ≤ most) count counts h)

line_judged : (levels : List Level) (number : ℕ) (row : Form) → AreLevels levels → IsWritable levels 999999999 row
    → row_judged levels First number (node_line row) ≡ Ok (row_in levels row)
line_judged levels number row l w =
    let judged = λ (form : Form). ok_or (level_at levels form.path) (UnknownNode number) >>= λ level. stores_judged number level form in
    let stores : (length row.numbers == level_stores w.level) ≡ true = eq-eqb (length row.numbers) (level_stores w.level)
    w.frame.number in
    let none : first_over w.level.len row.says row.numbers ≡ None =
    ap (λ says. first_over w.level.len says row.numbers) w.says ∙ none_over w.level.len row.numbers w.frame.most in
    ap (λ o. ok_or o (BadRow number) >>= judged) (row_of_line levels row l w)
    ∙ ap (λ o. ok_or o (UnknownNode number) >>= λ level. stores_judged number level row) w.known
    ∙ ap (λ b. cond b (counts_judged number w.level row) (Err (BadRow number))) stores
    ∙ ap (λ o. option_map_or (λ count. Err (CountOver number count w.level.len)) o (Ok (row_of (ratio_of w.level) row))) none
    ∙ ap (λ o. Ok (row_of (option_map_or ratio_of o (each 0)) row)) (sym w.known)

lines_judged_rows : (levels : List Level) (number : ℕ) (rows : List Form) → AreLevels levels → All (IsWritable levels 999999999) rows
    → rows_judged levels First number (map node_line rows) ≡ Ok (map (row_in levels) rows)
lines_judged_rows levels number [] l w = refl
lines_judged_rows levels number (row ∷ rows) l w =
    let kept = not_passed row.path (number_words (row.repeat ∷ row.numbers)) in
    let first = line_judged levels number row l (All-head (IsWritable levels 999999999) row rows w) in
    let rest = lines_judged_rows levels (suc number) rows l (All-tail (IsWritable levels 999999999) row rows w) in
    rw (kept, first, rest) refl

versions_judged_rows : (levels : List Level) (rows : List Form) → AreLevels levels → All (IsWritable levels 999999999) rows
    → versions_judged levels (map node_line rows) ≡ Ok (map (row_in levels) rows)
versions_judged_rows levels [] l w = refl
versions_judged_rows levels (row ∷ rows) l w =
    ap (λ b. cond b (rows_judged levels Second 2 (map node_line rows)) (rows_judged levels First 1 (map node_line (row ∷ rows)))) (not_version row.path (number_words (row.repeat ∷ row.numbers)))
    ∙ lines_judged_rows levels 1 (row ∷ rows) l w

lines_of_rows : (levels : List Level) (rows : List Form) → AreLevels levels → All (IsWritable levels 999999999) rows
    → lines_of (flat_map row_line rows) ≡ map node_line rows
lines_of_rows levels [] l w = refl
lines_of_rows levels (row ∷ rows) l w =
    let first = All-head (IsWritable levels 999999999) row rows w in
    let rest = lines_of_rows levels rows l (All-tail (IsWritable levels 999999999) row rows w) in
    let lacks = All-append (λ byte. (byte == 10) ≡ false) (path_text row.path) (number_words (row.repeat ∷ row.numbers))
    (word_of_row levels row l first).no_feed (number_words_lack (row.repeat ∷ row.numbers) (numbers_small levels row l first)) in
    ap lines_of (append_assoc (node_line row) (10 ∷ []) (flat_map row_line rows))
    ∙ line_read (node_line row) (flat_map row_line rows) lacks
    ∙ ap (λ lines. node_line row ∷ lines) rest

-- ---- frames

joined_rows : List Form → List (List ℕ)
joined_rows rows = flat_map (λ (row : Form). replicate row.repeat row.numbers) rows

joined_with : (path frame : List ℕ) (rows : List Form) → joined_rows (with_frame path frame rows) ≡ frame ∷ joined_rows rows
unfolding joined_rows
joined_with path frame [] = refl
joined_with path frame (row ∷ rows) = elim (cases_Bool (bytes_eq frame row.numbers)) [
  | inl is ↦ rw is (ap (λ counts. frame ∷ replicate row.repeat counts ++ joined_rows rows) ((bytes_eq-Decides frame row.numbers).0 is))
  | inr isnt ↦ rw isnt refl
]

joined_longest : (path : List ℕ) (frames : List (List ℕ)) → joined_rows (longest_rows path frames) ≡ frames
unfolding joined_rows
joined_longest path [] = refl
joined_longest path (frame ∷ frames) =
    joined_with path frame (longest_rows path frames) ∙ ap (λ frames. frame ∷ frames) (joined_longest path frames)

-- a row of counts of the node at a path
record IsCountsAt (path : List ℕ) (row : Form) : Type 0 where
  path_is : row.path ≡ path
  says_is : row.says ≡ Counts

counts_with : (path frame : List ℕ) (rows : List Form) → All (IsCountsAt path) rows → All (IsCountsAt path) (with_frame path frame rows)
counts_with path frame [] h = All-cons (IsCountsAt path) (counts_form path 1 frame) [] (record { path_is = refl; says_is = refl }) h
counts_with path frame (row ∷ rows) h = elim (cases_Bool (bytes_eq frame row.numbers)) [
  | inl is ↦ rw is (All-cons (IsCountsAt path) (counts_form path (suc row.repeat) frame) rows (record { path_is = refl; says_is = refl }) (All-tail (IsCountsAt path) row rows h))
  | inr isnt ↦ rw isnt (All-cons (IsCountsAt path) (counts_form path 1 frame) (row ∷ rows) (record { path_is = refl; says_is = refl }) h)
]

counts_longest : (path : List ℕ) (frames : List (List ℕ)) → All (IsCountsAt path) (longest_rows path frames)
counts_longest path [] = All-nil (IsCountsAt path)
counts_longest path (frame ∷ frames) = counts_with path frame (longest_rows path frames) (counts_longest path frames)

-- what rows of counts mean has their frames
joined_meant : (levels : List Level) (path : List ℕ) (rows : List Form) → All (IsCountsAt path) rows → flat_map frames_of_row (map (row_in levels) rows) ≡ joined_rows rows
unfolding joined_rows
joined_meant levels path [] h = refl
joined_meant levels path (row ∷ rows) h =
    let says = (All-head (IsCountsAt path) row rows h).says_is in
    let frames : frames_of_row (row_in levels row) ≡ replicate row.repeat row.numbers =
    ap frames_in (said_row-each (ratio_at levels row.path) row.repeat row.says row.numbers says) ∙ frames_in-each row.repeat row.numbers in
    ap (λ front. front ++ flat_map frames_of_row (map (row_in levels) rows)) frames
    ∙ ap (λ rest. replicate row.repeat row.numbers ++ rest) (joined_meant levels path rows (All-tail (IsCountsAt path) row rows h))

meant_at : (levels : List Level) (path : List ℕ) (rows : List Form) → All (IsCountsAt path) rows → AtPath path (map (row_in levels) rows)
meant_at levels path rows h = All-map (λ (row : Row). row.path ≡ path) (row_in levels) rows
    (All-weaker (IsCountsAt path) (λ (row : Form). row.path ≡ path) (λ row h. h.path_is) rows h)

map_joined : {X Y Z : Type 0} (f : Y → Z) (g : X → List Y) (xs : List X) → map f (flat_map g xs) ≡ flat_map (λ x. map f (g x)) xs
map_joined f g [] = refl
map_joined f g (x ∷ xs) = map-append f (g x) (flat_map g xs) ∙ ap (λ ys. map f (g x) ++ ys) (map_joined f g xs)

writable_more : (levels : List Level) (n : ℕ) (rows : List Form) → All (IsWritable levels n) rows → All (IsWritable levels (suc n)) rows
writable_more levels n rows h = All-weaker (IsWritable levels n) (IsWritable levels (suc n))
    (λ row w. record { says = w.says; some = w.some; repeat = omega (arith, w.repeat); level = w.level; known = w.known; frame = w.frame }) rows h

writable_with : (levels : List Level) (level : Level) (path : List ℕ) (n : ℕ) (frame : List ℕ) (rows : List Form) → level_at levels path ≡ Some level
    → IsFrame level frame → All (IsWritable levels n) rows → All (IsWritable levels (suc n)) (with_frame path frame rows)
writable_with levels level path n frame [] is f h = All-cons (IsWritable levels (suc n)) (counts_form path 1 frame) []
    (record { says = refl; some = omega arith; repeat = omega arith; level = level; known = is; frame = f }) (All-nil (IsWritable levels (suc n)))
writable_with levels level path n frame (row ∷ rows) is f h =
    let first = All-head (IsWritable levels n) row rows h in
    elim (cases_Bool (bytes_eq frame row.numbers)) [
      | inl same ↦ rw same (All-cons (IsWritable levels (suc n)) (counts_form path (suc row.repeat) frame) rows
          (record { says = refl; some = omega arith; repeat = omega (arith, first.repeat); level = level; known = is; frame = f })
          (writable_more levels n rows (All-tail (IsWritable levels n) row rows h)))
      | inr isnt ↦ rw isnt (All-cons (IsWritable levels (suc n)) (counts_form path 1 frame) (row ∷ rows)
          (record { says = refl; some = omega arith; repeat = omega arith; level = level; known = is; frame = f })
          (writable_more levels n (row ∷ rows) h))
    ]

writable_longest : (levels : List Level) (level : Level) (path : List ℕ) (frames : List (List ℕ)) → level_at levels path ≡ Some level
    → All (IsFrame level) frames → All (IsWritable levels (length frames)) (longest_rows path frames)
writable_longest levels level path [] is h = All-nil (IsWritable levels 0)
writable_longest levels level path (frame ∷ frames) is h = writable_with levels level path (length frames) frame (longest_rows path frames) is
    (All-head (IsFrame level) frame frames h) (writable_longest levels level path frames is (All-tail (IsFrame level) frame frames h))

-- ---- a schedule

is_frame : (levels : List Level) (level : Level) (path : List ℕ) (row : Row) (n : ℕ) → level_at levels path ≡ Some level
    → row.path ≡ path → IsRowOf levels row → IsFrame level (map (λ flow. flow_count flow n) row.flows)
is_frame levels level path row n is at h =
    let len : len_at levels row.path ≡ level.len = ap (len_at levels) at ∙ len_is levels path level is in
    let most : All (λ (flow : Flow). flow_count flow n ≤ level.len) row.flows =
    subst (λ len. All (λ (flow : Flow). flow_count flow n ≤ len) row.flows) len (λ k d m. h.most k d m n) in
    record {
      number = length-map row.flows (λ flow. flow_count flow n) ∙ h.stores ∙ ap (stores_at levels) at ∙ stores_count levels path level is;
      most = All-map (λ count. count ≤ level.len) (λ (flow : Flow). flow_count flow n) row.flows most;
    }

frames_of_one : (levels : List Level) (level : Level) (path : List ℕ) (row : Row) → level_at levels path ≡ Some level
    → row.path ≡ path → IsRowOf levels row → All (IsFrame level) (frames_of_row row)
frames_of_one levels level path row is at h =
    All-map (IsFrame level) (λ n. map (λ flow. flow_count flow n) row.flows) (range_with_len 0 row.repeat)
    (All-from_get_or (λ n. IsFrame level (map (λ flow. flow_count flow n) row.flows)) (range_with_len 0 row.repeat) 0 (λ i l. is_frame levels level path row _ is at h))

frames_are : (levels : List Level) (level : Level) (path : List ℕ) (rows : List Row) → level_at levels path ≡ Some level
    → All (IsRowOf levels) rows → All (IsFrame level) (frames_of rows path)
unfolding frames_of
frames_are levels level path [] is h = All-nil (IsFrame level)
frames_are levels level path (row ∷ rows) is h =
    let first = All-head (IsRowOf levels) row rows h in
    let rest = frames_are levels level path rows is (All-tail (IsRowOf levels) row rows h) in
    elim (cases_Bool (same_path row.path path)) [
      | inl same ↦ rw same (All-append (IsFrame level) (frames_of_row row) (frames_of rows path)
          (frames_of_one levels level path row is (same_path-true row.path path same) first) rest)
      | inr isnt ↦ rw isnt rest
    ]

-- what is written of a node can be read
node_writable : (levels : List Level) (frames : List ℕ → List (List ℕ)) (path : List ℕ) → AreWritable levels frames → IsSome (level_at levels path)
    → All (IsWritable levels 999999999) (longest_rows path (frames path))
node_writable levels frames path fit some =
    let has = has_level (level_at levels path) some in
    let few = fit.few path some in
    All-weaker (IsWritable levels (length (frames path))) (IsWritable levels 999999999)
    (λ row w. record { says = w.says; some = w.some; repeat = omega (arith, w.repeat); level = w.level; known = w.known; frame = w.frame }) (longest_rows path (frames path))
    (writable_longest levels has.level path (frames path) has.is (fit.each path has.level has.is))

nodes_writable : (levels : List Level) (frames : List ℕ → List (List ℕ)) (nodes : List (List ℕ)) → AreWritable levels frames → All (λ path. IsSome (level_at levels path)) nodes
    → All (IsWritable levels 999999999) (flat_map (λ path. longest_rows path (frames path)) nodes)
nodes_writable levels frames [] fit known = All-nil (IsWritable levels 999999999)
nodes_writable levels frames (path ∷ nodes) fit known =
    All-append (IsWritable levels 999999999) (longest_rows path (frames path)) (flat_map (λ path. longest_rows path (frames path)) nodes)
    (node_writable levels frames path fit (All-head (λ path. IsSome (level_at levels path)) path nodes known))
    (nodes_writable levels frames nodes fit (All-tail (λ path. IsSome (level_at levels path)) path nodes known))

-- the frames of what is written
frames_written : (levels : List Level) (frames : List ℕ → List (List ℕ)) (path : List ℕ) → IsSome (level_at levels path)
    → frames_of (map (row_in levels) (rows_written levels frames)) path ≡ frames path
unfolding frames_of joined_rows
frames_written levels frames path some =
    let at = placed levels path some in
    let place = place_of levels path in
    let longest = λ (path : List ℕ). longest_rows path (frames path) in
    let written = λ (path : List ℕ). map (row_in levels) (longest path) in
    let written_at = λ (path : List ℕ). meant_at levels path (longest path) (counts_longest path (frames path)) in
    let here : get_or (nodes_in levels) place [] ≡ path = at.node [] in
    let rows : rows_at (map (row_in levels) (rows_written levels frames)) path ≡ written path =
    ap (λ rows. rows_at rows path) (map_joined (row_in levels) longest (nodes_in levels))
    ∙ rows_at-joined written (nodes_in levels) path
    ∙ only_at (λ node. rows_at (written node) path) (nodes_in levels) place [] at.inside
    (λ j l other. rows_at_none (get_or (nodes_in levels) j []) path (written (get_or (nodes_in levels) j [])) (written_at (get_or (nodes_in levels) j []))
    (λ same. other (sym (node_place levels j [] l) ∙ ap (place_of levels) same)))
    ∙ ap (λ node. rows_at (written node) path) here
    ∙ rows_at_all path (written path) (written_at path) in
    ap (flat_map frames_of_row) rows ∙ joined_meant levels path (longest path) (counts_longest path (frames path)) ∙ joined_longest path (frames path)

-- whatever counts of the levels are written
pub frames_read_back : (levels : List Level) (frames : List ℕ → List (List ℕ)) (text : List ℕ) → AreLevels levels → AreWritable levels frames → text ≡ text_with levels frames → length text ≤ most_bytes
    → (rows : List Row) × (schedule_of levels text ≡ Ok rows) × ((path : List ℕ) → IsSome (level_at levels path) → frames_of rows path ≡ frames path)
unfolding schedule_of text_with
frames_read_back levels frames text l fit e short =
    let written = rows_written levels frames in
    let meant = map (row_in levels) written in
    let writable = nodes_writable levels frames (nodes_in levels) fit (nodes_known levels) in
    let long : nat_lt most_bytes (length text) ≡ false = le-ltb most_bytes (length text) short in
    let read = ap (λ b. cond b (Err (TooLong (length text))) (lines_judged levels (lines_of text))) long
    ∙ ap (λ text. lines_judged levels (lines_of text)) e
    ∙ ap (lines_judged levels) (lines_of_rows levels written l writable)
    ∙ ap (λ read. read >>= λ rows. Ok (by_nodes levels rows)) (versions_judged_rows levels written l writable) in
    (by_nodes levels meant, read, λ path some. frames_of-by_nodes levels meant path some ∙ frames_written levels frames path some)

pub reads_back : (levels : List Level) (rows : List Row) (text : List ℕ) → AreLevels levels → All (IsRowOf levels) rows
    → text ≡ text_of (record { levels = levels; rows = rows }) → ReadsBack (record { levels = levels; rows = rows }) text
reads_back levels rows text l h e = λ short few.
    frames_read_back levels (frames_of rows) text l (record { each = λ path level is. frames_are levels level path rows is h; few = few }) e short
