-- Where a code is answered: by the words at the end of the bits, by what repeats in them, and by search among the codes.
use Rattle.std.proofs.Common.{◌≡◌, ℕ, zero, suc, ◌+◌, ◌-◌, ◌*◌, ◌<◌, ◌≤◌, min, Bool, true, false, cond, not, ◌&&◌, ◌↔◌, ◌⊎◌, Option, Some, None, List, [], ◌∷◌, ◌++◌, length, reverse, replicate, take, drop, get_or, append_assoc, refl, sym, ◌∙◌, ap, subst, inl, inr, arith, length-append, length-take, length-drop}
use Rattle.std.proofs.lemmas.List.{reverse-append, reverse-reverse, length-reverse, length-take-le, get_or-append_right, get_or-replicate, take-append-le, take_at, take-append-drop}
use Rattle.std.proofs.lemmas.Bool.{cases_lt, cases_Bool, true≢false}
use Rattle.std.proofs.lemmas.Bool.Decides.{Decides-and, Decides-not}
use Rattle.std.proofs.lemmas.Slice.Eq.{ends_is}
use Rattle.std.specs.Cmp.{booleans_Decides}
use Rattle.std.specs.Bool.{beq, Decides}
use Rattle.std.specs.List.{repeat, ends_with, find, range_with_len}
use Rattle.pdh_bits.specs.Bits.{number_of}
use Rattle.pdh_cbit.specs.Feac.{word_of, ten_words, word_earlier, answers, answer_of, EndsInTen, AnswersCode}
use Rattle.pdh_cbit.specs.Channel.{Receiving, HasReceived, TellsCode, latest_first, repeated_in}
use Rattle.pdh_cbit.proofs.Words.{reversed_word, length-reversed_word, number_of-reversed_word, word_from_number, same_code}
use Rattle.pdh_cbit.proofs.Repeats.{repeated_in-repeat, repeat_from_repeated}
use Rattle.pdh_cbit.proofs.Received.{length-latest_first, latest_first-append}

-- ten and eleven words, reversed and back
reverse-ten_words : (code : ℕ) → reverse (ten_words code) ≡ repeat 10 (reversed_word code)
unfolding ten_words reversed_word word_of
reverse-ten_words code = refl

reverse-ten : (code : ℕ) → reverse (repeat 10 (reversed_word code)) ≡ ten_words code
unfolding ten_words reversed_word word_of
reverse-ten code = refl

reverse-eleven : (code : ℕ) → reverse (repeat 11 (reversed_word code)) ≡ ten_words code ++ word_of code
unfolding ten_words reversed_word word_of
reverse-eleven code = refl

length-ten_words : (code : ℕ) → length (ten_words code) ≡ 160
unfolding ten_words word_of
length-ten_words code = refl

length-word_of : (code : ℕ) → length (word_of code) ≡ 16
unfolding word_of
length-word_of code = refl

length-ten : (code : ℕ) → length (repeat 10 (reversed_word code)) ≡ 160
unfolding reversed_word word_of
length-ten code = refl

length-eleven : (code : ℕ) → length (repeat 11 (reversed_word code)) ≡ 176
unfolding reversed_word word_of
length-eleven code = refl

-- the first bit of the oldest word is a one
ten_begins : (code : ℕ) (rest : List Bool) → get_or (repeat 10 (reversed_word code) ++ rest) 159 false ≡ true
unfolding reversed_word word_of
ten_begins code rest = refl

eleven_begins : (code : ℕ) (rest : List Bool) → get_or (repeat 11 (reversed_word code) ++ rest) 175 false ≡ true
unfolding reversed_word word_of
eleven_begins code rest = refl

take-ten : (code : ℕ) (rest : List Bool) → take 16 (repeat 10 (reversed_word code) ++ rest) ≡ reversed_word code
unfolding reversed_word word_of
take-ten code rest = refl

-- what stands for the bits before the first is zeros
zeros_before : (bits : List Bool) (n : ℕ) → length bits ≤ n → n < length bits + 16 → get_or (latest_first bits) n false ≡ false
unfolding latest_first
zeros_before bits n past within =
    get_or-append_right (reverse bits) (replicate 16 false) (length bits) n false (length-reverse bits) past
    ∙ get_or-replicate 16 (n - length bits) false false (omega arith)

-- what stands first among the latest bits, and whose oldest bit is a one, has come
has_come : (front rest bits : List Bool) (n : ℕ) → length front ≡ suc n → get_or (front ++ rest) n false ≡ true → latest_first bits ≡ front ++ rest → n < length bits
has_come front rest bits n long one is =
    let longer : length (latest_first bits) ≡ length front + length rest = ap length is ∙ length-append front rest in
    let within : n < length bits + 16 = omega (arith, longer, length-latest_first bits) in
    elim (cases_lt n (length bits)) [
      | inl less ↦ less
      | inr past ↦ absurd (true≢false (sym one ∙ ap (λ (l : List Bool). get_or l n false) (sym is) ∙ zeros_before bits n past within))
    ]

-- then it is the end of the bits that came
is_end : (front rest bits : List Bool) (n : ℕ) → length front ≡ suc n → get_or (front ++ rest) n false ≡ true → latest_first bits ≡ front ++ rest → bits ≡ reverse (drop (suc n) (reverse bits)) ++ reverse front
unfolding latest_first
is_end front rest bits n long one is =
    let come : n < length bits = has_come front rest bits n long one is in
    let reversed : List Bool = reverse bits in
    let within : suc n ≤ length reversed = omega (arith, length-reverse bits) in
    let begins : take (suc n) reversed ≡ front =
    sym (take-append-le (suc n) reversed (replicate 16 false) within) ∙ ap (λ (l : List Bool). take (suc n) l) is ∙ take_at front rest (suc n) long in
    let split : reversed ≡ front ++ drop (suc n) reversed =
    sym (take-append-drop (suc n) reversed) ∙ ap (λ (l : List Bool). l ++ drop (suc n) reversed) begins in
    sym (reverse-reverse bits) ∙ ap (λ (l : List Bool). reverse l) split ∙ reverse-append front (drop (suc n) reversed)

-- ten words at the latest bits
ten_end : (bits rest : List Bool) (code : ℕ) → latest_first bits ≡ repeat 10 (reversed_word code) ++ rest → EndsInTen bits code
ten_end bits rest code is =
    let earlier : List Bool = reverse (drop 160 (reverse bits)) in
    let ends : bits ≡ earlier ++ reverse (repeat 10 (reversed_word code)) =
    is_end (repeat 10 (reversed_word code)) rest bits 159 (length-ten code) (ten_begins code rest) is in
    (earlier, ends ∙ ap (λ (l : List Bool). earlier ++ l) (reverse-ten code))

-- eleven words at the latest bits: one word earlier they were ten
eleven_end : (bits rest : List Bool) (code : ℕ) → latest_first bits ≡ repeat 11 (reversed_word code) ++ rest → EndsInTen (word_earlier bits) code
eleven_end bits rest code is =
    let earlier : List Bool = reverse (drop 176 (reverse bits)) in
    let ends : bits ≡ earlier ++ reverse (repeat 11 (reversed_word code)) =
    is_end (repeat 11 (reversed_word code)) rest bits 175 (length-eleven code) (eleven_begins code rest) is in
    let last : bits ≡ (earlier ++ ten_words code) ++ word_of code =
    ends ∙ ap (λ (l : List Bool). earlier ++ l) (reverse-eleven code) ∙ sym (append_assoc earlier (ten_words code) (word_of code)) in
    let long : length bits ≡ length (earlier ++ ten_words code) + length (word_of code) =
    ap length last ∙ length-append (earlier ++ ten_words code) (word_of code) in
    let before : length (earlier ++ ten_words code) ≡ length bits - 16 = omega (arith, long, length-word_of code) in
    (earlier, ap (λ (l : List Bool). take (length bits - 16) l) last ∙ take_at (earlier ++ ten_words code) (word_of code) (length bits - 16) before)

-- bits that end in ten words
latest_first-ten : (bits : List Bool) (code : ℕ) (ends : EndsInTen bits code) → latest_first bits ≡ repeat 10 (reversed_word code) ++ latest_first ends.0
latest_first-ten bits code ends =
    ap latest_first ends.1
    ∙ latest_first-append ends.0 (ten_words code)
    ∙ ap (λ (l : List Bool). l ++ latest_first ends.0) (reverse-ten_words code)

-- the latest bits, by what repeats: a word first, after nine more of it, and not after ten more
pub record Repeats (latest : List Bool) (code : ℕ) : Type 0 where
  pub word : take 16 latest ≡ reversed_word code
  pub ten : 144 ≤ repeated_in latest
  pub anew : repeated_in latest < 160

-- the latest bits begin with their first sixteen
begins : (latest : List Bool) (code : ℕ) → take 16 latest ≡ reversed_word code → reversed_word code ++ drop 16 latest ≡ latest
begins latest code word = ap (λ (l : List Bool). l ++ drop 16 latest) (sym word) ∙ take-append-drop 16 latest

-- so many more of the word at the latest bits
words_from_count : (k : ℕ) (latest : List Bool) (code : ℕ) → take 16 latest ≡ reversed_word code → 16 * k ≤ repeated_in latest → (rest : List Bool) × (latest ≡ repeat (suc k) (reversed_word code) ++ rest)
words_from_count k latest code word enough =
    let first : reversed_word code ++ drop 16 latest ≡ latest = begins latest code word in
    let found : (rest : List Bool) × (reversed_word code ++ drop 16 latest ≡ repeat (suc k) (reversed_word code) ++ rest) =
    repeat_from_repeated k (reversed_word code) (drop 16 latest) (length-reversed_word code) (omega (arith, ap repeated_in first)) in
    (found.0, sym first ∙ found.1)

pub Repeats-from_answer : (bits : List Bool) (code : ℕ) → AnswersCode bits code → Repeats (latest_first bits) code
Repeats-from_answer bits code answered =
    let rest : List Bool = latest_first answered.ten.0 in
    let is : latest_first bits ≡ repeat 10 (reversed_word code) ++ rest = latest_first-ten bits code answered.ten in
    let word : take 16 (latest_first bits) ≡ reversed_word code = ap (λ (l : List Bool). take 16 l) is ∙ take-ten code rest in
    let nine : 16 * 9 ≤ repeated_in (repeat 10 (reversed_word code) ++ rest) = repeated_in-repeat 9 (reversed_word code) rest (length-reversed_word code) in
    record {
      word = word;
      ten = omega (arith, nine, ap repeated_in is);
      anew = elim (cases_lt (repeated_in (latest_first bits)) 160) [
        | inl less ↦ less
        | inr more ↦
            let eleven : (left : List Bool) × (latest_first bits ≡ repeat 11 (reversed_word code) ++ left) = words_from_count 10 (latest_first bits) code word (omega arith) in
            absurd (answered.anew (eleven_end bits eleven.0 code eleven.1))
      ];
    }

-- ten words one word before a word are eleven
counts_eleven : (bits : List Bool) (code : ℕ) → take 16 (latest_first bits) ≡ reversed_word code → 16 ≤ length bits → EndsInTen (word_earlier bits) code → 160 ≤ repeated_in (latest_first bits)
counts_eleven bits code word enough ends =
    let earlier : List Bool = word_earlier bits in
    let last : List Bool = drop (length bits - 16) bits in
    let long : length (reverse last) ≡ 16 = omega (arith, length-reverse last, length-drop (length bits - 16) bits) in
    let split : latest_first bits ≡ reverse last ++ latest_first earlier =
    ap latest_first (sym (take-append-drop (length bits - 16) bits)) ∙ latest_first-append earlier last in
    let same : reverse last ≡ reversed_word code = sym (take_at (reverse last) (latest_first earlier) 16 long) ∙ ap (λ (l : List Bool). take 16 l) (sym split) ∙ word in
    let rest : List Bool = latest_first ends.0 in
    let ten : latest_first earlier ≡ repeat 10 (reversed_word code) ++ rest = latest_first-ten earlier code ends in
    let eleven : latest_first bits ≡ repeat 11 (reversed_word code) ++ rest =
    split
    ∙ ap (λ (l : List Bool). l ++ latest_first earlier) same
    ∙ ap (λ (l : List Bool). reversed_word code ++ l) ten
    ∙ sym (append_assoc (reversed_word code) (repeat 10 (reversed_word code)) rest) in
    let count : 16 * 10 ≤ repeated_in (repeat 11 (reversed_word code) ++ rest) = repeated_in-repeat 10 (reversed_word code) rest (length-reversed_word code) in
    omega (arith, count, ap repeated_in eleven)

pub answer_from_Repeats : (bits : List Bool) (code : ℕ) → code < 64 → Repeats (latest_first bits) code → AnswersCode bits code
answer_from_Repeats bits code fits repeats =
    let found : (rest : List Bool) × (latest_first bits ≡ repeat 10 (reversed_word code) ++ rest) = words_from_count 9 (latest_first bits) code repeats.word (omega (arith, repeats.ten)) in
    let ends : EndsInTen bits code = ten_end bits found.0 code found.1 in
    let long : length bits ≡ length ends.0 + length (ten_words code) = ap length ends.1 ∙ length-append ends.0 (ten_words code) in
    record {
      fits = fits;
      ten = ends;
      anew = λ before. absurd (omega (arith, repeats.anew, counts_eleven bits code repeats.word (omega (arith, long, length-ten_words code)) before));
    }

-- what a receiver keeps tells a code exactly where the bits that came answer it
pub tells_exactly : (r : Receiving) (bits : List Bool) (code : ℕ) → HasReceived r bits → TellsCode r.register r.repeated code ↔ AnswersCode bits code
tells_exactly r bits code received =
    let latest : List Bool = latest_first bits in
    let long : length (take 16 latest) ≡ 16 = length-take-le 16 latest (omega (arith, length-latest_first bits)) in (
      λ (tells : TellsCode r.register r.repeated code).
          answer_from_Repeats bits code tells.fits (record {
            word = word_from_number (take 16 latest) code long (sym received.register ∙ tells.word);
            ten = omega (arith, tells.ten, received.repeated);
            anew = omega (arith, tells.anew, received.repeated);
          }),
      λ (answered : AnswersCode bits code).
          let repeats : Repeats latest code = Repeats-from_answer bits code answered in
          record {
            fits = answered.fits;
            word = received.register ∙ ap (λ (l : List Bool). number_of (reverse l)) repeats.word ∙ number_of-reversed_word code;
            ten = omega (arith, repeats.ten, received.repeated);
            anew = omega (arith, repeats.anew, received.repeated);
          },
    )

-- one code at most is answered
one_code : (bits : List Bool) (c d : ℕ) → AnswersCode bits c → AnswersCode bits d → c ≡ d
one_code bits c d first second =
    let same : reversed_word c ≡ reversed_word d = sym (Repeats-from_answer bits c first).word ∙ (Repeats-from_answer bits d second).word in
    same_code c d first.fits second.fits (sym (number_of-reversed_word c) ∙ ap (λ (l : List Bool). number_of (reverse l)) same ∙ number_of-reversed_word d)

-- what a test for ten words says
ends_with_is : (bits : List Bool) (code : ℕ) → Decides (ends_with beq bits (ten_words code)) (EndsInTen bits code)
ends_with_is bits code =
    let is : (ends_with beq bits (ten_words code) ≡ true → bits ≡ take (length bits - length (ten_words code)) bits ++ ten_words code) × ((front : List Bool) → bits ≡ front ++ ten_words code → ends_with beq bits (ten_words code) ≡ true) =
    ends_is booleans_Decides bits (ten_words code) (ends_with beq bits (ten_words code)) refl in
    (λ passes. (take (length bits - length (ten_words code)) bits, is.0 passes), λ (ends : EndsInTen bits code). is.1 ends.0 ends.1)

answers_is : (bits : List Bool) (code : ℕ) → Decides (answers bits code) (EndsInTen bits code × ¬ EndsInTen (word_earlier bits) code)
unfolding answers
answers_is bits code =
    Decides-and (ends_with beq bits (ten_words code)) (not (ends_with beq (word_earlier bits) (ten_words code)))
    (ends_with_is bits code)
    (Decides-not (ends_with beq (word_earlier bits) (ten_words code)) (ends_with_is (word_earlier bits) code))

-- what a search among numbers finds passes, and is among them
find_passes : (test : ℕ → Bool) (from count c : ℕ) → find test (range_with_len from count) ≡ Some c → (test c ≡ true) × (c < from + count)
find_passes test from zero c found = cc
find_passes test from (suc count) c found =
    elim (cases_Bool (test from)) [
      | inl passes ↦
          let here : from ≡ c = cc in (ap test (sym here) ∙ passes, omega arith)
      | inr fails ↦
          let later : find test (range_with_len (from + 1) count) ≡ Some c = ap (λ (b : Bool). cond b (Some from) (find test (range_with_len (from + 1) count))) (sym fails) ∙ found in
          let below : (test c ≡ true) × (c < from + 1 + count) = find_passes test (from + 1) count c later in
          (below.0, omega (arith, below.1))
    ]

-- a number that alone passes is found
find_only : (test : ℕ → Bool) (from count c : ℕ) → from ≤ c → c < from + count → test c ≡ true → ((d : ℕ) → d < from + count → test d ≡ true → d ≡ c) → find test (range_with_len from count) ≡ Some c
find_only test from zero c low high passes only = absurd (omega arith)
find_only test from (suc count) c low high passes only =
    elim (cases_Bool (test from)) [
      | inl first ↦
          let same : from ≡ c = only from (omega arith) first in
          ap (λ (b : Bool). cond b (Some from) (find test (range_with_len (from + 1) count))) first ∙ ap Some same
      | inr fails ↦
          let other : from ≡ c → ⊥ = λ (same : from ≡ c). true≢false (sym passes ∙ ap test (sym same) ∙ fails) in
          ap (λ (b : Bool). cond b (Some from) (find test (range_with_len (from + 1) count))) fails
          ∙ find_only test (from + 1) count c (omega (arith, other)) (omega arith) passes (λ d within. only d (omega arith))
    ]

-- the code that is answered is the one that the definition by the bits says
pub answer_of-exactly : (bits : List Bool) (code : ℕ) → (answer_of bits ≡ Some code) ↔ AnswersCode bits code
unfolding answer_of
answer_of-exactly bits code = (
  λ (found : answer_of bits ≡ Some code).
      let passes : (answers bits code ≡ true) × (code < 0 + 64) = find_passes (answers bits) 0 64 code found in
      let is : EndsInTen bits code × ¬ EndsInTen (word_earlier bits) code = (answers_is bits code).0 passes.0 in
      record { fits = omega (arith, passes.1); ten = is.0; anew = is.1 },
  λ (answered : AnswersCode bits code).
      find_only (answers bits) 0 64 code (omega arith) (omega (arith, answered.fits)) ((answers_is bits code).1 (answered.ten, answered.anew))
      (λ d within passes.
      let is : EndsInTen bits d × ¬ EndsInTen (word_earlier bits) d = (answers_is bits d).0 passes in
      one_code bits d code (record { fits = omega (arith, within); ten = is.0; anew = is.1 }) answered),
)

-- two answers with the same meaning are the same
same_option : (o p : Option ℕ) → ((code : ℕ) → (o ≡ Some code) ↔ (p ≡ Some code)) → o ≡ p
same_option None None same = refl
same_option None (Some d) same = (same d).1 refl
same_option (Some c) None same = sym ((same c).0 refl)
same_option (Some c) (Some d) same = sym ((same c).0 refl)

-- what tells exactly the codes of a receiver's bits is the answer
pub answer_is : (r : Receiving) (bits : List Bool) (answer : Option ℕ) → HasReceived r bits → ((code : ℕ) → (answer ≡ Some code) ↔ TellsCode r.register r.repeated code) → answer ≡ answer_of bits
answer_is r bits answer received tells =
    same_option answer (answer_of bits) (λ code.
    let told : TellsCode r.register r.repeated code ↔ AnswersCode bits code = tells_exactly r bits code received in
    let defined : (answer_of bits ≡ Some code) ↔ AnswersCode bits code = answer_of-exactly bits code in
    (λ (is : answer ≡ Some code). defined.1 (told.0 ((tells code).0 is)), λ (is : answer_of bits ≡ Some code). (tells code).1 (told.1 (defined.0 is))))
