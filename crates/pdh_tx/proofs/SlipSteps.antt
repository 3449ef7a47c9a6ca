-- What a store and what was read of it do to each other: a slip, a bit that arrives, a bit that is read.
use Rattle.std.proofs.Common.{◌≡◌, ℕ, zero, suc, ◌+◌, ◌-◌, ◌<◌, ◌≤◌, Bool, true, false, cond, List, [], ◌∷◌, ◌++◌, length, map, drop, replicate, refl, sym, ap, ◌∙◌, arith, length-append}
use Rattle.std.specs.List.{range_with_len}
use Rattle.std.proofs.lemmas.Bool.{lt-ltb, le-ltb}
use Rattle.std.proofs.lemmas.List.{length-drop}
use Rattle.pdh_line.specs.Edits.{half_store, Edit, edit_bits, edited}
use Rattle.pdh_tx.specs.Held.{IsPart, gone_with, put_with}
use Rattle.pdh_tx.proofs.Passing.{part_drop}
use Rattle.pdh_tx.proofs.TributarySteps.{part_push}

-- ---- counts

pub gone-append : (xs ys : List Edit) (read : ℕ) → gone_with (xs ++ ys) read ≡ gone_with ys (gone_with xs read)
gone-append [] ys read = refl
gone-append (x ∷ xs) ys read = gone-append xs ys (cond x.over (read + half_store) read)

pub put-append : (xs ys : List Edit) (made : ℕ) → put_with (xs ++ ys) made ≡ put_with ys (put_with xs made)
put-append [] ys made = refl
put-append (x ∷ xs) ys made = put-append xs ys (cond x.over made (made + half_store))

half-moved : (over : Bool) (read k : ℕ) → cond over (read + k + half_store) (read + k) ≡ cond over (read + half_store) read + k
half-moved true read k = omega arith
half-moved false read k = refl

half-added : (over : Bool) (made k : ℕ) → cond over (made + k) (made + k + half_store) ≡ cond over made (made + half_store) + k
half-added true made k = refl
half-added false made k = omega arith

pub gone-more : (edits : List Edit) (read k : ℕ) → gone_with edits (read + k) ≡ gone_with edits read + k
gone-more [] read k = refl
gone-more (e ∷ edits) read k = ap (gone_with edits) (half-moved e.over read k) ∙ gone-more edits (cond e.over (read + half_store) read) k

pub put-more : (edits : List Edit) (made k : ℕ) → put_with edits (made + k) ≡ put_with edits made + k
put-more [] made k = refl
put-more (e ∷ edits) made k = ap (put_with edits) (half-added e.over made k) ∙ put-more edits (cond e.over made (made + half_store)) k

-- ---- what a store holds

-- these bits are a tributary's from the one on that is read next, and those behind them are a line's from a bit on
pub record Holds (edits : List Edit) (line : ℕ → Bool) (store : List Bool) (made read : ℕ) : Type 0 where
  pub holds : IsPart (edited edits line) store read
  pub ahead : (k : ℕ) → edited edits line (read + length store + k) ≡ line (made + k)

-- the edit of an overflow behind so many reads
abbrev over_edit : ℕ → Edit
over_edit read = record { over = true; place = read }

abbrev under_edit : ℕ → Edit
under_edit read = record { over = false; place = read }

-- of two lists of edits the second changes what the first left
pub edited-append : (xs ys : List Edit) (bits : ℕ → Bool) (i : ℕ) → edited (xs ++ ys) bits i ≡ edited ys (edited xs bits) i
edited-append [] ys bits i = refl
edited-append (x ∷ xs) ys bits i = edited-append xs ys (edit_bits x bits) i

over-past : (bits : ℕ → Bool) (read i : ℕ) → edit_bits (over_edit read) bits (read + i) ≡ bits (read + i + half_store)
over-past bits read i = rw (le-ltb (read + i) read (omega arith)) refl

under-past : (bits : ℕ → Bool) (read i : ℕ) → edit_bits (under_edit read) bits (read + half_store + i) ≡ bits (read + i)
under-past bits read i =
    let back : read + half_store + i - half_store ≡ read + i = omega arith in
    rw (le-ltb (read + half_store + i) read (omega arith), le-ltb (read + half_store + i) (read + half_store) (omega arith)) (ap bits back)

under-ones : (bits : ℕ → Bool) (read i : ℕ) → i < half_store → edit_bits (under_edit read) bits (read + i) ≡ true
under-ones bits read i h = rw (le-ltb (read + i) read (omega arith), lt-ltb (read + i) (read + half_store) (omega arith)) refl

-- a list that is another line's part from a shifted place on
part-shift : (line other : ℕ → Bool) (store : List Bool) (a b : ℕ) → ((i : ℕ) → other (b + i) ≡ line (a + i)) → IsPart line store a → IsPart other store b
part-shift line other store a b same part = part ∙ go (length store) a b same
  where
    go : (n a b : ℕ) → ((i : ℕ) → other (b + i) ≡ line (a + i)) → map line (range_with_len a n) ≡ map other (range_with_len b n)
    go zero a b same = refl
    go (suc n) a b same =
        let here : line a ≡ other b = (let x : b + 0 ≡ b = omega arith in let y : a + 0 ≡ a = omega arith in sym (sym (ap other x) ∙ same 0 ∙ ap line y)) in
        let rest : map line (range_with_len (a + 1) n) ≡ map other (range_with_len (b + 1) n) =
        go n (a + 1) (b + 1) (λ i. let x : b + 1 + i ≡ b + suc i = omega arith in let y : a + suc i ≡ a + 1 + i = omega arith in ap other x ∙ same (suc i) ∙ ap line y) in
        ap (λ v. v ∷ map line (range_with_len (a + 1) n)) here ∙ ap (λ l. other b ∷ l) rest

-- an overflow: the oldest half of the store is dropped
pub holds-over : (edits : List Edit) (line : ℕ → Bool) (store : List Bool) (made read : ℕ) → half_store ≤ length store → Holds edits line store made read
    → Holds (edits ++ over_edit read ∷ []) line (drop half_store store) made read
holds-over edits line store made read full h =
    let now : (i : ℕ) → edited (edits ++ over_edit read ∷ []) line (read + i) ≡ edited edits line (read + half_store + i) =
    λ i. let e : read + i + half_store ≡ read + half_store + i = omega arith in
    edited-append edits (over_edit read ∷ []) line (read + i) ∙ over-past (edited edits line) read i ∙ ap (edited edits line) e in
    let left : length (drop half_store store) ≡ length store - half_store = length-drop half_store store in
    record {
      holds = part-shift (edited edits line) (edited (edits ++ over_edit read ∷ []) line) (drop half_store store) (read + half_store) read now
          (part_drop (edited edits line) store read half_store full h.holds);
      ahead = λ k.
          let a : read + length (drop half_store store) + k ≡ read + (length (drop half_store store) + k) = omega arith in
          let b : read + half_store + (length (drop half_store store) + k) ≡ read + length store + k = omega (arith, left, full) in
          ap (edited (edits ++ over_edit read ∷ []) line) a ∙ now (length (drop half_store store) + k) ∙ ap (edited edits line) b ∙ h.ahead k;
    }

ones-part : (line : ℕ → Bool) (a n : ℕ) → ((i : ℕ) → i < n → line (a + i) ≡ true) → replicate n true ≡ map line (range_with_len a n)
ones-part line a zero h = refl
ones-part line a (suc n) h =
    let here : line a ≡ true = (let x : a + 0 ≡ a = omega arith in sym (ap line x) ∙ h 0 (omega arith)) in
    let rest : replicate n true ≡ map line (range_with_len (a + 1) n) = ones-part line (a + 1) n (λ i l. let x : a + 1 + i ≡ a + suc i = omega arith in ap line x ∙ h (suc i) (omega arith)) in
    ap (λ l. true ∷ l) rest ∙ ap (λ v. v ∷ map line (range_with_len (a + 1) n)) (sym here)

-- an underflow: the empty store is filled with ones
pub holds-under : (edits : List Edit) (line : ℕ → Bool) (made read : ℕ) → Holds edits line [] made read
    → Holds (edits ++ under_edit read ∷ []) line (replicate half_store true) made read
holds-under edits line made read h =
    let now : (i : ℕ) → i < half_store → edited (edits ++ under_edit read ∷ []) line (read + i) ≡ true =
    λ i l. edited-append edits (under_edit read ∷ []) line (read + i) ∙ under-ones (edited edits line) read i l in
    record {
      holds = ones-part (edited (edits ++ under_edit read ∷ []) line) read half_store now;
      ahead = λ k.
          let a : read + 0 + k ≡ read + k = omega arith in
          edited-append edits (under_edit read ∷ []) line (read + half_store + k) ∙ under-past (edited edits line) read k ∙ ap (edited edits line) (sym a) ∙ h.ahead k;
    }

-- the line's next bit goes into the store
pub holds-push : (edits : List Edit) (line : ℕ → Bool) (store : List Bool) (made read : ℕ) (bit : Bool) → bit ≡ line made → Holds edits line store made read → Holds edits line (store ++ bit ∷ []) (suc made) read
holds-push edits line store made read bit is h =
    let long : length (store ++ bit ∷ []) ≡ suc (length store) = length-append store (bit ∷ []) ∙ omega arith in
    let a : read + length store + 0 ≡ read + length store = omega arith in
    let b : made + 0 ≡ made = omega arith in
    record {
      holds = part_push (edited edits line) store read (read + length store) bit h.holds refl (is ∙ sym (sym (ap (edited edits line) a) ∙ h.ahead 0 ∙ ap line b));
      ahead = λ k.
          let c : read + length (store ++ bit ∷ []) + k ≡ read + length store + suc k = omega (arith, long) in
          let d : made + suc k ≡ suc made + k = omega arith in
          ap (edited edits line) c ∙ h.ahead (suc k) ∙ ap line d;
    }

-- the oldest bit is read
pub holds-read : (edits : List Edit) (line : ℕ → Bool) (bit : Bool) (store : List Bool) (made read : ℕ) → Holds edits line (bit ∷ store) made read → (bit ≡ edited edits line read) × Holds edits line store made (read + 1)
holds-read edits line bit store made read h = (
  first (bit ∷ store) h.holds refl,
  record {
    holds = part_drop (edited edits line) (bit ∷ store) read 1 (omega arith) h.holds;
    ahead = λ k. (let e : read + 1 + length store + k ≡ read + length (bit ∷ store) + k = omega arith in ap (edited edits line) e) ∙ h.ahead k;
  },
)
  where
    first : (bits : List Bool) → IsPart (edited edits line) bits read → bits ≡ bit ∷ store → bit ≡ edited edits line read
    first bits part is = heads bit (edited edits line read) store (map (edited edits line) (range_with_len (read + 1) (length store))) (sym is ∙ part ∙ ap (λ l. map (edited edits line) (range_with_len read (length l))) is)
      where
        heads : (x y : Bool) (xs ys : List Bool) → x ∷ xs ≡ y ∷ ys → x ≡ y
        heads x y xs ys h = cc
