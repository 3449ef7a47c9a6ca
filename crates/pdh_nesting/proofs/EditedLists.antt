-- The edits of a list, place by place: where each edit fits the list that those before it left.
use Rattle.std.proofs.Common.{◌≡◌, ℕ, ◌+◌, ◌-◌, ◌≤◌, Bool, true, false, cond, ltb, List, [], ◌∷◌, ◌++◌, length, get_or, take, drop, replicate, slice_index_or, refl, sym, ap, ◌∙◌, subst, inl, inr, arith, length-append}
use Rattle.std.proofs.lemmas.Bool.{cases_lt, lt-ltb, le-ltb}
use Rattle.std.proofs.lemmas.List.{length-take-le, length-drop, length-replicate, get_or-append_right, get_or_append_left, get_or-take, get_or-drop, get_or-replicate}
use Rattle.pdh_line.specs.Edits.{half_store, Edit, edit_bits, edited, edit_list, edited_list}

-- how long a list of so many bits is with edits
abbrev pub next_len : Edit → ℕ → ℕ
next_len edit len = cond edit.over (len - half_store) (len + half_store)

abbrev pub edited_len : List Edit → ℕ → ℕ
edited_len [] len = len
edited_len (edit ∷ edits) len = edited_len edits (next_len edit len)

-- an overflow takes out bits that are there, and an underflow stands behind some of them or none
abbrev pub Fits : List Edit → ℕ → Type 0
Fits [] len = Unit {0}
Fits (edit ∷ edits) len = (cond edit.over (edit.place + half_store) edit.place ≤ len) × Fits edits (next_len edit len)

pub fits-append : (xs ys : List Edit) (len : ℕ) → Fits xs len → Fits ys (edited_len xs len) → Fits (xs ++ ys) len
fits-append [] ys len fx fy = fy
fits-append (x ∷ xs) ys len fx fy = (fx.0, fits-append xs ys (next_len x len) fx.1 fy)

pub edited_len-append : (xs ys : List Edit) (len : ℕ) → edited_len (xs ++ ys) len ≡ edited_len ys (edited_len xs len)
edited_len-append [] ys len = refl
edited_len-append (x ∷ xs) ys len = edited_len-append xs ys (next_len x len)

-- ---- one edit

abbrev bit_at : List Bool → ℕ → Bool
bit_at bits i = slice_index_or bits i false

over-list : (place : ℕ) (bits : List Bool) → place + half_store ≤ length bits → (length (take place bits ++ drop (place + half_store) bits) ≡ length bits - half_store)
    × ((i : ℕ) → bit_at (take place bits ++ drop (place + half_store) bits) i ≡ cond (ltb i place) (bit_at bits i) (bit_at bits (i + half_store)))
over-list place bits room = (
  length-append first rest ∙ omega (arith, first_len, length-drop (place + half_store) bits),
  λ i. elim (cases_lt i place) [
    | inl below ↦ get_or_append_left first rest false i (omega (arith, first_len)) ∙ get_or-take place bits i false below
        ∙ ap (λ b. cond b (bit_at bits i) (bit_at bits (i + half_store))) (sym (lt-ltb i place below))
    | inr behind ↦
        let at : place + half_store + (i - place) ≡ i + half_store = omega arith in
        get_or-append_right first rest place i false first_len (omega arith) ∙ get_or-drop (place + half_store) bits (i - place) false ∙ ap (bit_at bits) at
        ∙ ap (λ b. cond b (bit_at bits i) (bit_at bits (i + half_store))) (sym (le-ltb i place (omega arith)))
  ],
)
  where
    first : List Bool
    first = take place bits

    rest : List Bool
    rest = drop (place + half_store) bits

    first_len : length first ≡ place
    first_len = length-take-le place bits (omega (arith, room))

under-list : (place : ℕ) (bits : List Bool) → place ≤ length bits → (length (take place bits ++ (replicate half_store true ++ drop place bits)) ≡ length bits + half_store)
    × ((i : ℕ) → bit_at (take place bits ++ (replicate half_store true ++ drop place bits)) i ≡ cond (ltb i place) (bit_at bits i) (cond (ltb i (place + half_store)) true (bit_at bits (i - half_store))))
under-list place bits room = (
  length-append first (ones ++ rest) ∙ omega (arith, first_len, length-append ones rest, ones_len, length-drop place bits),
  λ i. elim (cases_lt i place) [
    | inl below ↦ get_or_append_left first (ones ++ rest) false i (omega (arith, first_len)) ∙ get_or-take place bits i false below
        ∙ ap (λ b. cond b (bit_at bits i) (cond (ltb i (place + half_store)) true (bit_at bits (i - half_store)))) (sym (lt-ltb i place below))
    | inr behind ↦ get_or-append_right first (ones ++ rest) place i false first_len (omega arith)
        ∙ later i (omega arith) ∙ ap (λ b. cond b (bit_at bits i) (cond (ltb i (place + half_store)) true (bit_at bits (i - half_store)))) (sym (le-ltb i place (omega arith)))
  ],
)
  where
    first : List Bool
    first = take place bits

    ones : List Bool
    ones = replicate half_store true

    rest : List Bool
    rest = drop place bits

    first_len : length first ≡ place
    first_len = length-take-le place bits room

    ones_len : length ones ≡ half_store
    ones_len = length-replicate half_store true

    later : (i : ℕ) → place ≤ i → get_or (ones ++ rest) (i - place) false ≡ cond (ltb i (place + half_store)) true (bit_at bits (i - half_store))
    later i behind =
        elim (cases_lt i (place + half_store)) [
          | inl inside ↦ get_or_append_left ones rest false (i - place) (omega (arith, ones_len)) ∙ get_or-replicate half_store (i - place) true false (omega arith)
              ∙ ap (λ b. cond b true (bit_at bits (i - half_store))) (sym (lt-ltb i (place + half_store) inside))
          | inr past ↦
              let at : place + (i - place - half_store) ≡ i - half_store = omega arith in
              get_or-append_right ones rest half_store (i - place) false ones_len (omega arith) ∙ get_or-drop place bits (i - place - half_store) false ∙ ap (bit_at bits) at
              ∙ ap (λ b. cond b true (bit_at bits (i - half_store))) (sym (le-ltb i (place + half_store) (omega arith)))
        ]

-- the edited list has the edited bits, and that length
pub record IsEdited (edits : List Edit) (bits : List Bool) : Type 0 where
  pub len : length (edited_list edits bits) ≡ edited_len edits (length bits)
  pub each : (i : ℕ) → slice_index_or (edited_list edits bits) i false ≡ edited edits (λ i. slice_index_or bits i false) i

one_edit : (edit : Edit) (bits : List Bool) → cond edit.over (edit.place + half_store) edit.place ≤ length bits
    → (length (edit_list edit bits) ≡ next_len edit (length bits)) × ((i : ℕ) → bit_at (edit_list edit bits) i ≡ edit_bits edit (bit_at bits) i)
one_edit edit bits room = go edit.over room
  where
    go : (b : Bool) → cond b (edit.place + half_store) edit.place ≤ length bits
        → (length (take edit.place bits ++ cond b (drop (edit.place + half_store) bits) (replicate half_store true ++ drop edit.place bits)) ≡ cond b (length bits - half_store) (length bits + half_store))
        × ((i : ℕ) → bit_at (take edit.place bits ++ cond b (drop (edit.place + half_store) bits) (replicate half_store true ++ drop edit.place bits)) i
        ≡ cond (ltb i edit.place) (bit_at bits i) (cond b (bit_at bits (i + half_store)) (cond (ltb i (edit.place + half_store)) true (bit_at bits (i - half_store)))))
    go true room = over-list edit.place bits room
    go false room = under-list edit.place bits room

-- edits of bits that are the same leave the same
pub edited-same : (edits : List Edit) (f g : ℕ → Bool) → ((i : ℕ) → f i ≡ g i) → (i : ℕ) → edited edits f i ≡ edited edits g i
edited-same [] f g same i = same i
edited-same (edit ∷ edits) f g same i = edited-same edits (edit_bits edit f) (edit_bits edit g) (one edit.over) i
  where
    one : (b : Bool) (i : ℕ) → cond (ltb i edit.place) (f i) (cond b (f (i + half_store)) (cond (ltb i (edit.place + half_store)) true (f (i - half_store))))
        ≡ cond (ltb i edit.place) (g i) (cond b (g (i + half_store)) (cond (ltb i (edit.place + half_store)) true (g (i - half_store))))
    one b i =
        ap (λ v. cond (ltb i edit.place) v (cond b (f (i + half_store)) (cond (ltb i (edit.place + half_store)) true (f (i - half_store))))) (same i)
        ∙ ap (λ v. cond (ltb i edit.place) (g i) (cond b v (cond (ltb i (edit.place + half_store)) true (f (i - half_store))))) (same (i + half_store))
        ∙ ap (λ v. cond (ltb i edit.place) (g i) (cond b (g (i + half_store)) (cond (ltb i (edit.place + half_store)) true v))) (same (i - half_store))

pub edited-list : (edits : List Edit) (bits : List Bool) → Fits edits (length bits) → IsEdited edits bits
edited-list [] bits fits = record { len = refl; each = λ i. refl }
edited-list (edit ∷ edits) bits fits =
    let here = one_edit edit bits fits.0 in
    let rest = edited-list edits (edit_list edit bits) (subst (Fits edits) (sym here.0) fits.1) in
    record {
      len = rest.len ∙ ap (edited_len edits) here.0;
      each = λ i. rest.each i ∙ edited-same edits (bit_at (edit_list edit bits)) (edit_bits edit (bit_at bits)) here.1 i;
    }
