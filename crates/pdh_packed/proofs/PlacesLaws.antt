-- What stands at a place of bits that were made of others.
use Rattle.std.proofs.Common.{◌≡◌, ℕ, ◌+◌, ◌-◌, ◌<◌, ◌≤◌, ◌⊎◌, min, Bool, true, false, not, ◌&&◌, ◌||◌, List, [], ◌∷◌, ◌++◌, length, map, take, drop, get_or, replicate, refl, sym, ◌∙◌, ap, subst, inl, inr, arith, length-append, length-take, length-drop}
use Rattle.std.proofs.lemmas.Bool.{cases_lt}
use Rattle.std.specs.List.{zip}
use Rattle.std.proofs.lemmas.List.{length-map, length-replicate, get_or-map, get_or-replicate, get_or_past, ext_get_or, get_or_append_left, get_or-append_right, get_or-take, get_or-drop}
use Rattle.std.proofs.lemmas.Slice.Zip.{length-zip, get_or-zip}
use Rattle.pdh_packed.specs.Places.{both, either, differs, differing, between_zeros, overwritten}

pub length-both : (xs ys : List Bool) → length (both xs ys) ≡ min (length xs) (length ys)
length-both xs ys = length-map (zip xs ys) _ ∙ length-zip xs ys

pub length-differing : (xs ys : List Bool) → length (differing xs ys) ≡ min (length xs) (length ys)
length-differing xs ys = length-map (zip xs ys) _ ∙ length-zip xs ys

pub get_or-both : (xs ys : List Bool) (i : ℕ) → i < length xs → i < length ys → get_or (both xs ys) i false ≡ (get_or xs i false && get_or ys i false)
get_or-both xs ys i h h' =
    let within : i < length (zip xs ys) = omega (arith, h, h', length-zip xs ys) in
    get_or-map (λ (pair : Bool × Bool). pair.0 && pair.1) (zip xs ys) i (false, false) false within
    ∙ ap (λ (pair : Bool × Bool). pair.0 && pair.1) (get_or-zip xs ys i (false, false) h h')

pub get_or-differing : (xs ys : List Bool) (i : ℕ) → i < length xs → i < length ys → get_or (differing xs ys) i false ≡ differs (get_or xs i false) (get_or ys i false)
get_or-differing xs ys i h h' =
    let within : i < length (zip xs ys) = omega (arith, h, h', length-zip xs ys) in
    get_or-map (λ (pair : Bool × Bool). differs pair.0 pair.1) (zip xs ys) i (false, false) false within
    ∙ ap (λ (pair : Bool × Bool). differs pair.0 pair.1) (get_or-zip xs ys i (false, false) h h')

pub length-either : (xs ys : List Bool) → length (either xs ys) ≡ min (length xs) (length ys)
length-either xs ys = length-map (zip xs ys) _ ∙ length-zip xs ys

pub get_or-either : (xs ys : List Bool) (i : ℕ) → i < length xs → i < length ys → get_or (either xs ys) i false ≡ (get_or xs i false || get_or ys i false)
get_or-either xs ys i h h' =
    let within : i < length (zip xs ys) = omega (arith, h, h', length-zip xs ys) in
    get_or-map (λ (pair : Bool × Bool). pair.0 || pair.1) (zip xs ys) i (false, false) false within
    ∙ ap (λ (pair : Bool × Bool). pair.0 || pair.1) (get_or-zip xs ys i (false, false) h h')

-- two lists of two parts each
pub both-append : (xs ys us vs : List Bool) → length xs ≡ length us → both (xs ++ ys) (us ++ vs) ≡ both xs us ++ both ys vs
both-append [] ys [] vs long = refl
both-append [] ys (u ∷ us) vs long = absurd (omega arith)
both-append (x ∷ xs) ys [] vs long = absurd (omega arith)
both-append (x ∷ xs) ys (u ∷ us) vs long = ap (λ (z : List Bool). (x && u) ∷ z) (both-append xs ys us vs (omega arith))

-- ones change nothing
pub both-ones : (xs : List Bool) → both (replicate (length xs) true) xs ≡ xs
both-ones [] = refl
both-ones (x ∷ xs) = ap (λ (z : List Bool). x ∷ z) (both-ones xs)

-- ---- bits between zeros

pub length-between : (before behind : ℕ) (bits : List Bool) → length (between_zeros before bits behind) ≡ before + (length bits + behind)
length-between before behind bits =
    omega (arith, length-append (replicate before false) (bits ++ replicate behind false), length-append bits (replicate behind false), length-replicate before false, length-replicate behind false)

between-at : (before behind : ℕ) (bits : List Bool) (i : ℕ) → i < length bits → get_or (between_zeros before bits behind) (before + i) false ≡ get_or bits i false
between-at before behind bits i h =
    let rest : before + i - before ≡ i = omega arith in
    get_or-append_right (replicate before false) (bits ++ replicate behind false) before (before + i) false (length-replicate before false) (omega arith)
    ∙ ap (λ (k : ℕ). get_or (bits ++ replicate behind false) k false) rest ∙ get_or_append_left bits (replicate behind false) false i h

zeros_at : (n i : ℕ) → get_or (replicate n false) i false ≡ false
zeros_at n i = elim (cases_lt i n) [
  | inl within ↦ get_or-replicate n i false false within
  | inr past ↦ get_or_past (replicate n false) i false (omega (arith, past, length-replicate n false))
]

between-away : (before behind : ℕ) (bits : List Bool) (i : ℕ) → (i < before) ⊎ (before + length bits ≤ i) → get_or (between_zeros before bits behind) i false ≡ false
between-away before behind bits i (inl h) =
    get_or_append_left (replicate before false) (bits ++ replicate behind false) false i (omega (arith, h, length-replicate before false)) ∙ zeros_at before i
between-away before behind bits i (inr h) =
    get_or-append_right (replicate before false) (bits ++ replicate behind false) before i false (length-replicate before false) (omega (arith, h))
    ∙ get_or-append_right bits (replicate behind false) (length bits) (i - before) false refl (omega (arith, h)) ∙ zeros_at behind (i - before - length bits)

-- ---- bits that were written over others

pub length-overwritten : (place : ℕ) (part bits : List Bool) → place + length part ≤ length bits → length (overwritten place part bits) ≡ length bits
length-overwritten place part bits within =
    omega (arith, within, length-append (take place bits) (part ++ drop (place + length part) bits), length-append part (drop (place + length part) bits), length-take place bits, length-drop (place + length part) bits)

pub overwritten-at : (place : ℕ) (part bits : List Bool) (i : ℕ) → place ≤ length bits → i < length part → get_or (overwritten place part bits) (place + i) false ≡ get_or part i false
overwritten-at place part bits i within h =
    let long : length (take place bits) ≡ place = omega (arith, length-take place bits, within) in
    let rest : place + i - place ≡ i = omega arith in
    get_or-append_right (take place bits) (part ++ drop (place + length part) bits) place (place + i) false long (omega arith)
    ∙ ap (λ (k : ℕ). get_or (part ++ drop (place + length part) bits) k false) rest ∙ get_or_append_left part (drop (place + length part) bits) false i h

pub overwritten-before_at : (place : ℕ) (part bits : List Bool) (k : ℕ) → place ≤ length bits → k < place → get_or (overwritten place part bits) k false ≡ get_or bits k false
overwritten-before_at place part bits k within h =
    get_or_append_left (take place bits) (part ++ drop (place + length part) bits) false k (omega (arith, length-take place bits, within, h)) ∙ get_or-take place bits k false h

pub overwritten-behind_at : (place : ℕ) (part bits : List Bool) (k : ℕ) → place ≤ length bits → place + length part ≤ k → get_or (overwritten place part bits) k false ≡ get_or bits k false
overwritten-behind_at place part bits k within h =
    let c : ℕ = length part in
    let long : length (take place bits) ≡ place = omega (arith, length-take place bits, within) in
    let at : place + c + (k - place - c) ≡ k = omega (arith, h) in
    get_or-append_right (take place bits) (part ++ drop (place + c) bits) place k false long (omega (arith, h))
    ∙ get_or-append_right part (drop (place + c) bits) c (k - place) false refl (omega (arith, h))
    ∙ get_or-drop (place + c) bits (k - place - c) false ∙ ap (λ (n : ℕ). get_or bits n false) at

-- elsewhere
pub overwritten-away : (place : ℕ) (part bits : List Bool) (k : ℕ) → place ≤ length bits → (k < place) ⊎ (place + length part ≤ k) → get_or (overwritten place part bits) k false ≡ get_or bits k false
overwritten-away place part bits k within (inl h) = overwritten-before_at place part bits k within h
overwritten-away place part bits k within (inr h) = overwritten-behind_at place part bits k within h

-- ---- a word of which a part is kept and another is written, as the code makes it

inside_is : (w s m : Bool) → ((w && not true) || (s && m)) ≡ (s && m)
inside_is true s m = refl
inside_is false s m = refl

outside_is : (w s : Bool) → ((w && not false) || (s && false)) ≡ w
outside_is true s = refl
outside_is false true = refl
outside_is false false = refl

pub masked_word : (w other mask : List Bool) (place behind : ℕ) → length w ≡ 64 → length other ≡ 64 → place + (length mask + behind) ≡ 64
    → either (both w (map not (between_zeros place (replicate (length mask) true) behind))) (both other (between_zeros place mask behind)) ≡ overwritten place (both (take (length mask) (drop place other)) mask) w
masked_word w other mask place behind long_w long_other whole =
    ext_get_or false (either kept written) (overwritten place segment w) (omega (arith, reach, length-overwritten place segment w (omega (arith, long_segment, long_w, whole)), long_w)) (λ i h. at i (omega (arith, h, reach)))
  where
    part : List Bool
    part = between_zeros place (replicate (length mask) true) behind

    kept : List Bool
    kept = both w (map not part)

    written : List Bool
    written = both other (between_zeros place mask behind)

    segment : List Bool
    segment = both (take (length mask) (drop place other)) mask

    long_part : length part ≡ 64
    long_part = omega (arith, length-between place behind (replicate (length mask) true), length-replicate (length mask) true, whole)

    long_not : length (map not part) ≡ 64
    long_not = length-map part not ∙ long_part

    long_kept : length kept ≡ 64
    long_kept = omega (arith, length-both w (map not part), long_w, long_not)

    long_mask : length (between_zeros place mask behind) ≡ 64
    long_mask = omega (arith, length-between place behind mask, whole)

    long_written : length written ≡ 64
    long_written = omega (arith, length-both other (between_zeros place mask behind), long_other, long_mask)

    reach : length (either kept written) ≡ 64
    reach = omega (arith, length-either kept written, long_kept, long_written)

    cut : length (take (length mask) (drop place other)) ≡ length mask
    cut = omega (arith, length-take (length mask) (drop place other), length-drop place other, long_other, whole)

    long_segment : length segment ≡ length mask
    long_segment = omega (arith, length-both (take (length mask) (drop place other)) mask, cut)

    -- by the bits of the masks
    parts : (i : ℕ) → i < 64 → get_or (either kept written) i false ≡ ((get_or w i false && not (get_or part i false)) || (get_or other i false && get_or (between_zeros place mask behind) i false))
    parts i h =
        get_or-either kept written i (omega (arith, h, long_kept)) (omega (arith, h, long_written))
        ∙ ap (λ (b : Bool). b || get_or written i false)
        (get_or-both w (map not part) i (omega (arith, h, long_w)) (omega (arith, h, long_not)) ∙ ap (λ (b : Bool). get_or w i false && b) (get_or-map not part i false false (omega (arith, h, long_part))))
        ∙ ap (λ (b : Bool). (get_or w i false && not (get_or part i false)) || b) (get_or-both other (between_zeros place mask behind) i (omega (arith, h, long_other)) (omega (arith, h, long_mask)))

    away : (i : ℕ) → i < 64 → (i < place) ⊎ (place + length mask ≤ i) → get_or (either kept written) i false ≡ get_or (overwritten place segment w) i false
    away i h out =
        let ones : (i < place) ⊎ (place + length (replicate (length mask) true) ≤ i) = subst (λ (n : ℕ). (i < place) ⊎ (place + n ≤ i)) (sym (length-replicate (length mask) true)) out in
        let others : (i < place) ⊎ (place + length segment ≤ i) = subst (λ (n : ℕ). (i < place) ⊎ (place + n ≤ i)) (sym long_segment) out in
        parts i h ∙ ap (λ (b : Bool). (get_or w i false && not b) || (get_or other i false && get_or (between_zeros place mask behind) i false)) (between-away place behind (replicate (length mask) true) i ones)
        ∙ ap (λ (b : Bool). (get_or w i false && not false) || (get_or other i false && b)) (between-away place behind mask i out)
        ∙ outside_is (get_or w i false) (get_or other i false) ∙ sym (overwritten-away place segment w i (omega (arith, long_w, whole)) others)

    inside : (j : ℕ) → j < length mask → get_or (either kept written) (place + j) false ≡ get_or (overwritten place segment w) (place + j) false
    inside j h =
        let i : ℕ = place + j in
        let set : get_or part i false ≡ true = between-at place behind (replicate (length mask) true) j (omega (arith, h, length-replicate (length mask) true)) ∙ get_or-replicate (length mask) j true false h in
        let read : get_or (take (length mask) (drop place other)) j false ≡ get_or other i false = get_or-take (length mask) (drop place other) j false h ∙ get_or-drop place other j false in
        parts i (omega (arith, h, whole)) ∙ ap (λ (b : Bool). (get_or w i false && not b) || (get_or other i false && get_or (between_zeros place mask behind) i false)) set
        ∙ ap (λ (b : Bool). (get_or w i false && not true) || (get_or other i false && b)) (between-at place behind mask j h)
        ∙ inside_is (get_or w i false) (get_or other i false) (get_or mask j false)
        ∙ ap (λ (b : Bool). b && get_or mask j false) (sym read) ∙ sym (get_or-both (take (length mask) (drop place other)) mask j (omega (arith, h, cut)) h)
        ∙ sym (overwritten-at place segment w j (omega (arith, long_w, whole)) (omega (arith, h, long_segment)))

    at : (i : ℕ) → i < 64 → get_or (either kept written) i false ≡ get_or (overwritten place segment w) i false
    at i h = elim (cases_lt i place) [
      | inl before ↦ away i h (inl before)
      | inr from ↦ elim (cases_lt i (place + length mask)) [
        | inl within ↦
            let e : place + (i - place) ≡ i = omega (arith, from) in
            subst (λ (k : ℕ). get_or (either kept written) k false ≡ get_or (overwritten place segment w) k false) e (inside (i - place) (omega (arith, from, within)))
        | inr past ↦ away i h (inr past)
      ]
    ]

pub masked_length : (other mask : List Bool) (place : ℕ) → length other ≡ 64 → place + length mask ≤ 64 → length (both (take (length mask) (drop place other)) mask) ≡ length mask
masked_length other mask place long within =
    omega (arith, length-both (take (length mask) (drop place other)) mask, length-take (length mask) (drop place other), length-drop place other, long, within)
