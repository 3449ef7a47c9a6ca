-- The codes that the bits of the far end alarm and control channel answer.
use Rattle.std.proofs.Common.{◌≡◌, ℕ, zero, suc, ◌+◌, ◌<◌, Bool, Option, Some, None, List, [], ◌∷◌, ◌++◌, length, take, map, refl, sym, ap, ◌∙◌, arith, add-one, zero-add, length-append, append_assoc}
use Rattle.std.specs.Prelude.{filter_map, option_to_list}
use Rattle.std.specs.List.{range_with_len}
use Rattle.std.proofs.lemmas.List.{take-append-le, take_all, map-append}
use Rattle.std.proofs.lemmas.List.Elements.{filter_map-append}
use Rattle.pdh_line.proofs.Ranges.{range_push}
use Rattle.pdh_cbit.specs.Feac.{answer_of}
use Rattle.pdh_watch.specs.declared.event.Event.{Event}
use Rattle.pdh_events.specs.Keeping.{codes_told}

told_push : (f : ℕ → Option ℕ) (n : ℕ) → filter_map f (range_with_len 0 (suc n)) ≡ filter_map f (range_with_len 0 n) ++ option_to_list (f n)
told_push f n =
    ap (filter_map f) (range_push 0 n) ∙ filter_map-append f (range_with_len 0 n) ((0 + n) ∷ [])
    ∙ ap (λ x. filter_map f (range_with_len 0 n) ++ x) (one (f (0 + n)) ∙ ap (λ k. option_to_list (f k)) (zero-add n))
  where
    one : (code : Option ℕ) → filter_map (λ (k : ℕ). code) (0 ∷ []) ≡ option_to_list code
    one None = refl
    one (Some code) = refl

told_same : (f g : ℕ → Option ℕ) (n : ℕ) → ((k : ℕ) → k < n → f k ≡ g k) → filter_map f (range_with_len 0 n) ≡ filter_map g (range_with_len 0 n)
told_same f g zero same = refl
told_same f g (suc n) same =
    told_push f n ∙ ap (λ x. x ++ option_to_list (f n)) (told_same f g n (λ k lt. same k (omega arith)))
    ∙ ap (λ code. filter_map g (range_with_len 0 n) ++ option_to_list code) (same n (omega arith)) ∙ sym (told_push g n)

-- one more bit tells the code that is answered at it
pub codes_more : (before bits : List Bool) (bit : Bool) → codes_told before (bits ++ bit ∷ []) ≡ codes_told before bits ++ option_to_list (answer_of (before ++ (bits ++ bit ∷ [])))
codes_more before bits bit =
    let all : List Bool = bits ++ bit ∷ [] in
    let f : ℕ → Option ℕ = λ k. answer_of (before ++ take (suc k) all) in
    let longer : length all ≡ suc (length bits) = length-append bits (bit ∷ []) ∙ add-one (length bits) in
    ap (λ n. filter_map f (range_with_len 0 n)) longer ∙ told_push f (length bits)
    ∙ ap (λ x. x ++ option_to_list (f (length bits))) (told_same f (λ k. answer_of (before ++ take (suc k) bits)) (length bits) (λ k lt.
    ap (λ l. answer_of (before ++ l)) (take-append-le (suc k) bits (bit ∷ []) (omega arith))))
    ∙ ap (λ l. codes_told before bits ++ option_to_list (answer_of (before ++ l))) (take_all (suc (length bits)) all (omega (arith, longer)))

-- and so do their events
pub code_events_more : (event : ℕ → Event) (before bits all : List Bool) (bit : Bool) (code : Option ℕ) → code ≡ answer_of ((before ++ bits) ++ bit ∷ []) → all ≡ bits ++ bit ∷ []
    → map event (codes_told before bits) ++ map event (option_to_list code) ≡ map event (codes_told before all)
code_events_more event before bits all bit code is more =
    ap (λ told. map event (codes_told before bits) ++ map event (option_to_list told)) (is ∙ ap answer_of (append_assoc before bits (bit ∷ [])))
    ∙ sym (map-append event (codes_told before bits) (option_to_list (answer_of (before ++ (bits ++ bit ∷ []))))) ∙ ap (map event) (sym (codes_more before bits bit) ∙ ap (codes_told before) (sym more))
