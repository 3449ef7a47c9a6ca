-- A part of a line.
use Rattle.std.proofs.Common.{◌≡◌, ℕ, ◌+◌, ◌<◌, Bool, false, List, [], ◌∷◌, length, map, refl, sym, ap, ◌∙◌, subst, arith, get_or}
use Rattle.std.specs.List.{range_with_len}
use Rattle.std.proofs.lemmas.List.{ext_get_or}
use Rattle.std.proofs.lemmas.List.FromFn.{get_or-map-range_with_len, length-map-range_with_len}
use Rattle.pdh_shape.specs.Frame.{FrameShape}
use Rattle.pdh_line.specs.Sending.{Source, slot_bit}
use Rattle.pdh_tx.specs.Passing.{HoldsLine}
use Rattle.pdh_tx.specs.Held.{IsPart}

-- bits that are a line's are a part of it
pub part_of : (line : ℕ → Bool) (bits : List Bool) (x : ℕ) (d : Bool) → ((v : ℕ) → v < length bits → get_or bits v d ≡ line (x + v)) → IsPart line bits x
part_of line bits x d each =
    ext_get_or d bits (map line (range_with_len x (length bits))) (sym (length-map-range_with_len line x (length bits)))
    (λ v h. each v h ∙ sym (get_or-map-range_with_len line x (length bits) v (x + v) d h refl))

-- a bit of a line is all of its slot's
pub one_line : (s : FrameShape) (source : Source) (n t : ℕ) (bit : Bool) → bit ≡ slot_bit s source n t (s.role t) → HoldsLine s source n t (bit ∷ [])
one_line s source n t bit is v h =
    let zero : v ≡ 0 = omega arith in
    let start : t ≡ t + 0 = omega arith in
    subst (λ k. get_or (bit ∷ []) k false ≡ slot_bit s source n (t + k) (s.role (t + k))) (sym zero) (is ∙ ap (λ k. slot_bit s source n k (s.role k)) start)
