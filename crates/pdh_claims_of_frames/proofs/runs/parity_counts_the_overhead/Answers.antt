use Rattle.std.proofs.Common.{◌≡◌, ◌+◌, ◌%◌, ◌==◌, ◌&&◌, ℕ, Bool, false, cond, List, [], ◌∷◌, length, get_or, refl, ap, ◌∙◌, arith}
use Rattle.std.specs.Prelude.{count_by}
use Rattle.std.specs.List.{range_with_len}
use Rattle.std.proofs.lemmas.List.Sums.{sum_by-cons}
use Rattle.pdh_shape.specs.Payload.{is_payload}
use Rattle.pdh_claims_of_frames.proofs.runs.parity_counts_the_overhead.Goals as goal

none : (p : ℕ → Bool) (xs : List ℕ) → ((x : ℕ) → p x ≡ false) → count_by p xs ≡ 0
none p [] fails = refl
none p (x ∷ xs) fails =
    let rest : count_by p xs ≡ 0 = none p xs fails in
    sum_by-cons (λ x. cond (p x) 1 0) x xs ∙ ap (λ b. cond b 1 0 + count_by p xs) (fails x) ∙ omega (arith, rest)

pub returns : goal.returns
returns g c =
    let frame : List Bool = c.args.parts.now.frame in
    c.is_odd.ensures ∙ ap (λ n. n % 2 == 1) (none (λ slot. get_or frame slot false && is_payload (g.S.Shape.shape.role (0 + slot))) (range_with_len 0 (length frame)) c.requires)
