-- The reads of a piece, without the ones that were not read before.
use Rattle.std.proofs.Common.{◌≡◌, ℕ, ◌+◌, ◌-◌, Bool, List, take, drop, sym, ap, ◌∙◌, inl, inr, arith, length-take}
use Rattle.std.specs.Prelude.{min}
use Rattle.std.proofs.lemmas.Bool.{cases_lt}
use Rattle.std.proofs.lemmas.List.{drop-take, drop_all}

pub reads_without : (xs : List Bool) (ones reads skipped : ℕ) → skipped ≡ min ones reads → take (reads - skipped) (drop skipped xs) ≡ drop ones (take reads xs)
reads_without xs ones reads skipped is =
    elim (cases_lt reads ones) [
      | inl all ↦
          let e : skipped ≡ reads = omega arith in
          let none : reads - skipped ≡ 0 = omega arith in
          ap (λ n. take n (drop skipped xs)) none ∙ sym (drop_all ones (take reads xs) (omega (arith, length-take reads xs)))
      | inr some ↦
          let e : skipped ≡ ones = omega arith in
          let whole : reads ≡ ones + (reads - ones) = omega arith in
          ap (λ n. take (reads - n) (drop n xs)) e ∙ sym (ap (λ n. drop ones (take n xs)) whole ∙ drop-take ones (reads - ones) xs)
    ]
