use Rattle.std.proofs.Common.{◌≡◌, ℕ, List, [], ◌∷◌, take, drop, get_or, sym, ◌∙◌}
use Rattle.pdh_bits.specs.Bits.{bits_of_byte}
use Rattle.pdh_packed.specs.Words.{low_bits}
use Rattle.pdh_interleaving.proofs.RowLaws.{made_alike, each_of_seven}
use Rattle.pdh_interleaving.proofs.turns.rows_of.Goals as goal

-- a byte is the first eight bits of a number from a place on
abbrev IsByte : List ℕ → ℕ → List ℕ → ℕ → Type 0
IsByte words place bytes j = take 8 (bits_of_byte (get_or bytes j 0)) ≡ take 8 (drop place (low_bits 64 (get_or words j 0)))

pub returns : goal.returns
returns c =
    let words = c.args.words.now in
    let place = c.args.place in
    let bytes : List ℕ = c.byte_at.result ∷ c.byte_at-2.result ∷ c.byte_at-3.result ∷ c.byte_at-4.result ∷ c.byte_at-5.result ∷ c.byte_at-6.result ∷ c.byte_at-7.result ∷ [] in
    c.of.ensures.bits ∙ c.interleave7-seven.ensures.bits
    ∙ made_alike bits_of_byte (λ (word : ℕ). drop place (low_bits 64 word)) bytes words 8 0 0 (sym c.requires.seven)
    (each_of_seven (IsByte words place bytes) c.byte_at.ensures c.byte_at-2.ensures c.byte_at-3.ensures c.byte_at-4.ensures c.byte_at-5.ensures c.byte_at-6.ensures c.byte_at-7.ensures)
