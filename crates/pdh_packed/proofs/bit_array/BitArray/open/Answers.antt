use Rattle.std.proofs.Common.{ℕ, ◌+◌, ◌*◌, ◌/◌, false, List, take, ap, ◌∙◌, arith}
use Rattle.std.proofs.lemmas.List.{take-replicate}
use Rattle.pdh_packed.specs.Words.{bits_of_words}
use Rattle.pdh_packed.proofs.BitwiseLaws.{low_bits-zero}
use Rattle.pdh_packed.proofs.ArrayLaws.{all_same}
use Rattle.pdh_packed.proofs.bit_array.BitArray.open.Goals as goal

pub returns : goal.returns
returns c =
    let len = c.args.len in
    ap (λ (ws : List ℕ). take len (bits_of_words ws)) (c.in_ok-words.ensures.items_if_clones_equal (λ y e. e))
    ∙ ap (take len) (all_same (len / 64 + 1) 0 false (low_bits-zero 64)) ∙ take-replicate len (64 * (len / 64 + 1)) false (omega arith)
