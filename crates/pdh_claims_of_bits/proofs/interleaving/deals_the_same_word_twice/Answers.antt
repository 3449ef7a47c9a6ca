use Rattle.std.proofs.Common.{◌≡◌, ℕ, ◌+◌, ◌-◌, ◌*◌, ◌/◌, ◌%◌, ◌<◌, Bool, List, [], false, length, map, get_or, ap, ◌∙◌, arith}
use Rattle.pdh_bits.specs.Bits.{bit}
use Rattle.pdh_bits.specs.BitOut.{BoundedBits}
use Rattle.pdh_packed.specs.Words.{bits_of_words}
use Rattle.pdh_packed.proofs.RunLaws.{get_or-words}
use Rattle.pdh_interleaving.proofs.DealtLaws.{get_or-dealt}
use Rattle.pdh_claims_of_bits.proofs.interleaving.deals_the_same_word_twice.Goals as goal

pub returns : goal.returns
returns c i j among within =
    let lists = c.args.tributaries.now in
    let words = c.args.words in
    let row : ℕ = i % 16 * 4 + j in
    let place : i * length lists + j ≡ 64 * (i / 16) + row = ap (λ (t : ℕ). i * t + j) c.requires.four ∙ omega arith in
    ap (λ (ts : List BoundedBits). get_or (get_or (map (λ (t : BoundedBits). t.bits) ts) j []) i false) c.deal_four.ensures
    ∙ get_or-dealt c.args.count (bits_of_words words) lists i j c.requires.empty among (omega (arith, within, c.requires.four))
    ∙ ap (λ (k : ℕ). get_or (bits_of_words words) k false) place
    ∙ get_or-words words (i / 16) row (omega (arith, among, c.requires.few)) (omega (arith, within))
