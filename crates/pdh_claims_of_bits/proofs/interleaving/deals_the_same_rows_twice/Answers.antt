use Rattle.std.proofs.Common.{◌≡◌, ℕ, ◌+◌, ◌-◌, ◌*◌, ◌/◌, ◌%◌, ◌<◌, Bool, List, [], false, length, map, get_or, ap, ◌∙◌, arith}
use Rattle.std.specs.List.{flat_map}
use Rattle.pdh_bits.specs.BitOut.{BoundedBits}
use Rattle.pdh_interleaving.proofs.DealtLaws.{get_or-dealt}
use Rattle.pdh_interleaving.proofs.EightLaws.{row_bits, get_or-rows}
use Rattle.pdh_claims_of_bits.proofs.interleaving.deals_the_same_rows_twice.Goals as goal

pub returns : goal.returns
returns c i j among within =
    let lists = c.args.tributaries.now in
    let words = c.args.words in
    let row : ℕ = i % 8 * 7 + j in
    let place : i * length lists + j ≡ 56 * (i / 8) + row = ap (λ (t : ℕ). i * t + j) c.requires.seven ∙ omega arith in
    ap (λ (ts : List BoundedBits). get_or (get_or (map (λ (t : BoundedBits). t.bits) ts) j []) i false) c.deal_seven.ensures
    ∙ get_or-dealt c.args.count (flat_map row_bits words) lists i j c.requires.empty among (omega (arith, within, c.requires.seven))
    ∙ ap (λ (k : ℕ). get_or (flat_map row_bits words) k false) place
    ∙ get_or-rows words (i / 8) row (omega (arith, among, c.requires.few)) (omega (arith, within))
