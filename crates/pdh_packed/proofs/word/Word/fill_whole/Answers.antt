use Rattle.std.proofs.Common.{◌≡◌, ℕ, ◌-◌, ◌*◌, ◌%◌, ◌^◌, ◌<◌, ◌++◌, [], Bool, List, length, bit_and, ap, sym, ◌∙◌, arith}
use Rattle.std.proofs.lemmas.List.{nil_from_length, append-nil}
use Rattle.std.proofs.lemmas.Nat.{one_shl, pow_pos}
use Rattle.pdh_packed.specs.Words.{low_bits}
use Rattle.pdh_packed.specs.WordLaws.{length-low_bits, low_mask, low_bits-mod}
use Rattle.pdh_packed.proofs.PackedLaws.{whole_filled}
use Rattle.pdh_packed.proofs.word.Word.fill_whole.Goals as goal

pub returns-then-held-eq0-clause-bits : goal.returns-then-held-eq0-clause-bits
returns-then-held-eq0-clause-bits c =
    let tail = c.args.self.now in
    let word : List Bool = low_bits 64 c.args.number in
    let long : length tail ≡ c.self.inside.count = ap length (sym c.self.view_is) ∙ length-low_bits c.self.inside.count c.self.inside.number in
    let none : tail ≡ [] = nil_from_length tail (omega (arith, long, c.if-held-eq0.true)) in
    ap (λ (bits : List Bool). word ++ bits) none ∙ append-nil word ∙ ap (λ (bits : List Bool). bits ++ word) (sym none)

pub overflow_sub-self : goal.overflow_sub-self
overflow_sub-self c =
    let k = c.self.inside.count in
    let long : length c.args.self.now ≡ k = ap length (sym c.self.view_is) ∙ length-low_bits k c.self.inside.number in
    let few : k < 64 = omega (arith, long, c.requires) in
    omega (arith, one_shl k 64 few, pow_pos k)

pub returns-clause-bits : goal.returns-clause-bits
returns-clause-bits c =
    let tail = c.args.self.now in
    let h = c.self.inside.count in
    let n = c.args.number in
    let x = c.filled-full.result in
    let long : length tail ≡ h = ap length (sym c.self.view_is) ∙ length-low_bits h c.self.inside.number in
    let few : h < 64 = omega (arith, long, c.requires) in
    let rest : low_bits h (bit_and n (1 * 2 ^ h % 2 ^ 64 - 1)) ≡ low_bits (length tail) n = ap (low_bits h) (low_mask n h few) ∙ low_bits-mod h n ∙ ap (λ (k : ℕ). low_bits k n) (sym long) in
    ap (λ (bits : List Bool). low_bits 64 x ++ bits) rest ∙ whole_filled tail x n c.requires c.filled-full.ensures
