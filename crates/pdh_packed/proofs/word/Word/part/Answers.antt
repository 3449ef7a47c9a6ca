use Rattle.std.proofs.Common.{◌≡◌, ℕ, ◌+◌, ◌-◌, ◌*◌, ◌%◌, ◌^◌, ◌≤◌, ◌++◌, length, take, drop, ap, sym, ◌∙◌, arith}
use Rattle.std.proofs.lemmas.List.{take-append-le}
use Rattle.std.proofs.lemmas.Nat.{pow_pos, mod_below}
use Rattle.pdh_packed.specs.Words.{low_bits}
use Rattle.pdh_packed.specs.WordLaws.{length-low_bits, low_bits-mod, drop_low, shifted_in, top_bits, top_small}
use Rattle.pdh_packed.proofs.word.Word.part.Goals as goal

pub invariant_of-result : goal.invariant_of-result
invariant_of-result c =
    let n = c.self.inside.number in
    let w = c.self.inside.count in
    let k = c.args.count in
    let long : length c.args.self.now ≡ w = ap length (sym c.self.view_is) ∙ length-low_bits w n in
    let few : k ≤ 64 = omega (arith, long, c.self.invariant.0, c.requires) in
    let whole : 64 - k + k ≡ 64 = omega arith in
    let a : ℕ = c.args.place + (64 - w) in
    (few, top_small (n * 2 ^ a % 2 ^ 64) (64 - k) k whole (mod_below (n * 2 ^ a) (2 ^ 64) (pow_pos 64)))

pub returns : goal.returns
returns c =
    let n = c.self.inside.number in
    let w = c.self.inside.count in
    let p = c.args.place in
    let k = c.args.count in
    let a : ℕ = p + (64 - w) in
    let long : length c.args.self.now ≡ w = ap length (sym c.self.view_is) ∙ length-low_bits w n in
    let few : w ≤ 64 = c.self.invariant.0 in
    let left : w - p + a ≡ 64 = omega (arith, long, few, c.requires) in
    let x : ℕ = n * 2 ^ a % 2 ^ 64 in
    let same : (x + 0) % 2 ^ 64 ≡ x = omega arith in
    let joined : low_bits 64 x ≡ low_bits (w - p) n ++ low_bits a 0 = ap (low_bits 64) (sym same) ∙ shifted_in (w - p) a n 0 left (pow_pos a) in
    let cut : low_bits (w - p) n ≡ drop p c.args.self.now = sym (low_bits-mod (w - p) n) ∙ sym (drop_low p w n (omega (arith, long, c.requires))) ∙ ap (drop p) c.self.view_is in
    let whole : 64 - k + k ≡ 64 = omega (arith, long, few, c.requires) in
    let inside : k ≤ length (low_bits (w - p) n) = omega (arith, length-low_bits (w - p) n, long, c.requires) in
    top_bits x (64 - k) k whole ∙ ap (take k) joined ∙ take-append-le k (low_bits (w - p) n) (low_bits a 0) inside ∙ ap (take k) cut
