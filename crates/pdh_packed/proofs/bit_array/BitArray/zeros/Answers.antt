use Rattle.std.proofs.Common.{◌≡◌, ℕ, Bool, List, not, length, take, drop, sym, ap, ◌∙◌, arith}
use Rattle.std.specs.List.{prefix_len}
use Rattle.pdh_packed.specs.Words.{bits_of_words}
use Rattle.pdh_packed.proofs.ArrayLaws.{length-seen, seen_read}
use Rattle.pdh_packed.proofs.bit_array.BitArray.zeros.Goals as goal

pub returns : goal.returns
returns c =
    let words = c.self.inside.words.items in
    let len = c.self.inside.len in
    let place = c.args.place in
    let most = c.args.most in
    let count : length c.args.self.now ≡ len = sym (ap length c.self.view_is) ∙ length-seen len words c.self.invariant.0 in
    c.zeros_of_words.ensures ∙ ap (λ (ws : List ℕ). prefix_len not (take most (drop place (bits_of_words ws)))) c.deref.ensures.value
    ∙ ap (prefix_len not) (seen_read len place most (bits_of_words words) (omega (arith, c.requires, count)) ∙ ap (λ (x : List Bool). take most (drop place x)) c.self.view_is)
