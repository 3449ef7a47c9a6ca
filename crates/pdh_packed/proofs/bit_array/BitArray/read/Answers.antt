use Rattle.std.proofs.Common.{◌≡◌, ℕ, ◌+◌, ◌*◌, ◌/◌, Bool, List, length, take, drop, sym, ap, ◌∙◌, arith}
use Rattle.pdh_packed.specs.Words.{bits_of_words}
use Rattle.pdh_packed.proofs.PackedLaws.{read_across, read_within, length-bits_of_words}
use Rattle.pdh_packed.proofs.ArrayLaws.{length-seen, seen_read}
use Rattle.pdh_packed.proofs.bit_array.BitArray.read.Goals as goal

pub across-requires : goal.across-requires
across-requires c =
    let words = c.self.inside.words.items in
    let i : ℕ = c.args.place / 64 in
    let count : length c.args.self.now ≡ c.self.inside.len = sym (ap length c.self.view_is) ∙ length-seen c.self.inside.len words c.self.invariant.0 in
    let first = c.word_at.ensures ∙ ap (λ (ws : List ℕ). take 64 (drop (64 * i) (bits_of_words ws))) c.deref-2.ensures.value in
    let next = c.word_at-next.ensures ∙ ap (λ (ws : List ℕ). take 64 (drop (64 * (i + 1)) (bits_of_words ws))) c.deref.ensures.value in
    let within = read_within (bits_of_words words) c.word_at.result c.word_at-next.result c.args.place c.args.count first next c.requires.few (omega (arith, c.requires.within, count, c.self.invariant.0, length-bits_of_words words)) in
    record { few = c.requires.few; begun = within.0; within = within.1 }

pub returns : goal.returns
returns c =
    let words = c.self.inside.words.items in
    let place = c.args.place in
    let i : ℕ = place / 64 in
    let count : length c.args.self.now ≡ c.self.inside.len = sym (ap length c.self.view_is) ∙ length-seen c.self.inside.len words c.self.invariant.0 in
    let first = c.word_at.ensures ∙ ap (λ (ws : List ℕ). take 64 (drop (64 * i) (bits_of_words ws))) c.deref-2.ensures.value in
    let next = c.word_at-next.ensures ∙ ap (λ (ws : List ℕ). take 64 (drop (64 * (i + 1)) (bits_of_words ws))) c.deref.ensures.value in
    c.across.ensures ∙ read_across (bits_of_words words) c.word_at.result c.word_at-next.result place c.args.count first next c.requires.few
    ∙ seen_read c.self.inside.len place c.args.count (bits_of_words words) (omega (arith, c.requires.within, count))
    ∙ ap (λ (b : List Bool). take c.args.count (drop place b)) c.self.view_is
