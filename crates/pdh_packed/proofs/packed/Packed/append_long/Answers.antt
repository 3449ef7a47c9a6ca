use Rattle.std.proofs.Common.{◌≡◌, ℕ, ◌+◌, ◌-◌, ◌≤◌, ◌++◌, Bool, List, length, take, drop, refl, sym, ap, ◌∙◌, arith, length-take, length-drop}
use Rattle.pdh_bits.specs.BitOut.{BoundedBits}
use Rattle.pdh_packed.specs.Words.{low_bits, bounded}
use Rattle.pdh_packed.proofs.BoundedLaws.{taken_grow, taken_last, room_left}
use Rattle.pdh_packed.proofs.packed.Packed.append_long.Goals.{then-count-done-ge64, else-count-done-ge64}
use Rattle.pdh_packed.proofs.packed.Packed.append_long.Goals as goal

-- so many bits of others were appended to a list
abbrev HasTaken : BoundedBits → BoundedBits → List Bool → ℕ → ℕ → ℕ → Type 0
HasTaken first now bits place done all = (done ≤ all) × (now ≡ bounded first.capacity (first.bits ++ take done (drop place bits)))

taken_is : (first now now' : BoundedBits) (bits : List Bool) (place done done' all : ℕ) → now' ≡ now → done' ≡ done → HasTaken first now bits place done all → HasTaken first now' bits place done' all
taken_is first now now' bits place done done' all same is taken =
    (omega (arith, is, taken.0), same ∙ taken.1 ∙ ap (λ (n : ℕ). bounded first.capacity (first.bits ++ take n (drop place bits))) (sym is))

pub append-requires : goal.append-requires
append-requires c =
    let first = c.args.self.now in
    let others = c.args.other.now.bits in
    let place = c.args.place in
    let count = c.args.count in
    let begun : ℕ = c.end_word-first.result in
    let more : ℕ = c.append_aligned.result in
    let some : HasTaken first c.append_aligned.new.self others place (begun + more) count =
    taken_grow first c.end_word-first.new.self c.append_aligned.new.self others (take more (drop (place + begun) others)) place begun more count (omega (arith, c.end_word-first.ensures.few, c.requires.many))
    (omega (arith, c.append_aligned.ensures.most)) c.end_word-first.ensures.bits c.append_aligned.ensures.bits refl in
    let taken : HasTaken first c.if-count-done-ge64.self others place c.if-count-done-ge64.done count =
    elim c.if-count-done-ge64.branch [
      | then-count-done-ge64 w ↦
          let same : c.if-count-done-ge64.self ≡ w.append_whole.new.self = cc (w.self-is) in
          let is : c.if-count-done-ge64.done ≡ begun + more + 64 = omega (arith, w.done-is) in
          taken_is first w.append_whole.new.self c.if-count-done-ge64.self others place (begun + more + 64) c.if-count-done-ge64.done count same is
          (taken_grow first c.append_aligned.new.self w.append_whole.new.self others (low_bits 64 w.read_whole.result) place (begun + more) 64 count some.0 (omega (arith, w.if-count-done-ge64.true)) some.1 w.append_whole.ensures w.read_whole.ensures)
      | else-count-done-ge64 w ↦
          let same : c.if-count-done-ge64.self ≡ c.append_aligned.new.self = cc (w.self-is) in
          let is : c.if-count-done-ge64.done ≡ begun + more = omega (arith, w.done-is) in
          taken_is first c.append_aligned.new.self c.if-count-done-ge64.self others place (begun + more) c.if-count-done-ge64.done count same is some
    ] in
    let done : ℕ = c.if-count-done-ge64.done in
    let long : length (take done (drop place others)) ≡ done = omega (arith, length-take done (drop place others), length-drop place others, c.requires.within, taken.0) in
    let left : length c.read.result ≡ count - done =
    omega (arith, ap length c.read.ensures, length-take (count - done) (drop (place + done) others), length-drop (place + done) others, c.requires.within, taken.0) in
    record { room = room_left first c.if-count-done-ge64.self (take done (drop place others)) (length c.read.result) taken.1 (omega (arith, long, left, taken.0, c.requires.room)) }

pub returns : goal.returns
returns c =
    let first = c.args.self.now in
    let others = c.args.other.now.bits in
    let place = c.args.place in
    let count = c.args.count in
    let begun : ℕ = c.end_word-first.result in
    let more : ℕ = c.append_aligned.result in
    let some : HasTaken first c.append_aligned.new.self others place (begun + more) count =
    taken_grow first c.end_word-first.new.self c.append_aligned.new.self others (take more (drop (place + begun) others)) place begun more count (omega (arith, c.end_word-first.ensures.few, c.requires.many))
    (omega (arith, c.append_aligned.ensures.most)) c.end_word-first.ensures.bits c.append_aligned.ensures.bits refl in
    let taken : HasTaken first c.if-count-done-ge64.self others place c.if-count-done-ge64.done count =
    elim c.if-count-done-ge64.branch [
      | then-count-done-ge64 w ↦
          let same : c.if-count-done-ge64.self ≡ w.append_whole.new.self = cc (w.self-is) in
          let is : c.if-count-done-ge64.done ≡ begun + more + 64 = omega (arith, w.done-is) in
          taken_is first w.append_whole.new.self c.if-count-done-ge64.self others place (begun + more + 64) c.if-count-done-ge64.done count same is
          (taken_grow first c.append_aligned.new.self w.append_whole.new.self others (low_bits 64 w.read_whole.result) place (begun + more) 64 count some.0 (omega (arith, w.if-count-done-ge64.true)) some.1 w.append_whole.ensures w.read_whole.ensures)
      | else-count-done-ge64 w ↦
          let same : c.if-count-done-ge64.self ≡ c.append_aligned.new.self = cc (w.self-is) in
          let is : c.if-count-done-ge64.done ≡ begun + more = omega (arith, w.done-is) in
          taken_is first c.append_aligned.new.self c.if-count-done-ge64.self others place (begun + more) c.if-count-done-ge64.done count same is some
    ] in
    taken_last first c.if-count-done-ge64.self c.append.new.self others c.read.result place c.if-count-done-ge64.done count taken.0 taken.1 c.append.ensures c.read.ensures
