use Rattle.std.proofs.Common.{◌≡◌, ℕ, ◌+◌, ◌*◌, ◌≤◌, ◌++◌, List, Bool, length, map, drop, min, refl, sym, ap, ◌∙◌, arith}
use Rattle.std.proofs.lemmas.List.{length-map}
use Rattle.std.proofs.Math.Nat.{add-mul, mul-le-mul_right}
use Rattle.pdh_packed.specs.Words.{low_bits, bounded}
use Rattle.pdh_interleaving.specs.Interleaving.{interleaved}
use Rattle.pdh_interleaving.proofs.TurnLaws.{length-interleaved}
use Rattle.pdh_packed.proofs.BoundedLaws.{bits_grow, room_left}
use Rattle.pdh_interleaving.proofs.RowLaws.{none_got, turns_grow, words_from, first_rows}
use Rattle.pdh_interleaving.proofs.turns.append_rows.Goals as goal

pub loop-done-init : goal.loop-done-init
loop-done-init c = (omega arith, refl, none_got c.args.line.now (map (low_bits 64) c.args.words.now) (min 0 c.args.count) (omega arith))

pub first-requires : goal.first-requires
first-requires c =
    let words = c.args.words.now in
    let lists : List (List Bool) = map (λ (word : ℕ). drop c.loop-done.done (low_bits 64 word)) words in
    let many : length lists ≡ length words = length-map words (λ (word : ℕ). drop c.loop-done.done (low_bits 64 word)) in
    let long : length c.rows_of.result ≡ 8 * length words = ap length c.rows_of.ensures ∙ length-interleaved lists 8 ∙ ap (λ (t : ℕ). 8 * t) many in
    let rows : c.min-rows.result * length words ≤ 8 * length words = mul-le-mul_right (length words) (omega (arith, c.min-rows.ensures)) in
    omega arith

pub append-requires : goal.append-requires
append-requires c =
    let words = c.args.words.now in
    let t : ℕ = length words in
    let done = c.loop-done.done in
    let rows = c.min-rows.result in
    let count = c.args.count in
    let lists : List (List Bool) = map (λ (word : ℕ). drop done (low_bits 64 word)) words in
    let many : length lists ≡ t = length-map words (λ (word : ℕ). drop done (low_bits 64 word)) in
    let word : c.first.result ≡ interleaved lists rows = first_rows 8 c.rows_of.result c.first.result lists rows t (omega (arith, c.min-rows.ensures)) (sym many) c.rows_of.ensures c.first.ensures in
    let long : length c.first.result ≡ rows * t = ap length word ∙ length-interleaved lists rows ∙ ap (λ (k : ℕ). rows * k) many in
    let before : min done count ≡ done = omega (arith, c.loop-done-test.true) in
    let got : List Bool = interleaved (map (low_bits 64) words) (min done count) in
    let got_long : length got ≡ done * t =
    length-interleaved (map (low_bits 64) words) (min done count) ∙ ap (λ (k : ℕ). min done count * k) (length-map words (low_bits 64)) ∙ ap (λ (n : ℕ). n * t) before in
    let within : (done + rows) * t ≤ count * t = mul-le-mul_right t (omega (arith, c.min-rows.ensures, c.loop-done-test.true)) in
    record { room = room_left c.args.line.now c.loop-done.line got (length c.first.result) c.loop-done.invariant.2 (omega (arith, long, got_long, within, add-mul done rows t, c.requires.room)) }

pub loop-done-preserved : goal.loop-done-preserved
loop-done-preserved c =
    let words = c.args.words.now in
    let t : ℕ = length words in
    let done = c.loop-done.done in
    let rows = c.min-rows.result in
    let count = c.args.count in
    let mine = c.args.line.now.bits in
    let all : List (List Bool) = map (low_bits 64) words in
    let lists : List (List Bool) = map (λ (word : ℕ). drop done (low_bits 64 word)) words in
    let many : length lists ≡ t = length-map words (λ (word : ℕ). drop done (low_bits 64 word)) in
    let word : c.first.result ≡ interleaved lists rows = first_rows 8 c.rows_of.result c.first.result lists rows t (omega (arith, c.min-rows.ensures)) (sym many) c.rows_of.ensures c.first.ensures in
    let later : c.first.result ≡ interleaved (map (drop done) all) rows = word ∙ ap (λ (ls : List (List Bool)). interleaved ls rows) (words_from done words) in
    let before : min done count ≡ done = omega (arith, c.loop-done-test.true) in
    let after : min (done + 8) count ≡ done + rows = omega (arith, c.min-rows.ensures, c.loop-done-test.true) in
    let was = c.loop-done.invariant.2 ∙ ap (λ (n : ℕ). bounded c.args.line.now.capacity (mine ++ interleaved all n)) before in (
      omega (arith, c.loop-done.invariant.1, c.loop-done-test.true, c.requires.few),
      omega (arith, c.loop-done.invariant.1),
      bits_grow c.args.line.now c.loop-done.line c.append.new.self (mine ++ interleaved all done) c.first.result (mine ++ interleaved all (min (done + 8) count)) was c.append.ensures
          (turns_grow mine c.first.result all done rows (min (done + 8) count) after later),
    )
