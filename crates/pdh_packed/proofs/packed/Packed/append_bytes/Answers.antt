use Rattle.std.proofs.Common.{◌≡◌, ℕ, ◌+◌, ◌-◌, ◌*◌, ◌≤◌, ◌++◌, Bool, List, length, take, drop, refl, ap, sym, ◌∙◌, arith, length-take, length-drop}
use Rattle.std.proofs.lemmas.List.{take_all}
use Rattle.pdh_bits.specs.Bits.{bits_of}
use Rattle.pdh_packed.specs.Words.{low_bits}
use Rattle.pdh_bits.proofs.BitsLemmas.{length-bits_of}
use Rattle.pdh_packed.proofs.BoundedLaws.{bits_grow, room_left}
use Rattle.pdh_packed.proofs.ByteLaws.{bytes_more, length-bits_of_taken}
use Rattle.pdh_packed.proofs.packed.Packed.append_bytes.Goals as goal

pub append_whole-requires : goal.append_whole-requires
append_whole-requires c =
    let bytes = c.args.bytes.now in
    let i = c.loop-done.done in
    let got : List Bool = bits_of (take i bytes) in
    let long : length got ≡ 8 * i = length-bits_of_taken bytes i (omega (arith, c.loop-done-test.true)) in
    room_left c.args.self.now c.loop-done.self got 64 c.loop-done.invariant.1 (omega (arith, long, c.loop-done-test.true, c.requires))

pub loop-done-preserved : goal.loop-done-preserved
loop-done-preserved c =
    let bytes = c.args.bytes.now in
    let i = c.loop-done.done in
    let mine = c.args.self.now.bits in
    let within : i + 8 ≤ length bytes = omega (arith, c.loop-done-test.true) in
    let eight : i + 8 - i ≡ 8 = omega arith in
    let part : List ℕ = take (i + 8 - i) (drop i bytes) in
    let word : length c.word_of.result ≡ 64 = omega (arith, ap length c.word_of.ensures, length-bits_of part, length-take (i + 8 - i) (drop i bytes), length-drop i bytes) in
    let bits : low_bits 64 c.number.result ≡ c.word_of.result = ap (λ (n : ℕ). low_bits n c.number.result) (sym word) ∙ c.number.ensures.bits in
    let read : low_bits 64 c.number.result ≡ bits_of (take 8 (drop i bytes)) = bits ∙ c.word_of.ensures ∙ ap (λ (n : ℕ). bits_of (take n (drop i bytes))) eight in (
      omega (arith, c.loop-done-test.true),
      bits_grow c.args.self.now c.loop-done.self c.append_whole.new.self (mine ++ bits_of (take i bytes)) (low_bits 64 c.number.result) (mine ++ bits_of (take (i + 8) bytes)) c.loop-done.invariant.1 c.append_whole.ensures
          (bytes_more mine (low_bits 64 c.number.result) bytes i 8 read),
    )

pub append_few-requires : goal.append_few-requires
append_few-requires c =
    let bytes = c.args.bytes.now in
    let i = c.loop-done.done in
    let got : List Bool = bits_of (take i bytes) in
    let within : i ≤ length bytes = c.loop-done.invariant.0 in
    let long : length got ≡ 8 * i = length-bits_of_taken bytes i within in
    let rest : length (take (length bytes - i) (drop i bytes)) ≡ length bytes - i = omega (arith, length-take (length bytes - i) (drop i bytes), length-drop i bytes) in
    room_left c.args.self.now c.loop-done.self got (8 * length (take (length bytes - i) (drop i bytes))) c.loop-done.invariant.1 (omega (arith, long, rest, c.requires))

pub returns : goal.returns
returns c =
    let bytes = c.args.bytes.now in
    let i = c.loop-done.done in
    let mine = c.args.self.now.bits in
    let whole : i + (length bytes - i) ≡ length bytes = omega (arith, c.loop-done.invariant.0) in
    let word : List Bool = bits_of (take (length bytes - i) (drop i bytes)) in
    let all : bytes ≡ take (i + (length bytes - i)) bytes = sym (ap (λ (n : ℕ). take n bytes) whole ∙ take_all (length bytes) bytes (omega arith)) in
    bits_grow c.args.self.now c.loop-done.self c.append_few.new.self (mine ++ bits_of (take i bytes)) word (mine ++ bits_of bytes) c.loop-done.invariant.1 c.append_few.ensures
    (ap (λ (xs : List ℕ). mine ++ bits_of xs) all ∙ bytes_more mine word bytes i (length bytes - i) refl)
