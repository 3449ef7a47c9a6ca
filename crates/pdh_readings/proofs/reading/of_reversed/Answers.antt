use Rattle.std.proofs.Common.{◌≡◌, ℕ, ◌+◌, ◌++◌, [], ◌∷◌, Bool, List, length, take, get_or, ap, sym, ◌∙◌, arith, length-append}
use Rattle.std.proofs.lemmas.List.{take_more}
use Rattle.std.proofs.lemmas.List.Concat.{flat_map-append}
use Rattle.pdh_bits.specs.Bits.{bits_of_byte}
use Rattle.pdh_readings.specs.Orders.{reversed_byte, reversed_bits}
use Rattle.pdh_readings.proofs.Reversing.{reversed}
use Rattle.pdh_readings.proofs.reading.of_reversed.Goals as goal

pub loop-byte-preserved : goal.loop-byte-preserved
loop-byte-preserved c =
    let bytes = c.args.bytes.now in
    let index = c.loop-byte.byte-index in
    let inv = c.loop-byte.invariant in
    let byte : ℕ = get_or bytes index 0 in
    let these : bits_of_byte c.reverse_bits.result ≡ reversed_byte byte = ap bits_of_byte c.reverse_bits.ensures ∙ reversed byte (omega (arith, c.type_inv.bytes index)) in
    let whole : reversed_bits (take (index + 1) bytes) ≡ reversed_bits (take index bytes) ++ (reversed_byte byte ++ []) =
    ap reversed_bits (take_more bytes index 0 c.loop-byte-test.true) ∙ flat_map-append reversed_byte (take index bytes) (byte ∷ []) in
    let grown : c.append_bytes.new.self.bits ≡ c.loop-byte.list.bits ++ (bits_of_byte c.reverse_bits.result ++ []) = ap (λ list. list.bits) c.append_bytes.ensures in
    record {
      bits = grown ∙ ap (λ (l : List Bool). l ++ (bits_of_byte c.reverse_bits.result ++ [])) inv.bits
          ∙ ap (λ (l : List Bool). reversed_bits (take index bytes) ++ (l ++ [])) these ∙ sym whole;
      room = ap (λ list. list.capacity) c.append_bytes.ensures ∙ inv.room;
      count = omega (arith, ap length grown, length-append c.loop-byte.list.bits (bits_of_byte c.reverse_bits.result ++ []), inv.count);
    }
