use Rattle.std.proofs.Common.{◌≡◌, ◌+◌, ◌*◌, ◌++◌, Bool, List, length, take, drop, ap, ◌∙◌, arith}
use Rattle.pdh_bits.specs.Bits.{bits_of}
use Rattle.pdh_packed.specs.Words.{low_bits}
use Rattle.pdh_packed.specs.WordLaws.{length-low_bits}
use Rattle.pdh_packed.proofs.BoundedLaws.{bits_grow, room_left}
use Rattle.pdh_packed.proofs.ByteLaws.{bytes_more, one_byte, length-bits_of_taken}
use Rattle.pdh_packed.proofs.packed.Packed.append_few.Goals as goal

pub append-requires : goal.append-requires
append-requires c =
    let bytes = c.args.bytes.now in
    let i = c.loop-byte.byte-index in
    let got : List Bool = bits_of (take i bytes) in
    let long : length got ≡ 8 * i = length-bits_of_taken bytes i (omega arith) in
    let word : length c.of.result ≡ 8 = ap length c.of.ensures.bits ∙ length-low_bits 8 _ in
    record { room = room_left c.args.self.now c.loop-byte.self got (length c.of.result) c.loop-byte.invariant (omega (arith, long, word, c.requires)) }

pub loop-byte-preserved : goal.loop-byte-preserved
loop-byte-preserved c =
    let bytes = c.args.bytes.now in
    let i = c.loop-byte.byte-index in
    let mine = c.args.self.now.bits in
    let read : c.of.result ≡ bits_of (take 1 (drop i bytes)) = c.of.ensures.bits ∙ ap (low_bits 8) c.from.ensures ∙ one_byte bytes i (omega arith) in
    bits_grow c.args.self.now c.loop-byte.self c.append.new.self (mine ++ bits_of (take i bytes)) c.of.result (mine ++ bits_of (take (i + 1) bytes)) c.loop-byte.invariant c.append.ensures
    (bytes_more mine c.of.result bytes i 1 read)
