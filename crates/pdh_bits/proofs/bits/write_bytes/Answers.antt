use Rattle.std.proofs.Common.{◌≡◌, ◌<◌, ◌+◌, ◌*◌, get_or, length, arith}
use Rattle.std.specs.List.{slice_range}
use Rattle.pdh_bits.specs.Bits.{number_of, bytes_of}
use Rattle.pdh_bits.proofs.BitsLemmas.{length-bytes_of, get_or-bytes_of, set-take-drop}
use Rattle.pdh_bits.proofs.bits.write_bytes.Goals as goal

pub loop-place-preserved : goal.loop-place-preserved
loop-place-preserved c =
    let bits = c.args.bits.now in
    let i = c.loop-place.place in
    let more : i < length (bytes_of bits) = omega (arith, length-bytes_of bits) in
    let byte : get_or (bytes_of bits) i 0 ≡ number_of (slice_range bits (8 * i) (8 * i + 8)) = get_or-bytes_of bits i 0 (omega arith) in
    let step = set-take-drop (bytes_of bits) c.args.into.now i more (omega arith) in
    cc
