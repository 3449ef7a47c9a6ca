use Rattle.std.proofs.Common.{◌≡◌, List, Bool, true, [], ◌∷◌, ◌++◌, ◌+◌, take, drop, ap, ◌∙◌, arith}
use Rattle.pdh_bits.specs.Bits.{bits_of}
use Rattle.pdh_ds1.specs.Crc6.{crc6}
use Rattle.pdh_ds1.proofs.WordLaws.{octets_read, frame_words}
use Rattle.pdh_ds1.proofs.words.with_frame.Goals as goal

pub returns-clause-word : goal.returns-clause-word
returns-clause-word c = λ bits holds.
    let line : List Bool = c.args.line.now.bits in
    let start = c.args.start in
    let one : List Bool = bits ++ true ∷ [] in
    let a : List Bool = bits_of c.to_be_bytes.result in
    let b : List Bool = bits_of c.to_be_bytes-2.result in
    let d : List Bool = bits_of c.to_be_bytes-3.result in
    let a_is : a ≡ take 64 (drop (start + 1) line) = octets_read line (start + 1) c.read_whole.result c.to_be_bytes.result (omega arith) c.read_whole.ensures c.to_be_bytes.ensures in
    let b_is : b ≡ take 64 (drop (start + 65) line) = octets_read line (start + 65) c.read_whole-2.result c.to_be_bytes-2.result (omega arith) c.read_whole-2.ensures c.to_be_bytes-2.ensures in
    let d_is : d ≡ take 64 (drop (start + 129) line) = octets_read line (start + 129) c.read_whole-3.result c.to_be_bytes-3.result (omega arith) c.read_whole-3.ensures c.to_be_bytes-3.ensures in
    c.crc6_after.ensures.word ((one ++ a) ++ b) (c.crc6_after-third.ensures.word (one ++ a) (c.crc6_after-second.ensures.word one (c.with_bit-first.ensures.word bits holds)))
    ∙ ap (λ (x : List Bool). crc6 (((one ++ x) ++ b) ++ d)) a_is
    ∙ ap (λ (x : List Bool). crc6 (((one ++ take 64 (drop (start + 1) line)) ++ x) ++ d)) b_is
    ∙ ap (λ (x : List Bool). crc6 (((one ++ take 64 (drop (start + 1) line)) ++ take 64 (drop (start + 65) line)) ++ x)) d_is
    ∙ frame_words start line bits
