use Rattle.std.proofs.Common.{◌≡◌, ◌+◌, ◌<◌, Bool, List, ◌∷◌, ◌++◌, [], take, get_or, length, sym, ap, ◌∙◌, arith}
use Rattle.std.proofs.lemmas.List.{take_more, take_all, append-nil, append_assoc}
use Rattle.pdh_bits.specs.Bits.{bits_of_byte, bits_of}
use Rattle.pdh_bits.proofs.BitsLemmas.{bits_of-append}
use Rattle.pdh_ds1.specs.Crc6.{crc6}
use Rattle.pdh_ds1.proofs.crc.crc6_after.Goals as goal

pub loop-octet-init : goal.loop-octet-init
loop-octet-init c = record { word = λ bits holds. holds ∙ sym (ap crc6 (append-nil bits)); few = c.requires }

pub loop-octet-preserved : goal.loop-octet-preserved
loop-octet-preserved c =
    let octets = c.args.octets.now in
    let i = c.loop-octet.octet-index in
    let within : i < length octets = omega arith in
    let more : bits_of (take (i + 1) octets) ≡ bits_of (take i octets) ++ bits_of_byte (get_or octets i 0) =
    ap bits_of (take_more octets i 0 within) ∙ bits_of-append (take i octets) (get_or octets i 0 ∷ []) in
    record {
      word = λ bits holds.
          c.with_octet-register.ensures.word (bits ++ bits_of (take i octets)) (c.loop-octet.invariant.word bits holds)
          ∙ ap crc6 (append_assoc bits (bits_of (take i octets)) (bits_of_byte (get_or octets i 0)) ∙ ap (λ (rest : List Bool). bits ++ rest) (sym more));
      few = c.with_octet-register.ensures.six_bits;
    }

pub returns-clause-word : goal.returns-clause-word
returns-clause-word c bits holds =
    c.loop-octet.invariant.word bits holds ∙ ap (λ octets. crc6 (bits ++ bits_of octets)) (take_all c.loop-octet.octet-index c.args.octets.now (omega arith))
