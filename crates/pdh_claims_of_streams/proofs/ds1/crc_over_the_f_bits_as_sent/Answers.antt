use Rattle.std.proofs.Common.{true, ◌∷◌, ap, ◌∙◌}
use Rattle.std.specs.List.{slice_range}
use Rattle.std.proofs.lemmas.List.{append-nil}
use Rattle.pdh_ds1.specs.Crc6.{crc6}
use Rattle.pdh_ds1.specs.Packing.{word_of}
use Rattle.pdh_claims_of_streams.proofs.ds1.crc_over_the_f_bits_as_sent.Goals as goal

pub returns : goal.returns
unfolding word_of
returns c = c.word_of.ensures.word ∙ ap crc6 (append-nil (true ∷ slice_range c.args.line.now.bits 1 193))
