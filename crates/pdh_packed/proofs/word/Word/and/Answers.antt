use Rattle.std.proofs.Common.{bit_and}
use Rattle.pdh_packed.specs.Places.{both}
use Rattle.pdh_packed.proofs.BitwiseLaws.{low_bits-and, words_make}
use Rattle.pdh_packed.proofs.word.Word.and.Goals as goal

pub returns : goal.returns
returns c = words_make bit_and both low_bits-and c.args.self.now c.args.other c.of.result c.len.result c.number.result c.number-2.result c.of.ensures.bits c.len.ensures.count c.requires c.number.ensures.bits c.number-2.ensures.bits
