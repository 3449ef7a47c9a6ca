use Rattle.std.proofs.Common.{length, bit_or}
use Rattle.std.proofs.lemmas.Nat.{or_lt}
use Rattle.pdh_packed.specs.Places.{either}
use Rattle.pdh_packed.proofs.BitwiseLaws.{low_bits-or, words_make, words_small}
use Rattle.pdh_packed.proofs.word.Word.or.Goals as goal

pub of-requires-clause-small : goal.of-requires-clause-small
of-requires-clause-small c = words_small bit_or or_lt c.len.result (length c.args.self.now) (length c.args.other) c.number.result c.number-2.result c.len.ensures.count c.requires c.number.ensures.small c.number-2.ensures.small

pub returns : goal.returns
returns c = words_make bit_or either low_bits-or c.args.self.now c.args.other c.of.result c.len.result c.number.result c.number-2.result c.of.ensures.bits c.len.ensures.count c.requires c.number.ensures.bits c.number-2.ensures.bits
