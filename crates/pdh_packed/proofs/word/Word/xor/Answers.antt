use Rattle.std.proofs.Common.{length, bit_xor}
use Rattle.std.proofs.lemmas.Nat.{xor_lt}
use Rattle.pdh_packed.specs.Places.{differing}
use Rattle.pdh_packed.proofs.BitwiseLaws.{low_bits-xor, words_make, words_small}
use Rattle.pdh_packed.proofs.word.Word.xor.Goals as goal

pub of-requires-clause-small : goal.of-requires-clause-small
of-requires-clause-small c = words_small bit_xor xor_lt c.len.result (length c.args.self.now) (length c.args.other) c.number.result c.number-2.result c.len.ensures.count c.requires c.number.ensures.small c.number-2.ensures.small

pub returns : goal.returns
returns c = words_make bit_xor differing low_bits-xor c.args.self.now c.args.other c.of.result c.len.result c.number.result c.number-2.result c.of.ensures.bits c.len.ensures.count c.requires c.number.ensures.bits c.number-2.ensures.bits
