use Rattle.std.proofs.Common.{refl, ◌∙◌, arith}
use Rattle.pdh_g706.proofs.CheckLaws.{word_more, word_all}
use Rattle.pdh_g706.proofs.held.word_of.Goals as goal

pub loop-index-preserved : goal.loop-index-preserved
loop-index-preserved c = record {
  word = word_more c.args.held.now.bits c.args.start c.loop-index.index c.loop-index.word c.crc4_after-word.result c.counted-number.result c.to_be_bytes.result _ c.requires c.loop-index-test.true c.loop-index.invariant.word
      refl c.counted-number.ensures c.to_be_bytes.ensures c.crc4_after-word.ensures.word;
  few = c.crc4_after-word.ensures.four_bits;
}

pub returns : goal.returns
returns c = c.loop-index.invariant.word ∙ word_all c.args.held.now.bits c.args.start c.loop-index.index c.requires (omega arith)
