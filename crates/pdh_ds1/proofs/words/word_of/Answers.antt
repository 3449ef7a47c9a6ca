use Rattle.std.proofs.Common.{◌≡◌, ℕ, drop, sym, ap, ◌∙◌, arith}
use Rattle.pdh_ds1.specs.Crc6.{crc6}
use Rattle.pdh_ds1.specs.Packing.{with_ones}
use Rattle.pdh_ds1.proofs.WordLaws.{frame_push, word_of-is}
use Rattle.pdh_ds1.proofs.words.word_of.Goals as goal

pub loop-frame-preserved : goal.loop-frame-preserved
loop-frame-preserved c = record {
  word = frame_push c.args.line.now.bits c.args.start c.loop-frame.frame c.loop-frame.word c.with_frame-word.result c.loop-frame.invariant.word c.with_frame-word.ensures.word;
  six_bits = c.with_frame-word.ensures.six_bits;
}

pub returns-clause-word : goal.returns-clause-word
returns-clause-word c =
    let all : c.loop-frame.frame ≡ c.args.frames = omega arith in
    c.loop-frame.invariant.word
    ∙ ap (λ (n : ℕ). crc6 (with_ones (drop c.args.start c.args.line.now.bits) n)) all
    ∙ sym (word_of-is c.args.frames (drop c.args.start c.args.line.now.bits))
