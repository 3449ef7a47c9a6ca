use Rattle.std.proofs.Common.{[], refl, sym, ap, ◌∙◌}
use Rattle.pdh_e1.specs.Multiframe.{sent_word}
use Rattle.pdh_e1.proofs.WordLaws.{sent_word_is, sent_word-first}
use Rattle.pdh_e1.proofs.multiframe.sent_word.Goals as goal

pub returns-then-number-eq0-clause-word : goal.returns-then-number-eq0-clause-word
returns-then-number-eq0-clause-word c =
    sym (ap (sent_word c.args.line.now) c.if-number-eq0.true ∙ sent_word-first c.args.line.now)

pub returns-clause-word : goal.returns-clause-word
returns-clause-word c =
    sent_word_is c.args.line.now c.copy_from_slice.new.self c.args.number c.crc4_after.result c.if-number-eq0.false c.copy_from_slice.ensures.len c.copy_from_slice.ensures.after (c.crc4_after.ensures.word [] refl)
