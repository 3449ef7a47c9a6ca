use Rattle.pdh_row_text.proofs.Splits.{words_of_first}
use Rattle.pdh_row_text.proofs.words.first_word.Goals as goal

pub returns-clause-words : goal.returns-clause-words
returns-clause-words c = rw (c.split_once.ensures.front, c.split_once.ensures.rest) (words_of_first c.args.line.now)
