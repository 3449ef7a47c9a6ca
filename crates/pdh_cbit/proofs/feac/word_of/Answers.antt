use Rattle.std.proofs.Common.{◌∙◌, sym, arith}
use Rattle.pdh_cbit.proofs.Words.{number_of-word_of}
use Rattle.pdh_cbit.proofs.feac.word_of.Goals as goal

pub returns-clause-number : goal.returns-clause-number
returns-clause-number c = omega (arith, number_of-word_of c.args.code (omega arith))
