use Rattle.pdh_g706.proofs.HeldLaws.{errs_read}
use Rattle.pdh_g706.proofs.held.errs.Goals as goal

pub returns : goal.returns
returns c = errs_read c.args.held.now.bits c.args.frame c.sent_check.result c.word_of.result c.requires c.sent_check.ensures c.word_of.ensures
