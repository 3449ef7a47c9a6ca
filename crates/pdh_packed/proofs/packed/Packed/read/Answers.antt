use Rattle.std.proofs.Common.{◌∙◌, arith}
use Rattle.pdh_packed.proofs.PackedLaws.{read_across, read_within, read_inside}
use Rattle.pdh_packed.proofs.packed.Packed.read.Goals as goal

pub across-requires-clause-begun : goal.across-requires-clause-begun
across-requires-clause-begun c =
    (read_within c.args.self.now.bits c.word_at-first.result c.word_at.result c.args.place c.args.count c.word_at-first.ensures c.word_at.ensures c.requires.few c.requires.within).0

pub across-requires-clause-within : goal.across-requires-clause-within
across-requires-clause-within c =
    (read_within c.args.self.now.bits c.word_at-first.result c.word_at.result c.args.place c.args.count c.word_at-first.ensures c.word_at.ensures c.requires.few c.requires.within).1

pub returns : goal.returns
returns c =
    c.across.ensures ∙ read_across c.args.self.now.bits c.word_at-first.result c.word_at.result c.args.place c.args.count c.word_at-first.ensures c.word_at.ensures c.requires.few

pub returns-then-offset-count : goal.returns-then-offset-count
returns-then-offset-count c =
    c.part.ensures
    ∙ read_inside c.args.self.now.bits c.word_at-first.result c.args.place c.args.count c.word_at-first.ensures c.requires.few (omega (arith, c.if-offset-count.true, c.len.ensures.count))
