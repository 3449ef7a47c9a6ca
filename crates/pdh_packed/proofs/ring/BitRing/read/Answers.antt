use Rattle.std.proofs.Common.{◌+◌, ◌%◌, ◌≤◌, length, take, ap, ◌∙◌, arith}
use Rattle.pdh_packed.proofs.PackedLaws.{read_across, read_inside}
use Rattle.pdh_packed.proofs.RingLaws.{bits_in, stands_inside, ring_read, ring_within}
use Rattle.pdh_packed.proofs.ring.BitRing.read.Goals as goal

pub overflow_add-from : goal.overflow_add-from
overflow_add-from c = omega (arith, stands_inside c.self.inside c.args.self.now c.args.place c.args.count c.self.view_is c.self.invariant.4 c.requires.within, c.self.invariant)

pub across-requires : goal.across-requires
across-requires c =
    let within = ring_within c.self.inside c.args.self.now c.word_at-first.result c.word_at.result c.args.place c.args.count c.self.view_is c.self.invariant.4 c.word_at-first.ensures c.word_at.ensures c.requires.few c.requires.within in
    record { few = c.requires.few; begun = within.0; within = within.1 }

pub returns : goal.returns
returns c =
    c.across.ensures ∙ read_across (bits_in c.self.inside) c.word_at-first.result c.word_at.result (c.self.inside.dropped + c.args.place) c.args.count c.word_at-first.ensures c.word_at.ensures c.requires.few
    ∙ ring_read c.self.inside c.args.self.now c.args.place c.args.count c.self.view_is

pub returns-then-offset-count : goal.returns-then-offset-count
returns-then-offset-count c =
    let from = c.self.inside.dropped + c.args.place in
    let first = c.word_at-first.result in
    let within : from % 64 + c.args.count ≤ length first = omega (arith, c.if-offset-count.true, c.len.ensures.count) in
    c.first.ensures ∙ ap (take c.args.count) c.after.ensures ∙ read_inside (bits_in c.self.inside) first from c.args.count c.word_at-first.ensures c.requires.few within
    ∙ ring_read c.self.inside c.args.self.now c.args.place c.args.count c.self.view_is
