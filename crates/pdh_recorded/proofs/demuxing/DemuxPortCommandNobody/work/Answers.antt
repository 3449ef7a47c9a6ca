use Rattle.std.proofs.Common.{refl, inl, inr, arith}
use Rattle.std.proofs.lemmas.Bool.{cases_eq}
use Rattle.pdh_blocks.specs.State.{over}
use Rattle.pdh_recorded.proofs.Stopping.{demux_kinds}
use Rattle.pdh_recorded.proofs.DemuxRun.{long, received_all, received_front, received_part, comes_some, comes_none}
use Rattle.pdh_recorded.proofs.demuxing.DemuxPortCommandNobody.work.Goals as goal

pub returns-in-Ok-clause-comes : goal.returns-in-Ok-clause-comes
returns-in-Ok-clause-comes g c = λ begun is.
    let command = c.args.self.now in
    let line = c.args.line.now in
    let p = over (g.S.Shelf.state c.args.port.shelf) c.args.port.blocks in
    let q = over (g.S.Shelf.state c.demux.new.port.shelf) c.demux.new.port.blocks in
    let ran = c.in-Ok.ensures in
    let frames = c.in-Ok.frames in
    elim (cases_eq frames 0) [
      | inl none ↦ rw (c.received.ensures.none none) (record {
        unread = ran.reads;
        unwritten = ran.writes;
        started = inl ran.left.ready_is;
        puts = received_all command.chain command.bits line begun p q is _ line.bits frames (long command.chain command.bits line begun p q is c.args.port.port c.requires.opened.line) ran.ok;
        comes = comes_none command.chain command.bits line begun p q is _ frames c.args.port.port c.requires.opened.line ran.ok none;
        behind = refl;
      })
      | inr some ↦ rw (c.received.ensures.some some, c.says.ensures) (record {
        unread = ran.reads;
        unwritten = ran.writes;
        started = inl ran.left.ready_is;
        puts = received_all command.chain command.bits line begun p q is _ line.bits frames (long command.chain command.bits line begun p q is c.args.port.port c.requires.opened.line) ran.ok;
        comes = comes_some command.chain command.bits line begun p q is _ frames c.args.port.port c.requires.opened.line ran.ok some;
        behind = refl;
      })
    ]

pub returns-in-Ok-clause-counted : goal.returns-in-Ok-clause-counted
returns-in-Ok-clause-counted g c = elim (cases_eq c.in-Ok.frames 0) [
  | inl none ↦ rw (c.received.ensures.none none) tt
  | inr some ↦ rw (c.received.ensures.some some) tt
]

pub outcome_of-requires : goal.outcome_of-requires
outcome_of-requires g c is = let stops = rw is at c.in-Err.ensures.err in omega (arith, stops.0, c.requires.opened.line.left)

pub returns-in-Err-clause-counted : goal.returns-in-Err-clause-counted
returns-in-Err-clause-counted g c =
    elim (demux_kinds c.in-Err.stop (λ is. let stops = rw is at c.in-Err.ensures.err in omega (arith, stops.0, c.requires.opened.line.left))) [
      | inl is ↦ rw (c.outcome_of.ensures.memory is) tt
      | inr failed ↦ elim failed [
        | inl is ↦ rw (c.outcome_of.ensures.failed (inl is)) (λ none. (let counted = rw is at c.in-Err.ensures.reads in omega (arith, none, counted)))
        | inr is ↦ rw (c.outcome_of.ensures.failed (inr is)) (λ none. (let counted = rw is at c.in-Err.ensures.writes in omega (arith, none, counted)))
      ]
    ]

pub returns-in-Err-clause-comes : goal.returns-in-Err-clause-comes
returns-in-Err-clause-comes g c = λ begun is.
    let command = c.args.self.now in
    let line = c.args.line.now in
    let p = over (g.S.Shelf.state c.args.port.shelf) c.args.port.blocks in
    let q = over (g.S.Shelf.state c.demux.new.port.shelf) c.demux.new.port.blocks in
    let ran = c.in-Err.ensures in
    elim (demux_kinds c.in-Err.stop (λ stop. let stops = rw stop at ran.err in omega (arith, stops.0, c.requires.opened.line.left))) [
      | inl stop ↦ rw (c.outcome_of.ensures.memory stop) (record { fresh = (rw stop at ran.left).ready_is; unread = rw stop at ran.reads })
      | inr failed ↦ elim failed [
        | inl stop ↦ rw (c.outcome_of.ensures.failed (inl stop)) (
            inl (
            let stops = rw stop at ran.err in
            record {
              failed = rw stop at ran.reads;
              unwritten = rw stop at ran.writes;
              started = inl (rw stop at ran.left).ready_is;
              puts = received_front command.chain command.bits line begun p q is _ line.bits stops.1;
            }
            )
            )
        | inr stop ↦ rw (c.outcome_of.ensures.failed (inr stop)) (
            inr (
            let stops = rw stop at ran.err in
            record {
              unread = rw stop at ran.reads;
              failed = rw stop at ran.writes;
              left = (rw stop at ran.left).ready_is;
              puts = received_part command.chain command.bits line begun p q is _ line.bits stops.1;
            }
            )
            )
      ]
    ]
