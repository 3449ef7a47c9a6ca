use Rattle.std.proofs.Common.{inl, inr, refl, arith}
use Rattle.std.proofs.lemmas.Bool.{cases_eq}
use Rattle.pdh_blocks.specs.State.{over}
use Rattle.pdh_recorded.proofs.Stopping.{demux_kinds}
use Rattle.pdh_recorded.proofs.SmoothRun.{smooth_all, smooth_fewer, smooth_part, smooth_some, smooth_none}
use Rattle.pdh_recorded.proofs.smoothing.SmoothPortCommandNobody.work.Goals as goal

pub smooth-port-requires-clause-port : goal.smooth-port-requires-clause-port
smooth-port-requires-clause-port g c = record { is_fresh = c.requires.opened.fresh; has_leaves = c.requires.opened.lists; has_line = c.requires.opened.line.holds }

pub returns-in-Ok-clause-comes : goal.returns-in-Ok-clause-comes
returns-in-Ok-clause-comes g c = λ begun is.
    let command = c.args.self.now in
    let line = c.args.line.now in
    let p = over (g.S.Shelf.state c.args.port.shelf) c.args.port.blocks in
    let q = over (g.S.Shelf.state c.smooth-port.result.port.shelf) c.smooth-port.result.port.blocks in
    let call = c.smooth-port.ensures in
    let reads = rw c.in-Ok.is at call.reads in
    let writes = rw c.in-Ok.is at call.writes in
    let left = rw c.in-Ok.is at call.left in
    let done = rw c.in-Ok.is at call.ok in
    let frames = c.in-Ok.frames in
    elim (cases_eq frames 0) [
      | inl none ↦ rw (c.received.ensures.none none) (record {
        unread = reads;
        unwritten = writes;
        started = inl left.ready_is;
        puts = smooth_all command.chain c.requires.opened.single line c.requires.opened.few begun p q is frames done;
        comes = smooth_none command.chain c.requires.opened.single line c.requires.opened.few begun p q is frames done none;
        behind = refl;
      })
      | inr some ↦ rw (c.received.ensures.some some, c.says.ensures) (record {
        unread = reads;
        unwritten = writes;
        started = inl left.ready_is;
        puts = smooth_all command.chain c.requires.opened.single line c.requires.opened.few begun p q is frames done;
        comes = smooth_some command.chain c.requires.opened.single line c.requires.opened.few begun p q is frames done some;
        behind = refl;
      })
    ]

pub returns-in-Ok-clause-counted : goal.returns-in-Ok-clause-counted
returns-in-Ok-clause-counted g c = elim (cases_eq c.in-Ok.frames 0) [
  | inl none ↦ rw (c.received.ensures.none none) tt
  | inr some ↦ rw (c.received.ensures.some some) tt
]

pub outcome_of-requires : goal.outcome_of-requires
outcome_of-requires g c is = let stops = rw is at (rw c.in-Err.is at c.smooth-port.ensures.err) in omega (arith, stops.0, c.requires.opened.line.left)

pub returns-in-Err-clause-counted : goal.returns-in-Err-clause-counted
returns-in-Err-clause-counted g c =
    elim (demux_kinds c.in-Err.stop (λ is. let stops = rw is at (rw c.in-Err.is at c.smooth-port.ensures.err) in omega (arith, stops.0, c.requires.opened.line.left))) [
      | inl is ↦ rw (c.outcome_of.ensures.memory is) tt
      | inr failed ↦ elim failed [
        | inl is ↦ rw (c.outcome_of.ensures.failed (inl is)) (λ none. (let counted = rw is at (rw c.in-Err.is at c.smooth-port.ensures.reads) in omega (arith, none, counted)))
        | inr is ↦ rw (c.outcome_of.ensures.failed (inr is)) (λ none. (let counted = rw is at (rw c.in-Err.is at c.smooth-port.ensures.writes) in omega (arith, none, counted)))
      ]
    ]

pub returns-in-Err-clause-comes : goal.returns-in-Err-clause-comes
returns-in-Err-clause-comes g c = λ begun is.
    let command = c.args.self.now in
    let line = c.args.line.now in
    let p = over (g.S.Shelf.state c.args.port.shelf) c.args.port.blocks in
    let q = over (g.S.Shelf.state c.smooth-port.result.port.shelf) c.smooth-port.result.port.blocks in
    let call = c.smooth-port.ensures in
    let reads = rw c.in-Err.is at call.reads in
    let writes = rw c.in-Err.is at call.writes in
    let left = rw c.in-Err.is at call.left in
    let why = rw c.in-Err.is at call.err in
    elim (demux_kinds c.in-Err.stop (λ stop. let stops = rw stop at why in omega (arith, stops.0, c.requires.opened.line.left))) [
      | inl stop ↦ rw (c.outcome_of.ensures.memory stop) (record { fresh = (rw stop at left).ready_is; unread = rw stop at reads })
      | inr failed ↦ elim failed [
        | inl stop ↦ rw (c.outcome_of.ensures.failed (inl stop)) (
            inl (
            let stops = rw stop at why in
            record {
              failed = rw stop at reads;
              unwritten = rw stop at writes;
              started = inl (rw stop at left).ready_is;
              puts = smooth_fewer command.chain c.requires.opened.single line c.requires.opened.few begun p q is stops.1;
            }
            )
            )
        | inr stop ↦ rw (c.outcome_of.ensures.failed (inr stop)) (
            inr (
            let stops = rw stop at why in
            record {
              unread = rw stop at reads;
              failed = rw stop at writes;
              left = (rw stop at left).ready_is;
              puts = smooth_part command.chain c.requires.opened.single line c.requires.opened.few begun p q is stops.1;
            }
            )
            )
      ]
    ]
