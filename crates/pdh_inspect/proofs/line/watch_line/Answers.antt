use Rattle.std.proofs.Common.{inl, inr, Err, ap, arith}
use Rattle.pdh_inspect.proofs.Given.{only_seeing}
use Rattle.pdh_inspect.proofs.line.watch_line.Goals as goal

pub line_stop-requires : goal.line_stop-requires
line_stop-requires g c =
    only_seeing c.in-Err.stop
    (λ is. let stops = rw is at c.in-Err.ensures.err in omega (arith, stops.0, c.requires.whole))
    (λ is. let counted = rw is at c.in-Err.ensures.writes in omega (arith, counted))

pub returns-in-Err-clause-faults : goal.returns-in-Err-clause-faults
returns-in-Err-clause-faults g c =
    let kind = only_seeing c.in-Err.stop
    (λ is. let stops = rw is at c.in-Err.ensures.err in omega (arith, stops.0, c.requires.whole))
    (λ is. let counted = rw is at c.in-Err.ensures.writes in omega (arith, counted)) in
    elim kind [
      | inl is ↦ rw (c.line_stop.ensures.memory is) (rw is at c.in-Err.ensures.reads)
      | inr is ↦ rw (c.line_stop.ensures.failed is) (rw is at c.in-Err.ensures.reads)
    ]

pub returns-in-Err-clause-unread : goal.returns-in-Err-clause-unread
returns-in-Err-clause-unread g c failed =
    let kind = only_seeing c.in-Err.stop
    (λ is. let stops = rw is at c.in-Err.ensures.err in omega (arith, stops.0, c.requires.whole))
    (λ is. let counted = rw is at c.in-Err.ensures.writes in omega (arith, counted)) in
    elim kind [
      | inl is ↦ absurd (let memory = c.line_stop.ensures.memory is in cc)
      | inr is ↦ c.in-Err.ensures.left.unread_is (ap Err is)
    ]

pub returns-in-Err-clause-err : goal.returns-in-Err-clause-err
returns-in-Err-clause-err g c =
    let kind = only_seeing c.in-Err.stop
    (λ is. let stops = rw is at c.in-Err.ensures.err in omega (arith, stops.0, c.requires.whole))
    (λ is. let counted = rw is at c.in-Err.ensures.writes in omega (arith, counted)) in
    elim kind [
      | inl is ↦ rw (c.line_stop.ensures.memory is) (let stops = rw is at c.in-Err.ensures.err in (stops.0, c.in-Err.ensures.unseen (ap Err is)))
      | inr is ↦ rw (c.line_stop.ensures.failed is) (let stops = rw is at c.in-Err.ensures.err in record { given = stops.1.given; fewer = stops.1.fewer; takes = stops.1.line.takes; seen = stops.1.seen })
    ]
