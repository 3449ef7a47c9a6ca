use Rattle.std.proofs.Common.{◌<◌, ◌≤◌, ◌*◌, suc, subst, arith}
use Rattle.pdh_desync.specs.FarStore.{reads_over}
use Rattle.pdh_desync.specs.laws.FarBounds.{run-bounds}
use Rattle.pdh_desync.proofs.laws.far_reads_over_runs.Goals as goal

pub returns-clause-least : goal.returns-clause-least
returns-clause-least g c pieces trib first run known =
    let s = g.S.Shape.shape in
    let laws = g.met.S.Shape in
    let known' : trib < s.tribs = omega (arith, laws.tribs_is) in
    let bounds = run-bounds s trib pieces first run (record { frame = laws.is_frame; has = laws.has_tributaries; even = laws.reads_evenly }) known' in
    subst (λ low. low * run ≤ reads_over s trib pieces first run) laws.low_is bounds.0

pub returns-clause-most : goal.returns-clause-most
returns-clause-most g c pieces trib first run known =
    let s = g.S.Shape.shape in
    let laws = g.met.S.Shape in
    let known' : trib < s.tribs = omega (arith, laws.tribs_is) in
    let bounds = run-bounds s trib pieces first run (record { frame = laws.is_frame; has = laws.has_tributaries; even = laws.reads_evenly }) known' in
    subst (λ low. reads_over s trib pieces first run ≤ suc low * run) laws.low_is bounds.1

pub returns-clause-ahead : goal.returns-clause-ahead
returns-clause-ahead g c pieces trib first run known =
    let s = g.S.Shape.shape in
    let laws = g.met.S.Shape in
    let known' : trib < s.tribs = omega (arith, laws.tribs_is) in
    let bounds = run-bounds s trib pieces first run (record { frame = laws.is_frame; has = laws.has_tributaries; even = laws.reads_evenly }) known' in
    omega (arith, bounds.2, laws.low_is)

pub returns-clause-behind : goal.returns-clause-behind
returns-clause-behind g c pieces trib first run known =
    let s = g.S.Shape.shape in
    let laws = g.met.S.Shape in
    let known' : trib < s.tribs = omega (arith, laws.tribs_is) in
    let bounds = run-bounds s trib pieces first run (record { frame = laws.is_frame; has = laws.has_tributaries; even = laws.reads_evenly }) known' in
    omega (arith, bounds.3, laws.low_is)
