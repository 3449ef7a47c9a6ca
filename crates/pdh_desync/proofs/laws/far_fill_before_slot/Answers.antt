use Rattle.std.proofs.Common.{◌<◌, ◌≤◌, arith}
use Rattle.pdh_desync.specs.laws.FarBounds.{before-bounds}
use Rattle.pdh_desync.proofs.laws.far_fill_before_slot.Goals as goal

pub returns-clause-least : goal.returns-clause-least
returns-clause-least g c pieces trib n slot known h =
    let s = g.S.Shape.shape in
    let laws = g.met.S.Shape in
    let known' : trib < s.tribs = omega (arith, laws.tribs_is) in
    let h' : slot ≤ s.len = omega (arith, laws.len_is) in
    omega (arith, (before-bounds s trib pieces n slot (record { frame = laws.is_frame; has = laws.has_tributaries; even = laws.reads_evenly }) known' h').0)

pub returns-clause-most : goal.returns-clause-most
returns-clause-most g c pieces trib n slot known h =
    let s = g.S.Shape.shape in
    let laws = g.met.S.Shape in
    let known' : trib < s.tribs = omega (arith, laws.tribs_is) in
    let h' : slot ≤ s.len = omega (arith, laws.len_is) in
    omega (arith, (before-bounds s trib pieces n slot (record { frame = laws.is_frame; has = laws.has_tributaries; even = laws.reads_evenly }) known' h').1)
