use Rattle.std.proofs.Common.{◌<◌, arith}
use Rattle.pdh_desync.specs.laws.FarBounds.{start_near}
use Rattle.pdh_desync.proofs.laws.far_fill_at_start.Goals as goal

pub returns : goal.returns
returns g c pieces trib n known =
    let s = g.S.Shape.shape in
    let laws = g.met.S.Shape in
    let known' : trib < s.tribs = omega (arith, laws.tribs_is) in
    start_near s trib pieces n (record { frame = laws.is_frame; has = laws.has_tributaries; even = laws.reads_evenly }) known'
