use Rattle.std.proofs.Common.{◌<◌, arith}
use Rattle.pdh_desync.specs.laws.SmoothLaws.{read_balance, smooth_long}
use Rattle.pdh_desync.proofs.laws.far_store_balance.Goals as goal

pub returns-clause-held : goal.returns-clause-held
returns-clause-held g c line trib known =
    let s = g.S.Shape.shape in
    let laws = g.met.S.Shape in
    let known' : trib < s.tribs = omega (arith, laws.tribs_is) in
    read_balance s trib line (record { frame = laws.is_frame; has = laws.has_tributaries; even = laws.reads_evenly }) known'

pub returns-clause-out : goal.returns-clause-out
returns-clause-out g c line trib known =
    let s = g.S.Shape.shape in
    let laws = g.met.S.Shape in
    let known' : trib < s.tribs = omega (arith, laws.tribs_is) in
    smooth_long s trib line (record { frame = laws.is_frame; has = laws.has_tributaries; even = laws.reads_evenly }) known'
