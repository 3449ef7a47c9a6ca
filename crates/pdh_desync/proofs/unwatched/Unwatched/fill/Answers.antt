use Rattle.std.proofs.Common.{◌<◌, ◌∙◌, arith}
use Rattle.pdh_desync.specs.FarStore.{pieces_of}
use Rattle.pdh_desync.specs.FarNode.{bits_of}
use Rattle.pdh_desync.specs.laws.FarBounds.{IsEven}
use Rattle.pdh_desync.proofs.FarSteps.{held_long}
use Rattle.pdh_desync.proofs.unwatched.Unwatched.fill.Goals as goal

pub returns : goal.returns
returns g c =
    let s = g.S.Shape.shape in
    let laws = g.met.S.Shape in
    let even : IsEven s = record { frame = laws.is_frame; has = laws.has_tributaries; even = laws.reads_evenly } in
    let t = c.args.trib in
    let known : t < s.tribs = omega (arith, c.requires, laws.tribs_is) in
    let held = c.fill.ensures.held in
    rw (← c.self.view_is) (λ line st. held.2 ∙ held_long s t (pieces_of s line) (bits_of s t (pieces_of s line)) held.0 even known (st.each t held.0 known held.1))
