use Rattle.std.proofs.Common.{ℕ, Bool, ◌++◌, List, [], ◌∷◌, length, drop, subst}
use Rattle.std.specs.Prelude.{◌==◌, if◌then◌else◌}
use Rattle.pdh_line.specs.Paths.{top}
use Rattle.pdh_line.specs.Tracking.{track}
use Rattle.pdh_events.specs.Acts.{alignment_kinds}
use Rattle.pdh_events.specs.Telling.{ais_kinds, next_bit, tell}
use Rattle.pdh_ds1.specs.Receiving.{judged}
use Rattle.pdh_ds1.specs.Superframe.{in_superframe}
use Rattle.pdh_ds1_events.specs.Events.{crc_kinds, superframe_events}
use Rattle.pdh_claims_of_placed_events.proofs.ds1_events.superframes_of_12_frames_checked.Goals as goal

pub returns : goal.returns
unfolding superframe_events
returns g c past stands =
    let s = in_superframe g.P.InSuperframe.f_bits g.P.InSuperframe.PLAN in
    let bit = c.args.bit in
    let after = past ++ bit ∷ [] in
    subst (λ (frames : ℕ).
    let checked : List Bool → List Bool = λ line. if frames == 24 then judged s line else [] in
    g.W.Watch.saw c.args.watch.now
    (tell top (next_bit past) (ais_kinds s.len past bit ++ alignment_kinds (track s past) (track s after) ++ crc_kinds (drop (length (checked past)) (checked after))))
    c.push.new.watch) c.requires.frames (c.push.ensures.seen past stands)
