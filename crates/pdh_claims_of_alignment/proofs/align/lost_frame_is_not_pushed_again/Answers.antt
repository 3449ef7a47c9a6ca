use Rattle.std.proofs.Common.{[], ◌∷◌, ◌++◌, drop}
use Rattle.pdh_claims_of_alignment.proofs.align.lost_frame_is_not_pushed_again.Goals as goal

pub returns-in-Some : goal.returns-in-Some
returns-in-Some g c line q stands ends =
    let now = line ++ c.args.bit ∷ [] in
    c.run_at.ensures (drop q now) (c.in-Some.ensures.stands now q (c.push.ensures.tracks line stands).stands ends)
