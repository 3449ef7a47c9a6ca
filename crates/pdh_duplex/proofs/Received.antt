-- What both ends have received at the end of a session.
use Rattle.std.proofs.Common.{◌≡◌, ◌≤◌, Bool, List, [], refl, ap, ◌∙◌, arith}
use Rattle.pdh_script.specs.Scripts.{Row, disturbed}
use Rattle.pdh_chain.specs.Chains.{shapes_of}
use Rattle.pdh_chain.specs.Demuxes.{top_delivered}
use Rattle.pdh_duplex.specs.Hearing.{next_say}
use Rattle.pdh_duplex.specs.Session.{Setting, IsSetting, ends_after, ends_of, line_upto}
use Rattle.pdh_duplex.specs.Laws.{DeliversUndisturbed, ReceivesDisturbed}
use Rattle.pdh_duplex.proofs.SessionLines.{way_received}
use Rattle.pdh_duplex.proofs.Undisturbed.{line_delivered}

pub received : (z : Setting) → IsSetting z → ReceivesDisturbed z
unfolding ends_after
received z is = record {
  east = λ some. way_received z z.to_east (λ n. (ends_after z n).west.says) (λ n. next_say (shapes_of z.chain) (ends_after z n).west.heard) (λ n. (ends_after z n).east.heard.got) refl refl (λ n. refl) (λ n. refl) z.frames refl some is.to_east;
  west = λ some. way_received z z.to_west (λ n. (ends_after z n).east.says) (λ n. next_say (shapes_of z.chain) (ends_after z n).east.heard) (λ n. (ends_after z n).west.heard.got) refl refl (λ n. refl) (λ n. refl) z.frames refl some is.to_west;
}

-- what no rows disturb is as it was
pub same_line : (line got : List Bool) (rows : List Row) → rows ≡ [] → got ≡ disturbed line rows → got ≡ line
same_line line got rows none is = is ∙ ap (disturbed line) none

pub delivers : (z : Setting) → IsSetting z → 3 ≤ z.frames → DeliversUndisturbed z
delivers z is three =
    let have : ReceivesDisturbed z = received z is in
    let shapes = shapes_of z.chain in
    record {
      east = λ none. ap (top_delivered shapes) (same_line (line_upto z (ends_of z).west.says z.frames) _ z.to_east none (have.east (λ zero. omega (arith, zero, three)))) ∙ line_delivered z (ends_of z).west.says z.frames three;
      west = λ none. ap (top_delivered shapes) (same_line (line_upto z (ends_of z).east.says z.frames) _ z.to_west none (have.west (λ zero. omega (arith, zero, three)))) ∙ line_delivered z (ends_of z).east.says z.frames three;
    }
