-- An aligner that has taken no bit stands for the empty line.
use Rattle.std.proofs.Common.{◌≡◌, [], ◌++◌, sym, ap, ◌∙◌, subst}
use Rattle.pdh_align.specs.Aligning.{StandsFor}
use Rattle.pdh_align.specs.Aligning.Phase.{Searching}
use Rattle.pdh_align.proofs.AligningLaws.{stands_empty}
use Rattle.pdh_align.proofs.aligner.Aligner.open.Goals as goal

pub returns-clause-stands : goal.returns-clause-stands
returns-clause-stands g c =
    let unlisted : [] ≡ c.in_ok-frame.frame.bits = ap (λ b. b.bits) (sym c.in_ok-frame.ensures) in
    let unheld : [] ≡ c.in_ok-held.held.bits = ap (λ b. b.bits) (sym c.in_ok-held.ensures) in
    let empty : [] ≡ c.in_ok-held.held.bits ++ c.in_ok-frame.frame.bits = unlisted ∙ ap (λ x. x ++ c.in_ok-frame.frame.bits) unheld in
    let s = g.S.Shape.shape in
    let search = c.in_ok-search.search in
    let kept = stands_empty s search g.met.S.Shape.is_frame c.in_ok-search.ensures in
    subst (λ bits. StandsFor s (record { phase = Searching bits; search = search; ready = [] }) []) empty kept
