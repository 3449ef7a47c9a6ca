use Rattle.std.proofs.Common.{◌≡◌, ℕ, Some, [], ◌∷◌, length, take, ap, ◌∙◌, arith}
use Rattle.std.proofs.lemmas.Result.{on_ok_weaker}
use Rattle.pdh_edge.specs.Files.Told.{Known}
use Rattle.pdh_claims_of_files.proofs.edge.read_from_beginning.Goals as goal

pub returns : goal.returns
returns c =
    let one : length c.read_at.new.into ≡ 1 = omega (arith, c.read_at.auto.into, c.requires.one) in
    on_ok_weaker c.read_at.result (λ has. (has.told (Some (3 ∷ 5 ∷ [])) (ap Known c.requires.two)).1 ∙ ap (λ (count : ℕ). take count (5 ∷ [])) one) c.read_at.ensures.ok
