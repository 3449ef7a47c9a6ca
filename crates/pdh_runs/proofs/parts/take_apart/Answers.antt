use Rattle.std.proofs.Common.{◌≡◌, ◌<◌, [], length, get_or, ap, ◌∙◌, arith}
use Rattle.std.proofs.lemmas.List.{length-map}
use Rattle.pdh_bits.specs.BitOut.{BoundedBits}
use Rattle.pdh_packed.specs.Words.{bounded}
use Rattle.pdh_runs.proofs.TakingLaws.{emptied_at}
use Rattle.pdh_runs.proofs.parts.take_apart.Goals as goal

pub fill_columns-requires-clause-room : goal.fill_columns-requires-clause-room
fill_columns-requires-clause-room g c = λ k d within.
    let old = c.args.columns.now in
    let many : length c.clear_all.new.lists ≡ length old = ap length c.clear_all.ensures ∙ length-map old (λ (list : BoundedBits). bounded list.capacity []) in
    let inside : k < length old = omega (arith, within, many) in
    let is : get_or c.clear_all.new.lists k d ≡ bounded (get_or old k d).capacity [] = ap (λ l. get_or l k d) c.clear_all.ensures ∙ emptied_at old k d inside in
    omega (arith, ap (λ (b : BoundedBits). b.capacity) is, c.requires.room k d inside)

pub fill_columns-requires-clause-empty : goal.fill_columns-requires-clause-empty
fill_columns-requires-clause-empty g c = λ k d within.
    let old = c.args.columns.now in
    let many : length c.clear_all.new.lists ≡ length old = ap length c.clear_all.ensures ∙ length-map old (λ (list : BoundedBits). bounded list.capacity []) in
    let inside : k < length old = omega (arith, within, many) in
    ap (λ l. (get_or l k d).bits) c.clear_all.ensures ∙ ap (λ (b : BoundedBits). b.bits) (emptied_at old k d inside)
