use Rattle.std.proofs.Common.{◌≡◌, ℕ, List, map, Option, Some, None, length, slice_get, ap, sym, refl, ◌∙◌, arith}
use Rattle.std.specs.Option.{option_map}
use Rattle.std.specs.String.{string_bytes}
use Rattle.std.proofs.lemmas.Option.{slice_get-map, slice_get-get_or, slice_get_within}
use Rattle.std.proofs.lemmas.List.{length-map}
use Rattle.pdh_edge.specs.NeverFails.{held_in, told_as}
use Rattle.pdh_edge.proofs.InputsHeld.{holds_next}
use Rattle.pdh_edge.proofs.never_fails.NeverFails.open.Goals as goal

-- src/never_fails.rt:42:9
pub loop-place-preserved : goal.loop-place-preserved
loop-place-preserved c =
    let names = map string_bytes c.args.names.now in
    let files = map (λ file. file.items) c.args.files.now in
    let name_in = slice_get-get_or c.args.names.now c.loop-place.place c.index-names-place.result c.loop-place-test.true ∙ ap Some (sym c.index-names-place.is) in
    let file_in = slice_get-get_or c.args.files.now c.loop-place.place c.index-files-place.result (omega (arith, c.loop-place-test.true, c.requires.same)) ∙ ap Some (sym c.index-files-place.is) in
    let name_at : slice_get names c.loop-place.place ≡ Some (string_bytes c.index-names-place.result) = slice_get-map string_bytes c.args.names.now c.loop-place.place ∙ ap (option_map string_bytes) name_in in
    let file_at : slice_get files c.loop-place.place ≡ Some c.index-files-place.result.items = slice_get-map (λ file. file.items) c.args.files.now c.loop-place.place ∙ ap (option_map (λ file. file.items)) file_in in
    holds_next c.loop-place.place names files (held_in c.loop-place.inputs) (held_in c.add.new.inputs) (string_bytes c.index-names-place.result) c.index-files-place.result.items c.requires.differ name_at file_at
    (ap (held_in c.add.new.inputs) (sym c.deref.ensures) ∙ c.in_ok-add.ensures.here ∙ ap Some c.deref-in-loop-place.ensures.value) (λ other apart. c.in_ok-add.ensures.others other (λ same. apart (same ∙ c.deref.ensures))) c.loop-place.invariant

-- src/never_fails.rt:31:5
pub returns : goal.returns
returns c = record {
  inputs = record {
    given = λ i name bytes named held.
        let low = slice_get_within (map string_bytes c.args.names.now) i name named in
        ap told_as (c.loop-place.invariant.given i name bytes (omega (arith, low, length-map c.args.names.now string_bytes, c.loop-place-test.false)) named held);
    others = λ name no. ap told_as (c.loop-place.invariant.others name (λ i low. no i));
    counts = refl;
  };
  taken = refl;
}
