use Rattle.std.proofs.Common.{false, true, map, filter, ◌∙◌, ap}
use Rattle.std.specs.List.{slice_index_or}
use Rattle.pdh_shape.specs.Frame.{slots}
use Rattle.pdh_shape.specs.Tributary.{bits_read, reads_from, stripped, turned}
use Rattle.pdh_claims_of_frames.proofs.runs.reads_an_inverted_column_as_it_is.Goals as goal

pub returns : goal.returns
unfolding stripped
returns g c =
    let s = g.S.Shape.shape in
    let frame = c.args.parts.now.frame in
    let read = filter (λ slot. reads_from c.args.trib true (s.role slot)) (slots s) in
    c.read.ensures.bits ∙ ap (λ more. bits_read s c.args.trib more frame) c.requires.more
    ∙ ap (λ inverted. map (λ slot. turned inverted (slice_index_or frame slot false)) read) c.requires.inverted
