use Rattle.std.proofs.Common.{◌≤◌, length, append_assoc, ap, arith}
use Rattle.pdh_line.specs.Paths.{steps_of, path_text}
use Rattle.pdh_text.proofs.Lengths.{path_len}
use Rattle.pdh_answers.proofs.reporting.placed.Goals as goal

pub path-requires : goal.path-requires
path-requires c =
    let path : length (path_text (steps_of c.args.place.path)) ≤ 42 = path_len c.args.place.path (omega arith) (omega arith) in
    omega (arith, ap length c.new-text.ensures)

pub returns : goal.returns
returns c =
    rw (c.text-5.ensures.bytes, c.number-3.ensures.bytes, c.from-2.ensures, c.text-4.ensures.bytes, c.number-2.ensures.bytes, c.text-3.ensures.bytes, c.number.ensures.bytes, c.from.ensures, c.text-2.ensures.bytes, c.path.ensures.bytes, c.text.ensures.bytes, c.new-text.ensures)
    (simp append_assoc)
