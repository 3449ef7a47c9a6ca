use Rattle.std.proofs.Common.{◌≡◌, ℕ, ◌+◌, ◌-◌, ◌*◌, ◌/◌, ◌<◌, map, get_or, length, replicate, refl, ap, ◌∙◌, arith}
use Rattle.std.specs.Prelude.{fold, min}
use Rattle.std.proofs.lemmas.List.{length-replicate, length-set}
use Rattle.pdh_cells.specs.declared.cell.Cell.{Cell}
use Rattle.pdh_cells.specs.Contents.{fine_cell, blank, joined}
use Rattle.pdh_cells.specs.Pictures.{drawn_cells}
use Rattle.pdh_cells.proofs.Fine.{is_within}
use Rattle.pdh_cells.proofs.Keeping.{get_blank}
use Rattle.pdh_cells.proofs.Drawing.{one_more_drawn, used_drawn, is_inside}
use Rattle.pdh_cells.proofs.cells.Cells.draw.Goals as goal

pub loop-fine-init : goal.loop-fine-init
loop-fine-init c = record {
  drawn = λ cell small. ap (λ (x : Cell). get_or (replicate 430 x) cell blank) c.blank-drawn.ensures ∙ get_blank 430 cell;
  len = length-replicate 430 c.blank-drawn.result;
}

pub loop-fine-preserved : goal.loop-fine-preserved
loop-fine-preserved c =
    let kept = c.widen_to.new.self in
    let fine = c.loop-fine.fine in
    let count : ℕ = fine_cell kept.shift (c.args.bits - 1) + 1 in
    let few : fine_cell kept.shift (c.args.bits - 1) < 4096 = is_within kept.shift (c.args.bits - 1) c.widen_to.ensures.enough in
    let below : fine < count = omega (arith, c.loop-fine-test.true, c.min-fine-end.ensures) in
    let within : fine < length kept.cells.items = omega (arith, few, below, kept.count) in
    record {
      drawn = one_more_drawn kept.cells.items c.loop-fine.drawn count fine (fine * 430 / count) c.join-joined.result c.index.result.now _ c.loop-fine.invariant.len within refl
          (is_inside count fine below) c.loop-fine.invariant.drawn c.index.ensures c.join-joined.ensures;
      len = length-set _ _ _ ∙ c.loop-fine.invariant.len;
    }

pub returns : goal.returns
returns c lanes end stands le =
    let kept = c.widen_to.new.self in
    let bits = c.args.bits in
    let count : ℕ = fine_cell kept.shift (bits - 1) + 1 in
    let wide = c.widen_to.ensures.stands lanes end stands in
    let all : c.loop-fine.fine ≡ min count kept.used = omega (arith, c.loop-fine-test.false, c.min-fine-end.ensures) in
    record {
      shift = kept.shift;
      is_shift = record {
        enough = omega (arith, c.widen_to.ensures.enough, c.requires);
        least = λ other enough. wide.narrow other (omega (arith, enough, le, c.requires));
      };
      are_drawn = λ cell small.
          c.loop-fine.invariant.drawn cell small ∙ used_drawn kept.cells.items count kept.used c.loop-fine.fine cell all kept.unused
          ∙ ap (λ (h : ℕ → Cell). fold joined blank (map h (drawn_cells count cell))) (λ i k. wide.each k i);
    }
