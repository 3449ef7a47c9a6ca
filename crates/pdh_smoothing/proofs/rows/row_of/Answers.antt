use Rattle.std.proofs.Common.{◌≡◌, ◌∷◌, ◌++◌, [], List, ℕ, length, map, ap, sym, ◌∙◌, arith}
use Rattle.std.specs.Prelude.{decimal}
use Rattle.std.specs.List.{range_with_len}
use Rattle.std.proofs.lemmas.List.{append-nil}
use Rattle.pdh_clock.specs.Written.{number_words}
use Rattle.pdh_smoothing.specs.Again.{lists_in, count_marked}
use Rattle.pdh_smoothing.proofs.MarkLaws.{row_more}
use Rattle.pdh_smoothing.proofs.rows.row_of.Goals as goal

pub loop-trib-init : goal.loop-trib-init
loop-trib-init g c = record {
  bytes = c.push_number.ensures.bytes ∙ ap (λ (row : List ℕ). row ++ 32 ∷ decimal c.args.frames) (c.text.ensures.bytes ∙ ap (λ (row : List ℕ). row ++ 47 ∷ []) c.new-row.ensures)
      ∙ ap (λ (words : List ℕ). 47 ∷ words) (sym (append-nil (32 ∷ decimal c.args.frames)));
  few = omega (arith, c.push_number.ensures.few, c.text.ensures.len, ap (λ (row : List ℕ). length row) c.new-row.ensures);
}

pub loop-trib-preserved : goal.loop-trib-preserved
loop-trib-preserved g c = record {
  bytes = row_more g.S.Shape.shape (lists_in c.args.marks.now) c.args.piece c.args.frames c.loop-trib.trib c.count_at.result c.loop-trib.row c.push_number-in-loop-trib.new.row c.loop-trib.invariant.bytes c.push_number-in-loop-trib.ensures.bytes c.count_at.ensures;
  few = omega (arith, c.push_number-in-loop-trib.ensures.few, c.loop-trib.invariant.few);
}

pub returns-clause-bytes : goal.returns-clause-bytes
returns-clause-bytes g c =
    let s = g.S.Shape.shape in
    let lists = lists_in c.args.marks.now in
    let line = λ (t : ℕ). 47 ∷ number_words (c.args.frames ∷ map (count_marked s lists c.args.piece) (range_with_len 0 t)) ++ 10 ∷ [] in
    let all : c.loop-trib.trib ≡ s.tribs = omega (arith, g.met.S.Shape.tribs_is) in
    c.text-2.ensures.bytes ∙ ap (λ (row : List ℕ). row ++ 10 ∷ []) c.loop-trib.invariant.bytes ∙ ap line all

pub returns-clause-few : goal.returns-clause-few
returns-clause-few g c = omega (arith, c.text-2.ensures.len, c.loop-trib.invariant.few, c.requires.few)
