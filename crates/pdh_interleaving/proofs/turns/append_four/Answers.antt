use Rattle.std.proofs.Common.{◌≡◌, ℕ, ◌+◌, ◌*◌, ◌++◌, List, Bool, length, map, take, drop, get_or, refl, ap, ◌∙◌, arith}
use Rattle.std.proofs.lemmas.List.{length-map}
use Rattle.pdh_packed.specs.Words.{low_bits}
use Rattle.pdh_packed.proofs.BoundedLaws.{bits_grow, room_left}
use Rattle.pdh_interleaving.specs.Interleaving.{interleaved}
use Rattle.pdh_interleaving.proofs.TurnLaws.{length-interleaved}
use Rattle.pdh_interleaving.proofs.RowLaws.{none_got, turns_grow}
use Rattle.pdh_interleaving.proofs.GatherLaws.{rows_taken}
use Rattle.pdh_interleaving.proofs.turns.append_four.Goals as goal

pub loop-row-init : goal.loop-row-init
loop-row-init c = (omega arith, none_got c.args.line.now (map (low_bits 64) c.args.words) 0 refl)

pub append_front-requires-clause-room : goal.append_front-requires-clause-room
append_front-requires-clause-room c =
    let done = c.loop-row.done in
    let more = c.min-more.result in
    let all : List (List Bool) = map (low_bits 64) c.args.words in
    let many : length all ≡ 4 = length-map c.args.words (low_bits 64) ∙ omega arith in
    let long : length (interleaved all done) ≡ done * 4 = length-interleaved all done ∙ ap (λ (t : ℕ). done * t) many in
    room_left c.args.line.now c.loop-row.line (interleaved all done) (4 * more) c.loop-row.invariant.1 (omega (arith, long, c.min-more.ensures, c.loop-row.invariant.0, c.requires.room))

pub loop-row-preserved : goal.loop-row-preserved
loop-row-preserved c =
    let words = c.args.words in
    let count = c.args.count in
    let done = c.loop-row.done in
    let more = c.min-more.result in
    let mine = c.args.line.now.bits in
    let all : List (List Bool) = map (low_bits 64) words in
    let row : List Bool = take (4 * more) (low_bits 64 (get_or c.rows4-rows.result c.loop-row.row-index 0)) in
    let next : row ≡ interleaved (map (drop done) all) more =
    rows_taken words c.rows4-rows.result c.loop-row.row-index count done more (omega arith) (omega arith) (λ j i who within. c.rows4-rows.ensures j i who within) c.loop-row.invariant.0 c.min-more.ensures in (
      omega (arith, c.loop-row.invariant.0, c.min-more.ensures),
      bits_grow c.args.line.now c.loop-row.line c.append_front.new.list (mine ++ interleaved all done) row (mine ++ interleaved all (done + more)) c.loop-row.invariant.1 c.append_front.ensures
          (turns_grow mine row all done more (done + more) refl next),
    )
