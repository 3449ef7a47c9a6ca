use Rattle.std.proofs.Common.{◌≡◌, ◌<◌, ◌≤◌, ◌+◌, ◌++◌, suc, length, map, take, refl, sym, ap, ◌∙◌, arith, append_assoc, Some, slice_get}
use Rattle.std.proofs.lemmas.List.{length-map, take_all}
use Rattle.std.proofs.lemmas.Option.{slice_get_read, slice_get-map}
use Rattle.pdh_rx.specs.Node.{counted_by}
use Rattle.pdh_rx.proofs.Counting.{counted_more}
use Rattle.pdh_rx.proofs.children.Children.count_nodes.Goals as goal

pub loop-trib-preserved : goal.loop-trib-preserved
loop-trib-preserved g c lines each =
    let xs = c.self.inside.list.items in
    let ms = map g.C.Rx.meaning xs in
    let t = c.loop-trib.trib in
    let child = c.index.result.now in
    let m = g.C.Rx.meaning child in
    let old = c.args.counts.now.items in
    let inside : t < length xs = omega (arith, c.loop-trib-test.true, c.len-trib-end.ensures) in
    let at : slice_get xs t ≡ Some child = slice_get_read _ _ t _ refl inside c.index.ensures in
    let known : slice_get ms t ≡ Some m = slice_get-map g.C.Rx.meaning xs t ∙ rw at refl in
    let count : suc t ≡ t + 1 = omega arith in
    c.in_ok-count_nodes.ensures (lines t) (each t child at) ∙ ap (λ v. v ++ m.counted (lines t)) (c.loop-trib.invariant lines each)
    ∙ append_assoc old (counted_by (take t ms) lines) (m.counted (lines t))
    ∙ ap (λ v. old ++ v) (sym (counted_more ms t m lines known)) ∙ ap (λ n. old ++ counted_by (take n ms) lines) count

pub returns : goal.returns
returns g c =
    let xs = c.self.inside.list.items in
    let ms = map g.C.Rx.meaning xs in
    let t = c.loop-trib.trib in
    let old = c.args.counts.now.items in
    let all : length ms ≤ t = omega (arith, length-map xs g.C.Rx.meaning, c.loop-trib-test.false, c.len-trib-end.ensures) in
    rw (← c.self.view_is) (λ lines each. c.loop-trib.invariant lines each ∙ ap (λ v. old ++ counted_by v lines) (take_all t ms all))
