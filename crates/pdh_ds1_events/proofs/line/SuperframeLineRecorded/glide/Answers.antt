use Rattle.std.proofs.Common.{◌≡◌, ◌+◌, ◌++◌, ℕ, Bool, List, take, drop, sym, ap, ◌∙◌, subst, arith, append_assoc}
use Rattle.std.proofs.Math.Seq.{take-add}
use Rattle.std.proofs.lemmas.List.{append-nil, drop-drop}
use Rattle.pdh_events.specs.laws.QuietLaws.{IsQuiet, quiet_join}
use Rattle.pdh_ds1_events.specs.Events.{superframe_events}
use Rattle.pdh_ds1_events.specs.Line.{LineStands}
use Rattle.pdh_ds1_events.proofs.line.SuperframeLineRecorded.glide.Goals as goal

-- bits from a place on, and more behind them
more_bits : (bits : List Bool) (from n k : ℕ) → take (n + k) (drop from bits) ≡ take n (drop from bits) ++ take k (drop (from + n) bits)
more_bits bits from n k = take-add n k (drop from bits) ∙ ap (λ (x : List Bool). take n (drop from bits) ++ take k x) (drop-drop n from bits)

pub loop-done-init : goal.loop-done-init
loop-done-init g c = record {
  within = omega (arith, c.requires.begun);
  stands = λ line told.
      let old = c.args.self.now in
      subst (LineStands g.P.InSuperframe.f_bits g.P.InSuperframe.PLAN old.aligner old.ais old.checker old.bits old.superframes old.judged) (sym (append-nil line)) told;
  quiet = λ line told. tt;
}

pub loop-done-preserved : goal.loop-done-preserved
loop-done-preserved g c =
    let n = c.loop-done.done in
    let k = c.idle-count.result in
    let inv = c.loop-done.invariant in
    let new = c.idle-count.new.self in
    let front : List Bool = take n (drop c.args.from c.args.bits.now.bits) in
    let piece : List Bool = take k (drop (c.args.from + n) c.args.bits.now.bits) in
    let all : take (n + k) (drop c.args.from c.args.bits.now.bits) ≡ front ++ piece = more_bits c.args.bits.now.bits c.args.from n k in
    record {
      within = omega (arith, c.idle-count.ensures.count);
      stands = λ line told.
          subst (LineStands g.P.InSuperframe.f_bits g.P.InSuperframe.PLAN new.aligner new.ais new.checker new.bits new.superframes new.judged)
          (append_assoc line front piece ∙ ap (λ (l : List Bool). line ++ l) (sym all)) (c.idle-count.ensures.stands (line ++ front) (inv.stands line told));
      quiet = λ line told.
          subst (IsQuiet (superframe_events g.P.InSuperframe.f_bits g.P.InSuperframe.PLAN) line) (sym all)
          (quiet_join (superframe_events g.P.InSuperframe.f_bits g.P.InSuperframe.PLAN) front piece line (inv.quiet line told) (c.idle-count.ensures.quiet (line ++ front) (inv.stands line told)));
    }

pub returns-then-count-eq0-clause-stands : goal.returns-then-count-eq0-clause-stands
returns-then-count-eq0-clause-stands g c line told =
    let n = c.loop-done.done in
    let new = c.idle-count.new.self in
    let front : List Bool = take n (drop c.args.from c.args.bits.now.bits) in
    let piece : List Bool = take c.idle-count.result (drop (c.args.from + n) c.args.bits.now.bits) in
    subst (LineStands g.P.InSuperframe.f_bits g.P.InSuperframe.PLAN new.aligner new.ais new.checker new.bits new.superframes new.judged)
    (append_assoc line front piece ∙ ap (λ (l : List Bool). line ++ l) (sym (more_bits c.args.bits.now.bits c.args.from n c.idle-count.result)))
    (c.idle-count.ensures.stands (line ++ front) (c.loop-done.invariant.stands line told))

pub returns-then-count-eq0-clause-quiet : goal.returns-then-count-eq0-clause-quiet
returns-then-count-eq0-clause-quiet g c line told =
    let n = c.loop-done.done in
    let front : List Bool = take n (drop c.args.from c.args.bits.now.bits) in
    let piece : List Bool = take c.idle-count.result (drop (c.args.from + n) c.args.bits.now.bits) in
    subst (IsQuiet (superframe_events g.P.InSuperframe.f_bits g.P.InSuperframe.PLAN) line) (sym (more_bits c.args.bits.now.bits c.args.from n c.idle-count.result))
    (quiet_join (superframe_events g.P.InSuperframe.f_bits g.P.InSuperframe.PLAN) front piece line (c.loop-done.invariant.quiet line told) (c.idle-count.ensures.quiet (line ++ front) (c.loop-done.invariant.stands line told)))
