use Rattle.std.proofs.Common.{◌≡◌, ◌<◌, ◌≤◌, ◌+◌, ◌-◌, ℕ, Some, true, ap, ◌∙◌, inl, inr, arith}
use Rattle.pdh_shape.specs.Tributary.{reads_from, reads_below}
use Rattle.pdh_runs.specs.declared.turns.Turns.{Turns}
use Rattle.pdh_runs.proofs.Counts.{before_grows}
use Rattle.pdh_runs.proofs.EmptyTurns.{none_empty, just_empty}
use Rattle.pdh_runs.proofs.layout.Layout.turns.Goals as goal
use Rattle.pdh_runs.proofs.layout.Layout.turns.Goals.{then-not-more+then-from-just+then-just-to, else-not-more, else-not-more-via-then-not-more+then-from-just+else-just-to, else-not-more-via-then-not-more+else-from-just, else-not-more-via-else-not-more}

pub overflow_sub-result : goal.overflow_sub-result
overflow_sub-result g c =
    omega (arith, c.turns_before-from.ensures, c.turns_before-to.ensures, before_grows (λ t. reads_from c.args.trib true (g.S.Shape.shape.role t)) c.args.first (c.args.first + c.args.len) (omega arith))

pub returns : goal.returns
returns g c =
    let s = g.S.Shape.shape in
    let j = c.args.trib in
    let known : j < s.tribs = omega (arith, c.requires.known, g.met.S.Shape.tribs_is) in
    let inside : c.args.first + c.args.len ≤ s.len = omega (arith, c.requires.inside, g.met.S.Shape.len_is) in
    let q : ℕ = c.tributary.result.now.just in
    let is = c.tributary.ensures.just_is in
    let grows = before_grows (λ t. reads_from j true (s.role t)) c.args.first (c.args.first + c.args.len) (omega arith) in
    let from : c.turns_before-from.result ≡ reads_below s j true c.args.first = c.turns_before-from.ensures in
    let to : c.turns_before-to.result ≡ reads_below s j true (c.args.first + c.args.len) = c.turns_before-to.ensures in
    let count : c.turns_before-from.result + (c.turns_before-to.result - c.turns_before-from.result) ≡ reads_below s j true (c.args.first + c.args.len) = omega (arith, from, to, grows) in
    let turns : Turns = record { from = c.turns_before-from.result; count = c.turns_before-to.result - c.turns_before-from.result; empty = c.if-not-more.empty } in
    let just : c.from-just.result ≡ q = c.from-just.ensures in
    elim c.if-not-more.branch [
      | then-not-more+then-from-just+then-just-to w ↦
          let place : c.if-not-more.empty ≡ Some (q - c.turns_before-from.result) = w.empty-is ∙ ap (λ x. Some (x - c.turns_before-from.result)) just in
          just_empty s g.met.S.Shape.in_turn g.met.S.Shape.has_tributaries j known q is c.args.more c.args.first c.args.len inside turns from count place w.if-not-more.true (omega (arith, w.if-from-just.true, just, from))
          (omega (arith, w.if-just-to.true, just, to))
      | else-not-more w ↦ elim w.else-not-more.branch [
        | else-not-more-via-then-not-more+then-from-just+else-just-to w' ↦
            none_empty s g.met.S.Shape.in_turn g.met.S.Shape.has_tributaries j known q is c.args.more c.args.first c.args.len inside turns from count w.empty-is (inr (inr (omega (arith, w'.if-just-to.false, just, to))))
        | else-not-more-via-then-not-more+else-from-just w' ↦
            none_empty s g.met.S.Shape.in_turn g.met.S.Shape.has_tributaries j known q is c.args.more c.args.first c.args.len inside turns from count w.empty-is (inr (inl (omega (arith, w'.if-from-just.false, just, from))))
        | else-not-more-via-else-not-more w' ↦
            none_empty s g.met.S.Shape.in_turn g.met.S.Shape.has_tributaries j known q is c.args.more c.args.first c.args.len inside turns from count w.empty-is (inl w'.if-not-more.false)
      ]
    ]
