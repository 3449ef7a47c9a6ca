use Rattle.std.proofs.Common.{◌≡◌, ◌<◌, ◌≤◌, ℕ, ◌+◌, Bool, true, false, get_or, sym, ap, ◌∙◌, arith}
use Rattle.pdh_shape.specs.Tributary.{reads_from}
use Rattle.pdh_runs.proofs.Counts.{before}
use Rattle.pdh_runs.proofs.SlotLaws.{room_for_one, one_more, none_more}
use Rattle.pdh_runs.proofs.layout.Layout.append_trib.Goals as goal
use Rattle.pdh_runs.proofs.layout.Layout.append_trib.Goals.{then-reads, else-reads}

pub push-requires : goal.push-requires
push-requires g c =
    let s = g.S.Shape.shape in
    let p : ℕ → Bool = λ slot. reads_from c.args.trib true (s.role slot) in
    let known : c.args.trib < s.tribs = omega (arith, c.requires.known, g.met.S.Shape.tribs_is) in
    let all : before p s.len ≤ g.S.Shape.LOW + 1 = omega (arith, g.met.S.Shape.has_tributaries.high c.args.trib known, g.met.S.Shape.low_is) in
    let pass : p c.loop-slot.slot ≡ true = sym (c.reads.ensures ∙ ap (reads_from c.args.trib true) c.role.ensures) ∙ c.if-reads.true in
    room_for_one p (λ slot. get_or c.args.frame.now.bits slot false) c.loop-slot.slot s.len _ c.args.into.now c.loop-slot.into c.args.into.now.bits pass
    (omega (arith, c.loop-slot-test.true, c.LEN-slot-end.ensures, g.met.S.Shape.len_is)) all c.requires.room c.loop-slot.invariant

pub loop-slot-preserved : goal.loop-slot-preserved
loop-slot-preserved g c =
    let s = g.S.Shape.shape in
    let p : ℕ → Bool = λ slot. reads_from c.args.trib true (s.role slot) in
    let f : ℕ → Bool = λ slot. get_or c.args.frame.now.bits slot false in
    let is : c.reads.result ≡ p c.loop-slot.slot = c.reads.ensures ∙ ap (reads_from c.args.trib true) c.role.ensures in
    elim c.if-reads.branch [
      | then-reads w ↦ one_more p f c.loop-slot.slot c.args.into.now c.loop-slot.into _ c.args.into.now.bits w.get.result (sym is ∙ w.if-reads.true) w.get.ensures c.loop-slot.invariant (w.into-is ∙ w.push.ensures)
      | else-reads w ↦ none_more p f c.loop-slot.slot c.args.into.now c.loop-slot.into _ c.args.into.now.bits (sym is ∙ w.if-reads.false) c.loop-slot.invariant w.into-is
    ]
