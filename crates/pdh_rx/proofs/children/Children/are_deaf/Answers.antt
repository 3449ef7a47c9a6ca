use Rattle.std.proofs.Common.{◌≡◌, ◌<◌, inl, inr, length, refl, sym, ap, ◌∙◌, subst, arith, Some, slice_get}
use Rattle.std.proofs.lemmas.Bool.{cases_lt}
use Rattle.std.proofs.lemmas.Option.{slice_get_read, slice_get_within, same_Some}
use Rattle.pdh_rx.specs.Meaning.{IsDeaf}
use Rattle.pdh_rx.proofs.children.Children.are_deaf.Goals as goal

pub loop-trib-preserved : goal.loop-trib-preserved
loop-trib-preserved g c j lt child here = elim (cases_lt j c.loop-trib.trib) [
  | inl less ↦ c.loop-trib.invariant j less child here
  | inr more ↦
      let xs = c.self.inside.list.items in
      let t = c.loop-trib.trib in
      let inside : t < length xs = omega (arith, c.loop-trib-test.true, c.len-trib-end.ensures) in
      let at : slice_get xs t ≡ Some c.index.result.now = slice_get_read _ _ t _ refl inside c.index.ensures in
      let last : j ≡ t = omega (arith, lt, more) in
      let same : c.index.result.now ≡ child = same_Some _ _ (sym at ∙ ap (slice_get xs) (sym last) ∙ here) in
      subst (λ child. IsDeaf (g.C.Rx.meaning child) (g.C.Rx.stands child) (g.D.Drain.outputs c.args.drain.now)) same (c.is_deaf.ensures c.if-not-is_deaf.false)
]

pub returns : goal.returns
returns g c all j child here =
    let xs = c.self.inside.list.items in
    let at : slice_get xs j ≡ Some child = ap (λ cs. slice_get cs j) c.self.view_is ∙ here in
    c.loop-trib.invariant j (omega (arith, slice_get_within xs j child at, c.loop-trib-test.false, c.len-trib-end.ensures)) child at
