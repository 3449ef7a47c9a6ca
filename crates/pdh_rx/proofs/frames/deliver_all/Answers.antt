use Rattle.std.proofs.Common.{◌≡◌, ◌<◌, ◌-◌, ◌++◌, ◌∷◌, [], suc, refl, sym, ◌∙◌, ap, subst, arith, map, length, take, Bool, List}
use Rattle.std.proofs.lemmas.List.{append-nil, take_all}
use Rattle.pdh_line.specs.Tracking.{Piece}
use Rattle.pdh_line.specs.Tracking.Piece.{Delivered}
use Rattle.pdh_align.specs.Aligning.{Held, frame_back}
use Rattle.pdh_events.specs.Acts.{frame_acts, frames_acts}
use Rattle.pdh_events.specs.Keeping.{Remembers}
use Rattle.pdh_rx.proofs.Keeping.{gives_ready}
use Rattle.pdh_rx.proofs.Acting.{acted_nothing, acted_same, acted_ok, acted_more, acted_part}
use Rattle.pdh_rx.proofs.SlotActs.{frames_next, frames_begin, frames_left, pieces_next}
use Rattle.pdh_rx.proofs.frames.deliver_all.Goals as goal

pub loop-done-init : goal.loop-done-init
loop-done-init g c = record {
  acted = λ pieces kept. acted_nothing _ _ _ (g.met.D.Drain.drained_same _) (g.met.W.Watch.saw_nothing _);
  remembers = λ pieces kept. let P : List Piece → Type 0 = Remembers g.S.Shape.shape c.args.teller.now in subst P (sym (append-nil pieces)) kept;
  aligner = refl;
  ready = λ more. refl;
}

pub deliver-requires-clause-children : goal.deliver-requires-clause-children
deliver-requires-clause-children g c =
    let acted = c.loop-done.invariant.acted c.requires.told.0 c.requires.told.1 in
    gives_ready g.D.Drain.outputs g.met.D.Drain.drained_holds c.requires.children acted.kept acted.played.gives

pub deliver-requires-clause-ready : goal.deliver-requires-clause-ready
deliver-requires-clause-ready g c = omega (arith, c.requires.ready, ap (λ (h : Held). length h.ready) (c.loop-done.invariant.ready (omega arith)))

pub loop-done-preserved : goal.loop-done-preserved
loop-done-preserved g c =
    let s = g.S.Shape.shape in
    let ready = c.args.aligner.now.ready in
    let n = c.loop-done.done in
    let back = c.args.frames - 1 - n in
    let inv = c.loop-done.invariant in
    let ok = c.in_ok-deliver.ensures in
    let inside : n < length ready = omega (arith, c.requires.ready) in
    let is : length ready - suc back ≡ n = omega (arith, c.requires.ready) in
    let same : c.loop-done.aligner ≡ c.args.aligner.now = inv.ready (omega arith) in
    let there : c.loop-done.aligner.ready ≡ ready = ap (λ (h : Held). h.ready) same in
    record {
      acted = λ pieces kept.
          acted_more g.met.W.Watch.saw_join g.met.D.Drain.drained_join (frames_next s c.args.at.path c.args.at.number pieces ready n back inside is) (inv.acted pieces kept)
          (acted_same (ap (λ r. frame_acts s c.args.at.path c.args.at.number (pieces ++ map Delivered (take n ready)) (frame_back r back)) (sym there)) (ok.acted (pieces ++ map Delivered (take n ready)) (inv.remembers pieces kept)));
      remembers = λ pieces kept.
          let P : List Piece → Type 0 = Remembers s _ in
          let frame = ap (λ r. pieces ++ map Delivered (take n ready) ++ Delivered (frame_back r back) ∷ []) there in
          subst P (frame ∙ sym (pieces_next pieces ready n back inside is)) (ok.remembers (pieces ++ map Delivered (take n ready)) (inv.remembers pieces kept));
      aligner = ok.aligner ∙ ap (λ (h : Held). record h { ready = c.deliver.new.aligner.ready }) same;
      ready = λ more. ok.ready (omega (arith, more, c.requires.ready, ap length there)) ∙ same;
    }

pub returns-in_err-deliver-clause-acted : goal.returns-in_err-deliver-clause-acted
returns-in_err-deliver-clause-acted g c pieces kept =
    let s = g.S.Shape.shape in
    let ready = c.args.aligner.now.ready in
    let n = c.loop-done.done in
    let back = c.args.frames - 1 - n in
    let inv = c.loop-done.invariant in
    let inside : n < length ready = omega (arith, c.requires.ready) in
    let is : length ready - suc back ≡ n = omega (arith, c.requires.ready) in
    let there : c.loop-done.aligner.ready ≡ ready = ap (λ (h : Held). h.ready) (inv.ready (omega arith)) in
    acted_part g.met.W.Watch.saw_join g.met.D.Drain.drained_join g.met.C.Rx.sound _ (frames_left s c.args.at.path c.args.at.number pieces ready n) c.from_residual.result c.from_residual.ensures.1
    (frames_begin s c.args.at.path c.args.at.number pieces ready n back inside is) (inv.acted pieces kept)
    (acted_same (ap (λ r. frame_acts s c.args.at.path c.args.at.number (pieces ++ map Delivered (take n ready)) (frame_back r back)) (sym there)) (c.in_err-deliver.ensures.acted (pieces ++ map Delivered (take n ready)) (inv.remembers pieces kept)))

pub returns-in_err-deliver-clause-aligner : goal.returns-in_err-deliver-clause-aligner
returns-in_err-deliver-clause-aligner g c = c.in_err-deliver.ensures.aligner ∙ ap (λ (h : Held). record h { ready = c.deliver.new.aligner.ready }) (c.loop-done.invariant.ready (omega arith))

pub returns-clause-acted : goal.returns-clause-acted
returns-clause-acted g c pieces kept =
    let ready = c.args.aligner.now.ready in
    let all : length ready ≡ c.loop-done.done = c.requires.ready ∙ omega arith in
    acted_ok (acted_same (ap (frames_acts g.S.Shape.shape c.args.at.path c.args.at.number pieces) (sym (take_all c.loop-done.done ready (omega (arith, all))))) (c.loop-done.invariant.acted pieces kept))

pub returns-clause-remembers : goal.returns-clause-remembers
returns-clause-remembers g c pieces kept =
    let ready = c.args.aligner.now.ready in
    let all : length ready ≡ c.loop-done.done = c.requires.ready ∙ omega arith in
    let P : List (List Bool) → Type 0 = λ v. Remembers g.S.Shape.shape c.loop-done.teller (pieces ++ map Delivered v) in
    subst P (take_all c.loop-done.done ready (omega (arith, all))) (c.loop-done.invariant.remembers pieces kept)
