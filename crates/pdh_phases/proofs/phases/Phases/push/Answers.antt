use Rattle.std.proofs.Common.{◌≡◌, ℕ, ◌+◌, ◌<◌, cond, eqb, Bool, List, [], ◌∷◌, ◌++◌, length, drop, sym, ap, ◌∙◌, subst, arith, length-append}
use Rattle.pdh_bits.specs.Bits.{number_of}
use Rattle.pdh_phases.specs.Runs.{signal_at}
use Rattle.pdh_phases.specs.Keeping.{Kept, kept_of, StandsFor}
use Rattle.pdh_phases.proofs.Signals.{signal_at-number}
use Rattle.pdh_phases.proofs.Searching.{signals-none, signals-one}
use Rattle.pdh_phases.proofs.Taking.{taken, phase_stays}
use Rattle.pdh_phases.proofs.phases.Phases.push.Goals as goal

pub returns-then-len-SIGNAL : goal.returns-then-len-SIGNAL
returns-then-len-SIGNAL g c bits h =
    let s = g.S.Shape.shape in
    let p = c.self.inside in
    let bit : List Bool = c.args.bit ∷ [] in
    let few : length (p.last ++ bit) < s.signal = omega (arith, c.if-len-SIGNAL.true, c.len.ensures.count, ap length c.push.ensures, c.SIGNAL.ensures, g.met.S.Shape.signal_is) in
    taken s (kept_of p.last p.phase p.planes) bit [] c.push.new.self p.phase p.planes g.met.S.Shape.is_frame.some_slots c.self.invariant.some
    (record {
      stands_is = signals-none s (p.last ++ bit) few;
      last_is = c.push.ensures;
      within = omega (arith, c.self.invariant.within);
      phase_is = phase_stays p.phase s.len c.self.invariant.within;
      inside = λ i run lt shows. absurd (omega arith);
      outside = λ k run away shows. shows;
    })
    bits (subst (λ (k : Kept). StandsFor s k bits) (sym c.self.view_is) h)

pub returns : goal.returns
returns g c bits h =
    let s = g.S.Shape.shape in
    let p = c.self.inside in
    let bit : List Bool = c.args.bit ∷ [] in
    let window : List Bool = p.last ++ bit in
    let stands : Bool = eqb c.number.result c.number-2.result in
    let long : length window ≡ s.signal =
    omega (arith, c.if-len-SIGNAL.false, c.len.ensures.count, ap length c.push.ensures, c.SIGNAL.ensures, g.met.S.Shape.signal_is, length-append p.last bit, c.self.invariant.few) in
    let found : stands ≡ signal_at s window 0 =
    ap (λ (n : ℕ). eqb n c.number-2.result) (c.number.ensures.value ∙ ap number_of c.push.ensures) ∙ ap (eqb (number_of window)) (c.number-2.ensures.value ∙ ap number_of c.self.invariant.signal_is)
    ∙ signal_at-number s window g.met.S.Shape.has_signal c.self.invariant.some long in
    let next : c.phase_after-self-inside.result ≡ cond (eqb (p.phase + 1) s.len) 0 (p.phase + 1) = c.phase_after-self-inside.ensures ∙ ap (λ (n : ℕ). cond (eqb (p.phase + 1) n) 0 (p.phase + 1)) (sym g.met.S.Shape.len_is) in
    taken s (kept_of p.last p.phase p.planes) bit c.copies.result c.after-self-inside.result c.phase_after-self-inside.result c.lengthen.new.self g.met.S.Shape.is_frame.some_slots c.self.invariant.some
    (record {
      stands_is = c.copies.ensures ∙ ap (λ (b : Bool). b ∷ []) found ∙ signals-one s window long;
      last_is = c.after-self-inside.ensures ∙ ap (drop 1) c.push.ensures ∙ ap (λ (x : List Bool). drop (length x) window) (sym c.copies.ensures);
      within = omega (arith, c.self.invariant.within, ap length c.copies.ensures);
      phase_is = next ∙ ap (λ (x : List Bool). cond (eqb (p.phase + length x) s.len) 0 (p.phase + length x)) (sym c.copies.ensures);
      inside = c.lengthen.ensures.inside;
      outside = c.lengthen.ensures.outside;
    })
    bits (subst (λ (k : Kept). StandsFor s k bits) (sym c.self.view_is) h)
