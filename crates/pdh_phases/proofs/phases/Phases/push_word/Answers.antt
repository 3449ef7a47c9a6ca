use Rattle.std.proofs.Common.{◌≡◌, ℕ, ◌+◌, cond, eqb, Bool, List, ◌++◌, length, take, drop, sym, ap, ◌∙◌, subst, arith, length-append, length-take}
use Rattle.pdh_phases.specs.Runs.{places}
use Rattle.pdh_phases.specs.Keeping.{Kept, kept_of, StandsFor, signals_in}
use Rattle.pdh_phases.proofs.Searching.{length-signals, signals-first}
use Rattle.pdh_phases.proofs.Taking.{taken}
use Rattle.pdh_phases.proofs.phases.Phases.push_word.Goals as goal

pub first-stands-requires : goal.first-stands-requires
first-stands-requires g c =
    let s = g.S.Shape.shape in
    let window : List Bool = c.self.inside.last ++ c.args.word in
    let held : length c.self.inside.last ≡ length c.args.self.now.last = ap (λ (k : Kept). length k.last) c.self.view_is in
    let count : places s window ≡ 64 = omega (arith, length-append c.self.inside.last c.args.word, c.requires.whole, held, c.requires.last, g.met.S.Shape.signal_is) in
    omega (arith, ap length c.signals.ensures, length-signals s window, count, c.requires.few)

pub returns : goal.returns
returns g c before h =
    let s = g.S.Shape.shape in
    let p = c.self.inside in
    let count = c.args.count in
    let word : List Bool = take count c.args.word in
    let held : length p.last ≡ length c.args.self.now.last = ap (λ (k : Kept). length k.last) c.self.view_is in
    let last : length p.last + 1 ≡ s.signal = omega (arith, held, c.requires.last, g.met.S.Shape.signal_is) in
    let phase : p.phase ≡ c.args.self.now.phase = ap (λ (k : Kept). k.phase) c.self.view_is in
    let few : length word ≡ count = omega (arith, length-take count c.args.word, c.requires.few, c.requires.whole) in
    let stands : c.first-stands.result ≡ signals_in s (p.last ++ word) =
    c.first-stands.ensures ∙ ap (take count) c.signals.ensures ∙ signals-first s p.last c.args.word count c.self.invariant.some last (omega (arith, c.requires.few, c.requires.whole)) in
    let long : length c.first-stands.result ≡ count = omega (arith, ap length stands, length-signals s (p.last ++ word), length-append p.last word, few, last) in
    let next : c.phase_after-self-inside.result ≡ cond (eqb (p.phase + count) s.len) 0 (p.phase + count) = c.phase_after-self-inside.ensures ∙ ap (λ (n : ℕ). cond (eqb (p.phase + count) n) 0 (p.phase + count)) (sym g.met.S.Shape.len_is) in
    taken s (kept_of p.last p.phase p.planes) word c.first-stands.result c.shift_in-self-inside.result c.phase_after-self-inside.result c.lengthen.new.self g.met.S.Shape.is_frame.some_slots c.self.invariant.some
    (record {
      stands_is = stands;
      last_is = c.shift_in-self-inside.ensures ∙ ap (λ (x : List Bool). drop (length x) (p.last ++ x)) c.first.ensures ∙ ap (λ (n : ℕ). drop n (p.last ++ word)) (few ∙ sym long);
      within = omega (arith, phase, long, c.requires.within, g.met.S.Shape.len_is);
      phase_is = next ∙ ap (λ (m : ℕ). cond (eqb (p.phase + m) s.len) 0 (p.phase + m)) (sym long);
      inside = c.lengthen.ensures.inside;
      outside = c.lengthen.ensures.outside;
    })
    before (subst (λ (k : Kept). StandsFor s k before) (sym c.self.view_is) h)
