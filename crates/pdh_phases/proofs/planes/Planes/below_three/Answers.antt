use Rattle.std.proofs.Common.{◌≡◌, ℕ, ◌+◌, ◌<◌, Bool, false, true, not, List, length, take, drop, get_or, refl, sym, ap, ◌∙◌, inl, inr, arith, length-take, length-drop}
use Rattle.std.specs.List.{prefix_len}
use Rattle.std.proofs.lemmas.Bool.{cases_lt, le-leb, lt-leb, false≢true}
use Rattle.std.proofs.lemmas.List.{get_or-take, get_or-drop}
use Rattle.std.proofs.lemmas.List.Sums.{prefix_len-le-length, prefix_len_passes, prefix_len_stops}
use Rattle.pdh_phases.proofs.planes.Planes.below_three.Goals as goal

not_true : (b : Bool) → not b ≡ true → b ≡ false
not_true true h = cc
not_true false h = refl

not_false : (b : Bool) → not b ≡ false → b ≡ true
not_false true h = refl
not_false false h = cc

-- a bit among those that are looked at
bit_at : (bits : List Bool) (phase most i : ℕ) → i < most → get_or (take most (drop phase bits)) i false ≡ get_or bits (phase + i) false
bit_at bits phase most i lt = get_or-take most (drop phase bits) i false lt ∙ get_or-drop phase bits i false

pub returns-clause-count : goal.returns-clause-count
returns-clause-count c =
    let bits : List Bool = drop c.args.phase c.args.self.now.thrice in
    omega (arith, c.zeros.ensures, prefix_len-le-length not (take c.args.most bits), length-take c.args.most bits)

pub returns-clause-below : goal.returns-clause-below
returns-clause-below c i run lt shows =
    let most = c.args.most in
    let plane = c.args.self.now.thrice in
    let seen : List Bool = take most (drop c.args.phase plane) in
    let first : i < prefix_len not seen = omega (arith, lt, c.zeros.ensures) in
    let within : i < most = omega (arith, first, prefix_len-le-length not seen, length-take most (drop c.args.phase plane)) in
    let zero : get_or plane (c.args.phase + i) false ≡ false = sym (bit_at plane c.args.phase most i within) ∙ not_true (get_or seen i false) (prefix_len_passes not seen i false first) in
    elim (cases_lt run 3) [ inl below ↦ below | inr three ↦ absurd (false≢true (sym zero ∙ shows.thrice ∙ le-leb 3 run three)) ]

pub returns-clause-three : goal.returns-clause-three
returns-clause-three c run lt shows =
    let most = c.args.most in
    let plane = c.args.self.now.thrice in
    let seen : List Bool = take most (drop c.args.phase plane) in
    let long : length seen ≡ most = omega (arith, length-take most (drop c.args.phase plane), length-drop c.args.phase plane, c.requires, c.args.self.now.whole) in
    let stops : get_or seen (prefix_len not seen) false ≡ true = not_false (get_or seen (prefix_len not seen) false) (prefix_len_stops not seen false (omega (arith, lt, c.zeros.ensures, long))) in
    let one : get_or plane (c.args.phase + c.zeros.result) false ≡ true =
    sym (bit_at plane c.args.phase most c.zeros.result lt) ∙ ap (λ (k : ℕ). get_or seen k false) c.zeros.ensures ∙ stops in
    elim (cases_lt run 3) [ inl below ↦ absurd (false≢true (sym (lt-leb 3 run below) ∙ sym shows.thrice ∙ one)) | inr three ↦ three ]
