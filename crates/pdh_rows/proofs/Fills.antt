-- The fills that a store may have from frame to frame.
use Rattle.std.proofs.Common.{◌≡◌, ℕ, zero, suc, ◌+◌, ◌-◌, ◌<◌, ◌≤◌, cond, Option, Some, None, refl, sym, ap, ◌∙◌, subst, inl, inr, arith, suc-mul}
use Rattle.std.specs.Prelude.{IfSome}
use Rattle.std.proofs.lemmas.Bool.{cases_lt, lt-leb, le-leb}
use Rattle.pdh_shape.specs.OwnNumbers.{threshold}
use Rattle.pdh_line.specs.Progress.{arrived}
use Rattle.pdh_line.specs.Tolerance.{least_fill, most_fill, KeepsInside, fill_next, fill_from, IsInStep}
use Rattle.pdh_line.proofs.SendingLaws.{arrived-suc}
use Rattle.pdh_rows.specs.declared.flow.Flow.{Flow}
use Rattle.pdh_rows.specs.declared.inside.Fills.{Fills}
use Rattle.pdh_rows.specs.declared.table.TribRow.{TribRow}
use Rattle.pdh_rows.specs.Bounds.{IsTribRow}
use Rattle.pdh_rows.specs.Flows.{flowed, flow_count, KeepsStep}
use Rattle.pdh_rows.specs.Inside.{IsOneOf, FillsPass, FillsPassAll, FillsPassSteps}
use Rattle.pdh_rows.proofs.FlowLaws.{ahead-flow, behind-flow}

-- ---- one frame

-- a frame that carries an additional bit, and one that doesn't
next_more : (low count fill : ℕ) → threshold ≤ fill → fill_next low count fill ≡ fill + count - suc low
next_more low count fill h = ap (λ b. fill + count - cond b (suc low) low) (le-leb threshold fill h)

next_less : (low count fill : ℕ) → fill < threshold → fill_next low count fill ≡ fill + count - low
next_less low count fill h = ap (λ b. fill + count - cond b (suc low) low) (lt-leb threshold fill h)

le_of : {a b c d : ℕ} → a ≡ b → c ≡ d → b ≤ d → a ≤ c
le_of p q h = omega (arith, p, q, h)

-- ---- some frames

pub pass_none : (low : ℕ) (counts : ℕ → ℕ) (first k : ℕ) (fills : Fills) → k ≡ 0 → FillsPassAll low counts first k fills fills
unfolding fill_from
pass_none low counts first k fills none = subst (λ n. FillsPassAll low counts first n fills fills) (sym none) (λ fill is. ((λ i h. absurd (omega (arith, h))), is))

-- one frame more
pub pass_more : (low : ℕ) (counts : ℕ → ℕ) (first k : ℕ) (u v w : Fills) → FillsPassAll low counts first k u v → FillsPass low (counts (first + k)) v w → FillsPassAll low counts first (suc k) u w
unfolding fill_from
pass_more low counts first k u v w so_far next fill is =
    let before = so_far fill is in
    let now = next (fill_from low counts first fill k) before.1 in (
      λ i h. elim (cases_lt i k) [
        | inl early ↦ before.0 i early
        | inr late ↦ (let e : k ≡ i = omega (arith, h, late) in subst (λ n. KeepsInside low (counts (first + n)) (fill_from low counts first fill n)) e now.0)
      ],
      now.1,
    )

-- the same counts, told from another frame on
from-same : (low : ℕ) (f g : ℕ → ℕ) (a b fill k : ℕ) → ((i : ℕ) → i < k → f (a + i) ≡ g (b + i)) → fill_from low f a fill k ≡ fill_from low g b fill k
unfolding fill_from
from-same low f g a b fill zero same = refl
from-same low f g a b fill (suc k) same =
    ap (λ c. fill_next low c (fill_from low f a fill k)) (same k (omega arith))
    ∙ ap (λ n. fill_next low (g (b + k)) n) (from-same low f g a b fill k (λ i h. same i (omega (arith, h))))

pass-same : (low : ℕ) (f g : ℕ → ℕ) (a b k : ℕ) (u v : Fills) → ((i : ℕ) → i < k → f (a + i) ≡ g (b + i)) → FillsPassAll low f a k u v → FillsPassAll low g b k u v
pass-same low f g a b k u v same pass fill is =
    let was = pass fill is in (
      λ i h.
          let here : fill_from low f a fill i ≡ fill_from low g b fill i = from-same low f g a b fill i (λ v l. same v (omega (arith, l, h))) in
          subst (λ n. KeepsInside low (g (b + i)) n) here (subst (λ c. KeepsInside low c (fill_from low f a fill i)) (same i h) (was.0 i h)),
      subst (IsOneOf v) (from-same low f g a b fill k same) was.1,
    )

-- frames behind others
from-add : (low : ℕ) (counts : ℕ → ℕ) (first fill a b : ℕ) → fill_from low counts first fill (a + b) ≡ fill_from low counts (first + a) (fill_from low counts first fill a) b
unfolding fill_from
from-add low counts first fill a zero = (let e : a + 0 ≡ a = omega arith in ap (fill_from low counts first fill) e)
from-add low counts first fill a (suc b) =
    let e : a + suc b ≡ suc (a + b) = omega arith in
    let place : first + (a + b) ≡ first + a + b = omega arith in
    ap (fill_from low counts first fill) e
    ∙ ap (λ n. fill_next low (counts n) (fill_from low counts first fill (a + b))) place
    ∙ ap (λ n. fill_next low (counts (first + a + b)) n) (from-add low counts first fill a b)

pass-join : (low : ℕ) (counts : ℕ → ℕ) (first a b : ℕ) (u v w : Fills) → FillsPassAll low counts first a u v → FillsPassAll low counts (first + a) b v w → FillsPassAll low counts first (a + b) u w
pass-join low counts first a b u v w one two fill is =
    let before = one fill is in
    let behind = two (fill_from low counts first fill a) before.1 in (
      λ i h. elim (cases_lt i a) [
        | inl early ↦ before.0 i early
        | inr late ↦
            let k : ℕ = i - a in
            let e : a + k ≡ i = omega (arith, late) in
            let place : first + a + k ≡ first + (a + k) = omega arith in
            subst (λ n. KeepsInside low (counts (first + n)) (fill_from low counts first fill n)) e
            (subst (λ n. KeepsInside low (counts n) (fill_from low counts first fill (a + k))) place
            (subst (λ n. KeepsInside low (counts (first + a + k)) n) (sym (from-add low counts first fill a k)) (behind.0 k (omega (arith, h, late)))))
      ],
      subst (IsOneOf w) (sym (from-add low counts first fill a b)) behind.1,
    )

-- from one frame up to another and then up to a later one, where other counts tell the same of these
pub pass_on : (low : ℕ) (counts f : ℕ → ℕ) (first at next a k : ℕ) (u v w : Fills) → first ≤ at → at ≤ next → k ≡ next - at → ((i : ℕ) → i < next - at → f (a + i) ≡ counts (at + i))
    → FillsPassAll low counts first (at - first) u v → FillsPassAll low f a k v w → FillsPassAll low counts first (next - first) u w
pass_on low counts f first at next a k u v w begun later size same one two =
    let place : at ≡ first + (at - first) = omega (arith, begun) in
    let all : at - first + (next - at) ≡ next - first = omega (arith, begun, later) in
    let there : FillsPassAll low counts at (next - at) v w = pass-same low f counts a at (next - at) v w same (subst (λ n. FillsPassAll low f a n v w) size two) in
    subst (λ n. FillsPassAll low counts first n u w) all
    (pass-join low counts first (at - first) (next - at) u v w one (subst (λ n. FillsPassAll low counts n (next - at) v w) place there))

-- ---- frames in step

-- fills that no frame in step leaves
record AreSteady (fills : Fills) : Type 0 where
  inside : least_fill ≤ fills.least
  within : fills.most ≤ most_fill
  below : fills.least < threshold
  above : threshold ≤ fills.most

steady_step : (low count : ℕ) (fills : Fills) → AreSteady fills → IsInStep low count → FillsPass low count fills fills
steady_step low count fills are step fill is =
    let inside = are.inside in
    let within = are.within in
    let below = are.below in
    let above = are.above in
    let from = is.least in
    let to = is.most in
    let least = step.least in
    let most = step.most in (
      record {
        least_before = omega (arith, inside, from);
        most_before = omega (arith, within, to);
        least_after = omega (arith, inside, from, least);
        most_after = omega (arith, within, to, most);
      },
      elim (cases_lt fill threshold) [
        | inl fewer ↦ record {
          least = le_of refl (next_less low count fill fewer) (omega (arith, from, least));
          most = le_of (next_less low count fill fewer) refl (omega (arith, fewer, above, most));
        }
        | inr more ↦ record {
          least = le_of refl (next_more low count fill more) (omega (arith, more, below, least));
          most = le_of (next_more low count fill more) refl (omega (arith, to, most));
        }
      ],
    )

steady_steps : (low first frames : ℕ) (counts : ℕ → ℕ) (fills : Fills) → AreSteady fills → ((n : ℕ) → first ≤ n → n < first + frames → IsInStep low (counts n)) → FillsPassAll low counts first frames fills fills
steady_steps low first zero counts fills are step = pass_none low counts first 0 fills refl
steady_steps low first (suc frames) counts fills are step =
    pass_more low counts first frames fills fills fills (steady_steps low first frames counts fills are (λ n from to. step n from (omega (arith, to))))
    (steady_step low (counts (first + frames)) fills are (step (first + frames) (omega arith) (omega arith)))

pub steps_pass : (old new : Fills) → least_fill ≤ old.least → old.most ≤ most_fill → least_fill ≤ new.least → new.most ≤ most_fill → new.least < threshold → threshold ≤ new.most → new.least ≤ old.least → old.most ≤ new.most
    → FillsPassSteps old new
steps_pass old new least most inside within below above lower upper low first frames counts step fill is =
    let from = is.least in
    let to = is.most in
    steady_steps low first frames counts new (record { inside = inside; within = within; below = below; above = above }) step fill
    (record { least = omega (arith, lower, from); most = omega (arith, upper, to) })

-- a flow that keeps step brings frames in step
pub flow_step : (flow : Flow) (low n : ℕ) → 0 < flow.frames → KeepsStep low flow → IsInStep low (flow_count flow n)
flow_step flow low n some step =
    let least = ahead-flow flow low some step.least n (suc n) (omega arith) in
    let most = behind-flow flow (suc low) some step.most n (suc n) (omega arith) in
    record {
      least = omega (arith, least, suc-mul n low);
      most = omega (arith, most, suc-mul n (suc low));
    }

pub steps_of : (answer : Option Fills) (fills : Fills) (flow : Flow) (low first k : ℕ) → 0 < flow.frames → KeepsStep low flow → IfSome answer (FillsPassSteps fills) → IfSome answer (FillsPassAll low (flow_count flow) first k fills)
steps_of None fills flow low first k some step h = h
steps_of (Some behind) fills flow low first k some step h = h low first k (flow_count flow) (λ n from to. flow_step flow low n some step)

-- ---- a row

-- the flow of a row tells the counts of its frames
pub row_count : (counts : ℕ → ℕ) (start next : ℕ) (row : TribRow) → IsTribRow counts start next row → (n : ℕ) → n < row.frames → flow_count row.flow n ≡ counts (start + n)
row_count counts start next row is n h =
    let later : suc (start + n) ≡ start + suc n = omega arith in
    let before : arrived counts (start + n) ≡ row.before + flowed row.flow n = is.arrivals n (omega (arith, h)) in
    let after : arrived counts (suc (start + n)) ≡ row.before + flowed row.flow (suc n) = ap (arrived counts) later ∙ is.arrivals (suc n) (omega (arith, h)) in
    omega (arith, before, after, arrived-suc counts (start + n))
