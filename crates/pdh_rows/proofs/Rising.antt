-- A bound's rise, which is the most that a run with a given end gains more than it loses, and the first run that passes the bound.
-- Over a row both sums grow steadily.
use Rattle.std.proofs.Common.{◌≡◌, ◌⊎◌, ℕ, suc, ◌+◌, ◌-◌, ◌<◌, ◌≤◌, inl, inr, sym, ap, ◌∙◌, subst, arith}
use Rattle.std.proofs.lemmas.Bool.{cases_lt}
use Rattle.pdh_shape.specs.OwnNumbers.{allowance}
use Rattle.pdh_rows.specs.Bounds.{Passes, Keeps, AllKeep, IsFirstEnd, IsFirstStart}
use Rattle.pdh_rows.specs.Flows.{Ahead, IsCross, NeverCross}

-- the rise at frame n: no run that ends there gains more, and the run from this frame on does gain as much
pub record Risen (gains losses : ℕ → ℕ) (n rise : ℕ) : Type 0 where
  pub most : (m : ℕ) → m ≤ n → gains n + losses m ≤ gains m + losses n + rise
  pub from : ℕ
  pub before : from ≤ n
  pub reached : gains from + losses n + rise ≤ gains n + losses from

-- over so many frames from frame a on both sums grow steadily
pub record GrowsSteadily (gains losses : ℕ → ℕ) (a frames : ℕ) (g l : ℕ → ℕ) : Type 0 where
  pub gained : (n : ℕ) → n ≤ frames → gains (a + n) ≡ gains a + g n
  pub lost : (n : ℕ) → n ≤ frames → losses (a + n) ≡ losses a + l n
  pub none : (g 0 ≡ 0) × (l 0 ≡ 0)
  pub steady : Ahead g l ⊎ Ahead l g

-- over an end of the frames
most_inside : (g l : ℕ → ℕ) (j i rise : ℕ) → (g 0 ≡ 0) × (l 0 ≡ 0) → Ahead g l ⊎ Ahead l g → j ≤ i → g i + l j ≤ g j + l i + (rise + g i - l i)
most_inside g l j i rise none (inl ahead) h = omega (arith, ahead 0 j (omega arith), none.0, none.1)
most_inside g l j i rise none (inr behind) h = omega (arith, behind j i h)

pub risen_more : (gains losses : ℕ → ℕ) (a frames : ℕ) (g l : ℕ → ℕ) (rise : ℕ) → GrowsSteadily gains losses a frames g l
    → Risen gains losses a rise → (i : ℕ) → i ≤ frames → Risen gains losses (a + i) (rise + g i - l i)
risen_more gains losses a frames g l rise even h i within =
    let gi = even.gained i within in
    let li = even.lost i within in
    let start = h.reached in
    elim (cases_lt (rise + g i) (l i)) [
      | inl lowest ↦ record { most = most; from = a + i; before = omega arith; reached = omega arith }
      | inr above ↦ record { most = most; from = h.from; before = (let b = h.before in omega arith); reached = omega (arith, gi, li, start) }
    ]
  where
    most : (m : ℕ) → m ≤ a + i → gains (a + i) + losses m ≤ gains m + losses (a + i) + (rise + g i - l i)
    most m below = elim (cases_lt a m) [
      | inl later ↦
          let j : ℕ = m - a in
          let m_is : a + j ≡ m = omega arith in
          let gm : gains m ≡ gains a + g j = ap gains (sym m_is) ∙ even.gained j (omega arith) in
          let lm : losses m ≡ losses a + l j = ap losses (sym m_is) ∙ even.lost j (omega arith) in
          omega (arith, gm, lm, even.gained i within, even.lost i within, most_inside g l j i rise even.none even.steady (omega arith))
      | inr earlier ↦ omega (arith, h.most m earlier, even.gained i within, even.lost i within)
    ]

pub risen_start : (gains losses : ℕ → ℕ) → Risen gains losses 0 0
risen_start gains losses = record {
  most = λ m h. let none : m ≡ 0 = omega arith in subst (λ k. gains 0 + losses k ≤ gains k + losses 0 + 0) (sym none) (omega arith);
  from = 0;
  before = omega arith;
  reached = omega arith;
}

-- no run up to frame n passes the bound, and this is the rise there
pub record IsRising (gains losses : ℕ → ℕ) (n rise : ℕ) : Type 0 where
  pub keep : AllKeep gains losses n
  pub risen : Risen gains losses n rise

pub rising_start : (gains losses : ℕ → ℕ) → IsRising gains losses 0 0
rising_start gains losses = record {
  keep = λ m n h l.
      let none : m ≡ n = omega arith in
      subst (λ k. Keeps gains losses k n) (sym none) (omega arith);
  risen = risen_start gains losses;
}

pub rise_small : (gains losses : ℕ → ℕ) (n rise : ℕ) → IsRising gains losses n rise → rise ≤ allowance
rise_small gains losses n rise h = omega (arith, h.keep h.risen.from n h.risen.before (omega arith), h.risen.reached)

-- where the rise stays within the allowance over the next frames, no run that ends there passes the bound
kept_inside : (gains losses : ℕ → ℕ) (a frames : ℕ) (gain loss : ℕ → ℕ) (rise count : ℕ) → GrowsSteadily gains losses a frames gain loss
    → IsRising gains losses a rise → count ≤ suc frames → ((k : ℕ) → k < count → rise + gain k ≤ allowance + loss k)
    → (m n : ℕ) → m ≤ n → n < a + count → Keeps gains losses m n
kept_inside gains losses a frames gain loss rise count even h few small m n before below = elim (cases_lt a n) [
  | inl later ↦
      let j : ℕ = n - a in
      let n_is : a + j ≡ n = omega arith in
      let risen : Risen gains losses (a + j) (rise + gain j - loss j) = risen_more gains losses a frames gain loss rise even h.risen j (omega arith) in
      let most : gains (a + j) + losses m ≤ gains m + losses (a + j) + (rise + gain j - loss j) = risen.most m (omega arith) in
      let low : rise + gain j ≤ allowance + loss j = small j (omega arith) in
      subst (λ k. Keeps gains losses m k) n_is (omega (arith, most, low))
  | inr earlier ↦ h.keep m n before earlier
]

pub rising_more : (gains losses : ℕ → ℕ) (a frames : ℕ) (gain loss : ℕ → ℕ) (rise : ℕ) → GrowsSteadily gains losses a frames gain loss
    → IsRising gains losses a rise → NeverCross allowance loss rise gain frames
    → IsRising gains losses (a + frames) (rise + gain frames - loss frames)
rising_more gains losses a frames gain loss rise even h never = record {
  keep = λ m n before l. kept_inside gains losses a frames gain loss rise (suc frames) even h (omega arith) (λ k h'. never k (omega arith)) m n before (omega arith);
  risen = risen_more gains losses a frames gain loss rise even h.risen frames (omega arith);
}

pub first_end_found : (gains losses : ℕ → ℕ) (a frames : ℕ) (gain loss : ℕ → ℕ) (rise all n : ℕ) → GrowsSteadily gains losses a frames gain loss
    → IsRising gains losses a rise → IsCross allowance loss rise gain frames n → a + frames ≤ all → IsFirstEnd gains losses all (a + n)
first_end_found gains losses a frames gain loss rise all n even h crossing inside =
    let inside_row = crossing.inside in
    let above = crossing.above in
    let risen : Risen gains losses (a + n) (rise + gain n - loss n) = risen_more gains losses a frames gain loss rise even h.risen n crossing.inside in
    let reached = risen.reached in
    record {
      inside = omega arith;
      from = risen.from;
      before = risen.before;
      passes = omega (arith, reached, above);
      least = kept_inside gains losses a frames gain loss rise n even h (omega arith) crossing.least;
    }

-- ---- the least first frame of a run with a known end

-- no run from before this frame up to that end passes the bound
abbrev pub NoStart : (ℕ → ℕ) → (ℕ → ℕ) → ℕ → ℕ → Type 0
NoStart gains losses to n = (m : ℕ) → m < n → Keeps gains losses m to

start_kept : (gains losses : ℕ → ℕ) (a frames : ℕ) (gain loss : ℕ → ℕ) (to count : ℕ) → GrowsSteadily gains losses a frames gain loss
    → NoStart gains losses to a → count ≤ suc frames
    → ((k : ℕ) → k < count → losses a + gains to + loss k ≤ gains a + losses to + allowance + gain k)
    → NoStart gains losses to (a + count)
start_kept gains losses a frames gain loss to count even none few keep m below = elim (cases_lt m a) [
  | inl earlier ↦ none m earlier
  | inr later ↦
      let j : ℕ = m - a in
      let m_is : a + j ≡ m = omega arith in
      let g : gains (a + j) ≡ gains a + gain j = even.gained j (omega arith) in
      let l : losses (a + j) ≡ losses a + loss j = even.lost j (omega arith) in
      let low : losses a + gains to + loss j ≤ gains a + losses to + allowance + gain j = keep j (omega arith) in
      subst (λ k. Keeps gains losses k to) m_is (omega (arith, g, l, low))
]

pub no_start_more : (gains losses : ℕ → ℕ) (a frames : ℕ) (gain loss : ℕ → ℕ) (to : ℕ) → GrowsSteadily gains losses a frames gain loss
    → NoStart gains losses to a → NeverCross (gains a + losses to + allowance) gain (losses a + gains to) loss frames
    → NoStart gains losses to (a + frames)
no_start_more gains losses a frames gain loss to even none never = λ m below.
    start_kept gains losses a frames gain loss to frames even none (omega arith) (λ k h. never k (omega arith)) m below

pub first_start_found : (gains losses : ℕ → ℕ) (a frames : ℕ) (gain loss : ℕ → ℕ) (all to n : ℕ) → GrowsSteadily gains losses a frames gain loss
    → IsFirstEnd gains losses all to → NoStart gains losses to a
    → IsCross (gains a + losses to + allowance) gain (losses a + gains to) loss frames n → IsFirstStart gains losses to (a + n)
first_start_found gains losses a frames gain loss all to n even end none crossing =
    let above = crossing.above in
    let g : gains (a + n) ≡ gains a + gain n = even.gained n crossing.inside in
    let l : losses (a + n) ≡ losses a + loss n = even.lost n crossing.inside in
    let least : NoStart gains losses to (a + n) = start_kept gains losses a frames gain loss to n even none (let i = crossing.inside in omega arith) crossing.least in
    record {
      before = elim (cases_lt end.from (a + n)) [
        | inl earlier ↦ absurd (omega (arith, least end.from earlier, end.passes))
        | inr later ↦ omega (arith, end.before)
      ];
      passes = omega (arith, above, g, l);
      least = least;
    }

-- a run that passes the bound begins before its end
pub some_start : (gains losses : ℕ → ℕ) (all to : ℕ) → IsFirstEnd gains losses all to → NoStart gains losses to all → ⊥
some_start gains losses all to end none = elim (cases_lt end.from to) [
  | inl earlier ↦ omega (arith, none end.from (let i = end.inside in omega arith), end.passes)
  | inr at_end ↦
      let same : end.from ≡ to = let b = end.before in omega arith in
      let passes : Passes gains losses to to = subst (λ k. Passes gains losses k to) same end.passes in
      omega (arith, passes)
]
