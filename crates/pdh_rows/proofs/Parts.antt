-- A row as one tributary and a bound of its tolerance see it.
use Rattle.std.proofs.Common.{◌≡◌, ◌⊎◌, ℕ, suc, ◌+◌, ◌-◌, ◌*◌, ◌<◌, ◌≤◌, length, refl, sym, ap, ◌∙◌, subst, arith, slice_index, inl, inr}
use Rattle.std.proofs.Math.Nat.{mul-add, mul_comm}
use Rattle.std.proofs.lemmas.List.Sums.{sum_by-take-le}
use Rattle.pdh_line.specs.Progress.{arrived}
use Rattle.pdh_rows.specs.declared.flow.Flow.{Flow}
use Rattle.pdh_rows.specs.declared.table.Table.{Table}
use Rattle.pdh_rows.specs.declared.table.TribRow.{TribRow}
use Rattle.pdh_rows.specs.declared.tolerance.Bound.{Bound}
use Rattle.pdh_rows.specs.declared.tolerance.Bound.TheVariants.{Most, Least}
use Rattle.pdh_rows.specs.Flows.{flowed, FlowFits, Ahead, IsCross, NeverCross}
use Rattle.pdh_rows.specs.Rows.{NodeRow, node_counts, node_frame_count}
use Rattle.pdh_rows.specs.Stored.{IsTable, rows_of, stored_flow}
use Rattle.pdh_rows.specs.Bounds.{gains_of, losses_of, gains, losses, flow_gains, flow_losses, IsTribRow}
use Rattle.pdh_rows.proofs.FlowLaws.{flowed-none, ahead-flow, behind-flow}
use Rattle.pdh_rows.proofs.Rising.{GrowsSteadily}
use Rattle.pdh_rows.proofs.Tabled.{next_first, next_before, repeat_at, total_in_row, node_frame_count-row_frames, node_frame_count-rows_of}
use Rattle.std.proofs.lemmas.Bool.{cases_lt}

-- the next row begins behind the frames that are stored for this one
pub next_stored : (t : Table) (k : ℕ) → IsTable t → k < length t.repeats.items
    → slice_index t.firsts.items (k + 1) ≡ slice_index t.firsts.items k + slice_index t.repeats.items k
next_stored t k h l = omega (arith, next_first t k h l, repeat_at t k l)

pub trib_row_is : (t : Table) (k trib : ℕ) (row : TribRow) → IsTable t → k < length t.repeats.items → trib < t.tribs
    → row.first ≡ slice_index t.firsts.items k → row.frames ≡ slice_index t.repeats.items k
    → row.before ≡ slice_index t.before.items (k * t.tribs + trib)
    → row.bits ≡ slice_index t.before.items ((k + 1) * t.tribs + trib) - slice_index t.before.items (k * t.tribs + trib)
    → row.flow ≡ stored_flow t k trib
    → IsTribRow (node_counts (rows_of t) trib) (slice_index t.firsts.items k) (slice_index t.firsts.items (k + 1)) row
trib_row_is t k trib row h l m first frames before bits flow =
    let ends = next_stored t k h l in
    record {
      first = first;
      ends = omega (arith, ends, frames);
      arrivals = λ n within.
          let inside : slice_index t.firsts.items k + n ≤ slice_index t.firsts.items (k + 1) = omega (arith, ends, frames) in
          let so_far : slice_index t.firsts.items k + n - slice_index t.firsts.items k ≡ n = omega arith in
          total_in_row t k trib (slice_index t.firsts.items k + n) h l m (omega arith) inside
          ∙ ap (λ i. slice_index t.before.items (k * t.tribs + trib) + flowed (stored_flow t k trib) i) so_far
          ∙ ap (λ b. b + flowed (stored_flow t k trib) n) (sym before)
          ∙ ap (λ f. row.before + flowed f n) (sym flow);
      bits = bits ∙ omega (arith, next_before t k trib h l m)
          ∙ ap (flowed (stored_flow t k trib)) (sym frames)
          ∙ ap (λ f. flowed f row.frames) (sym flow);
      fits = subst (λ n. FlowFits n row.flow) (sym frames) (subst (λ f. FlowFits (slice_index t.repeats.items k) f) (sym flow) (h.fits k trib l m));
    }

-- ---- both sums of a bound over a row

gains_steady : (bound : Bound) (low start n before : ℕ) (flow : Flow)
    → gains_of bound low (start + n) (before + flowed flow n) ≡ gains_of bound low start before + flow_gains bound low flow n
gains_steady Most low start n before flow = refl
gains_steady Least low start n before flow = mul-add low start n

losses_steady : (bound : Bound) (low start n before : ℕ) (flow : Flow)
    → losses_of bound low (start + n) (before + flowed flow n) ≡ losses_of bound low start before + flow_losses bound low flow n
losses_steady Most low start n before flow = mul-add (suc low) start n
losses_steady Least low start n before flow = refl

-- a line of so many bits a frame, in the order of the bounds
line_same : (c : ℕ) (l : ℕ → ℕ) → ((n : ℕ) → l n ≡ n * c) → (g : ℕ → ℕ) → Ahead g (λ n. n * c) → Ahead g l
line_same c l same g ahead j i h = omega (arith, same j, same i, ahead j i h)

line_same' : (c : ℕ) (l : ℕ → ℕ) → ((n : ℕ) → l n ≡ n * c) → (g : ℕ → ℕ) → Ahead (λ n. n * c) g → Ahead l g
line_same' c l same g ahead j i h = omega (arith, same j, same i, ahead j i h)

steady : (bound : Bound) (low : ℕ) (flow : Flow) → 0 < flow.frames
    → Ahead (flow_gains bound low flow) (flow_losses bound low flow) ⊎ Ahead (flow_losses bound low flow) (flow_gains bound low flow)
steady Most low flow some = elim (cases_lt (suc low * flow.frames) flow.bits) [
  | inl faster ↦ inl (line_same (suc low) (λ n. suc low * n) (λ n. mul_comm (suc low) n) (flowed flow) (ahead-flow flow (suc low) some (omega arith)))
  | inr slow ↦ inr (line_same' (suc low) (λ n. suc low * n) (λ n. mul_comm (suc low) n) (flowed flow) (behind-flow flow (suc low) some (omega arith)))
]
steady Least low flow some = elim (cases_lt (low * flow.frames) flow.bits) [
  | inl faster ↦ inr (line_same low (λ n. low * n) (λ n. mul_comm low n) (flowed flow) (ahead-flow flow low some (omega arith)))
  | inr slow ↦ inl (line_same' low (λ n. low * n) (λ n. mul_comm low n) (flowed flow) (behind-flow flow low some (omega arith)))
]

pub none_gained : (bound : Bound) (low : ℕ) (flow : Flow) → 0 < flow.frames → flow_gains bound low flow 0 ≡ 0
none_gained Most low flow some = flowed-none flow some
none_gained Least low flow some = omega (arith, mul_comm low 0)

pub none_lost : (bound : Bound) (low : ℕ) (flow : Flow) → 0 < flow.frames → flow_losses bound low flow 0 ≡ 0
none_lost Most low flow some = omega (arith, mul_comm (suc low) 0)
none_lost Least low flow some = flowed-none flow some

-- the sums at a row's first frame
pub arrived_before : (counts : ℕ → ℕ) (start next : ℕ) (row : TribRow) → IsTribRow counts start next row → arrived counts start ≡ row.before
arrived_before counts start next row h =
    let here : start ≡ start + 0 = omega arith in
    ap (arrived counts) here ∙ h.arrivals 0 (omega arith) ∙ omega (arith, flowed-none row.flow h.fits.some)

pub grows : (bound : Bound) (low : ℕ) (counts : ℕ → ℕ) (start next : ℕ) (row : TribRow) → IsTribRow counts start next row
    → GrowsSteadily (gains bound low counts) (losses bound low counts) start row.frames (flow_gains bound low row.flow) (flow_losses bound low row.flow)
grows bound low counts start next row h = record {
  gained = λ n within.
      ap (gains_of bound low (start + n)) (h.arrivals n within)
      ∙ gains_steady bound low start n row.before row.flow
      ∙ ap (λ b. gains_of bound low start b + flow_gains bound low row.flow n) (sym (arrived_before counts start next row h));
  lost = λ n within.
      ap (losses_of bound low (start + n)) (h.arrivals n within)
      ∙ losses_steady bound low start n row.before row.flow
      ∙ ap (λ b. losses_of bound low start b + flow_losses bound low row.flow n) (sym (arrived_before counts start next row h));
  none = (none_gained bound low row.flow h.fits.some, none_lost bound low row.flow h.fits.some);
  steady = steady bound low row.flow h.fits.some;
}

-- ---- crossings, by the sums of a bound

-- a gap is what the lower sum begins above
pub cross_gap : (lower upper : ℕ) (l g : ℕ → ℕ) (most n : ℕ) → upper ≤ lower → IsCross (lower - upper) l 0 g most n → IsCross lower l upper g most n
cross_gap lower upper l g most n below h = record {
  inside = h.inside;
  above = omega (arith, h.above);
  least = λ k l'. omega (arith, h.least k l');
}

pub never_gap : (lower upper : ℕ) (l g : ℕ → ℕ) (most : ℕ) → upper ≤ lower → NeverCross (lower - upper) l 0 g most → NeverCross lower l upper g most
never_gap lower upper l g most below h k l' = omega (arith, h k l')

-- the same two sums by other numbers
pub cross_moved : (lower lower' upper upper' : ℕ) (l g : ℕ → ℕ) (most n : ℕ) → lower ≡ lower' → upper ≡ upper' → IsCross lower l upper g most n → IsCross lower' l upper' g most n
cross_moved lower lower' upper upper' l g most n e e' h = record {
  inside = h.inside;
  above = omega (arith, h.above, e, e');
  least = λ k l'. omega (arith, h.least k l', e, e');
}

pub never_moved : (lower lower' upper upper' : ℕ) (l g : ℕ → ℕ) (most : ℕ) → lower ≡ lower' → upper ≡ upper' → NeverCross lower l upper g most → NeverCross lower' l upper' g most
never_moved lower lower' upper upper' l g most e e' h k l' = omega (arith, h k l', e, e')

-- one sum begins above the other
pub cross_at_once : (lower upper : ℕ) (l g : ℕ → ℕ) (most : ℕ) → l 0 ≡ 0 → lower < upper → IsCross lower l upper g most 0
cross_at_once lower upper l g most none h = record {
  inside = omega arith;
  above = omega (arith, none, h);
  least = λ k l'. absurd (omega arith);
}

-- a bound's sums at a row's first frame
pub gains_start : (bound : Bound) (low : ℕ) (counts : ℕ → ℕ) (start next : ℕ) (row : TribRow) → IsTribRow counts start next row
    → gains_of bound low row.first row.before ≡ gains bound low counts start
gains_start bound low counts start next row h = ap (λ a. gains_of bound low a row.before) h.first ∙ ap (gains_of bound low start) (sym (arrived_before counts start next row h))

pub losses_start : (bound : Bound) (low : ℕ) (counts : ℕ → ℕ) (start next : ℕ) (row : TribRow) → IsTribRow counts start next row
    → losses_of bound low row.first row.before ≡ losses bound low counts start
losses_start bound low counts start next row h = ap (λ a. losses_of bound low a row.before) h.first ∙ ap (losses_of bound low start) (sym (arrived_before counts start next row h))

-- a row begins no later than the rows end
pub first_within : (t : Table) (k : ℕ) → IsTable t → k ≤ length t.repeats.items → slice_index t.firsts.items k ≤ node_frame_count (rows_of t)
first_within t k h l = omega (arith, h.firsts k l, node_frame_count-row_frames t, sum_by-take-le (λ (row : NodeRow). row.repeat) (rows_of t) k)

-- the rows end where all were passed
pub last_is : (t : Table) (k : ℕ) → IsTable t → k ≡ length t.repeats.items → slice_index t.firsts.items k ≡ node_frame_count (rows_of t)
last_is t k h e = ap (λ n. slice_index t.firsts.items n) e ∙ sym (node_frame_count-rows_of t h)

-- the first row begins at frame 0
pub first_zero : (t : Table) → IsTable t → slice_index t.firsts.items 0 ≡ 0
first_zero t h = h.firsts 0 (omega arith)
