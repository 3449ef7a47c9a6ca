-- A table with one more row.
use Rattle.std.proofs.Common.{◌≡◌, ℕ, ◌+◌, ◌*◌, ◌<◌, ◌≤◌, inl, inr, List, [], ◌∷◌, ◌++◌, ◌-◌, length, get_or, take, refl, ap, sym, subst, ◌∙◌, arith, slice_index, add-one, suc-mul}
use Rattle.std.proofs.lemmas.Bool.{cases_lt}
use Rattle.std.proofs.lemmas.List.{take_all, take-append-le, length-append, get_or_append_left, get_or-append_right, get_or_push}
use Rattle.std.proofs.lemmas.List.Sums.{sum_by_push}
use Rattle.pdh_rows.specs.declared.table.Table.{Table}
use Rattle.pdh_rows.specs.declared.flow.Says.{Says}
use Rattle.pdh_rows.specs.declared.flow.Says.TheVariants.{Counts}
use Rattle.pdh_rows.specs.Flows.{flowed, flow_in, FlowFits}
use Rattle.pdh_rows.specs.Rows.{NodeRow, row_flow}
use Rattle.pdh_rows.specs.Stored.{IsTable, said_row, rows_of, row_frames, row_bits, stored_flow}
use Rattle.pdh_rows.proofs.Storing.{stored_rows_push, said_flow}
use Rattle.pdh_rows.proofs.Tabled.{length-rows_of, place_below}

-- the new table's vectors are the old one's with those of one more row
pub record Adds (old new : Table) (repeat : ℕ) (says : Says) (numbers : List ℕ) : Type 0 where
  pub tribs : new.tribs ≡ old.tribs
  pub ratio : new.ratio ≡ old.ratio
  pub len : length numbers ≡ old.tribs
  pub repeats : new.repeats.items ≡ old.repeats.items ++ repeat ∷ []
  pub says_is : new.says.items ≡ old.says.items ++ says ∷ []
  pub numbers_is : new.numbers.items ≡ old.numbers.items ++ numbers
  pub flows : (trib : ℕ) → trib < old.tribs → FlowFits repeat (flow_in old.ratio says (slice_index numbers trib))
  pub firsts : new.firsts.items ≡ old.firsts.items ++ (row_frames (rows_of old) + repeat) ∷ []
  pub before_len : length new.before.items ≡ length old.before.items + old.tribs
  pub before_kept : (k : ℕ) → k < length old.before.items → slice_index new.before.items k ≡ slice_index old.before.items k
  pub before_sums : (trib : ℕ) → trib < old.tribs
      → slice_index new.before.items (length old.before.items + trib)
      ≡ row_bits (rows_of old) trib + flowed (flow_in old.ratio says (slice_index numbers trib)) repeat

pub rows_added : (old new : Table) (repeat : ℕ) (says : Says) (numbers : List ℕ) → IsTable old → Adds old new repeat says numbers
    → rows_of new ≡ rows_of old ++ said_row old.ratio repeat says numbers ∷ []
rows_added old new repeat says numbers h a = rw (a.tribs, a.ratio, a.repeats, a.says_is, a.numbers_is)
    (stored_rows_push old.tribs old.ratio old.repeats.items old.says.items old.numbers.items repeat says numbers h.says_len h.numbers_len a.len)

-- the rows before a row stay, and before the end stand all of them
front_kept : (old : Table) (row : NodeRow) (k : ℕ) → k ≤ length old.repeats.items
    → take k (rows_of old ++ row ∷ []) ≡ take k (rows_of old)
front_kept old row k l = take-append-le k (rows_of old) (row ∷ []) (omega (arith, length-rows_of old))

front_all : (old : Table) (row : NodeRow) (k : ℕ) → k ≡ length old.repeats.items + 1
    → take k (rows_of old ++ row ∷ []) ≡ rows_of old ++ row ∷ []
front_all old row k e = take_all k (rows_of old ++ row ∷ [])
    (omega (arith, length-rows_of old, length-append (rows_of old) (row ∷ [])))

added_firsts : (old new : Table) (repeat : ℕ) (says : Says) (numbers : List ℕ) → IsTable old → Adds old new repeat says numbers
    → (k : ℕ) → k ≤ length old.repeats.items + 1
    → slice_index new.firsts.items k ≡ row_frames (take k (rows_of old ++ said_row old.ratio repeat says numbers ∷ []))
added_firsts old new repeat says numbers h a k l = elim (cases_lt k (length old.firsts.items)) [
  | inl below ↦ ap (λ xs. slice_index xs k) a.firsts ∙ get_or_append_left old.firsts.items _ 0 k below
      ∙ h.firsts k (omega (arith, h.firsts_len))
      ∙ ap row_frames (sym (front_kept old (said_row old.ratio repeat says numbers) k (omega (arith, h.firsts_len))))
  | inr last ↦ ap (λ xs. slice_index xs k) a.firsts ∙ get_or_push old.firsts.items _ 0 k (omega (arith, h.firsts_len))
      ∙ sym (sum_by_push (λ row. row.repeat) (rows_of old) (said_row old.ratio repeat says numbers))
      ∙ ap row_frames (sym (front_all old (said_row old.ratio repeat says numbers) k (omega (arith, h.firsts_len))))
]

added_before : (old new : Table) (repeat : ℕ) (says : Says) (numbers : List ℕ) → IsTable old → Adds old new repeat says numbers
    → (k trib : ℕ) → k ≤ length old.repeats.items + 1 → trib < old.tribs
    → slice_index new.before.items (k * old.tribs + trib) ≡ row_bits (take k (rows_of old ++ said_row old.ratio repeat says numbers ∷ [])) trib
added_before old new repeat says numbers h a k trib l m = elim (cases_lt k (length old.repeats.items + 1)) [
  | inl below ↦ a.before_kept (k * old.tribs + trib)
      (omega (arith, h.before_len, place_below k (length old.repeats.items + 1) old.tribs trib below m))
      ∙ h.before k trib (omega arith) m
      ∙ ap (λ rows. row_bits rows trib) (sym (front_kept old (said_row old.ratio repeat says numbers) k (omega arith)))
  | inr last ↦
      let end : k ≡ length old.repeats.items + 1 = omega arith in
      ap (λ n. slice_index new.before.items (n * old.tribs + trib)) end
      ∙ ap (λ n. slice_index new.before.items (n + trib)) (sym h.before_len)
      ∙ a.before_sums trib m
      ∙ ap (λ flow. row_bits (rows_of old) trib + flowed flow repeat) (sym (said_flow old.ratio repeat says numbers trib (omega (arith, a.len))))
      ∙ sym (sum_by_push (λ row. flowed (row_flow row trib) row.repeat) (rows_of old) (said_row old.ratio repeat says numbers))
      ∙ ap (λ rows. row_bits rows trib) (sym (front_all old (said_row old.ratio repeat says numbers) k end))
]

-- the flows, where the number of tributaries and the flow at the nominal rates are the old ones
new_flow : (old new : Table) (repeat : ℕ) (says : Says) (numbers : List ℕ) → Adds old new repeat says numbers → (k trib : ℕ)
    → stored_flow new k trib ≡ flow_in old.ratio (get_or (old.says.items ++ says ∷ []) k Counts) (slice_index (old.numbers.items ++ numbers) (k * old.tribs + trib))
new_flow old new repeat says numbers a k trib =
    ap (λ r. flow_in r (get_or new.says.items k Counts) (slice_index new.numbers.items (k * new.tribs + trib))) a.ratio
    ∙ ap (λ n. flow_in old.ratio (get_or new.says.items k Counts) (slice_index new.numbers.items (k * n + trib))) a.tribs
    ∙ ap (λ ss. flow_in old.ratio (get_or ss k Counts) (slice_index new.numbers.items (k * old.tribs + trib))) a.says_is
    ∙ ap (λ ns. flow_in old.ratio (get_or (old.says.items ++ says ∷ []) k Counts) (slice_index ns (k * old.tribs + trib))) a.numbers_is

added_fits : (old new : Table) (repeat : ℕ) (says : Says) (numbers : List ℕ) → IsTable old → Adds old new repeat says numbers
    → (k trib : ℕ) → k < length old.repeats.items + 1 → trib < old.tribs
    → FlowFits (slice_index new.repeats.items k) (stored_flow new k trib)
added_fits old new repeat says numbers h a k trib l m = elim (cases_lt k (length old.repeats.items)) [
  | inl below ↦
      let same_repeat : slice_index new.repeats.items k ≡ slice_index old.repeats.items k =
      ap (λ rs. slice_index rs k) a.repeats ∙ get_or_append_left old.repeats.items _ 0 k below in
      let say : get_or (old.says.items ++ says ∷ []) k Counts ≡ get_or old.says.items k Counts = get_or_append_left old.says.items _ Counts k (omega (arith, h.says_len)) in
      let number : slice_index (old.numbers.items ++ numbers) (k * old.tribs + trib) ≡ slice_index old.numbers.items (k * old.tribs + trib) =
      get_or_append_left old.numbers.items _ 0 (k * old.tribs + trib) (omega (arith, h.numbers_len, place_below k (length old.repeats.items) old.tribs trib below m)) in
      let same_flow : stored_flow new k trib ≡ stored_flow old k trib = new_flow old new repeat says numbers a k trib
      ∙ ap (λ s. flow_in old.ratio s (slice_index (old.numbers.items ++ numbers) (k * old.tribs + trib))) say
      ∙ ap (flow_in old.ratio (get_or old.says.items k Counts)) number in
      subst (λ flow. FlowFits (slice_index new.repeats.items k) flow) (sym same_flow)
      (subst (λ n. FlowFits n (stored_flow old k trib)) (sym same_repeat) (h.fits k trib below m))
  | inr last ↦
      let end : k ≡ length old.repeats.items = omega arith in
      let same_repeat : slice_index new.repeats.items k ≡ repeat =
      ap (λ rs. slice_index rs k) a.repeats ∙ get_or_push old.repeats.items _ 0 k (sym end) in
      let say : get_or (old.says.items ++ says ∷ []) k Counts ≡ says = get_or_push old.says.items _ Counts k (omega (arith, h.says_len)) in
      let start : length old.numbers.items ≡ k * old.tribs = h.numbers_len ∙ ap (λ n. n * old.tribs) (sym end) in
      let number : slice_index (old.numbers.items ++ numbers) (k * old.tribs + trib) ≡ slice_index numbers trib =
      get_or-append_right old.numbers.items numbers (k * old.tribs) (k * old.tribs + trib) 0 start (omega arith) ∙ ap (λ n. slice_index numbers n) (let e : k * old.tribs + trib - k * old.tribs ≡ trib = omega arith in e) in
      let same_flow : stored_flow new k trib ≡ flow_in old.ratio says (slice_index numbers trib) = new_flow old new repeat says numbers a k trib
      ∙ ap (λ s. flow_in old.ratio s (slice_index (old.numbers.items ++ numbers) (k * old.tribs + trib))) say
      ∙ ap (flow_in old.ratio says) number in
      subst (λ flow. FlowFits (slice_index new.repeats.items k) flow) (sym same_flow)
      (subst (λ n. FlowFits n (flow_in old.ratio says (slice_index numbers trib))) (sym same_repeat) (a.flows trib m))
]

-- one row more
more_rows : (n m tribs tribs' old more : ℕ) → m ≡ n + 1 → tribs' ≡ tribs → old ≡ n * tribs → more ≡ tribs → old + more ≡ m * tribs'
more_rows n m tribs tribs' old more e f g h = omega (arith, g, h, suc-mul n tribs) ∙ ap (λ k. k * tribs) (sym (e ∙ add-one n))
    ∙ ap (λ k. m * k) (sym f)

pub IsTable_added : (old new : Table) (repeat : ℕ) (says : Says) (numbers : List ℕ) → IsTable old → Adds old new repeat says numbers → IsTable new
IsTable_added old new repeat says numbers h a =
    let rows = rows_added old new repeat says numbers h a in
    let len : length new.repeats.items ≡ length old.repeats.items + 1 = ap length a.repeats
    ∙ length-append old.repeats.items (repeat ∷ []) in
    record {
      says_len = omega (arith, ap length a.says_is, length-append old.says.items (says ∷ []), h.says_len, len);
      numbers_len = ap length a.numbers_is ∙ length-append old.numbers.items numbers
          ∙ more_rows (length old.repeats.items) (length new.repeats.items) old.tribs new.tribs (length old.numbers.items)
          (length numbers) len a.tribs h.numbers_len a.len;
      fits = λ k trib l m. added_fits old new repeat says numbers h a k trib (omega (arith, l, len)) (omega (arith, m, a.tribs));
      firsts_len = omega (
        arith,
        ap length a.firsts,
        length-append old.firsts.items
            ((row_frames (rows_of old) + repeat) ∷ []),
        h.firsts_len,
        len,
      );
      before_len = a.before_len
          ∙ more_rows (length old.repeats.items + 1) (length new.repeats.items + 1) old.tribs new.tribs
          (length old.before.items) old.tribs (ap (λ n. n + 1) len) a.tribs h.before_len refl;
      firsts = λ k l. added_firsts old new repeat says numbers h a k (omega (arith, l, len))
          ∙ ap (λ rs. row_frames (take k rs)) (sym rows);
      before = λ k trib l m. ap (λ n. slice_index new.before.items (k * n + trib)) a.tribs
          ∙ added_before old new repeat says numbers h a k trib (omega (arith, l, len)) (omega (arith, m, a.tribs))
          ∙ ap (λ rs. row_bits (take k rs) trib) (sym rows);
    }
