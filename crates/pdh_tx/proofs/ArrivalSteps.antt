-- One arrival at a tributary's store.
use Rattle.std.proofs.Common.{◌≡◌, ℕ, suc, ◌+◌, ◌<◌, ◌≤◌, Bool, true, false, List, [], ◌∷◌, ◌++◌, length, cond, drop, leb, refl, sym, ap, ◌∙◌, subst, arith, None, Some, Option, length-append}
use Rattle.std.proofs.lemmas.Bool.{lt-leb, le-leb, leb-true}
use Rattle.std.proofs.lemmas.List.{append-nil, length-drop}
use Rattle.pdh_shape.specs.OwnNumbers.{store_size}
use Rattle.pdh_edge.specs.Ports.{Inputs}
use Rattle.pdh_shape.specs.declared.place.Place.{Place}
use Rattle.pdh_shape.specs.declared.role.Service.{Service}
use Rattle.pdh_line.specs.Edits.{half_store}
use Rattle.pdh_line.specs.Sending.{Mode}
use Rattle.pdh_line.specs.Sending.Mode.{Plain, Slipping}
use Rattle.pdh_tx.specs.declared.tx.TxStop.{TxStop}
use Rattle.pdh_tx.specs.declared.tx.TxStop.TheVariants.{Overflow, LogFailed}
use Rattle.pdh_tx.specs.declared.tributary.Tributary.{Tributary}
use Rattle.pdh_tx.specs.Tributary.{HasRoomIn}
use Rattle.pdh_tx.specs.Meaning.{Supply, Plan, Meaning, Makes, Fits, Met, faults_met, IsUsedUp}
use Rattle.pdh_tx.specs.Held.{Placed, Held, Gains, Halts, stops, slips, Readout, with_slip, gone_with, put_with, slip_if, arrival, slips_at_arrival, first_some}
use Rattle.pdh_tx.proofs.SlipSteps.{Holds, gone-append, put-append, put-more, holds-over, holds-push}
use Rattle.pdh_tx.proofs.Gaining.{no_slip}
use Rattle.pdh_tx.proofs.Telling.{not_log_failed}

module _ {C : Type 0} (stands_at : C → Plan → ℕ → Type 0) (stands_for : C → Supply → ℕ → Type 0) (meaning : C → Meaning) (says : C → Service) (is_stopped : C → Bool) (old new : C) (plan : Plan) where
  abbrev held : C → List Bool → Supply → ℕ → Readout → Type 0
  held = Held stands_for meaning

  -- a full store slips before the bit comes in
  abbrev slipped : List Bool → Bool → List Bool
  slipped store test = cond test (drop half_store store) store

  count_slipped : (store : List Bool) (made : ℕ) (out : Readout) (test : Bool) → (test ≡ true → store_size ≤ length store) → gone_with out.edits out.read + length store ≡ put_with out.edits made
      → gone_with (with_slip test true out).edits (with_slip test true out).read + length (slipped store test) ≡ put_with (with_slip test true out).edits made
  count_slipped store made out false full count = count
  count_slipped store made out true full count =
      omega (arith, count, full refl, length-drop half_store store, gone-append out.edits (record { over = true; place = out.read } ∷ []) out.read, put-append out.edits (record { over = true; place = out.read } ∷ []) made)

  pub arrival_placed : (bit : Bool) (store : List Bool) (made : ℕ) (out : Readout) (test : Bool) (before after : Inputs) → (test ≡ true → store_size ≤ length store) → says new ≡ says old → is_stopped new ≡ false
      → Placed stands_at says is_stopped old store plan made out
      → Makes (meaning old) (says old) (stands_at new plan) (stands_for old) (stands_for new) plan made bit before after
      → Placed stands_at says is_stopped new (slipped store test ++ bit ∷ []) plan (suc made) (with_slip test true out)
  arrival_placed bit store made out test before after full same_says runs was makes = record {
    runs = runs;
    idles = same_says ∙ was.idles;
    place = makes.place;
    count =
        let one : suc made ≡ made + 1 = omega arith in
        omega (arith, count_slipped store made out test full was.count, length-append (slipped store test) (bit ∷ []), ap (put_with (with_slip test true out).edits) one, put-more (with_slip test true out).edits made 1);
  }

  holds_slipped : (line : ℕ → Bool) (store : List Bool) (made : ℕ) (out : Readout) (test : Bool) → (test ≡ true → store_size ≤ length store) → Holds out.edits line store made out.read
      → Holds (with_slip test true out).edits line (slipped store test) made (with_slip test true out).read
  holds_slipped line store made out false full h = h
  holds_slipped line store made out true full h = holds-over out.edits line store made out.read (let f = full refl in omega (arith, f)) h

  -- the child's bit went into the store
  pub arrival_gains : (bit : Bool) (store : List Bool) (made : ℕ) (out : Readout) (test : Bool) (before after : Inputs) → (test ≡ true → store_size ≤ length store) → meaning new ≡ meaning old
      → Placed stands_at says is_stopped old store plan made out
      → Makes (meaning old) (says old) (stands_at new plan) (stands_for old) (stands_for new) plan made bit before after
      → Gains (meaning old) plan (held old store) (held new (slipped store test ++ bit ∷ [])) made (suc made) out (with_slip test true out) before after
  arrival_gains bit store made out test before after full same was_placed makes = record {
    given = makes.given;
    takes = makes.takes;
    others = makes.others;
    exact = makes.exact;
    onward = λ supply plan_is was agrees.
        let next = makes.onward supply plan_is was.made_for (λ n e. was.quiet n ∙ sym was_placed.idles) agrees in
        let here : Holds out.edits ((meaning old).line supply) store made out.read = record { holds = was.holds; ahead = was.ahead } in
        let pushed = holds-push (with_slip test true out).edits ((meaning old).line supply) (slipped store test) made (with_slip test true out).read bit next.0 (holds_slipped ((meaning old).line supply) store made out test full here) in
        let P : Meaning → Type 0 = λ m. Holds (with_slip test true out).edits (m.line supply) (slipped store test ++ bit ∷ []) (suc made) (with_slip test true out).read in
        let now = subst P (sym same) pushed in
        record {
          quiet = was.quiet;
          made_for = next.1;
          holds = now.holds;
          ahead = now.ahead;
        };
  }

  -- nothing stood in its way
  pub arrival_free : (place : Place) (now : Service) (bit : Bool) (fill made : ℕ) (before after : Inputs) (size : ℕ → ℕ) → stops plan.mode (leb store_size fill) ≡ false
      → Makes (meaning old) now (stands_at new plan) (stands_for old) (stands_for new) plan made bit before after → Fits (meaning old) plan made before size
      → first_some (arrival (meaning old) plan place size made fill) ≡ None
  arrival_free place now bit fill made before after size room makes fits =
      let event : Option TxStop = cond (stops plan.mode (leb store_size fill)) (Some (Overflow place)) None in
      let none : event ≡ None = ap (λ b. cond b (Some (Overflow place)) None) room in
      ap (λ o. first_some (o ∷ event ∷ [])) (makes.free size fits) ∙ ap (λ o. first_some (o ∷ [])) none

  -- what stopped it came behind the child's bit
  pub arrival_halts : (now : Service) (bit : Bool) (made : ℕ) (stop : TxStop) (before after : Inputs) → IsUsedUp stop after
      → Makes (meaning old) now (stands_at new plan) (stands_for old) (stands_for new) plan made bit before after → Halts (meaning old) plan made (suc made) stop before after
  arrival_halts now bit made stop before after used makes = record {
    given = makes.given;
    takes = makes.takes;
    others = makes.others;
    no_more = λ k h. (let e = makes.exact k h in omega arith);
    used_up = used;
  }

  -- a full store did
  pub arrival_full : (place : Place) (now : Service) (bit : Bool) (fill made : ℕ) (before after : Inputs) (faults later : ℕ) → stops plan.mode (leb store_size fill) ≡ true → later ≡ faults
      → Makes (meaning old) now (stands_at new plan) (stands_for old) (stands_for new) plan made bit before after
      → Met (Fits (meaning old) plan made before) (λ size. first_some (arrival (meaning old) plan place size made fill)) (Overflow place) faults later
  arrival_full place now bit fill made before after faults later full same makes = record {
    counted = same;
    is_first = λ fine size fits.
        let event : Option TxStop = cond (stops plan.mode (leb store_size fill)) (Some (Overflow place)) None in
        let some : event ≡ Some (Overflow place) = ap (λ b. cond b (Some (Overflow place)) None) full in
        ap (λ o. first_some (o ∷ event ∷ [])) (makes.free size fits) ∙ ap (λ o. first_some (o ∷ [])) some;
  }

-- a log failed
pub met_unlogged : (fits : (ℕ → ℕ) → Type 0) (first : (ℕ → ℕ) → Option TxStop) (stop : TxStop) (faults later : ℕ) → stop ≡ LogFailed → later ≡ faults → Met fits first stop faults later
met_unlogged fits first stop faults later is same = record {
  counted = same ∙ sym (ap (λ v. faults_met v faults) is);
  is_first = λ fine. absurd (not_log_failed stop fine is);
}

pub used_unlogged : (stop : TxStop) (after : Inputs) → stop ≡ LogFailed → IsUsedUp stop after
used_unlogged stop after is = subst (λ (v : TxStop). IsUsedUp v after) (sym is) tt

-- no store slips that has room
pub few_told : (m : Meaning) (plan : Plan) (place : Place) (made fill : ℕ) → fill < store_size → slips_at_arrival m plan place made fill ≡ m.slips plan made
few_told m plan place made fill few = ap (λ b. m.slips plan made ++ slip_if b true place) (no_slip plan.mode _ (lt-leb _ _ few)) ∙ append-nil (m.slips plan made)

pub few_out : (mode : Mode) (out : Readout) (fill : ℕ) → fill < store_size → with_slip (slips mode (leb store_size fill)) true out ≡ out
few_out mode out fill few = ap (λ b. with_slip b true out) (no_slip mode _ (lt-leb _ _ few))

-- a store slips over where it is full
pub over_full : (mode : Mode) (fill : ℕ) → slips mode (leb store_size fill) ≡ true → store_size ≤ fill
over_full Plain fill h = absurd (cc h)
over_full Slipping fill h = leb-true _ _ h

-- and a store that has room, or is full, after it made room
pub room_left : (mode : Mode) (store now : List Bool) → now ≡ cond (slips mode (leb store_size (length store))) (drop half_store store) store → length now < store_size → stops mode (leb store_size (length store)) ≡ false
room_left Plain store now is room = lt-leb _ _ (omega (arith, ap length is, room))
room_left Slipping store now is room = refl

pub full_left : {C : Type 0} (mode : Mode) (store : List Bool) (w : Tributary C) → w.store ≡ cond (slips mode (leb store_size (length store))) (drop half_store store) store → HasRoomIn w mode → length w.store ≡ store_size
    → stops mode (leb store_size (length store)) ≡ true
full_left Plain store w is room full = le-leb _ _ (omega (arith, ap length is, full))
full_left Slipping store w is room full = absurd (omega (arith, room, full))
