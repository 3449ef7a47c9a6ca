-- A store that makes room for a bit, or gives its next one.
use Rattle.std.proofs.Common.{◌≡◌, ℕ, suc, ◌+◌, Bool, true, false, List, [], ◌∷◌, ◌++◌, length, replicate, cond, eqb, refl, sym, ap, ◌∙◌, subst, arith, inl, inr, eqb-true, Result, Ok, Err, OnOk, IfOk}
use Rattle.std.proofs.lemmas.Bool.{cases_Bool, ne_eqb}
use Rattle.pdh_shape.specs.declared.place.Place.{Place}
use Rattle.pdh_shape.specs.declared.role.Service.{Service}
use Rattle.pdh_line.specs.Edits.{half_store, Edit, edited}
use Rattle.pdh_line.specs.Sending.{Mode}
use Rattle.pdh_line.specs.Sending.Mode.{Plain, Slipping}
use Rattle.pdh_slips.specs.declared.log.SlipLog as log
use Rattle.pdh_slips.specs.declared.slip.Slip.{Slip}
use Rattle.pdh_tx.specs.Meaning.{mode_of, Plan, Supply, Meaning}
use Rattle.pdh_tx.specs.Held.{Placed, Held, stops, slips, slip_if, Readout, with_read, with_slip, gone_with, put_with}
use Rattle.pdh_tx.specs.Telling.{TellsAll}
use Rattle.pdh_tx.proofs.SlipSteps.{Holds, gone-append, put-append, gone-more, holds-under, holds-read}
use Rattle.pdh_tx.proofs.Telling.{IsLog, all_none}

pub on_ok_from : {T E P : Type 0} (r : Result T E) → P → OnOk r P
on_ok_from (Ok x) p = p
on_ok_from (Err e) p = tt

pub on_ok_if : {T E Q : Type 0} (r : Result T E) (P : T → Type 0) → ((value : T) → P value → Q) → IfOk r P → OnOk r Q
on_ok_if (Ok value) P f p = f value p
on_ok_if (Err e) P f p = tt

-- a slip reads nothing
pub slip_read : (test over : Bool) (out : Readout) → (with_slip test over out).read ≡ out.read
slip_read true over out = refl
slip_read false over out = refl

-- ---- where a log takes slips, and where it doesn't

pub none_taken : (takes test : Bool) → takes ≡ false → slips (mode_of takes) test ≡ false
none_taken takes test is = ap (λ b. slips (mode_of b) test) is

pub all_taken : (takes test : Bool) → takes ≡ true → slips (mode_of takes) test ≡ test
all_taken takes test is = ap (λ b. slips (mode_of b) test) is

-- it is told of no slip where none comes
pub tells_none : {G : Type 0} (logs : log.Ghosts G) (is : IsLog logs) (a : G) (test over : Bool) (place : Place) → test ≡ false → TellsAll logs a a (slip_if test over place)
tells_none logs is a test over place none = subst (λ (l : List Slip). TellsAll logs a a l) (sym (ap (λ b. slip_if b over place) none)) (all_none logs is a)

-- ---- a store that was given ones where it was empty, in slip mode

abbrev filled : List Bool → Bool → List Bool
filled store test = cond test (replicate half_store true) store

pub none_held : (store : List Bool) → length store ≡ 0 → store ≡ []
none_held [] h = refl
none_held (x ∷ store) h = absurd (omega (arith, h))

count_left : (bit : Bool) (store now rest : List Bool) (test : Bool) (made : ℕ) (out : Readout) → (test ≡ true → eqb (length store) 0 ≡ true) → now ≡ filled store test → now ≡ bit ∷ rest
    → gone_with out.edits out.read + length store ≡ put_with out.edits made
    → gone_with (with_slip test false out).edits ((with_slip test false out).read + 1) + length rest ≡ put_with (with_slip test false out).edits made
count_left bit store now rest false made out empty is next count = omega (arith, count, ap length is, ap length next, gone-more out.edits out.read 1)
count_left bit store now rest true made out empty is next count =
    let under : List Edit = record { over = false; place = out.read } ∷ [] in
    let none : length store ≡ 0 = eqb-true _ _ (empty refl) in
    let half : length (replicate half_store true) ≡ half_store = refl in
    omega (arith, count, ap length is, ap length next, none, half, gone-append out.edits under (out.read + 1), put-append out.edits under made, gone-more out.edits out.read 1)

holds_left : (line : ℕ → Bool) (bit : Bool) (store now rest : List Bool) (test : Bool) (made : ℕ) (out : Readout) → (test ≡ true → eqb (length store) 0 ≡ true) → now ≡ filled store test → now ≡ bit ∷ rest
    → Holds out.edits line store made out.read
    → (bit ≡ edited (with_slip test false out).edits line out.read) × Holds (with_slip test false out).edits line rest made (out.read + 1)
holds_left line bit store now rest false made out empty is next h =
    holds-read out.edits line bit rest made out.read (subst (λ (l : List Bool). Holds out.edits line l made out.read) (sym is ∙ next) h)
holds_left line bit store now rest true made out empty is next h =
    let under : List Edit = record { over = false; place = out.read } ∷ [] in
    let none : Holds out.edits line [] made out.read = subst (λ (l : List Bool). Holds out.edits line l made out.read) (none_held store (eqb-true _ _ (empty refl))) h in
    holds-read (out.edits ++ under) line bit rest made out.read
    (subst (λ (l : List Bool). Holds (out.edits ++ under) line l made out.read) (sym is ∙ next) (holds-under out.edits line made out.read none))

-- a store slips under where it is empty
under_empty : (mode : Mode) (store : List Bool) → slips mode (eqb (length store) 0) ≡ true → eqb (length store) 0 ≡ true
under_empty Plain store h = absurd (cc h)
under_empty Slipping store h = h

module _ {C : Type 0} (stands_at : C → Plan → ℕ → Type 0) (stands_for : C → Supply → ℕ → Type 0) (meaning : C → Meaning) (says : C → Service) (is_stopped : C → Bool) (child : C) (mode : Mode) (bit : Bool) (store now rest : List Bool)
    (is : now ≡ filled store (slips mode (eqb (length store) 0))) (next : now ≡ bit ∷ rest) where
  abbrev after : Readout → Readout
  after out = with_read 1 (with_slip (slips mode (eqb (length store) 0)) false out)

  pub left_placed : (plan : Plan) (made : ℕ) (out : Readout) → Placed stands_at says is_stopped child store plan made out → Placed stands_at says is_stopped child rest plan made (after out)
  left_placed plan made out was = record {
    runs = was.runs;
    idles = was.idles;
    place = was.place;
    count = count_left bit store now rest (slips mode (eqb (length store) 0)) made out (under_empty mode store) is next was.count;
  }

  pub left_held : (supply : Supply) (made : ℕ) (out : Readout) → Held stands_for meaning child store supply made out
      → (bit ≡ edited (after out).edits ((meaning child).line supply) out.read) × Held stands_for meaning child rest supply made (after out)
  left_held supply made out was =
      let test : Bool = slips mode (eqb (length store) 0) in
      let line : ℕ → Bool = (meaning child).line supply in
      let here : Holds out.edits line store made out.read = record { holds = was.holds; ahead = was.ahead } in
      let left = holds_left line bit store now rest test made out (under_empty mode store) is next here in
      let place : (with_slip test false out).read + 1 ≡ out.read + 1 = ap (λ k. k + 1) (slip_read test false out) in
      let then : Holds (after out).edits line rest made (after out).read = subst (λ k. Holds (with_slip test false out).edits line rest made k) (sym place) left.1 in
      (left.0, record { quiet = was.quiet; made_for = was.made_for; holds = then.holds; ahead = then.ahead })

-- a store that gave a bit wasn't empty in plain mode
pub left_some : (mode : Mode) (bit : Bool) (store now rest : List Bool) → now ≡ filled store (slips mode (eqb (length store) 0)) → now ≡ bit ∷ rest → stops mode (eqb (length store) 0) ≡ false
left_some Plain bit store now rest is next = ap (λ l. eqb (length l) 0) (sym is ∙ next) ∙ ne_eqb (suc (length rest)) 0 (λ none. absurd (omega (arith, none)))
left_some Slipping bit store now rest is next = refl

-- and one that gave none was
pub left_none : (mode : Mode) (store now : List Bool) → now ≡ filled store (slips mode (eqb (length store) 0)) → now ≡ [] → stops mode (eqb (length store) 0) ≡ true
left_none Plain store now is next = ap (λ l. eqb (length l) 0) (sym is ∙ next)
left_none Slipping store now is next = elim (cases_Bool (eqb (length store) 0)) [
  | inl none ↦
      let ones : now ≡ replicate half_store true = is ∙ ap (filled store) none in
      absurd (omega (arith, ap length (sym ones ∙ next)))
  | inr some ↦
      let same : now ≡ store = is ∙ ap (filled store) some in
      absurd (differ (sym some ∙ ap (λ l. eqb (length l) 0) (sym same ∙ next)))
]
  where
    differ : false ≡ true → ⊥
    differ h = cc
