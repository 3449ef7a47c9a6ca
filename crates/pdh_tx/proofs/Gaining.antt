-- One tributary that takes bits of its child, one after another.
use Rattle.std.proofs.Common.{◌≡◌, ℕ, suc, ◌<◌, ◌≤◌, Bool, false, [], ◌∷◌, ◌++◌, cond, leb, refl, sym, ap, ◌∙◌, arith, Option, Some, None, length-append, Result, Ok, Err, IfErr, OnErr}
use Rattle.std.proofs.lemmas.Bool.{lt-leb}
use Rattle.pdh_shape.specs.OwnNumbers.{lead, store_size}
use Rattle.pdh_edge.specs.Ports.{Inputs, nothing}
use Rattle.pdh_shape.specs.declared.place.Place.{Place}
use Rattle.pdh_line.specs.Sending.{Mode}
use Rattle.pdh_line.specs.Sending.Mode.{Plain, Slipping}
use Rattle.pdh_tx.specs.declared.tx.TxStop.{TxStop}
use Rattle.pdh_tx.specs.declared.tx.TxStop.TheVariants.{Overflow}
use Rattle.pdh_tx.specs.Meaning.{Meaning, Plan, Supply, Fits, Met}
use Rattle.pdh_tx.specs.Held.{Gains, Halts, stops, slips, arrival, lead_of, first_some}
use Rattle.pdh_tx.specs.laws.Growing.{grows_to}
use Rattle.pdh_tx.proofs.Firsts.{map_some}
use Rattle.pdh_tx.proofs.Moving.{takes_join, takes_none, agrees_left, agrees_right}
use Rattle.pdh_tx.proofs.TributarySteps.{met_weaker}

pub on_err_from : {T E P : Type 0} (r : Result T E) → P → OnErr r P
on_err_from (Ok x) p = tt
on_err_from (Err e) p = p

pub if_err_from : {T E : Type 0} (r : Result T E) (P : E → Type 0) (e : E) → r ≡ Err e → P e → IfErr r P
if_err_from r P e is p = rw is p

pub gains_none : {R : Type 0} (m : Meaning) (plan : Plan) (held : Supply → ℕ → R → Type 0) (made : ℕ) (read : R) (a : Inputs) → Gains m plan held held made made read read a a
gains_none m plan held made read a = record {
  given = nothing;
  takes = takes_none a;
  others = λ k h. refl;
  exact = λ k h. omega arith;
  onward = λ supply is was agrees. was;
}

pub gains_join : {R : Type 0} (m : Meaning) (plan : Plan) (u v w : Supply → ℕ → R → Type 0) (x y z : ℕ) (p q r : R) (a b c : Inputs) → Gains m plan u v x y p q a b → Gains m plan v w y z q r b c → Gains m plan u w x z p r a c
gains_join m plan u v w x y z p q r a b c first second = record {
  given = λ k. first.given k ++ second.given k;
  takes = takes_join first.given second.given a b c first.takes second.takes;
  others = λ k h. ap (λ l. l ++ second.given k) (first.others k h) ∙ second.others k h;
  exact = λ k h. (let d = first.exact k h in let e = second.exact k h in let l = length-append (first.given k) (second.given k) in omega arith);
  onward = λ supply is was agrees.
      second.onward supply is (first.onward supply is was (agrees_left m.leaves supply.lists (m.given plan x) first.given second.given agrees))
      (agrees_right m.leaves supply.lists (m.given plan x) (m.given plan y) first.given second.given first.exact agrees);
}

pub gains_fit : {R : Type 0} (m : Meaning) (plan : Plan) (u v : Supply → ℕ → R → Type 0) (x y : ℕ) (p q : R) (a b : Inputs) (size : ℕ → ℕ) → Gains m plan u v x y p q a b → Fits m plan x a size → Fits m plan y b size
gains_fit m plan u v x y p q a b size gains fit k h = (let s = fit k h in let t = gains.takes.counts k in let e = gains.exact k h in omega arith)

pub halts_join : {R : Type 0} (m : Meaning) (plan : Plan) (u v : Supply → ℕ → R → Type 0) (x y most : ℕ) (p q : R) (stop : TxStop) (a b c : Inputs) → Gains m plan u v x y p q a b → Halts m plan y most stop b c → Halts m plan x most stop a c
halts_join m plan u v x y most p q stop a b c first second = record {
  given = λ k. first.given k ++ second.given k;
  takes = takes_join first.given second.given a b c first.takes second.takes;
  others = λ k h. ap (λ l. l ++ second.given k) (first.others k h) ∙ second.others k h;
  no_more = λ k h. (let d = first.exact k h in let e = second.no_more k h in let l = length-append (first.given k) (second.given k) in omega arith);
  used_up = second.used_up;
}

pub halts_more : (m : Meaning) (plan : Plan) (x y z : ℕ) (stop : TxStop) (a b : Inputs) → ((n k : ℕ) → m.given plan n k ≤ m.given plan (suc n) k) → y ≤ z → Halts m plan x y stop a b → Halts m plan x z stop a b
halts_more m plan x y z stop a b grows h halts = record {
  given = halts.given;
  takes = halts.takes;
  others = halts.others;
  no_more = λ k l. (let p = halts.no_more k l in let q = grows_to (λ n. m.given plan n k) y z (λ n. grows n k) h in omega arith);
  used_up = halts.used_up;
}

-- ---- leads

first_of_two : {X : Type 0} (o : Option X) → first_some (o ∷ None ∷ []) ≡ o
first_of_two None = refl
first_of_two (Some x) = refl

no_first : {X : Type 0} (o p : Option X) → first_some (o ∷ p ∷ []) ≡ None → o ≡ None
no_first None p h = refl
no_first (Some x) p h = h

-- no event stops nothing, and is no slip
no_stop : (mode : Mode) (event : Bool) → event ≡ false → stops mode event ≡ false
no_stop Plain event none = none
no_stop Slipping event none = refl

pub no_slip : (mode : Mode) (event : Bool) → event ≡ false → slips mode event ≡ false
no_slip Plain event none = refl
no_slip Slipping event none = none

pub arrival_none : (m : Meaning) (plan : Plan) (place : Place) (size : ℕ → ℕ) (made fill : ℕ) → first_some (arrival m plan place size made fill) ≡ None → m.obstacle plan size made ≡ None
arrival_none m plan place size made fill h = no_first (m.obstacle plan size made) (cond (stops plan.mode (leb store_size fill)) (Some (Overflow place)) None) h

pub lead_met : (m : Meaning) (plan : Plan) (place : Place) (fits fits' : (ℕ → ℕ) → Type 0) (made fill : ℕ) (stop : TxStop) (f g f' : ℕ) → made < lead → fill < store_size → f ≡ f'
    → ((size : ℕ → ℕ) → fits' size → fits size) → ((size : ℕ → ℕ) → fits' size → (k : ℕ) → k < made → m.obstacle plan size k ≡ None)
    → Met fits (λ size. first_some (arrival m plan place size made fill)) stop f g → Met fits' (λ size. first_some (lead_of m plan size)) stop f' g
lead_met m plan place fits fits' made fill stop f g f' few room less narrower before met =
    met_weaker fits fits' _ _ stop f g f' less narrower
    (λ size fit e.
    let none : cond (stops plan.mode (leb store_size fill)) (Some (Overflow place)) None ≡ None = ap (λ b. cond b (Some (Overflow place)) None) (no_stop plan.mode (leb store_size fill) (lt-leb _ _ room)) in
    let here : m.obstacle plan size made ≡ Some stop = sym (first_of_two (m.obstacle plan size made)) ∙ ap (λ o. first_some (m.obstacle plan size made ∷ o ∷ [])) (sym none) ∙ e in
    map_some (m.obstacle plan size) stop 0 lead made (omega arith) (omega arith) (λ k l l'. before size fit k l') here)
    met
