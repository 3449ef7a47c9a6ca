-- Deaf children: one that is given none of its bits is as one that got them all, so acts that only give are played by doing nothing.
use Rattle.std.proofs.Common.{◌≡◌, ℕ, zero, suc, Bool, true, false, List, [], ◌∷◌, ◌++◌, map, cond, refl, sym, subst, Some, Option, Ok, slice_get}
use Rattle.pdh_edge.specs.declared.port.Drain as drain
use Rattle.pdh_edge.specs.Ports.{Outputs, after}
use Rattle.pdh_watch.specs.declared.event.Event.{Event}
use Rattle.pdh_watch.specs.declared.watch.Watch as watch
use Rattle.pdh_events.specs.Acts.{Act, with_more}
use Rattle.pdh_events.specs.laws.ActsLaws.{bits_to}
use Rattle.pdh_events.specs.laws.QuietLaws.{IsQuiet, OnlyGive, quiet_acts}
use Rattle.pdh_rx.specs.declared.rx.Rx as rx
use Rattle.pdh_rx.specs.Meaning.{Meaning, Gains}
use Rattle.pdh_rx.specs.Node.{AreDeaf, Acted, child_notes, got_by}
use Rattle.pdh_rx.proofs.Gains.{gains_nothing}
use Rattle.pdh_rx.proofs.Keeping.{keeps_nothing}
use Rattle.pdh_rx.proofs.Ahead.{quiet_alike}

-- a leaf gains by one child or by another
gained_by : (b : Bool) (x y x' y' more more' : List Bool) → x ≡ x' ++ more → y ≡ y' ++ more' → cond b x y ≡ cond b x' y' ++ cond b more more'
gained_by true x y x' y' more more' e f = e
gained_by false x y x' y' more more' e f = f

put_by : (b : Bool) (more more' : List Bool) (told : Option (List Bool)) → told ≡ after more told → told ≡ after more' told → told ≡ after (cond b more more') told
put_by true more more' told e f = e
put_by false more more' told e f = f

-- what each child gains is told by lists that are as they were, so what all gain is
gains_of_all : {C : Type 0} (meaning : C → Meaning) (cs : List C) (lines more : ℕ → List Bool) (o : Outputs)
    → ((j : ℕ) (c : C) → slice_get cs j ≡ Some c → Gains ((meaning c).got (lines j)) ((meaning c).got (lines j ++ more j)) o o) → Gains (got_by (map meaning cs) lines) (got_by (map meaning cs) (with_more lines more)) o o
gains_of_all meaning [] lines more o each = gains_nothing _ _ o (λ k. refl)
gains_of_all meaning (c ∷ cs) lines more o each =
    let here = each 0 c refl in
    let behind = gains_of_all meaning cs (λ j. lines (suc j)) (λ j. more (suc j)) o (λ j d at. each (suc j) d at) in
    record {
      more = λ k. cond ((meaning c).leaves k) (here.more k) (behind.more k);
      gained = λ k. gained_by ((meaning c).leaves k) _ _ _ _ _ _ (here.gained k) (behind.gained k);
      puts = λ k. put_by ((meaning c).leaves k) _ _ _ (here.puts k) (behind.puts k);
    }

-- beyond the children nothing is noted
quiet_beyond : (j : ℕ) (line bits : List Bool) → IsQuiet (child_notes [] j) line bits
quiet_beyond j line [] = tt
quiet_beyond j line (bit ∷ bits) = (refl, quiet_beyond j (line ++ bit ∷ []) bits)

quiet_all : {C : Type 0} (meaning : C → Meaning) (cs : List C) (lines more : ℕ → List Bool) → ((j : ℕ) (c : C) → slice_get cs j ≡ Some c → IsQuiet (meaning c).notes (lines j) (more j))
    → (j : ℕ) → IsQuiet (child_notes (map meaning cs) j) (lines j) (more j)
quiet_all meaning [] lines more each j = quiet_beyond j (lines j) (more j)
quiet_all meaning (c ∷ cs) lines more each zero = quiet_alike (meaning c).notes (child_notes (map meaning (c ∷ cs)) 0) (λ line bit. refl) (lines 0) (more 0) (each 0 c refl)
quiet_all meaning (c ∷ cs) lines more each (suc j) =
    quiet_alike (child_notes (map meaning cs) j) (child_notes (map meaning (c ∷ cs)) (suc j)) (λ line bit. refl) (lines (suc j)) (more (suc j))
    (quiet_all meaning cs (λ i. lines (suc i)) (λ i. more (suc i)) (λ i d at. each (suc i) d at) j)

module _ {C D W : Type 0} {receivers : rx.Ghosts C} {drains : drain.Ghosts D} {watches : watch.Ghosts W} where
  -- the law: acts that only give deaf children bits are played, though no call was made
  pub acted_deaf : {E : Type 0} {acts : List Act} {cs : List C} {d : D} {w : W} → AreDeaf receivers.stands receivers.meaning cs (drains.outputs d) → OnlyGive acts → drains.drained d d → watches.saw w [] w
      → Acted {T = Unit {0}} {E = E} receivers drains watches acts cs cs d d w w (Ok tt)
  acted_deaf {acts = acts} {cs = cs} {d = d} {w = w} deaf gives none seen = record {
    played = record {
      gives = record {
        each = λ lines each j c at. ((deaf j c at).taken (bits_to acts j)).stands (lines j) (each j c at);
        gains = λ lines each. gains_of_all receivers.meaning cs lines (bits_to acts) (drains.outputs d) (λ j c at. ((deaf j c at).taken (bits_to acts j)).gains (lines j) (each j c at));
      };
      sees = λ lines each.
          let P : List Event → Type 0 = λ events. watches.saw w events w in
          subst P (sym (quiet_acts (child_notes (map receivers.meaning cs)) acts lines gives (quiet_all receivers.meaning cs lines (bits_to acts) (λ j c at. (deaf j c at).quiet (lines j) (bits_to acts j) (each j c at))))) seen;
    };
    part = tt;
    kept = keeps_nothing receivers.meaning drains.drain_faults drains.drained cs d none;
  }
