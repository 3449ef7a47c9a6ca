-- Calls in which a demultiplexer acts, one after another, up to the first that fails.
use Rattle.std.proofs.Common.{◌≡◌, List, [], ◌∷◌, ◌++◌, map, sym, refl, subst, Result, Ok, Err, IsErrAnd}
use Rattle.std.proofs.lemmas.List.{append-nil}
use Rattle.std.proofs.lemmas.Result.{on_err_weaker}
use Rattle.pdh_edge.specs.declared.port.Drain as drain
use Rattle.pdh_watch.specs.declared.event.Event.{Event}
use Rattle.pdh_watch.specs.declared.watch.Watch as watch
use Rattle.pdh_events.specs.Acts.{Act}
use Rattle.pdh_events.specs.Acts.Act.{Note}
use Rattle.pdh_rx.specs.declared.rx.Rx as rx
use Rattle.pdh_rx.specs.Meaning.{IsSound}
use Rattle.pdh_rx.specs.Node.{Keeps, PlaysPart, Acted, ActedUpTo, ActedWhole}
use Rattle.pdh_rx.specs.laws.NodeLaws.{all_sound}
use Rattle.pdh_rx.proofs.Keeping.{KeepsYet, keeps_nothing, keeps_more, keeps_failed}
use Rattle.pdh_rx.proofs.Playing.{SawJoins, plays_notes, plays_same, plays_join, plays_part, plays_at, part_at, up_to_one, up_to_after, up_to_part, up_to_at}

-- what calls kept joins
abbrev pub Joins : {D : Type 0} → (D → D → Type 0) → Type 0
Joins {D} drained = (a b c : D) → drained a b → drained b c → drained a c

module _ {C D W : Type 0} {receivers : rx.Ghosts C} {drains : drain.Ghosts D} {watches : watch.Ghosts W} where
  -- a node noted events of its own
  pub acted_notes : {E : Type 0} (events : List Event) (cs : List C) (d : D) (v w : W) → drains.drained d d → watches.saw v events w → Acted {T = Unit {0}} {E = E} receivers drains watches (map Note events) cs cs d d v w (Ok tt)
  acted_notes events cs d v w none seen = record {
    played = plays_notes receivers.stands watches.saw (map receivers.meaning cs) events cs (drains.outputs d) v w seen;
    part = tt;
    kept = keeps_nothing receivers.meaning drains.drain_faults drains.drained cs d none;
  }

  -- a node did nothing
  pub acted_nothing : {E : Type 0} (cs : List C) (d : D) (w : W) → drains.drained d d → watches.saw w [] w → Acted {T = Unit {0}} {E = E} receivers drains watches [] cs cs d d w w (Ok tt)
  acted_nothing cs d w none seen = acted_notes [] cs d w w none seen

  -- the same acts, told in another way
  pub acted_same : {T E : Type 0} {acts acts' : List Act} {xs ys : List C} {a b : D} {v w : W} {r : Result T E} → acts' ≡ acts → Acted receivers drains watches acts xs ys a b v w r → Acted receivers drains watches acts' xs ys a b v w r
  acted_same {xs = xs} {ys = ys} {a = a} {b = b} {v = v} {w = w} {r = r} e f = let P : List Act → Type 0 = λ acts. Acted receivers drains watches acts xs ys a b v w r in subst P (sym e) f

  -- no call failed, whatever it could have failed with
  pub acted_ok : {T U E F : Type 0} {acts : List Act} {xs ys : List C} {a b : D} {v w : W} {x : T} {y : U} → Acted {E = E} receivers drains watches acts xs ys a b v w (Ok x) → Acted {E = F} receivers drains watches acts xs ys a b v w (Ok y)
  acted_ok f = record { played = f.played; part = tt; kept = record { same = f.kept.same; drains = f.kept.drains; cause = f.kept.cause } }

  -- one of these calls failed, at a prefix of the acts
  pub acted_fails : {T U E : Type 0} (Q : E → Type 0) {acts : List Act} {xs ys zs : List C} {a b c : D} {v w : W} {why : E} → Joins drains.drained → (r : Result T E) → IsErrAnd r Q
      → PlaysPart receivers.stands watches.saw (map receivers.meaning xs) acts xs (drains.outputs a) (drains.outputs c) v w
      → KeepsYet receivers.meaning drains.drain_faults drains.drained xs ys a b → Keeps {T = U} receivers.meaning drains.drain_faults drains.drained ys zs b c (Err why) → Acted receivers drains watches acts xs zs a c v w r
  acted_fails Q joins (Ok x) is part before kept = absurd is
  acted_fails Q {why = why} joins (Err e) is part before kept = record {
    played = tt;
    part = part;
    kept = keeps_failed receivers.meaning drains.drain_faults drains.drained joins _ _ _ _ _ _ (Err e) e why refl before kept;
  }

  module _ (joins : SawJoins watches.saw) (drained_joins : Joins drains.drained) where
    -- these acts and then those
    pub acted_more : {T E : Type 0} {a b all : List Act} {xs ys zs : List C} {d e f : D} {u v w : W} {x : T} → all ≡ a ++ b
        → ActedWhole receivers drains watches a xs ys d e u v → Acted {E = E} receivers drains watches b ys zs e f v w (Ok x) → ActedWhole receivers drains watches all xs zs d f u w
    acted_more {a = a} {b = b} {xs = xs} {x = x} same first next =
        let ms = map receivers.meaning xs in
        record {
          played = plays_same receivers.stands watches.saw ms _ _ _ _ _ _ _ _ same
              (plays_join receivers.stands watches.saw ms joins a b _ _ _ _ _ _ _ _ _ first.played (plays_at receivers.stands watches.saw ms _ first.kept.same b _ _ _ _ _ _ next.played));
          part = tt;
          kept = keeps_more receivers.meaning drains.drain_faults drains.drained drained_joins _ _ _ _ _ _ x first.kept next.kept;
        }

    module _ (sound : (c : C) → IsSound (receivers.meaning c)) where
      -- these acts and then those, of which a call failed to do all; more were to come
      pub acted_part : {T U E : Type 0} (Q : E → Type 0) {a b : List Act} (rest : List Act) {all : List Act} {xs ys zs : List C} {d e f : D} {u v w : W} {why : E} (r : Result T E) → IsErrAnd r Q → all ≡ (a ++ b) ++ rest
          → ActedWhole receivers drains watches a xs ys d e u v → Acted {T = U} receivers drains watches b ys zs e f v w (Err why) → Acted receivers drains watches all xs zs d f u w r
      acted_part Q {a = a} {b = b} rest {all = all} {xs = xs} r is same first next =
          let ms = map receivers.meaning xs in
          acted_fails Q drained_joins r is
          (plays_part receivers.stands watches.saw ms joins (all_sound receivers.meaning sound xs) a b rest all _ _ _ _ _ _ _ _ same first.played (part_at receivers.stands watches.saw ms _ first.kept.same b _ _ _ _ _ next.part))
          first.kept next.kept

      -- these acts and then those, in whole or in part
      pub acted_join : {T E : Type 0} {a b : List Act} {xs ys zs : List C} {d e f : D} {u v w : W} (r : Result T E)
          → ActedWhole receivers drains watches a xs ys d e u v → Acted receivers drains watches b ys zs e f v w r → Acted receivers drains watches (a ++ b) xs zs d f u w r
      acted_join (Ok x) first next = acted_ok (acted_more refl first next)
      acted_join {a = a} {b = b} (Err e) first next = acted_part (λ e. Unit {0}) [] (Err e) tt (sym (append-nil (a ++ b))) first next

      -- a prefix of the acts up to the one that failed was played
      pub acted_up_to : {T E : Type 0} {acts : List Act} {xs ys : List C} {a b : D} {v w : W} (r : Result T E) → ActedUpTo receivers drains watches acts xs ys a b v w r → Acted receivers drains watches acts xs ys a b v w r
      acted_up_to {xs = xs} r f = record {
        played = f.played;
        part = on_err_weaker r (up_to_part receivers.stands watches.saw (map receivers.meaning xs) joins (all_sound receivers.meaning sound xs) _ _ _ _ _ _) f.part;
        kept = f.kept;
      }

    -- these acts and then those, of which a call failed at one; more were to come
    pub up_to_failed : {T U E : Type 0} (Q : E → Type 0) {a b : List Act} (rest : List Act) {all : List Act} {xs ys zs : List C} {d e f : D} {u v w : W} {why : E} (r : Result T E) → IsErrAnd r Q → all ≡ (a ++ b) ++ rest
        → ActedWhole receivers drains watches a xs ys d e u v → ActedUpTo {T = U} receivers drains watches b ys zs e f v w (Err why) → ActedUpTo receivers drains watches all xs zs d f u w r
    up_to_failed Q rest (Ok x) is same first next = absurd is
    up_to_failed Q {a = a} {b = b} rest {all = all} {xs = xs} {why = why} (Err e) is same first next =
        let ms = map receivers.meaning xs in
        record {
          played = tt;
          part = up_to_after receivers.stands watches.saw ms joins a b rest all _ _ _ _ _ _ _ _ same first.played (up_to_at receivers.stands watches.saw ms _ first.kept.same b _ _ _ _ _ next.part);
          kept = keeps_failed receivers.meaning drains.drain_faults drains.drained drained_joins _ _ _ _ _ _ (Err e) e why refl first.kept next.kept;
        }

  -- all were played
  pub up_to_ok : {T U E F : Type 0} {acts : List Act} {xs ys : List C} {a b : D} {v w : W} {x : T} {y : U} → Acted {E = E} receivers drains watches acts xs ys a b v w (Ok x) → ActedUpTo {E = F} receivers drains watches acts xs ys a b v w (Ok y)
  up_to_ok f = record { played = f.played; part = tt; kept = record { same = f.kept.same; drains = f.kept.drains; cause = f.kept.cause } }

  -- a call that makes one act fails at that
  pub acted_one : {T E : Type 0} {act : Act} {xs ys : List C} {a b : D} {v w : W} (r : Result T E) → watches.saw v [] v → Acted receivers drains watches (act ∷ []) xs ys a b v w r → ActedUpTo receivers drains watches (act ∷ []) xs ys a b v w r
  acted_one {act = act} {xs = xs} r none f = record {
    played = f.played;
    part = on_err_weaker r (up_to_one receivers.stands watches.saw (map receivers.meaning xs) act _ _ _ _ _ none) f.part;
    kept = f.kept;
  }
