-- The bit of one slot, and what stands in its way.
use Rattle.std.proofs.Common.{◌≡◌, ℕ, suc, ◌<◌, ◌≤◌, ◌^◌, Bool, true, List, [], ◌∷◌, map, eqb, refl, sym, ap, ◌∙◌, subst, arith, Option, Some, None, slice_get}
use Rattle.pdh_edge.specs.Ports.{Inputs, nothing}
use Rattle.pdh_shape.specs.declared.place.Path.{Path}
use Rattle.pdh_shape.specs.declared.role.Service.{Service}
use Rattle.pdh_shape.specs.Frame.{FrameShape}
use Rattle.pdh_tx.specs.declared.tx.Tx.{Ghosts}
use Rattle.pdh_tx.specs.declared.tx.TxStop.{TxStop}
use Rattle.pdh_tx.specs.declared.tx.TxStop.TheVariants.{NoFrame}
use Rattle.pdh_tx.specs.Meaning.{Meaning, Plan, IsUsedUp, faults_met}
use Rattle.pdh_tx.specs.Held.{first_some}
use Rattle.pdh_tx.specs.Node.{below, source_of, given_by, obstacle_of, set_at, carried_by, overhead_bit, AllFit, EachPlaced, Blocked}
use Rattle.pdh_tx.specs.Locked.{locked_to, locked_beginning, locked_steps}
use Rattle.pdh_tx.specs.laws.Growing.{given_more}
use Rattle.pdh_tx.proofs.Moving.{takes_none, given_same}
use Rattle.pdh_tx.proofs.NodePieces.{one_line}
use Rattle.pdh_locked.specs.Children.{Stands, StandsFor, placed_in, Reads, Gives}
use Rattle.pdh_locked.proofs.OneSlot.{read_one, read_none, read_is, overhead_is, locked_step, locked_same, locked_set, one_free, one_stop, begin_stop}

first_one : {X : Type 0} (o : Option X) (x : X) → first_some (o ∷ []) ≡ Some x → o ≡ Some x
first_one None x h = h
first_one (Some y) x h = h

module _ {C : Type 0} (tx : Ghosts C) (s : FrameShape) (path : Path) (plan : Plan) (old : List C) (n t : ℕ) where
  abbrev ms : List Meaning
  ms = map tx.meaning old

  -- ---- a slot that reads child i

  module _ (i : ℕ) (reads : carried_by [] (s.role t) ≡ Some i) where
    abbrev next : ℕ → ℕ
    next = set_at (locked_to s n t) i (suc (locked_to s n t i))

    next_is : (j : ℕ) → next j ≡ locked_to s n (suc t) j
    next_is = locked_set s n t i (read_one (s.role t) i reads)

    given_next : (k : ℕ) → given_by ms plan next k ≡ given_by ms plan (locked_to s n (suc t)) k
    given_next k = given_same ms plan next (locked_to s n (suc t)) k (λ j m e leaf. ap (λ v. m.given plan v k) (next_is j))

    pub bit_read : (new : List C) (say : Service) (odd bit : Bool) (a b : Inputs) → eqb s.copies 0 ≡ true → n < plan.frames path → suc n < 2 ^ 64
        → Reads tx s plan old new (locked_to s n t) i bit a b → Gives tx s path plan ms old new n t (suc t) say odd (bit ∷ []) a b
    bit_read new say odd bit a b locked scheduled bounded made = record {
      given = made.given;
      takes = made.takes;
      others = made.others;
      exact = λ k leaf. made.exact k leaf ∙ given_next k;
      place = record { made = λ j c e. subst (λ v. Stands tx c plan v) (next_is j) (made.place j c e); scheduled = scheduled; bounded = bounded };
      bounded = bounded;
      onward = λ supply is each said parity agrees.
          let both = made.onward (below supply) is each agrees in (
            one_line s (source_of path ms supply) n t bit (both.0 ∙ sym (read_is s locked (source_of path ms supply) n t i (s.role t) reads)),
            λ j c e. subst (λ v. StandsFor tx c (below supply) v) (next_is j) (both.1 j c e),
          );
    }

    pub read_free : (new : List C) (bit : Bool) (a b : Inputs) → locked_beginning path plan n t ≡ None → Reads tx s plan old new (locked_to s n t) i bit a b
        → (size : ℕ → ℕ) → AllFit ms plan (locked_to s n t) a size → first_some (locked_steps s path plan ms size n t) ≡ None
    read_free new bit a b began made size fit = one_free s path plan ms size n t began i (read_one (s.role t) i reads) (made.free size fit)

    pub read_blocked : (stop : TxStop) (a b : Inputs) (f g : ℕ) → locked_beginning path plan n t ≡ None → i < s.tribs
        → Blocked ms plan (locked_to s n t) next (λ size. obstacle_of (slice_get ms i) plan size (locked_to s n t i) ∷ []) stop a b f g
        → Blocked ms plan (locked_to s n t) (locked_to s n (suc t)) (λ size. locked_steps s path plan ms size n t) stop a b f g
    read_blocked stop a b f g began known blocked = record {
      stays = record {
        given = blocked.stays.given;
        takes = blocked.stays.takes;
        others = blocked.stays.others;
        no_more = λ k h. (let p = blocked.stays.no_more k h in let e = given_next k in omega arith);
        used_up = blocked.stays.used_up;
      };
      met = record {
        counted = blocked.met.counted;
        is_first = λ h size fit. one_stop s path plan ms size n t began i (read_one (s.role t) i reads) stop known (first_one (obstacle_of (slice_get ms i) plan size (locked_to s n t i)) stop (blocked.met.is_first h size fit));
      };
    }

  -- ---- a slot that reads none

  pub bit_none : (say : Service) (odd bit : Bool) (a : Inputs) → eqb s.copies 0 ≡ true → carried_by [] (s.role t) ≡ None → n < plan.frames path → suc n < 2 ^ 64 → EachPlaced (placed_in tx) old plan (locked_to s n t) (locked_to s n t)
      → bit ≡ overhead_bit s say odd [] (s.role t) → Gives tx s path plan ms old old n t (suc t) say odd (bit ∷ []) a a
  bit_none say odd bit a locked none scheduled bounded each is =
      let same = locked_same s n t (read_none (s.role t) none) in
      record {
        given = nothing;
        takes = takes_none a;
        others = λ k h. refl;
        exact = λ k leaf. (let e = given_same ms plan (locked_to s n t) (locked_to s n (suc t)) k (λ j m e leaf. ap (λ v. m.given plan v k) (same j)) in omega arith);
        place = record { made = λ j c e. subst (λ v. Stands tx c plan v) (same j) (each j c e); scheduled = scheduled; bounded = bounded };
        bounded = bounded;
        onward = λ supply plan_is held said parity agrees. (
          one_line s (source_of path ms supply) n t bit (is ∙ overhead_is s locked (source_of path ms supply) n t say odd (s.role t) none said parity),
          λ j c e. subst (λ v. StandsFor tx c (below supply) v) (same j) (held j c e),
        );
      }

  -- ---- a frame that isn't scheduled

  pub begin_blocked : (stop : TxStop) (a : Inputs) (f : ℕ) → ((c : C) (x k : ℕ) → (tx.meaning c).given plan x k ≤ (tx.meaning c).given plan (suc x) k) → stop ≡ NoFrame path → locked_beginning path plan n t ≡ Some stop
      → Blocked ms plan (locked_to s n t) (locked_to s n (suc t)) (λ size. locked_steps s path plan ms size n t) stop a a f f
  begin_blocked stop a f grows is met = record {
    stays = record {
      given = nothing;
      takes = takes_none a;
      others = λ k h. refl;
      no_more = λ k h. (let e = given_more tx.meaning plan old (locked_to s n t) (locked_to s n (suc t)) k (λ c n k. grows c n k) (λ j. (let step = locked_step s n t j in omega arith)) in omega arith);
      used_up = subst (λ v. IsUsedUp v a) (sym is) tt;
    };
    met = record {
      counted = sym (ap (λ v. faults_met v f) is);
      is_first = λ h size fit. begin_stop s path plan ms size n t stop met;
    };
  }
