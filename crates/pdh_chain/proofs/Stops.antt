-- The first of what may stand in the way tells the first event.
use Rattle.std.proofs.Common.{◌≡◌, ℕ, zero, suc, ◌+◌, ◌<◌, ◌≤◌, ◌⊎◌, inl, inr, Bool, true, false, ◌&&◌, cond, List, [], ◌∷◌, ◌++◌, map, refl, sym, subst, arith, Option, None, Some, slice_get}
use Rattle.std.specs.Prelude.{flat_map}
use Rattle.std.specs.List.{range_with_len}
use Rattle.pdh_shape.specs.declared.place.Place.{Place}
use Rattle.pdh_line.specs.Events.{Event, Kind}
use Rattle.pdh_line.specs.Events.Kind.{Overflow as OverflowKind, Underflow as UnderflowKind}
use Rattle.pdh_tx.specs.declared.tx.TxStop.{TxStop}
use Rattle.pdh_tx.specs.declared.tx.TxStop.TheVariants.{Overflow, Underflow}
use Rattle.pdh_tx.specs.Held.{first_some, some_if}
use Rattle.pdh_chain.specs.Muxes.{place_of}

-- how an event at a place stops a sender
abbrev pub stop_of_kind : Kind → Place → TxStop
stop_of_kind OverflowKind place = Overflow place
stop_of_kind UnderflowKind place = Underflow place

-- the first of these events is this stop
pub record IsFirst (events : List Event) (stop : TxStop) : Type 0 where
  pub event : Event
  pub first : slice_get events 0 ≡ Some event
  pub is : stop ≡ stop_of_kind event.kind (place_of event)

-- nothing stands in the way, and there is no event; or this stop does, and it is the first event or what holds for another
-- reason
abbrev pub Tells : (TxStop → Type 0) → Option TxStop → List Event → Type 0
Tells other None events = events ≡ []
Tells other (Some stop) events = IsFirst events stop ⊎ other stop

-- another reason may give way to a weaker one
pub tells-weaker : (P Q : TxStop → Type 0) (o : Option TxStop) (es : List Event) → ((stop : TxStop) → P stop → Q stop) → Tells P o es → Tells Q o es
tells-weaker P Q None es more h = h
tells-weaker P Q (Some stop) es more h = elim h [ inl first ↦ inl first | inr other ↦ inr (more stop other) ]

pub first_get : (es fs : List Event) (e : Event) → slice_get es 0 ≡ Some e → slice_get (es ++ fs) 0 ≡ Some e
first_get [] fs e h = absurd (cc)
first_get (x ∷ es) fs e h = h

module _ (other : TxStop → Type 0) where
  -- ---- one thing after another

  longer : (stop : TxStop) (es fs : List Event) → Tells other (Some stop) es → Tells other (Some stop) (es ++ fs)
  longer stop es fs h = elim h [
    | inl first ↦ inl (record { event = first.event; first = first_get es fs first.event first.first; is = first.is })
    | inr reason ↦ inr reason
  ]

  after_none : (o : Option TxStop) (es fs : List Event) → es ≡ [] → Tells other o fs → Tells other o (es ++ fs)
  after_none o es fs none h = subst (λ es. Tells other o (es ++ fs)) (sym none) h

  pub tells-append : (a b : List (Option TxStop)) (es fs : List Event) → Tells other (first_some a) es → Tells other (first_some b) fs → Tells other (first_some (a ++ b)) (es ++ fs)
  tells-append [] b es fs p q = after_none (first_some b) es fs p q
  tells-append (None ∷ a) b es fs p q = tells-append a b es fs p q
  tells-append (Some stop ∷ a) b es fs p q = longer stop es fs p

  pub tells-cons : (o : Option TxStop) (b : List (Option TxStop)) (es fs : List Event) → Tells other o es → Tells other (first_some b) fs → Tells other (first_some (o ∷ b)) (es ++ fs)
  tells-cons None b es fs p q = after_none (first_some b) es fs p q
  tells-cons (Some stop) b es fs p q = longer stop es fs p

  tells-one : (o : Option TxStop) (es : List Event) → Tells other o es → Tells other (first_some (o ∷ [])) es
  tells-one None es h = h
  tells-one (Some stop) es h = h

  -- the steps of each tributary
  pub tells-flat : (f : ℕ → List (Option TxStop)) (g : ℕ → List Event) (a n : ℕ) → ((j : ℕ) → a ≤ j → j < a + n → Tells other (first_some (f j)) (g j))
      → Tells other (first_some (flat_map f (range_with_len a n))) (flat_map g (range_with_len a n))
  tells-flat f g a zero each = refl
  tells-flat f g a (suc n) each =
      tells-append (f a) (flat_map f (range_with_len (a + 1) n)) (g a) (flat_map g (range_with_len (a + 1) n)) (each a (omega arith) (omega arith))
      (tells-flat f g (a + 1) n (λ j l h. each j (omega arith) (omega arith)))

  pub tells-map : (f : ℕ → Option TxStop) (g : ℕ → List Event) (a n : ℕ) → ((j : ℕ) → a ≤ j → j < a + n → Tells other (f j) (g j))
      → Tells other (first_some (map f (range_with_len a n))) (flat_map g (range_with_len a n))
  tells-map f g a zero each = refl
  tells-map f g a (suc n) each =
      tells-cons (f a) (map f (range_with_len (a + 1) n)) (g a) (flat_map g (range_with_len (a + 1) n)) (each a (omega arith) (omega arith))
      (tells-map f g (a + 1) n (λ j l h. each j (omega arith) (omega arith)))

  -- ---- one step

  -- an event of a store
  pub tells-event : (test : Bool) (stop : TxStop) (e : Event) → stop ≡ stop_of_kind e.kind (place_of e) → Tells other (some_if test stop) (cond test (e ∷ []) [])
  tells-event true stop e same = inl (record { event = e; first = refl; is = same })
  tells-event false stop e same = refl

  -- an arrival, if there is one: the child's bit, and the overflow of the store
  pub tells-arrival : (arrives full : Bool) (o : Option TxStop) (es : List Event) (stop : TxStop) (e : Event) → (arrives ≡ true → Tells other o es) → stop ≡ stop_of_kind e.kind (place_of e)
      → Tells other (first_some (cond arrives (o ∷ some_if (arrives && full) stop ∷ []) [])) (cond arrives es [] ++ cond (arrives && full) (e ∷ []) [])
  tells-arrival true full o es stop e child same =
      tells-cons o (some_if full stop ∷ []) es (cond full (e ∷ []) []) (child refl) (tells-one (some_if full stop) (cond full (e ∷ []) []) (tells-event full stop e same))
  tells-arrival false full o es stop e child same = refl

  -- the beginning of a frame: it isn't scheduled, or in frame 0 the leads
  pub tells-beginning : (begins missing first : Bool) (stop : TxStop) (leads : List (Option TxStop)) (es : List Event) → (missing ≡ true → other stop) → Tells other (first_some leads) es
      → Tells other (first_some (cond begins (some_if missing stop ∷ cond first leads []) [])) (cond (first && begins) es [])
  tells-beginning false missing true stop leads es why h = refl
  tells-beginning false missing false stop leads es why h = refl
  tells-beginning true true first stop leads es why h = inr (why refl)
  tells-beginning true false true stop leads es why h = h
  tells-beginning true false false stop leads es why h = refl

  -- the beginning of a frame of a node without stores: it isn't scheduled
  pub tells-unscheduled : (begins missing : Bool) (stop : TxStop) → (missing ≡ true → other stop) → Tells other (cond begins (some_if missing stop) None) []
  tells-unscheduled false missing stop why = refl
  tells-unscheduled true true stop why = inr (why refl)
  tells-unscheduled true false stop why = refl

  -- the child's bit that a slot reads, if it reads one
  pub tells-read : (reads : Bool) (o : Option TxStop) (es : List Event) → (reads ≡ true → Tells other o es) → Tells other (cond reads o None) (cond reads es [])
  tells-read true o es child = child refl
  tells-read false o es child = refl
