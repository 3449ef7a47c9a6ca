-- The bit of a slot, from its steps.
use Rattle.std.proofs.Common.{◌≡◌, ℕ, suc, ◌<◌, ◌≤◌, ◌^◌, Bool, false, List, ◌++◌, length, map, cond, refl, sym, ap, ◌∙◌, subst, arith, Option, Some, None, append_assoc, Result, Ok, Err, OnOk, IfOk}
use Rattle.std.specs.List.{range_with_len}
use Rattle.std.proofs.lemmas.Bool.{lt-ltb, le-ltb}
use Rattle.pdh_edge.specs.Ports.{Inputs}
use Rattle.pdh_shape.specs.declared.place.Path.{Path}
use Rattle.pdh_shape.specs.declared.role.Service.{Service}
use Rattle.pdh_shape.specs.Frame.{FrameShape, IsFrame}
use Rattle.pdh_line.specs.Sending.{Mode, came_before, slot_bit, odd_before}
use Rattle.pdh_line.specs.Events.{underflows}
use Rattle.pdh_line.proofs.SendingLaws.{came_before_grows}
use Rattle.pdh_tx.specs.declared.tx.TxStop.{TxStop}
use Rattle.pdh_tx.specs.declared.tx.TxStop.TheVariants.{Overflow, Underflow, NoFrame, Failed, Ended, LogFailed}
use Rattle.pdh_tx.specs.declared.tributary.FrameShare.{FrameShare}
use Rattle.pdh_tx.specs.Meaning.{Meaning, Plan, Supply, is_failed, faults_met, IsUsedUp}
use Rattle.pdh_tx.specs.Held.{first_some, stops, Readout}
use Rattle.pdh_tx.specs.Slipping.{read_to, arrived_to, arriving_to}
use Rattle.pdh_tx.specs.Node.{EachPlaced, EachHeld, IsDecided, given_by, Advance, Blocked, below, source_of, beginning, arrivals, reads, steps, place_at, taken_to, came_to}
use Rattle.pdh_tx.specs.Stored.{MakesBit}
use Rattle.pdh_tx.specs.laws.Growing.{given_more}
use Rattle.pdh_tx.proofs.Firsts.{first_after, first_of}
use Rattle.pdh_tx.proofs.Advancing.{advance_join, blocked_join, blocked_more}
use Rattle.pdh_tx.proofs.FrameStarts.{advance_change, started, ended}
use Rattle.pdh_tx.proofs.Moving.{inside}
use Rattle.pdh_tx.proofs.NodePieces.{one_line}

module _ {W : Type 0} (placed : W → Plan → ℕ → Readout → Type 0) (held : W → Supply → ℕ → Readout → Type 0) (meaning : W → Meaning) (share : W → FrameShare) (plan : Plan) (s : FrameShape) (path : Path) where
  abbrev came : ℕ → ℕ → ℕ → ℕ
  came n t j = came_before s (plan.counts path j) n t

  -- on the way to no fewer bits
  blocked_most : (ms : List Meaning) (made most y : ℕ → ℕ) (steps : (ℕ → ℕ) → List (Option TxStop)) (stop : TxStop) (a b : Inputs) (f g : ℕ) → ((k : ℕ) → given_by ms plan most k ≤ given_by ms plan y k)
      → Blocked ms plan made most steps stop a b f g → Blocked ms plan made y steps stop a b f g
  blocked_most ms made most y steps stop a b f g less blocked = record {
    stays = record {
      given = blocked.stays.given;
      takes = blocked.stays.takes;
      others = blocked.stays.others;
      no_more = λ k h. (let p = blocked.stays.no_more k h in let q = less k in omega arith);
      used_up = blocked.stays.used_up;
    };
    met = blocked.met;
  }

  pub begin_stops : (u : List W) (n t : ℕ) (stop : TxStop) (a b : Inputs) (f g : ℕ) → IsFrame s → ((w : W) (n k : ℕ) → (meaning w).given plan n k ≤ (meaning w).given plan (suc n) k)
      → Blocked (map meaning u) plan (taken_to s path plan n t) (came_to s path plan n t 0) (λ size. beginning s path plan (map meaning u) size n t) stop a b f g
      → Blocked (map meaning u) plan (taken_to s path plan n t) (λ j. came_before s (plan.counts path j) n (suc t)) (λ size. steps s path plan (map meaning u) size n t) stop a b f g
  begin_stops u n t stop a b f g frame grows blocked =
      let ms : List Meaning = map meaning u in
      blocked_more placed held meaning plan ms (taken_to s path plan n t) (came n (suc t)) (λ size. beginning s path plan ms size n t) (λ size. arrivals s path plan ms size n t ++ reads s path plan n t) (λ size. steps s path plan ms size n t) stop a b f g
      (λ size. refl)
      (blocked_most ms (taken_to s path plan n t) (came_to s path plan n t 0) (came n (suc t)) (λ size. beginning s path plan ms size n t) stop a b f g
      (λ k. given_more meaning plan u (came_to s path plan n t 0) (came n (suc t)) k grows (λ j. (let e = started placed held meaning plan s path n t j in let h = came_before_grows s (plan.counts path j) n t frame in omega (arith, e, h))))
      blocked)

  pub arrival_stops : (ms : List Meaning) (u v : List W) (n t : ℕ) (stop : TxStop) (a b c : Inputs) (f g h : ℕ) → g ≡ f
      → Advance placed held ms plan u v (taken_to s path plan n t) (came_to s path plan n t 0) (read_to s path plan n t) (read_to s path plan n t) (λ size. beginning s path plan ms size n t) a b
      → Blocked ms plan (came_to s path plan n t 0) (λ j. came_before s (plan.counts path j) n (suc t)) (λ size. arrivals s path plan ms size n t) stop b c g h
      → Blocked ms plan (taken_to s path plan n t) (λ j. came_before s (plan.counts path j) n (suc t)) (λ size. steps s path plan ms size n t) stop a c f h
  arrival_stops ms u v n t stop a b c f g h later first second =
      blocked_more placed held meaning plan ms (taken_to s path plan n t) (came n (suc t)) (λ size. beginning s path plan ms size n t ++ arrivals s path plan ms size n t) (λ size. reads s path plan n t) (λ size. steps s path plan ms size n t) stop a c f h
      (λ size. sym (append_assoc (beginning s path plan ms size n t) (arrivals s path plan ms size n t) (reads s path plan n t)))
      (blocked_join placed held meaning plan ms u v (taken_to s path plan n t) (came_to s path plan n t 0) (came n (suc t)) (read_to s path plan n t) (read_to s path plan n t) (λ size. beginning s path plan ms size n t) (λ size. arrivals s path plan ms size n t) stop a b c f g h later first second)

  pub arriving_none : (n t j : ℕ) → arriving_to s path plan n t 0 j ≡ read_to s path plan n t j
  arriving_none n t j = ap (λ b. cond b (arrived_to s path plan n t j) (read_to s path plan n t j)) (le-ltb j 0 (omega arith))

  arriving_all : (n t i j : ℕ) → j < i → arriving_to s path plan n t i j ≡ arrived_to s path plan n t j
  arriving_all n t i j h = ap (λ b. cond b (arrived_to s path plan n t j) (read_to s path plan n t j)) (lt-ltb j i h)

  pub all_arrived : (w : List W) (n t count : ℕ) → length w ≡ count → EachPlaced placed w plan (came_to s path plan n t count) (arriving_to s path plan n t count) → EachPlaced placed w plan (came n (suc t)) (arrived_to s path plan n t)
  all_arrived w n t count long each j v e =
      let known : j < count = omega (arith, inside w j v e, long) in
      let P : ℕ → Type 0 = λ k. placed v plan k (arriving_to s path plan n t count j) in
      subst (placed v plan (came n (suc t) j)) (arriving_all n t count j known) (subst P (ended placed held meaning plan s path n t count j known) (each j v e))

  -- the beginning and the arrivals
  pub before_read : (ms : List Meaning) (u v w : List W) (n t : ℕ) (a b c : Inputs) → length ms ≡ s.tribs → length w ≡ s.tribs
      → Advance placed held ms plan u v (taken_to s path plan n t) (came_to s path plan n t 0) (read_to s path plan n t) (read_to s path plan n t) (λ size. beginning s path plan ms size n t) a b
      → Advance placed held ms plan v w (came_to s path plan n t 0) (came_to s path plan n t s.tribs) (arriving_to s path plan n t 0) (arriving_to s path plan n t s.tribs) (λ size. arrivals s path plan ms size n t) b c
      → Advance placed held ms plan u w (taken_to s path plan n t) (λ j. came_before s (plan.counts path j) n (suc t)) (read_to s path plan n t) (arrived_to s path plan n t) (λ size. beginning s path plan ms size n t ++ arrivals s path plan ms size n t) a c
  before_read ms u v w n t a b c all long first second =
      advance_join placed held meaning plan ms u v w (taken_to s path plan n t) (came_to s path plan n t 0) (came n (suc t)) (read_to s path plan n t) (read_to s path plan n t) (arrived_to s path plan n t) (λ size. beginning s path plan ms size n t) (λ size. arrivals s path plan ms size n t) a b c first
      (advance_change placed held meaning plan ms v w (came_to s path plan n t 0) (came_to s path plan n t 0) (came_to s path plan n t s.tribs) (came n (suc t)) (arriving_to s path plan n t 0) (read_to s path plan n t) (arriving_to s path plan n t s.tribs) (arrived_to s path plan n t)
      (λ size. arrivals s path plan ms size n t) (λ size. arrivals s path plan ms size n t) b c (all ∙ sym long)
      (λ j. refl) (λ j h. ended placed held meaning plan s path n t s.tribs j (omega (arith, h, all))) (arriving_none n t) (λ j h. arriving_all n t s.tribs j (omega (arith, h, all))) (λ size e. e) second)

  -- a stop at the read is no end of a leaf's list
  read_used : (n t : ℕ) (stop : TxStop) (c : Inputs) → (is_failed stop ≡ false → first_some (reads s path plan n t) ≡ Some stop) → IsUsedUp stop c
  read_used n t (Ended leaf) c met =
      first_of (λ v. IsUsedUp v c) (λ j. stops plan.mode (underflows s j (plan.counts path j) n t)) (λ j. Underflow (place_at path j n t)) (range_with_len 0 s.tribs) (Ended leaf) (λ j. tt) (met refl)
  read_used n t (Overflow place) c met = tt
  read_used n t (Underflow place) c met = tt
  read_used n t (NoFrame node) c met = tt
  read_used n t Failed c met = tt
  read_used n t LogFailed c met = tt

  pub read_stops : (ms : List Meaning) (u w : List W) (n t : ℕ) (stop : TxStop) (a c : Inputs) (f g : ℕ) → g ≡ f
      → Advance placed held ms plan u w (taken_to s path plan n t) (λ j. came_before s (plan.counts path j) n (suc t)) (read_to s path plan n t) (arrived_to s path plan n t) (λ size. beginning s path plan ms size n t ++ arrivals s path plan ms size n t) a c
      → faults_met stop f ≡ f → (is_failed stop ≡ false → first_some (reads s path plan n t) ≡ Some stop)
      → Blocked ms plan (taken_to s path plan n t) (λ j. came_before s (plan.counts path j) n (suc t)) (λ size. steps s path plan ms size n t) stop a c f g
  read_stops ms u w n t stop a c f g same advance uncounted met = record {
    stays = record {
      given = advance.moves.given;
      takes = advance.moves.takes;
      others = advance.moves.others;
      no_more = λ k h. (let e = advance.moves.exact k h in omega arith);
      used_up = read_used n t stop c met;
    };
    met = record {
      counted = same ∙ sym uncounted;
      is_first = λ h size fit.
          ap first_some (sym (append_assoc (beginning s path plan ms size n t) (arrivals s path plan ms size n t) (reads s path plan n t)))
          ∙ first_after (beginning s path plan ms size n t ++ arrivals s path plan ms size n t) (reads s path plan n t) (advance.free size fit) ∙ met h;
    };
  }

  -- what the making of the bit ensures for a supply
  abbrev BitOf : List Meaning → List W → List W → Mode → ℕ → ℕ → Service → Bool → Bool → Type 0
  BitOf ms w x mode n t say odd bit =
      (supply : Supply) → supply.plan.mode ≡ mode → EachPlaced placed w supply.plan (λ j. came_before s (supply.plan.counts path j) n (suc t)) (arrived_to s path supply.plan n t) → IsDecided share s path supply.plan n w → supply.says n ≡ say → odd ≡ odd_before s (source_of path ms supply) n
      → EachHeld held w (below supply) (λ j. came_before s (supply.plan.counts path j) n (suc t)) (arrived_to s path supply.plan n t)
      → (bit ≡ slot_bit s (source_of path ms supply) n t (s.role t)) × EachHeld held x (below supply) (λ j. came_before s (supply.plan.counts path j) n (suc t)) (read_to s path supply.plan n (suc t))

  pub bit_made : (ms : List Meaning) (u w x : List W) (mode : Mode) (n t : ℕ) (say : Service) (odd bit : Bool) (a c : Inputs) → plan.mode ≡ mode
      → Advance placed held ms plan u w (taken_to s path plan n t) (λ j. came_before s (plan.counts path j) n (suc t)) (read_to s path plan n t) (arrived_to s path plan n t) (λ size. beginning s path plan ms size n t ++ arrivals s path plan ms size n t) a c
      → first_some (reads s path plan n t) ≡ None
      → EachPlaced placed x plan (λ j. came_before s (plan.counts path j) n (suc t)) (read_to s path plan n (suc t))
      → IsDecided share s path plan n w → IsDecided share s path plan n x → n < plan.frames path → suc n < 2 ^ 64
      → BitOf ms w x mode n t say odd bit
      → MakesBit placed held share s path plan (read_to s path plan) ms u x n t say odd bit a c
  bit_made ms u w x mode n t say odd bit a c mode_is advance read place was decided scheduled bounded makes = (
    record {
      given = advance.moves.given;
      takes = advance.moves.takes;
      others = advance.moves.others;
      exact = advance.moves.exact;
      place = record { made = place; decided = decided; scheduled = scheduled; bounded = bounded };
      bounded = bounded;
      onward = λ supply is each said parity agrees.
          let P : Plan → Type 0 = λ p. EachHeld held w (below supply) (λ j. came_before s (p.counts path j) n (suc t)) (arrived_to s path p n t) in
          let Q : Plan → Type 0 = λ p. EachHeld held x (below supply) (λ j. came_before s (p.counts path j) n (suc t)) (read_to s path p n (suc t)) in
          let D : Plan → Type 0 = λ p. IsDecided share s path p n w in
          let A : Plan → Type 0 = λ p. EachPlaced placed w p (λ j. came_before s (p.counts path j) n (suc t)) (arrived_to s path p n t) in
          let both = makes supply (ap (λ (p : Plan). p.mode) is ∙ mode_is) (subst A (sym is) advance.place) (subst D (sym is) was) said parity (subst P (sym is) (advance.moves.onward (below supply) is each agrees)) in
          (one_line s (source_of path ms supply) n t bit both.0, subst Q is both.1);
    },
    λ size fit.
        ap first_some (sym (append_assoc (beginning s path plan ms size n t) (arrivals s path plan ms size n t) (reads s path plan n t)))
        ∙ first_after (beginning s path plan ms size n t ++ arrivals s path plan ms size n t) (reads s path plan n t) (advance.free size fit) ∙ read,
  )

  -- by what the making of the bit ensures
  pub made_of : {E : Type 0} (ms : List Meaning) (u w x : List W) (mode : Mode) (n t : ℕ) (say : Service) (odd : Bool) (a c : Inputs) (r : Result Bool E) → plan.mode ≡ mode → map meaning w ≡ ms
      → Advance placed held ms plan u w (taken_to s path plan n t) (λ j. came_before s (plan.counts path j) n (suc t)) (read_to s path plan n t) (arrived_to s path plan n t) (λ size. beginning s path plan ms size n t ++ arrivals s path plan ms size n t) a c
      → IsDecided share s path plan n w → IsDecided share s path plan n x → n < plan.frames path → suc n < 2 ^ 64
      → OnOk r ((p : Plan) → p.mode ≡ mode → IsDecided share s path p n w → EachPlaced placed w p (λ j. came_before s (p.counts path j) n (suc t)) (arrived_to s path p n t) → first_some (reads s path p n t) ≡ None)
      → OnOk r ((p : Plan) → p.mode ≡ mode → IsDecided share s path p n w → EachPlaced placed w p (λ j. came_before s (p.counts path j) n (suc t)) (arrived_to s path p n t)
      → EachPlaced placed x p (λ j. came_before s (p.counts path j) n (suc t)) (read_to s path p n (suc t)))
      → IfOk r (λ bit. BitOf (map meaning w) w x mode n t say odd bit)
      → IfOk r (λ bit. MakesBit placed held share s path plan (read_to s path plan) ms u x n t say odd bit a c)
  made_of ms u w x mode n t say odd a c (Err e) mode_is same advance was decided scheduled bounded free place makes = tt
  made_of ms u w x mode n t say odd a c (Ok bit) mode_is same advance was decided scheduled bounded free place makes =
      bit_made ms u w x mode n t say odd bit a c mode_is advance (free plan mode_is was advance.place) (place plan mode_is was advance.place) was decided scheduled bounded
      (subst (λ (m : List Meaning). BitOf m w x mode n t say odd bit) same makes)
