-- A piece of a frame, where the frame began.
use Rattle.std.proofs.Common.{◌≡◌, inl, inr, ◌<◌, ◌≤◌, ◌+◌, ℕ, suc, List, [], sym, ap, ◌∙◌, subst, arith, Some, None, slice_get}
use Rattle.std.proofs.lemmas.Bool.{cases_Bool}
use Rattle.std.proofs.lemmas.List.{length-map}
use Rattle.pdh_edge.specs.Counts.{one_more}
use Rattle.pdh_edge.specs.Ports.{Inputs}
use Rattle.pdh_shape.specs.declared.shape.Shape as shape
use Rattle.pdh_shape.specs.Frame.{FrameShape, IsFrame}
use Rattle.pdh_shape.specs.Tributary.{HasTributaries}
use Rattle.pdh_tx.specs.declared.tx.Tx.{Ghosts}
use Rattle.pdh_tx.specs.declared.tx.TxStop.{TxStop}
use Rattle.pdh_tx.specs.declared.tx.TxStop.TheVariants.{Failed, LogFailed}
use Rattle.pdh_tx.specs.declared.pieces.Piece.{Piece}
use Rattle.pdh_tx.specs.declared.tributaries.Tributaries.{Tributaries}
use Rattle.pdh_tx.specs.declared.tributary.Tributary.{Tributary}
use Rattle.pdh_tx.specs.Meaning.{Plan, Meaning, Fits, is_failed}
use Rattle.pdh_tx.specs.Held.{first_some, Readout, put_with}
use Rattle.pdh_tx.specs.Tributary.{placed_in, held_in, meaning_in, share_in}
use Rattle.pdh_tx.specs.Node.{EachPlaced, Stays, steps, beginning_slips, slot_slips, came_at, came_to, taken_to}
use Rattle.pdh_tx.specs.Slipping.{read_to}
use Rattle.pdh_tx.specs.Passing.{made_through}
use Rattle.pdh_tx.specs.Tributaries.{meanings, HaveDecided, beginning_stretch, GoThrough, StopIn, HavePassed, IsPassable, FailFrom, IsClearFor, FailIn}
use Rattle.pdh_tx.specs.laws.Growing.{given_more}
use Rattle.pdh_tx.proofs.Lists.{get_at}
use Rattle.pdh_tx.proofs.Moving.{inside, fit_one, moves_fit, stays_join}
use Rattle.pdh_tx.proofs.PassingAll.{upto_past, came_grows}
use Rattle.pdh_tx.proofs.Clearing.{beginning_clear, beginning_quiet, AreClear, piece_unchanged, piece_clear, piece_few, piece_enough}
use Rattle.pdh_tx.proofs.PieceSteps.{came_first, read_first, stays_more}
use Rattle.pdh_tx.proofs.TributarySteps.{faults_failed}

no : {stop : TxStop} → None ≡ Some stop → ⊥
no h = cc

module _ {S C : Type 0} {shape : shape.Ghosts S} {tx : Ghosts C} (frame : IsFrame shape.shape) (has : HasTributaries shape.shape) (tribs : shape.shape.tribs ≡ shape.TRIBS) (ts : Tributaries S C shape tx) (plan : Plan) (at : Piece) (within : at.slot + at.len ≤ shape.shape.len) (a b : Inputs) where
  abbrev s : FrameShape
  s = shape.shape

  abbrev n : ℕ
  n = at.frame

  abbrev t : ℕ
  t = at.slot

  abbrev u : ℕ
  u = at.slot + at.len

  first : came_to s at.path plan n t 0 ≡ made_through s plan at 0
  first = came_first (placed_in tx) (held_in tx) (meaning_in tx) (share_in {C = C}) s has at.path plan n t u

  at_first : (j : ℕ) → came_to s at.path plan n t 0 j ≡ came_at s at.path plan n t j
  at_first j = ap (λ made. made j) first ∙ upto_past (came_at s at.path plan n t) (came_at s at.path plan n u) 0 j (omega arith)

  -- ---- it began

  module _ (mid : Tributaries S C shape tx) (same : meanings mid ≡ meanings ts) (begun : GoThrough ts mid (beginning_stretch ts at.path plan n t) a b) where
    pub begun_placed : HavePassed mid plan at 0
    begun_placed =
        let P : (ℕ → ℕ) → Type 0 = λ made. EachPlaced (placed_in tx) mid.list.items plan made (read_to s at.path plan n t) in
        let Q : (ℕ → Readout) → Type 0 = λ gone. EachPlaced (placed_in tx) mid.list.items plan (made_through s plan at 0) gone in
        subst Q (read_first (placed_in tx) (held_in tx) (meaning_in tx) (share_in {C = C}) s has at.path plan n t u) (subst P first begun.place)

    pub begun_passable : HaveDecided mid at.path plan n → IsClearFor ts plan at a → (j : ℕ) → IsPassable mid plan at b j
    begun_passable decided clear j m here =
        let ms : List Meaning = meanings ts in
        let ws : List (Tributary C) = ts.list.items in
        let ws' : List (Tributary C) = mid.list.items in
        let maker : slice_get ms j ≡ Some m = ap (λ l. slice_get l j) (sym same) ∙ here in
        let known : j < s.tribs = omega (arith, inside (meanings mid) j m here, length-map ws' (meaning_in tx), mid.count, tribs) in
        let one = get_at ws' j (omega (arith, mid.count, tribs, known)) in
        let fits = (decided j one.0 one.1).fits in
        let was = (begun.place j one.0 one.1).count in
        let P : ℕ → Type 0 = λ made. Fits m plan made b clear.size in
        let are : AreClear s frame ts.stores at.path plan ms clear.size n t at.len = record { clear = clear.clear; quiet = clear.no_slip } in
        let child = piece_clear s frame ts.stores at.path plan ms clear.size n t j known fits m maker at.len are in
        record {
          clear = record {
            size = clear.size;
            fits = subst P (at_first j) (fit_one (held_in tx) (meaning_in tx) plan ms j m (came_to s at.path plan n t 0) b clear.size ts.disjoint maker
                (moves_fit (held_in tx) (meaning_in tx) plan ms ws ws' (taken_to s at.path plan n t) (came_to s at.path plan n t 0) (read_to s at.path plan n t) (read_to s at.path plan n t) a b clear.size begun.moves clear.fits));
            clear = λ y from to. (child y from to).0;
            no_slip = λ y from to. (child y from to).1;
          };
          unchanged = piece_unchanged s frame ts.stores at.path plan ms clear.size n t j known fits at.len are;
          enough = piece_enough s frame ts.stores at.path plan ms clear.size n t j known fits at.len are (omega (arith, was, ap (put_with (read_to s at.path plan n t j).edits) (at_first j)));
          few = piece_few s frame ts.stores at.path plan ms clear.size n t j known fits at.len are;
        }

    pub begun_halts : (c : Inputs) → FailFrom mid plan at 0 b c → FailIn ts plan at a c
    begun_halts c stays =
        let P : List Meaning → Type 0 = λ ms. Stays ms plan (made_through s plan at 0) (came_at s at.path plan n u) Failed b c in
        let Q : (ℕ → ℕ) → Type 0 = λ made. Stays (meanings ts) plan made (came_at s at.path plan n u) Failed b c in
        stays_join (held_in tx) (meaning_in tx) plan (meanings ts) ts.list.items mid.list.items (taken_to s at.path plan n t) (came_to s at.path plan n t 0) (came_at s at.path plan n u) (read_to s at.path plan n t) (read_to s at.path plan n t) Failed a b c begun.moves
        (subst Q (sym first) (subst P same stays))

  -- its beginning brings no slip
  pub begins_quietly : 0 < at.len → IsClearFor ts plan at a → beginning_slips s plan (meanings ts) n t ≡ []
  begins_quietly some clear =
      let zero : t + 0 ≡ t = omega arith in
      let P : ℕ → Type 0 = λ k. slot_slips s at.path plan (meanings ts) n k ≡ [] in
      beginning_quiet s at.path plan (meanings ts) n t (subst P zero (clear.no_slip 0 some))

  -- ---- something stood in the way of its beginning

  module _ (stop : TxStop) (f g : ℕ) (blocked : StopIn ts (beginning_stretch ts at.path plan n t) stop a b f g) where
    pub begin_halts : ((c : C) (n k : ℕ) → (tx.meaning c).given plan n k ≤ (tx.meaning c).given plan (suc n) k) → FailIn ts plan at a b
    begin_halts grows =
        stays_more (meanings ts) plan (taken_to s at.path plan n t) (came_to s at.path plan n t 0) (came_at s at.path plan n u) stop a b
        (λ k. given_more (meaning_in tx) plan ts.list.items (came_to s at.path plan n t 0) (came_at s at.path plan n u) k (λ w n k. grows w.child n k)
        (λ j. omega (arith, at_first j, came_grows s (plan.counts at.path j) n t u frame (omega arith))))
        blocked.stays

    -- which was a fault, since nothing else does
    pub begin_failed : (stop ≡ LogFailed → ⊥) → 0 < at.len → IsClearFor ts plan at a → g ≡ one_more f
    begin_failed told some clear =
        let zero : t + 0 ≡ t = omega arith in
        let P : ℕ → Type 0 = λ k. first_some (steps s at.path plan (meanings ts) clear.size n k) ≡ None in
        let none = beginning_clear s at.path plan (meanings ts) n t clear.size (subst P zero (clear.clear 0 some)) in
        elim (cases_Bool (is_failed stop)) [
          | inl failed ↦ blocked.met.counted ∙ faults_failed stop f told failed
          | inr other ↦ absurd (no (sym none ∙ blocked.met.is_first other clear.size clear.fits))
        ]
