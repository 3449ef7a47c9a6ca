-- The line of a multiplexer, from the bits that its tributaries gave.
use mathlib.Core.Path.{fun_ext}
use Rattle.std.proofs.Common.{◌≡◌, ℕ, suc, ◌+◌, ◌*◌, ◌/◌, ◌%◌, ◌<◌, ◌≤◌, Bool, true, false, List, [], ◌∷◌, length, cond, eqb, refl, sym, ap, ◌∙◌, subst, arith, Option}
use Rattle.std.proofs.lemmas.Nat.{div-add-mod', mod_below}
use Rattle.pdh_edge.specs.Ports.{Inputs, Takes}
use Rattle.pdh_shape.specs.declared.place.Path.{Path}
use Rattle.pdh_shape.specs.declared.role.Service.{Service}
use Rattle.pdh_shape.specs.Frame.{FrameShape}
use Rattle.pdh_line.specs.Sending.{Source, slot_bit, line_bit, odd_before}
use Rattle.pdh_line.proofs.SentFrames.{line_bit-at}
use Rattle.pdh_tx.specs.declared.tx.TxStop.{TxStop}
use Rattle.pdh_tx.specs.declared.tx.TxStop.TheVariants.{Failed}
use Rattle.pdh_tx.specs.declared.position.Position.{Position}
use Rattle.pdh_tx.specs.Meaning.{Meaning, Plan, Supply, Agrees, Makes, Stops}
use Rattle.pdh_tx.specs.Held.{Halts, first_some}
use Rattle.pdh_tx.specs.Making.{Gives, IsClear, IsUneventful, MakesAll}
use Rattle.pdh_tx.specs.Node.{source_of, any_leaf, given_by, odd_within, AllFit, Blocked, Stays}
use Rattle.pdh_tx.specs.NodeState.{HasParity, KeepsParity}
use Rattle.pdh_tx.specs.Body.{Kind, IsKind, sender_meaning, SlotsClear, IsOneOf, AreSlotsFree, SlotFree, GivesSlots, SenderAt, SenderFor}
use Rattle.pdh_tx.specs.Batches.{AreSlotsClear, HaltsGathering}
use Rattle.pdh_tx.specs.Follows.{Follows}
use Rattle.pdh_tx.specs.Passing.{HoldsLine}
use Rattle.pdh_tx.specs.laws.Stepping.{frame_is, slot_is, following}
use Rattle.pdh_tx.proofs.Moving.{inside, given_same}
use Rattle.pdh_tx.proofs.NodePieces.{part_of}
use Rattle.pdh_tx.proofs.Saying.{says_in}

-- no slots meet nothing
pub none_asked : (kind : Kind) (s : FrameShape) (ms : List Meaning) (path : Path) (plan : Plan) (n t : ℕ) (a : Inputs) → AreSlotsFree kind s ms path plan n t 0 a
none_asked kind s ms path plan n t a = record {
  free = λ size fit m u one. absurd (omega (arith, one.from, one.to));
  no_slip = λ m u one. absurd (omega (arith, one.from, one.to));
}

module _ (s : FrameShape) (kind : Kind) (is_kind : IsKind s kind) (path : Path) (plan : Plan) (ms : List Meaning) (long : length ms ≡ s.tribs) where
  abbrev by : ℕ → ℕ → ℕ
  by x j = kind.by path plan j x

  abbrev steps : (ℕ → ℕ) → ℕ → ℕ → List (Option TxStop)
  steps size n t = kind.steps path plan ms size n t

  -- ---- what it has taken

  module _ (n t x : ℕ) (place : n * s.len + t ≡ x) (within : t < s.len) where
    by_now : by x ≡ kind.taken path plan n t
    by_now = fun_ext (λ j. is_kind.taken_is path plan n t x j place within)

    obstacle_is : (size : ℕ → ℕ) → (sender_meaning s kind path ms).obstacle plan size x ≡ first_some (steps size n t)
    obstacle_is size = ap (λ q. first_some (steps size q (x % s.len))) (frame_is s n t x place within) ∙ ap (λ r. first_some (steps size n r)) (slot_is s n t x place within)

    -- the slips in making its bit
    slips_is : (sender_meaning s kind path ms).slips plan x ≡ kind.slips path plan ms n t
    slips_is = ap (λ q. kind.slips path plan ms q (x % s.len)) (frame_is s n t x place within) ∙ ap (kind.slips path plan ms n) (slot_is s n t x place within)

    -- and after the slot
    by_next : (k : ℕ) → given_by ms plan (by (suc x)) k ≡ given_by ms plan (kind.came path plan n (suc t)) k
    by_next k =
        let next = following s n t within in
        given_same ms plan (by (suc x)) (kind.came path plan n (suc t)) k
        (λ j m e leaf.
        let known : j < s.tribs = (let i = inside ms j m e in omega arith) in
        ap (λ v. m.given plan v k) (is_kind.taken_is path plan next.0 next.1 (suc x) j (next.2.place ∙ ap suc place) next.2.inside ∙ sym (is_kind.taken_next path plan n t next.0 next.1 j next.2 known)))

    fit_now : (a : Inputs) (size : ℕ → ℕ) → ((k : ℕ) → (sender_meaning s kind path ms).leaves k ≡ true → size k ≡ given_by ms plan (by x) k + a.left k) → AllFit ms plan (kind.taken path plan n t) a size
    fit_now a size fit k leaf = fit k leaf ∙ ap (λ v. given_by ms plan v k + a.left k) by_now

  by_then : (n t x len last : ℕ) → n * s.len + t ≡ x → suc last ≡ t + len → last < s.len → (k : ℕ) → given_by ms plan (by (x + len)) k ≡ given_by ms plan (kind.came path plan n (t + len)) k
  by_then n t x len last place end within k =
      let e : suc (n * s.len + last) ≡ x + len = omega arith in
      ap (λ y. given_by ms plan (by y) k) (sym e) ∙ by_next n last (n * s.len + last) refl within k ∙ ap (λ v. given_by ms plan (kind.came path plan n v) k) end

  module _ (stands : ℕ → ℕ → Type 0) (at : Position) (x : ℕ) (was : SenderAt s stands at x) where
    abbrev taken : ℕ → ℕ
    taken = kind.taken path plan at.frame at.slot

    abbrev came : ℕ → ℕ → ℕ
    came = kind.came path plan at.frame

    -- ---- the slips in making its bit

    pub sender_slips : (sender_meaning s kind path ms).slips plan x ≡ kind.slips path plan ms at.frame at.slot
    sender_slips = slips_is at.frame at.slot x was.place was.inside

    -- ---- it stopped

    pub sender_stops : (stop : TxStop) (a b : Inputs) (f g : ℕ) → Blocked ms plan taken (came (suc at.slot)) (λ size. steps size at.frame at.slot) stop a b f g → Stops (sender_meaning s kind path ms) plan x stop a b f g
    sender_stops stop a b f g blocked = record {
      given = blocked.stays.given;
      takes = blocked.stays.takes;
      others = blocked.stays.others;
      no_more = λ k h.
          let less = blocked.stays.no_more k h in
          let p = ap (λ v. given_by ms plan v k) (by_now at.frame at.slot x was.place was.inside) in
          let q = by_next at.frame at.slot x was.place was.inside k in
          omega (arith, less, p, q);
      used_up = blocked.stays.used_up;
      met = record {
        counted = blocked.met.counted;
        is_first = λ h size fit. obstacle_is at.frame at.slot x was.place was.inside size ∙ blocked.met.is_first h size (fit_now at.frame at.slot x was.place was.inside a size fit);
      };
    }

    pub sender_halts : (len last : ℕ) (stop : TxStop) (a b : Inputs) → suc last ≡ at.slot + len → last < s.len → Stays ms plan taken (came (at.slot + len)) stop a b → Halts (sender_meaning s kind path ms) plan x (x + len) stop a b
    sender_halts len last stop a b end within stays = record {
      given = stays.given;
      takes = stays.takes;
      others = stays.others;
      no_more = λ k h.
          let less = stays.no_more k h in
          let p = ap (λ v. given_by ms plan v k) (by_now at.frame at.slot x was.place was.inside) in
          let q = by_then at.frame at.slot x len last was.place end within k in
          omega (arith, less, p, q);
      used_up = stays.used_up;
    }

    pub sender_clear : (len : ℕ) (a : Inputs) → at.slot + len ≤ s.len → IsClear (sender_meaning s kind path ms) plan x (x + len) a → SlotsClear (λ size. steps size at.frame) (kind.slips path plan ms at.frame) ms plan taken at.slot len a
    sender_clear len a within clear = record {
      size = clear.size;
      fits = fit_now at.frame at.slot x was.place was.inside a clear.size clear.fits;
      clear = λ v h.
          let place : at.frame * s.len + (at.slot + v) ≡ x + v = (let p = was.place in omega arith) in
          sym (obstacle_is at.frame (at.slot + v) (x + v) place (omega arith) clear.size) ∙ clear.clear (x + v) (omega arith) (omega arith);
      no_slip = λ v h.
          let place : at.frame * s.len + (at.slot + v) ≡ x + v = (let p = was.place in omega arith) in
          sym (slips_is at.frame (at.slot + v) (x + v) place (omega arith)) ∙ clear.no_slip (x + v) (omega arith) (omega arith);
    }

    -- the same, over the ends of frames
    pub sender_slots : (count : ℕ) (a : Inputs) → IsClear (sender_meaning s kind path ms) plan x (x + count) a → AreSlotsClear kind s ms path plan at.frame at.slot (at.frame * s.len + at.slot + count) a
    sender_slots count a clear = record {
      size = clear.size;
      fits = fit_now at.frame at.slot x was.place was.inside a clear.size clear.fits;
      slots = record {
        clear = λ m u is. sym (obstacle_is m u (m * s.len + u) refl is.inside clear.size) ∙ clear.clear (m * s.len + u) (omega (arith, is.from, was.place)) (omega (arith, is.to, was.place));
        no_slip = λ m u is. sym (slips_is m u (m * s.len + u) refl is.inside) ∙ clear.no_slip (m * s.len + u) (omega (arith, is.from, was.place)) (omega (arith, is.to, was.place));
      };
    }

    -- so many bits are taken of the leaves on the way to a bit of the line
    end_is : (count k : ℕ) → given_by ms plan (λ j. kind.by path plan j (at.frame * s.len + at.slot + count)) k ≡ given_by ms plan (by (x + count)) k
    end_is count k = ap (λ y. given_by ms plan (by (y + count)) k) was.place

    pub sender_fails : (count : ℕ) (a b : Inputs) → HaltsGathering kind ms path plan at.frame at.slot (at.frame * s.len + at.slot + count) a b → Halts (sender_meaning s kind path ms) plan x (x + count) Failed a b
    sender_fails count a b stays = record {
      given = stays.given;
      takes = stays.takes;
      others = stays.others;
      no_more = λ k h. omega (arith, stays.no_more k h, ap (λ v. given_by ms plan v k) (by_now at.frame at.slot x was.place was.inside), end_is count k);
      used_up = stays.used_up;
    }

    pub sender_gives : (count : ℕ) (given : ℕ → List Bool) (a b : Inputs) → Takes given a b → ((k : ℕ) → any_leaf ms k ≡ false → given k ≡ [])
        → ((k : ℕ) → any_leaf ms k ≡ true → given_by ms plan taken k + length (given k) ≡ given_by ms plan (λ j. kind.by path plan j (at.frame * s.len + at.slot + count)) k) → Gives (sender_meaning s kind path ms) plan x (x + count) given a b
    sender_gives count given a b takes others exact = record {
      takes = takes;
      others = others;
      exact = λ k h. omega (arith, exact k h, ap (λ v. given_by ms plan v k) (by_now at.frame at.slot x was.place was.inside), end_is count k);
    }

    pub sender_agrees : (lists : ℕ → ℕ → Bool) (given : ℕ → List Bool) → Agrees (any_leaf ms) lists ((sender_meaning s kind path ms).given plan x) given → Agrees (any_leaf ms) lists (given_by ms plan taken) given
    sender_agrees lists given agrees k leaf i h = agrees k leaf i h ∙ ap (λ v. lists k (given_by ms plan v k + i)) (by_now at.frame at.slot x was.place was.inside)

    pub sender_free : (count : ℕ) (a : Inputs) → AreSlotsFree kind s ms path plan at.frame at.slot count a → IsUneventful (sender_meaning s kind path ms) plan x (x + count) a
    sender_free count a free = record {
      free = λ size fit y from to. free.free size (fit_now at.frame at.slot x was.place was.inside a size fit) (y / s.len) (y % s.len) (one y from to);
      no_slip = λ y from to. free.no_slip (y / s.len) (y % s.len) (one y from to);
    }
      where
        one : (y : ℕ) → x ≤ y → y < x + count → IsOneOf s at.frame at.slot count (y / s.len) (y % s.len)
        one y from to =
            let whole : y / s.len * s.len + y % s.len ≡ y = div-add-mod' y s.len in
            let place = was.place in
            record { inside = mod_below y s.len (omega (arith, was.inside)); from = omega (arith, whole, place, from); to = omega (arith, whole, place, to) }

    -- ---- it made bits

    module _ (ms' : List Meaning) (same : ms' ≡ ms) (new : Position) (last : ℕ) (follows : Follows s at.frame last new.frame new.slot) (stood : ℕ → Type 0) (stands' : ℕ → ℕ → Type 0) (onto : stood (suc last) → stands' new.frame new.slot)
        (holds : Plan → Supply → ℕ → ℕ → Type 0) (held : Supply → ℕ → Type 0) (holds' : Plan → Supply → ℕ → ℕ → Type 0) (into : (supply : Supply) → held supply (suc last) → holds' plan supply new.frame new.slot)
        (was_said next_say say : Service) (says_is : say ≡ cond (eqb at.slot 0) next_say was_said) where
      abbrev OldFor : Supply → ℕ → Type 0
      OldFor supply y = SenderFor s (holds supply.plan supply) path ms at was_said supply

      abbrev NewFor : Supply → ℕ → Type 0
      NewFor supply y = SenderFor s (holds' supply.plan supply) path ms' new say supply

      next_at : (y : ℕ) → suc (at.frame * s.len + last) ≡ y → stood (suc last) → SenderAt s stands' new y
      next_at y place made = record { inside = follows.inside; place = follows.place ∙ place; each = onto made }

      next_for : (supply : Supply) → supply.plan ≡ plan → held supply (suc last) → supply.says at.frame ≡ say → HasParity s (source_of path ms supply) new → SenderFor s (holds' supply.plan supply) path ms' new say supply
      next_for supply is made said parity = record {
        each = subst (λ p. holds' p supply new.frame new.slot) (sym is) (into supply made);
        said = λ h. ap supply.says (follows.within h).0 ∙ said;
        parity = subst (λ v. HasParity s (source_of path v supply) new) (sym same) parity;
      }

      pub sender_makes : (bit : Bool) (a b : Inputs) → last ≡ at.slot → KeepsParity s bit at new
          → GivesSlots (stood (suc at.slot)) (λ supply. holds plan supply at.frame at.slot) (λ supply. held supply (suc at.slot)) ms s path plan taken (came (suc at.slot)) at.frame at.slot say at.last_odd (bit ∷ []) a b
          → SlotFree (λ size. steps size at.frame) ms plan taken at.slot a
          → Makes (sender_meaning s kind path ms) next_say (SenderAt s stands' new) OldFor NewFor plan x bit a b
      sender_makes bit a b end keeps made free =
          let now = by_now at.frame at.slot x was.place was.inside in
          let up : suc at.slot ≡ suc last = ap suc (sym end) in
          record {
            given = made.given;
            takes = made.takes;
            others = made.others;
            exact = λ k h. ap (λ v. given_by ms plan v k + length (made.given k)) now ∙ made.exact k h ∙ sym (by_next at.frame at.slot x was.place was.inside k);
            free = λ size fit. obstacle_is at.frame at.slot x was.place was.inside size ∙ free size (fit_now at.frame at.slot x was.place was.inside a size fit);
            place = next_at (suc x) (let p = was.place in omega arith) (subst stood up made.place);
            onward = λ supply is for says agrees.
                let source : Source = source_of path ms supply in
                let said = says_in s at.frame at.slot x was.place was.inside supply was_said next_say say says_is for.said says in
                let both = made.onward supply is (subst (λ p. holds p supply at.frame at.slot) is for.each) said for.parity.last (λ k leaf i h. agrees k leaf i h ∙ ap (λ v. supply.lists k (given_by ms plan v k + i)) now) in
                let start : at.slot + 0 ≡ at.slot = omega arith in
                let here : bit ≡ slot_bit s source at.frame at.slot (s.role at.slot) = both.0 0 (omega arith) ∙ ap (λ v. slot_bit s source at.frame v (s.role v)) start in
                let line : line_bit s source x ≡ slot_bit s source at.frame at.slot (s.role at.slot) = ap (line_bit s source) (sym was.place) ∙ line_bit-at s source at.frame at.slot was.inside in
                (here ∙ sym line, next_for supply is (subst (held supply) up both.1) said (keeps source here for.parity));
          }

      pub sender_piece : (len : ℕ) (bits : List Bool) (is_odd : Bool) (a b : Inputs) → length bits ≡ len → 0 < len → suc last ≡ at.slot + len → last < s.len
          → GivesSlots (stood (at.slot + len)) (λ supply. holds plan supply at.frame at.slot) (λ supply. held supply (at.slot + len)) ms s path plan taken (came (at.slot + len)) at.frame at.slot say at.last_odd bits a b
          → ((source : Source) → HoldsLine s source at.frame at.slot bits → at.is_odd ≡ odd_within s source at.frame at.slot → is_odd ≡ odd_within s source at.frame (at.slot + len))
          → ((source : Source) → at.last_odd ≡ odd_before s source at.frame → is_odd ≡ odd_within s source at.frame (suc last) → HasParity s source new)
          → MakesAll (sender_meaning s kind path ms) next_say (SenderAt s stands' new) OldFor NewFor plan x (x + len) bits a b
      sender_piece len bits is_odd a b size some end within made parity keeps =
          let now = by_now at.frame at.slot x was.place was.inside in
          record {
            given = made.given;
            gives = record {
              takes = made.takes;
              others = made.others;
              exact = λ k h. ap (λ v. given_by ms plan v k + length (made.given k)) now ∙ made.exact k h ∙ sym (by_then at.frame at.slot x len last was.place end within k);
            };
            count = ap (λ k. x + k) size;
            place = next_at (x + len) (let p = was.place in omega arith) (subst stood (sym end) made.place);
            onward = λ supply stood_for.
                let for = stood_for.stands in
                let source : Source = source_of path ms supply in
                let said = says_in s at.frame at.slot x was.place was.inside supply was_said next_say say says_is for.said (stood_for.said x (omega arith) (omega (arith, some))) in
                let both = made.onward supply stood_for.plan_is (subst (λ p. holds p supply at.frame at.slot) stood_for.plan_is for.each) said for.parity.last
                (λ k leaf i h. stood_for.agrees k leaf i h ∙ ap (λ v. supply.lists k (given_by ms plan v k + i)) now) in (
                  part_of (line_bit s source) bits x false (λ v h.
                      let place : at.frame * s.len + (at.slot + v) ≡ x + v = (let p = was.place in omega arith) in
                      let here : at.slot + v < s.len = omega arith in
                      both.0 v h ∙ sym (ap (line_bit s source) (sym place) ∙ line_bit-at s source at.frame (at.slot + v) here)),
                  next_for supply stood_for.plan_is (subst (held supply) (sym end) both.1) said
                      (keeps source for.parity.last (parity source both.0 for.parity.now ∙ ap (odd_within s source at.frame) (sym end))),
                );
          }
