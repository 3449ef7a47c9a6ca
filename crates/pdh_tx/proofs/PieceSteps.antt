-- A piece of a node's frame, from what its tributaries passed.
use mathlib.Core.Path.{fun_ext}
use Rattle.std.proofs.Common.{◌≡◌, ℕ, suc, ◌+◌, ◌-◌, ◌<◌, ◌≤◌, ◌^◌, Bool, true, false, ◌&&◌, List, ◌++◌, length, map, cond, refl, sym, ap, ◌∙◌, subst, arith, Option, None, eq-eqb}
use Rattle.std.specs.List.{slice_index_or}
use Rattle.std.proofs.lemmas.Bool.{le-ltb}
use Rattle.std.proofs.lemmas.List.{length-append}
use Rattle.pdh_edge.specs.Ports.{Inputs}
use Rattle.pdh_shape.specs.declared.place.Path.{Path}
use Rattle.pdh_shape.specs.declared.role.Role.{Role}
use Rattle.pdh_shape.specs.declared.role.Role.TheVariants.{Align, Service as ServiceSlot, Control, Just, Info}
use Rattle.pdh_shape.specs.declared.role.Service.{Service}
use Rattle.pdh_shape.specs.Frame.{FrameShape}
use Rattle.pdh_shape.specs.Payload.{is_payload}
use Rattle.pdh_shape.specs.Tributary.{HasTributaries, reads_from}
use Rattle.pdh_line.specs.Sending.{Source, came_before, slot_bit, odd_before}
use Rattle.pdh_tx.specs.declared.tx.TxStop.{TxStop}
use Rattle.pdh_tx.specs.declared.tributary.FrameShare.{FrameShare}
use Rattle.pdh_tx.specs.declared.tx.TxStop.TheVariants.{Failed}
use Rattle.pdh_tx.specs.Meaning.{Meaning, Plan, Supply}
use Rattle.pdh_tx.specs.Node.{below, source_of, any_leaf, given_by, carried_by, overhead_bit, came_to, taken_to, EachPlaced, EachHeld, IsDecided, Advance, Stays, came_at}
use Rattle.pdh_tx.specs.Held.{Readout}
use Rattle.pdh_tx.specs.Slipping.{read_to}
use Rattle.pdh_runs.specs.Pieces.{overhead_before, Assembled}
use Rattle.pdh_tx.specs.Passing.{up_to, HoldsBits, HoldsLine, HoldsOverhead, Passes}
use Rattle.pdh_tx.specs.Stored.{MakesPiece}
use Rattle.pdh_tx.proofs.Moving.{takes_join, agrees_left, agrees_right, given_same, inside}
use Rattle.pdh_tx.proofs.Reading.{overhead_is}
use Rattle.pdh_tx.proofs.PassingAll.{upto_past, upto_below}

-- ---- the bits of a piece

-- each slot holds its bit, where the columns hold those of the payload slots
pub line_from : (s : FrameShape) → HasTributaries s → (source : Source) (n t len : ℕ) (overhead bits : List Bool) (columns : List (List Bool)) (bit : Role → Bool) → length bits ≡ len → t + len ≤ s.len → Assembled s t len overhead columns bits
    → HoldsBits s source n t len columns s.tribs
    → ((v : ℕ) → v < len → is_payload (s.role (t + v)) ≡ false → slice_index_or overhead (overhead_before s (t + v) - overhead_before s t) false ≡ bit (s.role (t + v)))
    → ((x : ℕ) (r : Role) → x < s.len → s.role x ≡ r → is_payload r ≡ false → bit r ≡ slot_bit s source n x r)
    → HoldsLine s source n t bits
line_from s has source n t len overhead bits columns bit long most assembled holds over is v inside = go (s.role (t + v)) refl
  where
    within : v < len
    within = omega (arith, inside, long)

    here : t + v < s.len
    here = omega (arith, within, most)

    payload : (j : ℕ) → j < s.tribs → reads_from j true (s.role (t + v)) ≡ true → slice_index_or bits v false ≡ slot_bit s source n (t + v) (s.role (t + v))
    payload j known reads = assembled.payload v j within reads ∙ holds j known v within reads

    other : is_payload (s.role (t + v)) ≡ false → slice_index_or bits v false ≡ slot_bit s source n (t + v) (s.role (t + v))
    other none = assembled.others v within none ∙ over v within none ∙ is (t + v) (s.role (t + v)) here refl none

    go : (r : Role) → s.role (t + v) ≡ r → slice_index_or bits v false ≡ slot_bit s source n (t + v) (s.role (t + v))
    go (Info j) role = payload j (has.info_known (t + v) j here role) (ap (reads_from j true) role ∙ eq-eqb j j refl)
    go (Just j) role = payload j (has.just_known (t + v) j here role) (ap (reads_from j true) role ∙ ap (λ b. b && true) (eq-eqb j j refl))
    go (Align b) role = other (ap is_payload role)
    go (ServiceSlot k) role = other (ap is_payload role)
    go (Control k copy) role = other (ap is_payload role)

-- a slot that is no payload slot carries no tributary's bit
pub not_carried : (shares : List FrameShare) (r : Role) → is_payload r ≡ false → carried_by shares r ≡ None
not_carried shares (Info j) h = absurd (cc h)
not_carried shares (Just j) h = absurd (cc h)
not_carried shares (Align b) h = refl
not_carried shares (ServiceSlot k) h = refl
not_carried shares (Control k copy) h = refl

module _ {W : Type 0} (placed : W → Plan → ℕ → Readout → Type 0) (held : W → Supply → ℕ → Readout → Type 0) (meaning : W → Meaning) (share : W → FrameShare) (s : FrameShape) (has : HasTributaries s) (path : Path) (plan : Plan) (n t u : ℕ) where
  abbrev f : ℕ → ℕ
  f = came_at s path plan n t

  abbrev f' : ℕ → ℕ
  f' = came_at s path plan n u

  abbrev h : ℕ → Readout
  h = read_to s path plan n t

  abbrev h' : ℕ → Readout
  h' = read_to s path plan n u

  pub came_first : came_to s path plan n t 0 ≡ up_to f f' 0
  came_first = fun_ext (λ j. ap (λ b. cond b (came_before s (plan.counts path j) n (suc t)) (came_before s (plan.counts path j) n t)) (le-ltb j 0 (omega arith)) ∙ sym (upto_past f f' 0 j (omega arith)))

  pub read_first : read_to s path plan n t ≡ up_to h h' 0
  read_first = fun_ext (λ j. sym (upto_past h h' 0 j (omega arith)))

  -- each slot holds its bit
  pub piece_line : (ms : List Meaning) (ws : List W) (supply : Supply) (say : Service) (odd : Bool) (len : ℕ) (overhead bits : List Bool) (columns : List (List Bool)) → length ws ≡ s.tribs → length bits ≡ len → t + len ≤ s.len → supply.plan ≡ plan
      → IsDecided share s path plan n ws → supply.says n ≡ say → odd ≡ odd_before s (source_of path ms supply) n
      → HoldsOverhead s say odd (map share ws) t len overhead → Assembled s t len overhead columns bits → HoldsBits s (source_of path ms supply) n t len columns s.tribs → HoldsLine s (source_of path ms supply) n t bits
  piece_line ms ws supply say odd len overhead bits columns ws_long long most is decided said parity over assembled holds =
      let P : Plan → Type 0 = λ p. IsDecided share s path p n ws in
      let decided' : P supply.plan = subst P (sym is) decided in
      line_from s has (source_of path ms supply) n t len overhead bits columns (overhead_bit s say odd (map share ws)) long most assembled holds over
      (λ x r within role none. overhead_is share s has path supply.plan n ws ws_long decided' ms supply.lists supply.says say odd x r within role (not_carried (map share ws) r none) said parity)

  -- the frame began, and then all tributaries passed their bits
  pub piece_makes : (ms : List Meaning) (old mid new : List W) (say : Service) (odd : Bool) (len : ℕ) (overhead bits : List Bool) (columns : List (List Bool)) (steps : (ℕ → ℕ) → List (Option TxStop)) (a b c : Inputs) → length ms ≡ s.tribs → length mid ≡ s.tribs → length new ≡ s.tribs → length bits ≡ len → t + len ≤ s.len
      → IsDecided share s path plan n mid → IsDecided share s path plan n new → n < plan.frames path → suc n < 2 ^ 64
      → HoldsOverhead s say odd (map share mid) t len overhead → Assembled s t len overhead columns bits
      → Advance placed held ms plan old mid (taken_to s path plan n t) (came_to s path plan n t 0) (read_to s path plan n t) (read_to s path plan n t) steps a b
      → EachPlaced placed new plan (up_to f f' s.tribs) (up_to h h' s.tribs)
      → Passes held path ms plan mid new (up_to f f' 0) (up_to f f' s.tribs) (up_to h h' 0) (up_to h h' s.tribs) b c (λ source. HoldsBits s source n t len columns s.tribs)
      → MakesPiece placed held share s path plan (read_to s path plan) ms old new n t u say odd bits a c
  piece_makes ms old mid new say odd len overhead bits columns steps a b c ms_long mid_long new_long long most decided decided_new scheduled bounded over assembled advance place passes =
      let moves = advance.moves in
      let start : (k : ℕ) → given_by ms plan (came_to s path plan n t 0) k ≡ given_by ms plan (up_to f f' 0) k = λ k. ap (λ made. given_by ms plan made k) came_first in
      record {
        given = λ k. moves.given k ++ passes.given k;
        takes = takes_join moves.given passes.given a b c moves.takes passes.takes;
        others = λ k e. ap (λ l. l ++ passes.given k) (moves.others k e) ∙ passes.others k e;
        exact = λ k e.
            let p = moves.exact k e in
            let q = passes.exact k e in
            let r = start k in
            let l = length-append (moves.given k) (passes.given k) in
            let last : given_by ms plan (up_to f f' s.tribs) k ≡ given_by ms plan f' k = given_same ms plan (up_to f f' s.tribs) f' k (λ j m at leaf. ap (λ x. m.given plan x k) (upto_below f f' s.tribs j (let i = inside ms j m at in omega arith))) in
            omega arith;
        place = record {
          made = λ j w e.
              let known : j < s.tribs = (let i = inside new j w e in omega arith) in
              let P : ℕ → Type 0 = λ x. placed w plan x (up_to h h' s.tribs j) in
              let Q : Readout → Type 0 = λ x. placed w plan (f' j) x in
              subst Q (upto_below h h' s.tribs j known) (subst P (upto_below f f' s.tribs j known) (place j w e));
          decided = decided_new;
          scheduled = scheduled;
          bounded = bounded;
        };
        bounded = bounded;
        onward = λ supply is each said parity agrees.
            let here = moves.onward (below supply) is each (agrees_left (any_leaf ms) supply.lists (given_by ms plan (taken_to s path plan n t)) moves.given passes.given agrees) in
            let P : (ℕ → ℕ) → Type 0 = λ made. EachHeld held mid (below supply) made (read_to s path plan n t) in
            let Q : (ℕ → Readout) → Type 0 = λ gone. EachHeld held mid (below supply) (up_to f f' 0) gone in
            let there = passes.onward supply is (subst Q read_first (subst P came_first here))
            (agrees_right (any_leaf ms) supply.lists (given_by ms plan (taken_to s path plan n t)) (given_by ms plan (up_to f f' 0)) moves.given passes.given (λ k leaf. moves.exact k leaf ∙ start k) agrees) in (
              piece_line ms mid supply say odd len overhead bits columns mid_long long most is decided said parity over assembled there.1,
              λ j w e.
                  let known : j < s.tribs = (let i = inside new j w e in omega arith) in
                  let R : ℕ → Type 0 = λ x. held w (below supply) x (up_to h h' s.tribs j) in
                  let T : Readout → Type 0 = λ x. held w (below supply) (f' j) x in
                  subst T (upto_below h h' s.tribs j known) (subst R (upto_below f f' s.tribs j known) (there.0 j w e)),
            );
      }

pub stays_more : (ms : List Meaning) (plan : Plan) (made most more : ℕ → ℕ) (stop : TxStop) (a b : Inputs) → ((k : ℕ) → given_by ms plan most k ≤ given_by ms plan more k) → Stays ms plan made most stop a b → Stays ms plan made more Failed a b
stays_more ms plan made most more stop a b grows stays = record {
  given = stays.given;
  takes = stays.takes;
  others = stays.others;
  no_more = λ k h. (let p = stays.no_more k h in let q = grows k in omega arith);
  used_up = tt;
}
