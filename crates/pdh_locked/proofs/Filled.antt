-- Children whose bits go into the slots of a piece of a frame.
use mathlib.Core.Path.{fun_ext}
use Rattle.std.specs.Prelude.{IsTrue}
use Rattle.std.proofs.Common.{◌≡◌, ℕ, suc, ◌+◌, ◌<◌, ◌≤◌, ◌^◌, Bool, true, false, List, [], length, map, eqb, refl, sym, ap, ◌∙◌, subst, arith, Some, slice_get}
use Rattle.std.proofs.lemmas.List.{length-map}
use Rattle.std.proofs.lemmas.Option.{slice_get-map}
use Rattle.pdh_edge.specs.Ports.{Inputs}
use Rattle.pdh_shape.specs.declared.shape.Shape as shape
use Rattle.pdh_shape.specs.declared.place.Path.{Path}
use Rattle.pdh_clock.specs.Contents.{Contents}
use Rattle.pdh_shape.specs.declared.role.Service.{Service}
use Rattle.pdh_shape.specs.Frame.{FrameShape}
use Rattle.pdh_shape.specs.Tributary.{HasTributaries, reads_from, reads_below}
use Rattle.pdh_line.specs.Sending.{Source, odd_before}
use Rattle.pdh_runs.specs.Pieces.{FillsColumn, Assembled}
use Rattle.pdh_runs.proofs.Counts.{before_grows}
use Rattle.pdh_tx.specs.declared.tx.Tx.{Ghosts}
use Rattle.pdh_tx.specs.Meaning.{Meaning, Plan}
use Rattle.pdh_tx.specs.Held.{Gains}
use Rattle.pdh_tx.specs.Making.{MakesAll}
use Rattle.pdh_tx.specs.Node.{below, source_of, any_leaf, given_by, overhead_bit, EachPlaced, EachHeld, EachInChain}
use Rattle.pdh_tx.specs.Passing.{up_to, carried_in, HoldsBits, HoldsLine, HoldsOverhead, Passes}
use Rattle.pdh_tx.specs.Locked.{locked_to}
use Rattle.pdh_tx.specs.Calls.{IsFed}
use Rattle.pdh_tx.proofs.Moving.{leaf_of, given_same, inside}
use Rattle.pdh_tx.proofs.Passing.{carried_is, fills_part}
use Rattle.pdh_tx.proofs.PieceSteps.{line_from, not_carried}
use Rattle.pdh_tx.proofs.PassingAll.{upto_past, upto_below}
use Rattle.pdh_locked.specs.declared.children.Children.{Children}
use Rattle.pdh_locked.specs.Children.{meanings, AreFed, Stands, StandsFor, placed_in, held_in, filled_in, Gives}
use Rattle.pdh_locked.proofs.OneSlot.{overhead_is}

-- ---- one child

-- it gave the bits, which stand in its column
pub fill_gains : {C : Type 0} (tx : Ghosts C) (old new : C) (plan : Plan) (s : FrameShape) (j first len made : ℕ) (bits column : List Bool) (to : ℕ) (a b : Inputs) → Stands tx old plan made → length bits ≡ carried_in s j false first len
    → MakesAll (tx.meaning old) (tx.says old) (tx.stands_at new plan) (tx.stands_for old) (tx.stands_for new) plan made to bits a b
    → FillsColumn s j false first len bits column
    → Gains (tx.meaning old) plan (held_in tx old) (filled_in tx s j first len made old new column) made to made made a b
fill_gains tx old new plan s j first len made bits column to a b was long makes fills = record {
  given = makes.given;
  takes = makes.gives.takes;
  others = makes.gives.others;
  exact = makes.gives.exact;
  onward = λ supply plan_is held agrees.
      let line : ℕ → Bool = (tx.meaning old).line supply in
      let next = makes.onward supply (record { plan_is = plan_is; said = λ y l h n e. held.quiet n ∙ sym was.idles; stands = held.made_for; agrees = agrees }) in (
        record { quiet = held.quiet; made_for = next.1 },
        fills_part s j false first len (carried_in s j false first len) line bits column made (carried_is s j false first len) (omega (arith, long)) next.0 fills,
      );
}

-- ---- one among all

-- the next child, where so many have filled their slots of slots t to u
pub record IsNext {C : Type 0} (tx : Ghosts C) (s : FrameShape) (children : List C) (plan : Plan) (n t u i : ℕ) (c : C) (len : ℕ) : Type 0 where
  pub maker : slice_get (map tx.meaning children) i ≡ Some (tx.meaning c)
  pub was : Stands tx c plan (locked_to s n t i)
  pub left : locked_to s n t i + carried_in s i false t len ≡ locked_to s n u i

pub next_one : {C : Type 0} (tx : Ghosts C) (s : FrameShape) (children : List C) (plan : Plan) (n t u i : ℕ) (c : C) (len : ℕ) → slice_get children i ≡ Some c → t + len ≡ u
    → EachPlaced (placed_in tx) children plan (up_to (locked_to s n t) (locked_to s n u) i) (up_to (locked_to s n t) (locked_to s n u) i) → IsNext tx s children plan n t u i c len
next_one tx s children plan n t u i c len here size placed = record {
  maker = slice_get-map tx.meaning children i ∙ rw here refl;
  was = subst (Stands tx c plan) (upto_past (locked_to s n t) (locked_to s n u) i i (omega arith)) (placed i c here);
  left = (let g = before_grows (λ x. reads_from i false (s.role x)) t (t + len) (omega arith) in let e = ap (λ v. reads_below s i false v) size in omega arith);
}

-- ---- all of them

pub upto_none : (f g : ℕ → ℕ) → up_to f g 0 ≡ f
upto_none f g = fun_ext (λ j. upto_past f g 0 j (omega arith))

-- after calls that left the meanings and the leaves
pub still_fed : {S C : Type 0} {shape : shape.Ghosts S} {tx : Ghosts C} (old new : Children S C shape tx) (schedule : Contents) (a b : Inputs) → meanings new ≡ meanings old → b.holds ≡ a.holds → AreFed old schedule a → AreFed new schedule b
still_fed old new schedule a b same holds fed = record {
  lists = λ k leaf. subst (λ (h : ℕ → Bool). IsTrue (h k)) (sym holds) (fed.lists k (subst (λ (ms : List Meaning). any_leaf ms k ≡ true) same leaf));
  nodes = subst (EachInChain schedule.levels) (sym same) fed.nodes;
}

-- and so is each of them
pub fed_one : {S C : Type 0} {shape : shape.Ghosts S} {tx : Ghosts C} (cs : Children S C shape tx) (schedule : Contents) (a : Inputs) (i : ℕ) (child : C) → slice_get (meanings cs) i ≡ Some (tx.meaning child) → AreFed cs schedule a → IsFed (tx.meaning child) schedule a
fed_one {tx = tx} cs schedule a i child maker fed = record { lists = λ k leaf. fed.lists k (leaf_of (meanings cs) i k (tx.meaning child) maker leaf); nodes = fed.nodes i (tx.meaning child) maker }

module _ {C : Type 0} (tx : Ghosts C) (s : FrameShape) (has : HasTributaries s) (locked : eqb s.copies 0 ≡ true) (path : Path) (plan : Plan) (old new : List C) (n t u : ℕ) where
  abbrev ms : List Meaning
  ms = map tx.meaning old

  abbrev f : ℕ → ℕ
  f = locked_to s n t

  abbrev f' : ℕ → ℕ
  f' = locked_to s n u

  -- each slot holds its bit
  pub slots_line : (source : Source) (say : Service) (odd : Bool) (len : ℕ) (overhead bits : List Bool) (columns : List (List Bool)) → length bits ≡ len → t + len ≤ s.len → source.says n ≡ say → odd ≡ odd_before s source n
      → HoldsOverhead s say odd [] t len overhead → Assembled s t len overhead columns bits → HoldsBits s source n t len columns s.tribs → HoldsLine s source n t bits
  slots_line source say odd len overhead bits columns long most said parity over assembled holds =
      line_from s has source n t len overhead bits columns (overhead_bit s say odd []) long most assembled holds over
      (λ x r within role none. overhead_is s locked source n x say odd r (not_carried [] r none) said parity)

  -- all children filled their columns
  pub filled_gives : (say : Service) (odd : Bool) (len : ℕ) (overhead bits : List Bool) (columns : List (List Bool)) (a b : Inputs) → length old ≡ s.tribs → length new ≡ s.tribs → length bits ≡ len → t + len ≤ s.len → n < plan.frames path → suc n < 2 ^ 64
      → HoldsOverhead s say odd [] t len overhead → Assembled s t len overhead columns bits → EachPlaced (placed_in tx) new plan (up_to f f' s.tribs) (up_to f f' s.tribs)
      → Passes (held_in tx) path ms plan old new (up_to f f' 0) (up_to f f' s.tribs) (up_to f f' 0) (up_to f f' s.tribs) a b (λ source. HoldsBits s source n t len columns s.tribs)
      → Gives tx s path plan ms old new n t u say odd bits a b
  filled_gives say odd len overhead bits columns a b old_long new_long long most scheduled bounded over assembled place passes =
      let start : (k : ℕ) → given_by ms plan (up_to f f' 0) k ≡ given_by ms plan f k = λ k. ap (λ v. given_by ms plan v k) (upto_none f f') in
      record {
        given = passes.given;
        takes = passes.takes;
        others = passes.others;
        exact = λ k leaf.
            let p = passes.exact k leaf in
            let q = start k in
            let last : given_by ms plan (up_to f f' s.tribs) k ≡ given_by ms plan f' k = given_same ms plan (up_to f f' s.tribs) f' k
            (λ j m at leaf. ap (λ x. m.given plan x k) (upto_below f f' s.tribs j (let i = inside ms j m at in let l = length-map old tx.meaning in omega arith))) in
            omega arith;
        place = record { made = λ j c e. subst (Stands tx c plan) (upto_below f f' s.tribs j (let i = inside new j c e in omega arith)) (place j c e); scheduled = scheduled; bounded = bounded };
        bounded = bounded;
        onward = λ supply is each said parity agrees.
            let P : (ℕ → ℕ) → Type 0 = λ v. EachHeld (held_in tx) old (below supply) v v in
            let both = passes.onward supply is (subst P (sym (upto_none f f')) each) (λ k leaf i h. agrees k leaf i h ∙ ap (λ v. supply.lists k (v + i)) (sym (start k))) in (
              slots_line (source_of path ms supply) say odd len overhead bits columns long most said parity over assembled both.1,
              λ j c e. subst (StandsFor tx c (below supply)) (upto_below f f' s.tribs j (let i = inside new j c e in omega arith)) (both.0 j c e),
            );
      }
