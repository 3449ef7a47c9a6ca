-- Tributaries that pass many bits, one after another.
use Rattle.std.proofs.Common.{◌≡◌, inl, inr, ℕ, suc, ◌+◌, ◌-◌, ◌*◌, ◌/◌, ◌<◌, ◌≤◌, Bool, true, false, List, [], ◌++◌, length, map, refl, sym, ap, ◌∙◌, subst, arith, Some, slice_get, slice_set, ◌&&◌, cond, eqb, eqb-true}
use Rattle.std.specs.Prelude.{All}
use Rattle.std.specs.List.{range_with_len, slice_index_or}
use Rattle.std.proofs.lemmas.Bool.{cases_Bool, cases_lt, lt-ltb, le-ltb}
use Rattle.std.proofs.lemmas.List.{length-append, length-map, map-set, get_or-map, get_or-set_same, get_or-set_other}
use Rattle.std.proofs.lemmas.List.FromFn.{get_or-map-range_with_len}
use Rattle.std.proofs.lemmas.Option.{slice_get-map}
use Rattle.pdh_bits.specs.BitOut.{BoundedBits}
use Rattle.pdh_edge.specs.Ports.{Inputs, nothing}
use Rattle.pdh_shape.specs.declared.place.Path.{Path}
use Rattle.pdh_shape.specs.declared.role.Role.{Role}
use Rattle.pdh_shape.specs.declared.role.Role.TheVariants.{Align, Service as ServiceSlot, Control, Just, Info}
use Rattle.std.proofs.lemmas.Nat.{le-div}
use Rattle.std.proofs.Math.Nat.{div-mul-le_self, mul-le-mul_right}
use Rattle.pdh_shape.specs.Frame.{FrameShape, IsFrame}
use Rattle.pdh_shape.specs.Tributary.{reads_from, reads_below, turned}
use Rattle.pdh_line.specs.Sending.{Carriage, Source, came_before, arrived_in, more_in, input_bit, slot_bit}
use Rattle.pdh_line.specs.Edits.{edited}
use Rattle.pdh_line.proofs.SendingLaws.{came_before_grows, arrived_in-all}
use Rattle.pdh_tx.specs.declared.tx.TxStop.{TxStop}
use Rattle.pdh_tx.specs.declared.pieces.Piece.{Piece}
use Rattle.pdh_tx.specs.Meaning.{Meaning, Plan, Supply}
use Rattle.pdh_tx.specs.Held.{Gains}
use Rattle.pdh_tx.specs.Making.{IsClear}
use Rattle.pdh_tx.specs.Node.{below, source_of, line_of, any_leaf, given_by, IsDisjoint, EachPlaced, EachHeld, Stays, came_at}
use Rattle.pdh_tx.specs.laws.Growing.{grows_to}
use Rattle.pdh_runs.specs.Pieces.{row, rows, FillsColumn}
use Rattle.pdh_tx.specs.Slipping.{carriage_in, read_to}
use Rattle.pdh_tx.specs.Passing.{up_to, edits_by, made_through, CanPass, HoldsBits, HoldsBitsOf, HasRows, HasRowsOf, Passes}
use Rattle.pdh_runs.proofs.Counts.{before_grows, before_less}
use Rattle.pdh_tx.proofs.Moving.{takes_join, takes_none, agrees_left, agrees_right, leaf_of, not_leaf, given_at, given_same, slice_get_set}
use Rattle.pdh_tx.proofs.Advancing.{upto_here, upto_next, upto_other}
use Rattle.pdh_tx.proofs.Reading.{read_is}

some_same : {X : Type 0} {a b : X} → Some a ≡ Some b → a ≡ b
some_same h = cc

differ : false ≡ true → ⊥
differ h = cc

-- ---- one tributary among all, and one after another

module _ {W R : Type 0} (placed : W → Plan → ℕ → R → Type 0) (held : W → Supply → ℕ → R → Type 0) (meaning : W → Meaning) (path : Path) (plan : Plan) where
  pub passes_none : (ms : List Meaning) (ws : List W) (made : ℕ → ℕ) (gone : ℕ → R) (a : Inputs) (written : Source → Type 0) → ((source : Source) → written source) → Passes held path ms plan ws ws made made gone gone a a written
  passes_none ms ws made gone a written none = record {
    given = nothing;
    takes = takes_none a;
    others = λ k h. refl;
    exact = λ k h. omega arith;
    onward = λ supply is each agrees. (each, none (source_of path ms supply));
  }

  pub passes_join : (ms : List Meaning) (u v w : List W) (x y z : ℕ → ℕ) (p q r : ℕ → R) (a b c : Inputs) (one two both : Source → Type 0) → ((supply : Supply) → supply.plan ≡ plan → one (source_of path ms supply) → two (source_of path ms supply) → both (source_of path ms supply))
      → Passes held path ms plan u v x y p q a b one → Passes held path ms plan v w y z q r b c two → Passes held path ms plan u w x z p r a c both
  passes_join ms u v w x y z p q r a b c one two both join first second = record {
    given = λ k. first.given k ++ second.given k;
    takes = takes_join first.given second.given a b c first.takes second.takes;
    others = λ k h. ap (λ l. l ++ second.given k) (first.others k h) ∙ second.others k h;
    exact = λ k h. (let e = first.exact k h in let f = second.exact k h in let l = length-append (first.given k) (second.given k) in omega arith);
    onward = λ supply is each agrees.
        let here = first.onward supply is each (agrees_left (any_leaf ms) supply.lists (given_by ms plan x) first.given second.given agrees) in
        let there = second.onward supply is here.0 (agrees_right (any_leaf ms) supply.lists (given_by ms plan x) (given_by ms plan y) first.given second.given first.exact agrees) in
        (there.0, join supply is here.1 there.1);
  }

  pub placed_one : (old : List W) (i : ℕ) (w' : W) (f g : ℕ → ℕ) (h l : ℕ → R) → EachPlaced placed old plan (up_to f g i) (up_to h l i) → placed w' plan (g i) (l i) → EachPlaced placed (slice_set old i w') plan (up_to f g (suc i)) (up_to h l (suc i))
  placed_one old i w' f g h l each now j c e = elim (slice_get_set old i j w' c e) [
    | inl p ↦
        let Q : ℕ → Type 0 = λ v. placed w' plan (up_to f g (suc i) v) (up_to h l (suc i) v) in
        let V : W → Type 0 = λ v. placed v plan (up_to f g (suc i) j) (up_to h l (suc i) j) in
        let M : ℕ → Type 0 = λ n. placed w' plan n (l i) in
        let N : R → Type 0 = λ n. placed w' plan (up_to f g (suc i) i) n in
        subst V p.1 (subst Q (sym p.0) (subst N (sym (upto_next h l i)) (subst M (sym (upto_next f g i)) now)))
    | inr p ↦
        let M : ℕ → Type 0 = λ n. placed c plan n (up_to h l i j) in
        let N : R → Type 0 = λ n. placed c plan (up_to f g (suc i) j) n in
        subst N (upto_other h l i j p.0) (subst M (upto_other f g i j p.0) (each j c p.1))
  ]

  -- `new` is what the tributary holds and has written
  pub passes_one : (old : List W) (i : ℕ) (w w' : W) (f g : ℕ → ℕ) (h l : ℕ → R) (new : Supply → ℕ → R → Type 0) (written : Source → Type 0) (a b : Inputs) → IsDisjoint (map meaning old) → slice_get old i ≡ Some w
      → Gains (meaning w) plan (held w) new (f i) (g i) (h i) (h i) a b
      → ((supply : Supply) → supply.plan ≡ plan → new (below supply) (g i) (h i) → held w' (below supply) (g i) (l i) × written (source_of path (map meaning old) supply))
      → Passes held path (map meaning old) plan old (slice_set old i w') (up_to f g i) (up_to f g (suc i)) (up_to h l i) (up_to h l (suc i)) a b written
  passes_one old i w w' f g h l new written a b dis at gains then =
      let ms : List Meaning = map meaning old in
      let m : Meaning = meaning w in
      let maker : slice_get ms i ≡ Some m = slice_get-map meaning old i ∙ rw at refl in
      record {
        given = gains.given;
        takes = gains.takes;
        others = λ k e. gains.others k (not_leaf ms i k m maker e);
        exact = λ k e. elim (cases_Bool (m.leaves k)) [
          | inl leaf ↦
              let before' : given_by ms plan (up_to f g i) k ≡ m.given plan (f i) k = given_at ms plan (up_to f g i) i k m dis maker leaf ∙ ap (λ v. m.given plan v k) (upto_here f g i) in
              let after' : given_by ms plan (up_to f g (suc i)) k ≡ m.given plan (g i) k = given_at ms plan (up_to f g (suc i)) i k m dis maker leaf ∙ ap (λ v. m.given plan v k) (upto_next f g i) in
              let d = gains.exact k leaf in
              omega arith
          | inr other ↦
              let none : length (gains.given k) ≡ 0 = ap length (gains.others k other) in
              let same : given_by ms plan (up_to f g i) k ≡ given_by ms plan (up_to f g (suc i)) k = given_same ms plan (up_to f g i) (up_to f g (suc i)) k
              (λ j n at' leaf. ap (λ v. n.given plan v k) (upto_other f g i j (λ ji. differ (sym other ∙ ap (λ v. v.leaves k) (some_same (sym maker ∙ ap (slice_get ms) (sym ji) ∙ at')) ∙ leaf)))) in
              omega arith
        ];
        onward = λ supply is each agrees.
            let M : ℕ → Type 0 = λ n. held w (below supply) n (up_to h l i i) in
            let N : R → Type 0 = λ n. held w (below supply) (f i) n in
            let was : held w (below supply) (f i) (h i) = subst N (upto_here h l i) (subst M (upto_here f g i) (each i w at)) in
            let now = gains.onward (below supply) is was
            (λ k leaf n lt. agrees k (leaf_of ms i k m maker leaf) n lt ∙ ap (λ v. supply.lists k (v + n)) (given_at ms plan (up_to f g i) i k m dis maker leaf ∙ ap (λ v. m.given plan v k) (upto_here f g i))) in
            let both = then supply is now in
            (placed_held supply both.0 each, both.1);
      }
    where
      placed_held : (supply : Supply) → held w' (below supply) (g i) (l i) → EachHeld held old (below supply) (up_to f g i) (up_to h l i) → EachHeld held (slice_set old i w') (below supply) (up_to f g (suc i)) (up_to h l (suc i))
      placed_held supply now each j c e = elim (slice_get_set old i j w' c e) [
        | inl p ↦
            let Q : ℕ → Type 0 = λ v. held w' (below supply) (up_to f g (suc i) v) (up_to h l (suc i) v) in
            let V : W → Type 0 = λ v. held v (below supply) (up_to f g (suc i) j) (up_to h l (suc i) j) in
            let M : ℕ → Type 0 = λ n. held w' (below supply) n (l i) in
            let N : R → Type 0 = λ n. held w' (below supply) (up_to f g (suc i) i) n in
            subst V p.1 (subst Q (sym p.0) (subst N (sym (upto_next h l i)) (subst M (sym (upto_next f g i)) now)))
        | inr p ↦
            let M : ℕ → Type 0 = λ n. held c (below supply) n (up_to h l i j) in
            let N : R → Type 0 = λ n. held c (below supply) (up_to f g (suc i) j) n in
            subst N (upto_other h l i j p.0) (subst M (upto_other f g i j p.0) (each j c p.1))
      ]

-- ---- what stands in the columns

-- one of them was written
pub column_same : (columns : List BoundedBits) (i : ℕ) (column : BoundedBits) → i < length columns → slice_index_or (map (λ (c : BoundedBits). c.bits) (slice_set columns i column)) i [] ≡ column.bits
column_same columns i column within =
    ap (λ l. slice_index_or l i []) (map-set (λ (c : BoundedBits). c.bits) columns i column)
    ∙ get_or-set_same (map (λ (c : BoundedBits). c.bits) columns) i column.bits [] (omega (arith, within, length-map columns (λ (c : BoundedBits). c.bits)))

pub column_other : (columns : List BoundedBits) (i j : ℕ) (column : BoundedBits) → (j ≡ i → ⊥) → slice_index_or (map (λ (c : BoundedBits). c.bits) (slice_set columns i column)) j [] ≡ slice_index_or (map (λ (c : BoundedBits). c.bits) columns) j []
column_other columns i j column other =
    ap (λ l. slice_index_or l j []) (map-set (λ (c : BoundedBits). c.bits) columns i column) ∙ get_or-set_other (map (λ (c : BoundedBits). c.bits) columns) i j column.bits [] other

-- those of one more
pub holds_more : (s : FrameShape) (source : Source) (n first len i : ℕ) (old new : List (List Bool)) → ((j : ℕ) → j < i → slice_index_or new j [] ≡ slice_index_or old j [])
    → HoldsBits s source n first len old i → HoldsBitsOf s source n first len new i → HoldsBits s source n first len new (suc i)
holds_more s source n first len i old new kept before' now j less v within reads = elim (cases_lt j i) [
  | inl earlier ↦ ap (λ column. slice_index_or column (row s first v) false) (kept j earlier) ∙ before' j earlier v within reads
  | inr here ↦
      let same : i ≡ j = omega arith in
      let P : ℕ → Type 0 = λ m. HoldsBitsOf s source n first len new m in
      subst P same now v within reads
]

pub rows_more : (s : FrameShape) (first len i : ℕ) (old new : List (List Bool)) → ((j : ℕ) → j < i → slice_index_or new j [] ≡ slice_index_or old j []) → HasRows s first len old i → HasRowsOf s first len new i → HasRows s first len new (suc i)
rows_more s first len i old new kept before' now j less = elim (cases_lt j i) [
  | inl earlier ↦ ap length (kept j earlier) ∙ before' j earlier
  | inr here ↦ let same : i ≡ j = omega arith in subst (λ m. HasRowsOf s first len new m) same now
]

-- all are
pub rows_all : (s : FrameShape) (first len : ℕ) (columns : List BoundedBits) → HasRows s first len (map (λ (c : BoundedBits). c.bits) columns) (length columns) → All (λ (column : BoundedBits). length column.bits ≡ rows s first len) columns
rows_all s first len columns each k d within = ap length (sym (get_or-map (λ (c : BoundedBits). c.bits) columns k d [] within)) ∙ each k within

-- a payload slot that carries nothing is 1
spare_is : (s : FrameShape) (source : Source) (n t i : ℕ) (r : Role) → reads_from i true r ≡ true → reads_from i (more_in s source i n) r ≡ false → slot_bit s source n t r ≡ true
spare_is s source n t i (Info k) own none = absurd (differ (sym none ∙ own))
spare_is s source n t i (Just k) own none =
    let here : eqb k i ≡ true = left (eqb k i) own in
    let less : more_in s source i n ≡ false = ap (λ b. b && more_in s source i n) (sym here) ∙ none in
    ap (λ v. slot_bit s source n t (Just v)) (eqb-true k i here) ∙ ap (λ b. cond b (input_bit s source n t i) true) less
  where
    left : (a : Bool) → (a && true) ≡ true → a ≡ true
    left true h = refl
    left false h = h
spare_is s source n t i (Align b) own none = absurd (differ own)
spare_is s source n t i (ServiceSlot k) own none = absurd (differ own)
spare_is s source n t i (Control k copy) own none = absurd (differ own)

-- what a column is filled with are the bits of the tributary's slots
pub holds_from : (s : FrameShape) (path : Path) (ms : List Meaning) (plan : Plan) (supply : Supply) (n t len i gone : ℕ) (more : Bool) (m : Meaning) (columns : List (List Bool)) (column : List Bool) → supply.plan ≡ plan → more ≡ (carriage_in s path plan i).more n
    → slice_get ms i ≡ Some m → slice_index_or columns i [] ≡ column → reads_below s i more t + gone ≡ reads_below s i more (t + len)
    → ((v : ℕ) → v ≤ len → edits_by s path plan n (t + v) i ≡ edits_by s path plan n t i)
    → FillsColumn s i more t len (map (edited (edits_by s path plan n t i) (m.line (below supply))) (range_with_len (read_to s path plan n t i).read gone)) column → HoldsBitsOf s (source_of path ms supply) n t len columns i
holds_from s path ms plan supply n t len i gone more m columns column is carries at own all unchanged fills v within reads =
    let c : Carriage = carriage_in s path plan i in
    let line : ℕ → Bool = edited (c.edits n t) (m.line (below supply)) in
    let source : Source = source_of path ms supply in
    let r : Role = s.role (t + v) in
    let bit_of : Plan → Bool = λ p. let c = carriage_in s path p i in turned (s.inverted i) (edited (c.edits n (suc (t + v))) (line_of (slice_get ms i) (below supply)) (c.sent n + reads_below s i (c.more n) (t + v))) in
    let same : more_in s source i n ≡ more = ap (λ (p : Plan). (carriage_in s path p i).more n) is ∙ sym carries in
    ap (λ l. slice_index_or l (row s t v) false) own ∙ elim (cases_Bool (reads_from i more r)) [
      | inl carried ↦
          let p : ℕ → Bool = λ x. reads_from i more (s.role x) in
          let k : ℕ = reads_below s i more (t + v) - reads_below s i more t in
          let number : reads_below s i more t + k ≡ reads_below s i more (t + v) = omega (arith, before_grows p t (t + v) (omega arith)) in
          let few : k < gone = omega (arith, all, number, before_less p (t + v) (t + len) carried (omega arith)) in
          let place : ℕ = c.sent n + reads_below s i (c.more n) (t + v) in
          let there : c.sent n + reads_below s i (c.more n) t + k ≡ place = ap (λ b. c.sent n + reads_below s i b t + k) (sym carries) ∙ omega (arith, number) ∙ ap (λ b. c.sent n + reads_below s i b (t + v)) carries in
          let next : suc (t + v) ≡ t + suc v = omega arith in
          let bit : slot_bit s source n (t + v) r ≡ turned (s.inverted i) (line place) =
          read_is s source n (t + v) i r (ap (λ b. reads_from i b r) same ∙ carried) ∙ ap bit_of is
          ∙ ap (λ o. turned (s.inverted i) (edited (c.edits n (suc (t + v))) (line_of o (below supply)) place)) at
          ∙ ap (λ e. turned (s.inverted i) (edited e (m.line (below supply)) place)) (ap (c.edits n) next ∙ unchanged (suc v) (omega (arith, within))) in
          fills.carried v k within carried number ∙ ap (turned (s.inverted i)) (get_or-map-range_with_len line (c.sent n + reads_below s i (c.more n) t) gone k place false few there) ∙ sym bit
      | inr spare ↦ fills.justified v within reads spare ∙ sym (spare_is s source n (t + v) i r reads (ap (λ b. reads_from i b r) same ∙ spare))
    ]

-- ---- what arrives in a piece

pub came_grows : (s : FrameShape) (counts : ℕ → ℕ) (n t u : ℕ) → IsFrame s → t ≤ u → came_before s counts n t ≤ came_before s counts n u
came_grows s counts n t u frame h = grows_to (came_before s counts n) t u (λ t. came_before_grows s counts n t frame) h

-- no more than arrive in the whole frame
pub arrived_most : (s : FrameShape) (count t : ℕ) → IsFrame s → t ≤ s.len → arrived_in s count t ≤ count
arrived_most s count t frame h =
    let all : arrived_in s count s.len ≡ count = arrived_in-all s count frame in
    let less : t * count ≤ s.len * count = mul-le-mul_right count h in
    let below' : arrived_in s count t ≤ arrived_in s count s.len = le-div (t * count / s.len) (s.len * count) s.len frame.some_slots (omega (arith, div-mul-le_self (t * count) s.len, less)) in
    omega (arith, all, below')

-- ---- one call after another

pub upto_past : {X : Type 0} (f g : ℕ → X) (i j : ℕ) → i ≤ j → up_to f g i j ≡ f j
upto_past f g i j h = ap (λ b. cond b (g j) (f j)) (le-ltb j i h)

pub upto_below : {X : Type 0} (f g : ℕ → X) (i j : ℕ) → j < i → up_to f g i j ≡ g j
upto_below f g i j h = ap (λ b. cond b (g j) (f j)) (lt-ltb j i h)

-- what tributaries before it took leaves the way of one clear
pub clear_kept : {W R : Type 0} (held : W → Supply → ℕ → R → Type 0) (path : Path) (plan : Plan) (ms : List Meaning) (u v : List W) (f g : ℕ → ℕ) (p q : ℕ → R) (a b : Inputs) (written : Source → Type 0) (i j to : ℕ) (m : Meaning) → IsDisjoint ms → i ≤ j → slice_get ms j ≡ Some m
    → Passes held path ms plan u v (up_to f g 0) (up_to f g i) p q a b written → IsClear m plan (f j) to a → IsClear m plan (f j) to b
clear_kept held path plan ms u v f g p q a b written i j to m dis past at passes clear = record {
  size = clear.size;
  fits = λ k leaf.
      let was = clear.fits k leaf in
      let took = passes.takes.counts k in
      let exact = passes.exact k (leaf_of ms j k m at leaf) in
      let first : given_by ms plan (up_to f g 0) k ≡ m.given plan (f j) k = given_at ms plan (up_to f g 0) j k m dis at leaf ∙ ap (λ n. m.given plan n k) (upto_past f g 0 j (omega arith)) in
      let then : given_by ms plan (up_to f g i) k ≡ m.given plan (f j) k = given_at ms plan (up_to f g i) j k m dis at leaf ∙ ap (λ n. m.given plan n k) (upto_past f g i j past) in
      omega arith;
  clear = clear.clear;
  no_slip = clear.no_slip;
}

pub stays_after : {W R : Type 0} (held : W → Supply → ℕ → R → Type 0) (path : Path) (plan : Plan) (ms : List Meaning) (u v : List W) (x y : ℕ → ℕ) (p q : ℕ → R) (most : ℕ → ℕ) (stop : TxStop) (a b c : Inputs) (written : Source → Type 0)
    → Passes held path ms plan u v x y p q a b written → Stays ms plan y most stop b c → Stays ms plan x most stop a c
stays_after held path plan ms u v x y p q most stop a b c written first second = record {
  given = λ k. first.given k ++ second.given k;
  takes = takes_join first.given second.given a b c first.takes second.takes;
  others = λ k h. ap (λ l. l ++ second.given k) (first.others k h) ∙ second.others k h;
  no_more = λ k h. (let p = first.exact k h in let q = second.no_more k h in let l = length-append (first.given k) (second.given k) in omega arith);
  used_up = second.used_up;
}

-- and so of a piece
pub passable_kept : {W R : Type 0} (held : W → Supply → ℕ → R → Type 0) (s : FrameShape) (plan : Plan) (at : Piece) (ms : List Meaning) (u v : List W) (p q : ℕ → R) (a b : Inputs) (written : Source → Type 0) (i j : ℕ) (m : Meaning) → IsDisjoint ms → i ≤ j → slice_get ms j ≡ Some m
    → Passes held at.path ms plan u v (made_through s plan at 0) (made_through s plan at i) p q a b written → CanPass s plan at j m a → CanPass s plan at j m b
passable_kept held s plan at ms u v p q a b written i j m dis past here passes can = record {
  clear = clear_kept held at.path plan ms u v (came_at s at.path plan at.frame at.slot) (came_at s at.path plan at.frame (at.slot + at.len)) p q a b written i j _ m dis past here passes can.clear;
  unchanged = can.unchanged;
  enough = can.enough;
  few = can.few;
}
