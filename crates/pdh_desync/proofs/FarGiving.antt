-- Pieces for the tributaries, one after another: what the stores hold then, and what the leaves have got.
use Rattle.std.proofs.Common.{◌≡◌, inl, inr, ℕ, suc, ◌+◌, ◌-◌, ◌<◌, ◌≤◌, Bool, true, false, nat_lt, cond, leb, ltb, eqb, ◌&&◌, ◌||◌, List, [], ◌∷◌, ◌++◌, length, map, take, drop, slice_get, slice_set, slice_index_or, get_or, Some, refl, sym, ap, subst, ◌∙◌, arith, append_assoc, length-append, eq-eqb}
use Rattle.std.specs.List.{range_with_len}
use Rattle.std.proofs.lemmas.Bool.{cases_Bool, cases_eq, cases_lt, ne_eqb, lt-ltb, le-ltb, leb-true, ltb-true, le-leb, false≢true}
use Rattle.std.proofs.lemmas.List.{append-nil, map-append, take-append-drop, take_more, length-replicate}
use Rattle.std.proofs.lemmas.Option.{slice_get_read}
use Rattle.std.proofs.lemmas.Grind.{flat_map-append}
use Rattle.pdh_shape.specs.Frame.{FrameShape, IsFrame}
use Rattle.pdh_shape.specs.OwnNumbers.{threshold}
use Rattle.pdh_shape.specs.laws.Ranges.{and_true}
use Rattle.pdh_line.proofs.Ranges.{range_append, map-range_same_on}
use Rattle.pdh_line.proofs.SendingLaws.{arrived_in-all}
use Rattle.pdh_align.specs.declared.step.Step.{Step}
use Rattle.pdh_align.specs.declared.step.Step.TheVariants.{Nothing, Rejected, Aligned, Frame as FrameStep, Lost}
use Rattle.pdh_align.proofs.PieceGrowth.{Begins}
use Rattle.pdh_edge.specs.Ports.{Outputs, Puts, PutsPart, IsPrefix, for_leaf, only}
use Rattle.pdh_rx.specs.Meaning.{Gains, GainsPart}
use Rattle.pdh_rx.specs.Places.{loaded_bits}
use Rattle.pdh_rx.proofs.Gains.{gains_nothing, gains_join, gains_is, part_is, part_after}
use Rattle.pdh_rx.proofs.OneChild.{slice_get_set}
use Rattle.pdh_desync.specs.declared.leaves.Leaves.{Leaves}
use Rattle.pdh_desync.specs.FarStore.{FarPiece, came, reads_more}
use Rattle.pdh_desync.specs.FarStore.FarPiece.{Ones, Frame}
use Rattle.pdh_desync.specs.Held.{Held}
use Rattle.pdh_desync.specs.States.{Stores}
use Rattle.pdh_desync.specs.FarHolds.{read_in, smooth_of, marks_of, FarHolds, FarPasses}
use Rattle.pdh_desync.specs.Smooth.{is_from}
use Rattle.pdh_desync.specs.FarNode.{far_bits, bits_of, piece_of, FarEach, and_pieces, for_trib, first_pieces, far_leaves, FarLeaves, AreStores, AreReady, far_got, FarGives, FarGivesPart, far_steps}
use Rattle.pdh_desync.specs.laws.SmoothLaws.{reads_all, reads_more-append, take_begins, stripped_long}

-- ---- pieces' bits

pub far_bits_long : (s : FrameShape) (j : ℕ) (piece : FarPiece) → IsFrame s → length (far_bits s j piece) ≡ came s j piece
far_bits_long s j Ones shape = length-replicate s.low true ∙ sym (arrived_in-all s s.low shape)
far_bits_long s j (Frame frame) shape = stripped_long s j frame

bits_push : (s : FrameShape) (j : ℕ) (pieces : List FarPiece) (piece : FarPiece) → bits_of s j (pieces ++ piece ∷ []) ≡ bits_of s j pieces ++ far_bits s j piece
bits_push s j pieces piece = flat_map-append (far_bits s j) pieces (piece ∷ []) ∙ ap (λ v. bits_of s j pieces ++ v) (append-nil (far_bits s j piece))

-- what is loaded are the bits of its piece
pub piece_loaded : (s : FrameShape) (j : ℕ) (gap : Bool) (frame : List Bool) → loaded_bits s gap frame j ≡ far_bits s j (piece_of gap frame)
piece_loaded s j true frame = refl
piece_loaded s j false frame = refl

pub piece_ones : (gap : Bool) (frame : List Bool) → gap ≡ true → Ones ∷ [] ≡ piece_of gap frame ∷ []
piece_ones gap frame is = ap (λ g. piece_of g frame ∷ []) (sym is)

pub piece_frame : (gap : Bool) (frame now : List Bool) → gap ≡ false → frame ≡ now → Frame now ∷ [] ≡ piece_of gap frame ∷ []
piece_frame gap frame now is same = ap (λ f. Frame f ∷ []) (sym same) ∙ ap (λ g. piece_of g frame ∷ []) (sym is)

-- ---- leaves

pub is_from-below : (first count k : ℕ) → is_from first count k ≡ true → (k - first < count) × ((first ≤ k) × (k < first + count))
is_from-below first count k is =
    let both = and_true (leb first k) (ltb k (first + count)) is in
    (omega (arith, leb-true _ _ both.0, ltb-true _ _ both.1), (leb-true _ _ both.0, ltb-true _ _ both.1))

is_from-at : (first count t : ℕ) → t < count → is_from first count (first + t) ≡ true
is_from-at first count t lt = ap (λ b. b && ltb (first + t) (first + count)) (le-leb first (first + t) (omega arith)) ∙ lt-ltb (first + t) (first + count) (omega (arith, lt))

or_first : (a b : Bool) → a ≡ true → (a || b) ≡ true
or_first a b is = ap (λ v. v || b) is

or_second : (a b : Bool) → b ≡ true → (a || b) ≡ true
or_second true b is = refl
or_second false b is = is

-- a tributary's leaves are leaves of the node
pub first_leaf : (s : FrameShape) (leaves leaves' : Leaves) (t : ℕ) → t < s.tribs → leaves ≡ leaves' → far_leaves s leaves' (leaves.first + t) ≡ true
first_leaf s leaves leaves' t known same =
    let P : Leaves → Type 0 = λ l. far_leaves s l (leaves.first + t) ≡ true in
    subst P same (or_first (is_from leaves.first s.tribs (leaves.first + t)) (is_from leaves.marks s.tribs (leaves.first + t)) (is_from-at leaves.first s.tribs t known))

pub mark_leaf : (s : FrameShape) (leaves leaves' : Leaves) (t : ℕ) → t < s.tribs → leaves ≡ leaves' → far_leaves s leaves' (leaves.marks + t) ≡ true
mark_leaf s leaves leaves' t known same =
    let P : Leaves → Type 0 = λ l. far_leaves s l (leaves.marks + t) ≡ true in
    subst P same (or_second (is_from leaves.first s.tribs (leaves.marks + t)) (is_from leaves.marks s.tribs (leaves.marks + t)) (is_from-at leaves.marks s.tribs t known))

-- only the tributaries' own pieces count
pub far_below : (s : FrameShape) (leaves : Leaves) (xs ys : ℕ → List FarPiece) → ((j : ℕ) → j < s.tribs → xs j ≡ ys j) → (k : ℕ) → far_got s leaves xs k ≡ far_got s leaves ys k
far_below s leaves xs ys same k = elim (cases_Bool (is_from leaves.first s.tribs k)) [
  | inl out ↦ rw out (ap (λ p. smooth_of s (k - leaves.first) p (bits_of s (k - leaves.first) p)) (same (k - leaves.first) (is_from-below leaves.first s.tribs k out).0))
  | inr other ↦
      rw other (
      elim (cases_Bool (is_from leaves.marks s.tribs k)) [
        | inl mark ↦ rw mark (ap (marks_of s (k - leaves.marks)) (same (k - leaves.marks) (is_from-below leaves.marks s.tribs k mark).0))
        | inr neither ↦ rw neither refl
      ]
      )
]

smooth_of_grows : (s : FrameShape) (j : ℕ) (xs ys : List FarPiece) → Begins xs ys → IsPrefix (smooth_of s j xs (bits_of s j xs)) (smooth_of s j ys (bits_of s j ys))
smooth_of_grows s j xs ys more =
    let a : ℕ = read_in s j xs - threshold in
    let b : ℕ = read_in s j (xs ++ more.0) - threshold in
    let grown = take_begins (bits_of s j xs) (bits_of s j more.0) a b (omega (arith, reads_all s j xs more.0)) in (
      grown.0,
      ap (λ p. smooth_of s j p (bits_of s j p)) more.1 ∙ ap (take b) (flat_map-append (far_bits s j) xs more.0) ∙ grown.1,
    )

marks_of_grows : (s : FrameShape) (j : ℕ) (xs ys : List FarPiece) → Begins xs ys → IsPrefix (marks_of s j xs) (marks_of s j ys)
marks_of_grows s j xs ys more =
    let all : List FarPiece = xs ++ more.0 in
    let later : List Bool = map (reads_more s j all) (range_with_len (0 + length xs) (length more.0)) in (
      later,
      ap (marks_of s j) more.1
          ∙ ap (λ n. map (reads_more s j all) (range_with_len 0 n)) (length-append xs more.0)
          ∙ ap (map (reads_more s j all)) (range_append 0 (length xs) (length more.0))
          ∙ map-append (reads_more s j all) (range_with_len 0 (length xs)) (range_with_len (0 + length xs) (length more.0))
          ∙ ap (λ x. x ++ later) (map-range_same_on (reads_more s j all) (reads_more s j xs) 0 (length xs) (λ k h h'. reads_more-append s j xs more.0 k (omega arith))),
    )

-- with more pieces leaves have got no less
far_grows : (s : FrameShape) (leaves : Leaves) (xs ys : ℕ → List FarPiece) → ((j : ℕ) → Begins (xs j) (ys j)) → (k : ℕ) → IsPrefix (far_got s leaves xs k) (far_got s leaves ys k)
far_grows s leaves xs ys more k = elim (cases_Bool (is_from leaves.first s.tribs k)) [
  | inl out ↦ rw out (smooth_of_grows s (k - leaves.first) (xs (k - leaves.first)) (ys (k - leaves.first)) (more (k - leaves.first)))
  | inr other ↦
      rw other (
      elim (cases_Bool (is_from leaves.marks s.tribs k)) [
        | inl mark ↦ rw mark (marks_of_grows s (k - leaves.marks) (xs (k - leaves.marks)) (ys (k - leaves.marks)) (more (k - leaves.marks)))
        | inr neither ↦ rw neither ([], refl)
      ]
      )
]

-- ---- stores

-- the store of a tributary
pub store_at : (s : FrameShape) (held : List Held) (leaves : Leaves) (room tribs t : ℕ) (store : Held) → AreStores s held leaves room → s.tribs ≡ tribs → t < tribs → store ≡ get_or held t store → slice_get held t ≡ Some store
store_at s held leaves room tribs t store are count known is = (let inside : t < length held = omega (arith, are.count, count, known) in slice_get_read held _ t store refl inside is)

holds_same : (s : FrameShape) (j : ℕ) (held : Held) (xs ys : List FarPiece) → xs ≡ ys → FarHolds s j xs (bits_of s j xs) held → FarHolds s j ys (bits_of s j ys) held
holds_same s j held xs ys e h = let P : List FarPiece → Type 0 = λ p. FarHolds s j p (bits_of s j p) held in subst P e h

-- only the tributaries' own pieces count here too
pub far_each_same : (s : FrameShape) (stores : List Held) (xs ys : ℕ → List FarPiece) → ((j : ℕ) → j < s.tribs → xs j ≡ ys j) → FarEach s stores xs → FarEach s stores ys
far_each_same s stores xs ys same each j held known at = holds_same s j held (xs j) (ys j) (same j known) (each j held known at)

-- ---- calls that follow each other

-- the stores got pieces, and can take more
pub far_ready : (s : FrameShape) (more : ℕ → List FarPiece) (old new : Stores) (o p : Outputs) → p.holds ≡ o.holds → AreReady s old o → FarGives s more old new o p → AreReady s new p
far_ready s more old new o p holds ready g = record {
  pieces = and_pieces ready.pieces more;
  each = g.each ready.pieces ready.each;
  lists = λ k is. ap (λ h. h k) holds ∙ ready.lists k (ap (λ (l : Leaves). far_leaves s l k) (sym g.same) ∙ is);
}

module _ (s : FrameShape) where
  pub far_gives_nothing : (stores : Stores) (o : Outputs) (more : ℕ → List FarPiece) → ((j : ℕ) → more j ≡ []) → FarGives s more stores stores o o
  far_gives_nothing stores o more none = record {
    same = refl;
    each = λ pieces each. far_each_same s stores.held pieces _ (λ j lt. sym (same pieces j)) each;
    gains = λ pieces each. gains_nothing _ _ o (λ k. far_below s stores.leaves _ pieces (λ j lt. same pieces j) k);
  }
    where
      same : (pieces : ℕ → List FarPiece) (j : ℕ) → and_pieces pieces more j ≡ pieces j
      same pieces j = ap (λ v. pieces j ++ v) (none j) ∙ append-nil (pieces j)

  -- the same pieces, told in another way
  pub far_gives_same : (more more' : ℕ → List FarPiece) (xs bs : Stores) (o p : Outputs) → ((j : ℕ) → j < s.tribs → more' j ≡ more j) → FarGives s more xs bs o p → FarGives s more' xs bs o p
  far_gives_same more more' xs bs o p h g = record {
    same = g.same;
    each = λ pieces each. far_each_same s bs.held _ _ (λ j lt. ap (λ v. pieces j ++ v) (sym (h j lt))) (g.each pieces each);
    gains = λ pieces each. gains_is _ _ _ o p (λ k. far_below s xs.leaves _ _ (λ j lt. ap (λ v. pieces j ++ v) (h j lt)) k) (g.gains pieces each);
  }

  pub far_part_same : (more more' : ℕ → List FarPiece) (xs : Stores) (o p : Outputs) → ((j : ℕ) → j < s.tribs → more' j ≡ more j) → FarGivesPart s more xs o p → FarGivesPart s more' xs o p
  far_part_same more more' xs o p h g = record {
    gains = λ pieces each. part_is _ _ _ o p (λ k. far_below s xs.leaves _ _ (λ j lt. ap (λ v. pieces j ++ v) (h j lt)) k) (g.gains pieces each);
  }

  -- these pieces and then those
  pub far_gives_join : (more more' all : ℕ → List FarPiece) (xs bs cs : Stores) (o p q : Outputs) → ((j : ℕ) → all j ≡ more j ++ more' j)
      → FarGives s more xs bs o p → FarGives s more' bs cs p q → FarGives s all xs cs o q
  far_gives_join more more' all xs bs cs o p q h f g = record {
    same = g.same ∙ f.same;
    each = λ pieces each. far_each_same s cs.held _ _ (λ j lt. sym (same pieces j)) (g.each (and_pieces pieces more) (f.each pieces each));
    gains = λ pieces each.
        let P : Leaves → Type 0 = λ l. Gains (far_got s l (and_pieces pieces more)) (far_got s l (and_pieces (and_pieces pieces more) more')) p q in
        gains_join _ _ _ o p q (f.gains pieces each) (gains_is _ _ _ p q (λ k. far_below s xs.leaves _ _ (λ j lt. same pieces j) k) (subst P f.same (g.gains (and_pieces pieces more) (f.each pieces each))));
  }
    where
      same : (pieces : ℕ → List FarPiece) (j : ℕ) → and_pieces pieces all j ≡ and_pieces (and_pieces pieces more) more' j
      same pieces j = ap (λ v. pieces j ++ v) (h j) ∙ sym (append_assoc (pieces j) (more j) (more' j))

  -- these pieces and then those, of which the call failed to give all; more was to come
  pub far_gives_part : (more more' all : ℕ → List FarPiece) (xs bs : Stores) (o p q : Outputs) → ((j : ℕ) → Begins (more j ++ more' j) (all j))
      → FarGives s more xs bs o p → FarGivesPart s more' bs p q → FarGivesPart s all xs o q
  far_gives_part more more' all xs bs o p q h f g = record {
    gains = λ pieces each.
        let P : Leaves → Type 0 = λ l. GainsPart (far_got s l (and_pieces pieces more)) (far_got s l (and_pieces (and_pieces pieces more) more')) p q in
        part_after _ _ _ _ o p q (f.gains pieces each) (subst P f.same (g.gains (and_pieces pieces more) (f.each pieces each))) (λ k. far_grows s xs.leaves _ _ (longer pieces) k);
  }
    where
      longer : (pieces : ℕ → List FarPiece) (j : ℕ) → Begins (and_pieces (and_pieces pieces more) more' j) (and_pieces pieces all j)
      longer pieces j = ((h j).0, ap (λ v. pieces j ++ v) (h j).1 ∙ sym (append_assoc (pieces j) (more j ++ more' j) (h j).0) ∙ ap (λ v. v ++ (h j).0) (sym (append_assoc (pieces j) (more j) (more' j))))

-- ---- one tributary after another

pub first_pieces_none : (pieces : List FarPiece) (j : ℕ) → first_pieces pieces 0 j ≡ []
first_pieces_none pieces j = ap (λ b. cond b pieces []) (le-ltb j 0 (omega arith))

pub first_pieces_all : (pieces : List FarPiece) (tribs j : ℕ) → j < tribs → pieces ≡ first_pieces pieces tribs j
first_pieces_all pieces tribs j lt = ap (λ b. cond b pieces []) (sym (lt-ltb j tribs lt))

pub first_pieces_push : (pieces : List FarPiece) (t j : ℕ) → first_pieces pieces (t + 1) j ≡ first_pieces pieces t j ++ for_trib t pieces j
first_pieces_push pieces t j = elim (cases_lt j t) [
  | inl below ↦
      ap (λ b. cond b pieces []) (lt-ltb j (t + 1) (omega (arith, below))) ∙ sym (append-nil pieces)
      ∙ ap (λ b. cond b pieces [] ++ []) (sym (lt-ltb j t below))
      ∙ ap (λ b. first_pieces pieces t j ++ cond b pieces []) (sym (ne_eqb j t (λ e. omega (arith, below, e))))
  | inr above ↦ elim (cases_eq j t) [
    | inl here ↦
        ap (λ b. cond b pieces []) (lt-ltb j (t + 1) (omega (arith, here)))
        ∙ ap (λ b. cond b pieces [] ++ pieces) (sym (le-ltb j t (omega (arith, here))))
        ∙ ap (λ b. first_pieces pieces t j ++ cond b pieces []) (sym (eq-eqb j t here))
    | inr other ↦
        ap (λ b. cond b pieces []) (le-ltb j (t + 1) (past above other))
        ∙ ap (λ b. cond b pieces [] ++ []) (sym (le-ltb j t (omega (arith, above))))
        ∙ ap (λ b. first_pieces pieces t j ++ cond b pieces []) (sym (ne_eqb j t other))
  ]
]
  where
    past : t ≤ j → (j ≡ t → ⊥) → t + 1 ≤ j
    past above other = elim (cases_lt t j) [
      | inl over ↦ omega (arith, over)
      | inr under ↦ absurd (other (omega (arith, above, under)))
    ]

pub first_pieces_begin : (pieces : List FarPiece) (t j : ℕ) → Begins (first_pieces pieces t j ++ for_trib t pieces j) pieces
first_pieces_begin pieces t j =
    let rest = go (nat_lt j (t + 1)) in
    (rest.0, rest.1 ∙ ap (λ v. v ++ rest.0) (first_pieces_push pieces t j))
  where
    go : (b : Bool) → Begins (cond b pieces []) pieces
    go true = ([], sym (append-nil pieces))
    go false = (pieces, refl)

-- ---- one tributary

at_trib : (pieces : ℕ → List FarPiece) (t : ℕ) (more : List FarPiece) → and_pieces pieces (for_trib t more) t ≡ pieces t ++ more
at_trib pieces t more = ap (λ b. pieces t ++ cond b more []) (eq-eqb t t refl)

at_other : (pieces : ℕ → List FarPiece) (t : ℕ) (more : List FarPiece) (j : ℕ) → (j ≡ t → ⊥) → and_pieces pieces (for_trib t more) j ≡ pieces j
at_other pieces t more j ne = ap (λ b. pieces j ++ cond b more []) (ne_eqb j t ne) ∙ append-nil (pieces j)

-- what more pieces of one tributary add to anything that a tributary's pieces give
value_one : (f : ℕ → List FarPiece → List Bool) (pieces : ℕ → List FarPiece) (t : ℕ) (more : List FarPiece) (new : List Bool) → f t (pieces t ++ more) ≡ f t (pieces t) ++ new
    → (j : ℕ) → f j (and_pieces pieces (for_trib t more) j) ≡ f j (pieces j) ++ cond (eqb j t) new []
value_one f pieces t more new is j = elim (cases_eq j t) [
  | inl here ↦
      let P : ℕ → Type 0 = λ i. f i (and_pieces pieces (for_trib t more) i) ≡ f i (pieces i) ++ cond (eqb i t) new [] in
      subst P (sym here) (ap (f t) (at_trib pieces t more) ∙ is ∙ sym (ap (λ b. f t (pieces t) ++ cond b new []) (eq-eqb t t refl)))
  | inr other ↦
      ap (f j) (at_other pieces t more j other) ∙ sym (append-nil (f j (pieces j))) ∙ sym (ap (λ b. f j (pieces j) ++ cond b new []) (ne_eqb j t other))
]

shifted : (first k t : ℕ) → first ≤ k → eqb (k - first) t ≡ eqb k (first + t)
shifted first k t le = elim (cases_eq (k - first) t) [
  | inl e ↦ eq-eqb (k - first) t e ∙ sym (eq-eqb k (first + t) (omega (arith, e, le)))
  | inr ne ↦ ne_eqb (k - first) t ne ∙ sym (ne_eqb k (first + t) (λ e. ne (omega (arith, e, le))))
]

module _ (s : FrameShape) (shape : IsFrame s) (old : List Held) (leaves : Leaves) (are : FarLeaves s leaves) (t : ℕ) (known : t < s.tribs) (store new : Held) (at : slice_get old t ≡ Some store) (bits out : List Bool) (mark : Bool)
    (passes : (pieces : List FarPiece) (got : List Bool) (piece : FarPiece) → FarHolds s t pieces got store → length bits ≡ came s t piece → FarPasses s t pieces got piece bits new out mark) (piece : FarPiece) (is : bits ≡ far_bits s t piece) where
  passes_here : (pieces : ℕ → List FarPiece) → FarEach s old pieces → FarPasses s t (pieces t) (bits_of s t (pieces t)) piece bits new out mark
  passes_here pieces each = passes (pieces t) (bits_of s t (pieces t)) piece (each t store known at) (ap length is ∙ far_bits_long s t piece shape)

  got_bits : (pieces : List FarPiece) → bits_of s t (pieces ++ piece ∷ []) ≡ bits_of s t pieces ++ bits
  got_bits pieces = bits_push s t pieces piece ∙ ap (λ v. bits_of s t pieces ++ v) (sym is)

  each_one : (pieces : ℕ → List FarPiece) → FarEach s old pieces → FarEach s (slice_set old t new) (and_pieces pieces (for_trib t (piece ∷ [])))
  each_one pieces each j held lt e = elim (slice_get_set old t j new held e) [
    | inl here ↦
        let P : ℕ → Type 0 = λ i. FarHolds s i (and_pieces pieces (for_trib t (piece ∷ [])) i) (bits_of s i (and_pieces pieces (for_trib t (piece ∷ [])) i)) held in
        let Q : Held → Type 0 = λ h. FarHolds s t (pieces t ++ piece ∷ []) (bits_of s t (pieces t ++ piece ∷ [])) h in
        let R : List Bool → Type 0 = λ v. FarHolds s t (pieces t ++ piece ∷ []) v new in
        subst P (sym here.0) (holds_same s t held _ _ (sym (at_trib pieces t (piece ∷ []))) (subst Q here.1 (subst R (sym (got_bits (pieces t))) (passes_here pieces each).holds)))
    | inr other ↦ holds_same s j held _ _ (sym (at_other pieces t (piece ∷ []) j other.0)) (each j held lt other.1)
  ]

  got_one : (pieces : ℕ → List FarPiece) → FarEach s old pieces → (k : ℕ)
      → far_got s leaves (and_pieces pieces (for_trib t (piece ∷ []))) k ≡ (far_got s leaves pieces k ++ for_leaf (leaves.first + t) out k) ++ only (leaves.marks + t) mark k
  got_one pieces each k =
      let p = passes_here pieces each in
      let smooth_more : smooth_of s t (pieces t ++ piece ∷ []) (bits_of s t (pieces t ++ piece ∷ [])) ≡ smooth_of s t (pieces t) (bits_of s t (pieces t)) ++ out =
      ap (smooth_of s t (pieces t ++ piece ∷ [])) (got_bits (pieces t)) ∙ p.smooth_is in
      elim (cases_Bool (is_from leaves.first s.tribs k)) [
        | inl in_first ↦
            let at = is_from-below leaves.first s.tribs k in_first in
            let x : List Bool = smooth_of s (k - leaves.first) (pieces (k - leaves.first)) (bits_of s (k - leaves.first) (pieces (k - leaves.first))) in
            rw in_first (
            value_one (λ j ps. smooth_of s j ps (bits_of s j ps)) pieces t (piece ∷ []) out smooth_more (k - leaves.first)
            ∙ ap (λ b. x ++ cond b out []) (shifted leaves.first k t at.1.0)
            ∙ sym (append-nil (x ++ cond (eqb k (leaves.first + t)) out []))
            ∙ ap (λ b. (x ++ cond (eqb k (leaves.first + t)) out []) ++ cond b (mark ∷ []) []) (sym (ne_eqb k (leaves.marks + t) (λ e. not_both k at.1.0 at.1.1 (omega (arith, e)) (omega (arith, e, known)))))
            )
        | inr other ↦
            let not_here : eqb k (leaves.first + t) ≡ false = ne_eqb k (leaves.first + t) (λ e. false≢true (sym other ∙ ap (is_from leaves.first s.tribs) e ∙ is_from-at leaves.first s.tribs t known)) in
            rw other (
            elim (cases_Bool (is_from leaves.marks s.tribs k)) [
              | inl in_marks ↦
                  let at = is_from-below leaves.marks s.tribs k in_marks in
                  let x : List Bool = marks_of s (k - leaves.marks) (pieces (k - leaves.marks)) in
                  rw in_marks (
                  value_one (marks_of s) pieces t (piece ∷ []) (mark ∷ []) p.marks_are (k - leaves.marks)
                  ∙ ap (λ b. x ++ cond b (mark ∷ []) []) (shifted leaves.marks k t at.1.0)
                  ∙ ap (λ v. v ++ cond (eqb k (leaves.marks + t)) (mark ∷ []) []) (sym (append-nil x) ∙ ap (λ b. x ++ cond b out []) (sym not_here))
                  )
              | inr neither ↦
                  let not_mark : eqb k (leaves.marks + t) ≡ false = ne_eqb k (leaves.marks + t) (λ e. false≢true (sym neither ∙ ap (is_from leaves.marks s.tribs) e ∙ is_from-at leaves.marks s.tribs t known)) in
                  rw neither (ap (λ b. ([] ++ cond b out []) ++ []) (sym not_here) ∙ ap (λ b. ([] ++ cond (eqb k (leaves.first + t)) out []) ++ cond b (mark ∷ []) []) (sym not_mark))
            ]
            )
      ]
    where
      not_both : (k : ℕ) → leaves.first ≤ k → k < leaves.first + s.tribs → leaves.marks ≤ k → k < leaves.marks + s.tribs → ⊥
      not_both k a b c d = elim are.apart [
        | inl below ↦ omega (arith, b, c, below)
        | inr above ↦ omega (arith, a, d, above)
      ]

  pub one_given : (o p q : Outputs) → Puts (for_leaf (leaves.first + t) out) o p → Puts (only (leaves.marks + t) mark) p q
      → FarGives s (for_trib t (piece ∷ [])) (record { held = old; leaves = leaves }) (record { held = slice_set old t new; leaves = leaves }) o q
  one_given o p q puts_out puts_mark = record {
    same = refl;
    each = each_one;
    gains = λ pieces each.
        let a : ℕ → List Bool = far_got s leaves pieces in
        let b : ℕ → List Bool = λ k. a k ++ for_leaf (leaves.first + t) out k in
        let c : ℕ → List Bool = λ k. b k ++ only (leaves.marks + t) mark k in
        gains_is a c (far_got s leaves (and_pieces pieces (for_trib t (piece ∷ [])))) o q (got_one pieces each)
        (gains_join a b c o p q (record { more = for_leaf (leaves.first + t) out; gained = λ k. refl; puts = puts_out }) (record { more = only (leaves.marks + t) mark; gained = λ k. refl; puts = puts_mark }));
  }

  pub one_begun : (o p : Outputs) → PutsPart (for_leaf (leaves.first + t) out) o p → FarGivesPart s (for_trib t (piece ∷ [])) (record { held = old; leaves = leaves }) o p
  one_begun o p part_out = record {
    gains = λ pieces each.
        let a : ℕ → List Bool = far_got s leaves pieces in
        let b : ℕ → List Bool = λ k. a k ++ for_leaf (leaves.first + t) out k in
        part_after a a b (far_got s leaves (and_pieces pieces (for_trib t (piece ∷ [])))) o o p (gains_nothing a a o (λ k. refl)) (record { more = for_leaf (leaves.first + t) out; gained = λ k. refl; puts = part_out })
        (λ k. (only (leaves.marks + t) mark k, got_one pieces each k));
  }

  pub one_part : (o p q : Outputs) → Puts (for_leaf (leaves.first + t) out) o p → PutsPart (only (leaves.marks + t) mark) p q → FarGivesPart s (for_trib t (piece ∷ [])) (record { held = old; leaves = leaves }) o q
  one_part o p q puts_out part_mark = record {
    gains = λ pieces each.
        let a : ℕ → List Bool = far_got s leaves pieces in
        let b : ℕ → List Bool = λ k. a k ++ for_leaf (leaves.first + t) out k in
        let c : ℕ → List Bool = λ k. b k ++ only (leaves.marks + t) mark k in
        part_after a b c (far_got s leaves (and_pieces pieces (for_trib t (piece ∷ [])))) o p q (record { more = for_leaf (leaves.first + t) out; gained = λ k. refl; puts = puts_out }) (record { more = only (leaves.marks + t) mark; gained = λ k. refl; puts = part_mark })
        (λ k. ([], got_one pieces each k ∙ sym (append-nil (c k))));
  }

-- ---- ready frames

pub frames_push : (ready : List (List Bool)) (n back : ℕ) → n < length ready → length ready - suc back ≡ n → map Frame (take (n + 1) ready) ≡ map Frame (take n ready) ++ Frame (slice_index_or ready (length ready - suc back) []) ∷ []
frames_push ready n back inside is =
    ap (map Frame) (take_more ready n [] inside) ∙ map-append Frame (take n ready) (slice_index_or ready n [] ∷ [])
    ∙ ap (λ i. map Frame (take n ready) ++ Frame (slice_index_or ready i []) ∷ []) (sym is)

pub frames_begin : (ready : List (List Bool)) (n back : ℕ) → n < length ready → length ready - suc back ≡ n → Begins (map Frame (take n ready) ++ Frame (slice_index_or ready (length ready - suc back) []) ∷ []) (map Frame ready)
frames_begin ready n back inside is = (
  map Frame (drop (n + 1) ready),
  ap (map Frame) (sym (take-append-drop (n + 1) ready)) ∙ map-append Frame (take (n + 1) ready) (drop (n + 1) ready) ∙ ap (λ x. x ++ map Frame (drop (n + 1) ready)) (frames_push ready n back inside is),
)

-- ---- steps

pub steps_whole : (step : Step) (ready : List (List Bool)) (gap : ℕ) → step ≡ Rejected → gap ≡ 0 → far_steps step ready gap ≡ Ones ∷ []
steps_whole step ready gap is whole = ap (λ v. far_steps v ready gap) is ∙ ap (λ b. cond b (Ones ∷ []) []) (eq-eqb gap 0 whole)

pub steps_part : (step : Step) (ready : List (List Bool)) (gap : ℕ) → step ≡ Rejected → 0 < gap → far_steps step ready gap ≡ []
steps_part step ready gap is part = ap (λ v. far_steps v ready gap) is ∙ ap (λ b. cond b (Ones ∷ []) []) (ne_eqb gap 0 (λ e. omega (arith, part, e)))

pub steps_aligned : (step : Step) (ready : List (List Bool)) (gap : ℕ) → step ≡ Aligned → far_steps step ready gap ≡ map Frame ready
steps_aligned step ready gap is = ap (λ v. far_steps v ready gap) is

pub steps_frame : (step : Step) (ready : List (List Bool)) (gap : ℕ) → step ≡ FrameStep → far_steps step ready gap ≡ map Frame ready
steps_frame step ready gap is = ap (λ v. far_steps v ready gap) is

pub steps_other : (step : Step) (ready : List (List Bool)) (gap : ℕ) → (step ≡ Rejected → ⊥) → (step ≡ Aligned → ⊥) → (step ≡ FrameStep → ⊥) → far_steps step ready gap ≡ []
steps_other Nothing ready gap a b c = refl
steps_other Lost ready gap a b c = refl
steps_other Rejected ready gap a b c = absurd (a refl)
steps_other Aligned ready gap a b c = absurd (b refl)
steps_other FrameStep ready gap a b c = absurd (c refl)
