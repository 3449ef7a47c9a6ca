-- Many bits of a tributary at once.
use Rattle.std.proofs.Common.{◌≡◌, ℕ, ◌+◌, ◌-◌, ◌<◌, ◌≤◌, Bool, false, List, [], ◌++◌, length, map, take, drop, get_or, refl, sym, ap, ◌∙◌, subst, arith}
use Rattle.std.specs.List.{range_with_len}
use Rattle.std.proofs.lemmas.List.{length-append, map-append, length-drop, take_all}
use Rattle.std.proofs.lemmas.List.FromFn.{get_or-map-range_with_len, length-map-range_with_len}
use Rattle.std.proofs.Math.Seq.{drop-append_seam}
use Rattle.pdh_bits.specs.BitOut.{BoundedBits}
use Rattle.pdh_packed.specs.Gaining.{gained, IsGrown}
use Rattle.pdh_packed.proofs.GainingLaws.{grown_long}
use Rattle.pdh_edge.specs.Ports.{Inputs}
use Rattle.pdh_shape.specs.declared.role.Service.{Service}
use Rattle.pdh_shape.specs.Frame.{FrameShape, idle}
use Rattle.pdh_shape.specs.Tributary.{reads_from, reads_below, turned}
use Rattle.pdh_line.specs.Edits.{edited}
use Rattle.pdh_line.proofs.Ranges.{range_append}
use Rattle.pdh_tx.specs.Meaning.{Meaning, Plan, Supply}
use Rattle.pdh_tx.specs.Held.{IsPart, Held, Readout, Gains}
use Rattle.pdh_tx.specs.Making.{MakesAll}
use Rattle.pdh_runs.specs.Pieces.{FillsColumn}
use Rattle.pdh_runs.proofs.Counts.{before_grows, before_less}
use Rattle.pdh_tx.specs.Passing.{carried_in, HeldAndFilled}
use Rattle.pdh_tx.proofs.NodePieces.{part_of}

-- ---- parts of a line

pub part_then : (line : ℕ → Bool) (xs ys : List Bool) (a b : ℕ) → a + length xs ≡ b → IsPart line xs a → IsPart line ys b → IsPart line (xs ++ ys) a
part_then line xs ys a b e p q =
    sym
    (ap (λ n. map line (range_with_len a n)) (length-append xs ys) ∙ ap (map line) (range_append a (length xs) (length ys))
    ∙ map-append line (range_with_len a (length xs)) (range_with_len (a + length xs) (length ys))
    ∙ ap (λ v. v ++ map line (range_with_len (a + length xs) (length ys))) (sym p)
    ∙ ap (λ t. xs ++ map line (range_with_len t (length ys))) e
    ∙ ap (λ v. xs ++ v) (sym q))

pub part_at : (line : ℕ → Bool) (xs : List Bool) (a i : ℕ) (d : Bool) → IsPart line xs a → i < length xs → get_or xs i d ≡ line (a + i)
part_at line xs a i d p h = ap (λ l. get_or l i d) p ∙ get_or-map-range_with_len line a (length xs) i (a + i) d h refl

drop-map-range : (line : ℕ → Bool) (a k n : ℕ) → drop k (map line (range_with_len a (k + n))) ≡ map line (range_with_len (a + k) n)
drop-map-range line a k n =
    let first : List Bool = map line (range_with_len a k) in
    let long : length first ≡ k = length-map-range line a k in
    ap (λ l. drop k (map line l)) (range_append a k n) ∙ ap (drop k) (map-append line (range_with_len a k) (range_with_len (a + k) n))
    ∙ ap (λ m. drop m (first ++ map line (range_with_len (a + k) n))) (sym long) ∙ drop-append_seam first (map line (range_with_len (a + k) n))
  where
    length-map-range : (line : ℕ → Bool) (a k : ℕ) → length (map line (range_with_len a k)) ≡ k
    length-map-range line a k = length-map-range_with_len line a k

pub part_drop : (line : ℕ → Bool) (xs : List Bool) (a k : ℕ) → k ≤ length xs → IsPart line xs a → IsPart line (drop k xs) (a + k)
part_drop line xs a k h p =
    let n : ℕ = length xs - k in
    let whole : length xs ≡ k + n = omega arith in
    let left : length (drop k xs) ≡ n = (let l = length-drop k xs in omega arith) in
    ap (drop k) (p ∙ ap (λ m. map line (range_with_len a m)) whole) ∙ drop-map-range line a k n ∙ ap (λ m. map line (range_with_len (a + k) m)) (sym left)

-- a column that is filled from a queue is so from the part of a line with which the queue begins
pub fills_part : (s : FrameShape) (j : ℕ) (more : Bool) (first len gone : ℕ) (line : ℕ → Bool) (queue column : List Bool) (from : ℕ) → reads_below s j more first + gone ≡ reads_below s j more (first + len) → gone ≤ length queue
    → IsPart line queue from → FillsColumn s j more first len queue column → FillsColumn s j more first len (map line (range_with_len from gone)) column
fills_part s j more first len gone line queue column from all enough part fills = record {
  carried = λ v i within reads number.
      let less = before_less (λ t. reads_from j more (s.role t)) (first + v) (first + len) reads (omega arith) in
      let few : i < gone = omega (arith, all, number, less) in
      fills.carried v i within reads number
      ∙ ap (turned (s.inverted j)) (part_at line queue from i false part (omega (arith, few, enough)) ∙ sym (get_or-map-range_with_len line from gone i (from + i) false few refl));
  justified = fills.justified;
}

-- ---- a tributary that took many bits of its child, of which many went into their column

module _ {C : Type 0} (stands_at : C → Plan → ℕ → Type 0) (stands_for : C → Supply → ℕ → Type 0) (meaning : C → Meaning) (says : C → Service) (old new : C) (plan : Plan) (store bits : List Bool) (made : ℕ) (out : Readout) (gone : ℕ) where
  -- `column` is filled with what the queue begins with
  pub pass_gains : (a b : Inputs) (to : ℕ) (s : FrameShape) (j : ℕ) (more : Bool) (first len : ℕ) (column : List Bool) → meaning new ≡ meaning old → gone ≤ length (store ++ bits)
      → reads_below s j more first + gone ≡ reads_below s j more (first + len)
      → says old ≡ idle
      → MakesAll (meaning old) (says old) (stands_at new plan) (stands_for old) (stands_for new) plan made to bits a b
      → FillsColumn s j more first len (store ++ bits) column
      → Gains (meaning old) plan (Held stands_for meaning old store) (HeldAndFilled stands_for meaning s j more first len gone new (drop gone (store ++ bits)) column) made to out out a b
  pass_gains a b to s j more first len column same enough all idles makes fills = record {
    given = makes.given;
    takes = makes.gives.takes;
    others = makes.gives.others;
    exact = makes.gives.exact;
    onward = λ supply plan_is was agrees.
        let own : ℕ → Bool = (meaning new).line supply in
        let line : ℕ → Bool = edited out.edits own in
        let next = makes.onward supply (record { plan_is = plan_is; said = λ y l h n e. was.quiet n ∙ sym idles; stands = was.made_for; agrees = agrees }) in
        let P : Meaning → Type 0 = λ m. IsPart (edited out.edits (m.line supply)) store out.read in
        let Q : Meaning → Type 0 = λ m. IsPart (m.line supply) bits made in
        let A : Meaning → Type 0 = λ m. (k : ℕ) → edited out.edits (m.line supply) (out.read + length store + k) ≡ m.line supply (made + k) in
        let ahead : A (meaning new) = subst A (sym same) was.ahead in
        let part : IsPart line bits (out.read + length store) = part_of line bits (out.read + length store) false (λ v h. part_at own bits made v false (subst Q (sym same) next.0) h ∙ sym (ahead v)) in
        let whole : IsPart line (store ++ bits) out.read = part_then line store bits out.read (out.read + length store) refl (subst P (sym same) was.holds) part in (
          record {
            quiet = was.quiet;
            made_for = next.1;
            holds = part_drop line (store ++ bits) out.read gone enough whole;
            ahead = λ k.
                let rest = length-drop gone (store ++ bits) in
                let here : out.read + gone + length (drop gone (store ++ bits)) + k ≡ out.read + length store + (length bits + k) = omega (arith, rest, length-append store bits, enough) in
                let there : made + (length bits + k) ≡ to + k = omega (arith, makes.count) in
                ap line here ∙ ahead (length bits + k) ∙ ap own there;
          },
          fills_part s j more first len gone line (store ++ bits) column out.read all enough whole fills,
        );
  }

-- ---- the queue: what the store held, and behind it what the child gave

module _ (queue none front whole : BoundedBits) (store held : List Bool) (arriving : ℕ) (cleared : none ≡ record queue { bits = [] }) (same : held ≡ store) (held_first : front ≡ record none { bits = none.bits ++ held }) where
  pub front_room : front.capacity ≡ queue.capacity
  front_room = ap (λ (list : BoundedBits). list.capacity) held_first ∙ ap (λ (list : BoundedBits). list.capacity) cleared

  pub front_is : front.bits ≡ store
  front_is = ap (λ (list : BoundedBits). list.bits) held_first ∙ ap (λ (list : BoundedBits). list.bits ++ held) cleared ∙ same

  module _ (grown : IsGrown front whole arriving) where
    pub queue_is : whole.bits ≡ store ++ gained front whole
    queue_is = grown.bits ∙ ap (λ (bits : List Bool). bits ++ gained front whole) front_is

    pub queue_long : length whole.bits ≡ length store + arriving
    queue_long = grown_long front whole arriving grown ∙ ap (λ (bits : List Bool). length bits + arriving) front_is

-- what is left of a list is all that stands behind its front
pub rest_is : (bits : List Bool) (gone : ℕ) → take (length bits - gone) (drop gone bits) ≡ drop gone bits
rest_is bits gone = take_all (length bits - gone) (drop gone bits) (omega (arith, length-drop gone bits))

-- how many slots of a piece carry a bit
pub carried_is : (s : FrameShape) (j : ℕ) (more : Bool) (first len : ℕ) → reads_below s j more first + carried_in s j more first len ≡ reads_below s j more (first + len)
carried_is s j more first len = omega (arith, before_grows (λ t. reads_from j more (s.role t)) first (first + len) (omega arith))
