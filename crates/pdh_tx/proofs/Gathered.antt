-- Many frames of a tributary at once.
use Rattle.std.proofs.Common.{◌≡◌, ℕ, ◌+◌, ◌≤◌, Bool, false, List, ◌++◌, length, map, drop, refl, sym, ap, ◌∙◌, subst, arith}
use Rattle.std.specs.List.{range_with_len}
use Rattle.std.proofs.lemmas.List.{length-append, length-drop, drop-drop}
use Rattle.pdh_edge.specs.Ports.{Inputs}
use Rattle.pdh_shape.specs.Frame.{FrameShape}
use Rattle.pdh_line.specs.Edits.{edited}
use Rattle.pdh_runs.specs.Pieces.{FillsColumn}
use Rattle.pdh_tx.specs.declared.queue.Queue.{Queue}
use Rattle.pdh_tx.specs.declared.tributary.Tributary.{Tributary}
use Rattle.pdh_tx.specs.declared.tx.Tx.{Ghosts}
use Rattle.pdh_tx.specs.Meaning.{Meaning, Plan, Supply}
use Rattle.pdh_tx.specs.Making.{MakesAll}
use Rattle.pdh_tx.specs.Held.{IsPart, Held, Readout, with_read}
use Rattle.pdh_tx.specs.Tributary.{placed_in, held_in}
use Rattle.pdh_tx.specs.Passing.{carried_in}
use Rattle.pdh_tx.specs.Gathered.{IsGathered, HoldsGathered, GathersBits, waiting_in}
use Rattle.pdh_tx.proofs.SlipSteps.{gone-more, put-more}
use Rattle.pdh_tx.proofs.Passing.{part_then, part_at, part_drop, fills_part, carried_is}
use Rattle.pdh_tx.proofs.NodePieces.{part_of}

-- ---- a piece of a frame carries bits of the queue

module _ {C : Type 0} (tx : Ghosts C) (child : C) (old new : Queue) (s : FrameShape) (j : ℕ) (more : Bool) (first len arriving : ℕ) (same : new.bits ≡ old.bits) (gone_is : new.gone ≡ old.gone + carried_in s j more first len) (fill_is : carried_in s j more first len + new.fill ≡ old.fill + arriving) where
  abbrev gone : ℕ
  gone = carried_in s j more first len

  -- as many bits have come and are read
  pub gathered_passes : (plan : Plan) (end made : ℕ) (out : Readout) → old.gone + old.fill + arriving ≤ length old.bits.bits → IsGathered tx child old plan end made out → IsGathered tx child new plan end (made + arriving) (with_read gone out)
  gathered_passes plan end made out held was =
      let long : length new.bits.bits ≡ length old.bits.bits = ap (λ b. length b.bits) same in
      record {
        runs = was.runs;
        idles = was.idles;
        place = was.place;
        within = omega (arith, long, held, gone_is, fill_is);
        rest = omega (arith, long, was.rest, gone_is, fill_is);
        count = omega (arith, gone-more out.edits out.read gone, put-more out.edits made arriving, was.count, fill_is);
      }

  waits : waiting_in new ≡ drop gone (waiting_in old)
  waits = ap (λ b. drop new.gone b.bits) same ∙ ap (λ n. drop n old.bits.bits) gone_is ∙ sym (drop-drop gone old.gone old.bits.bits)

  -- the queue holds what it should, and the column has the bits that are read
  pub gathered_holds : (supply : Supply) (end made : ℕ) (out : Readout) (column : List Bool) → old.gone + old.fill + arriving ≤ length old.bits.bits → FillsColumn s j more first len (waiting_in old) column → HoldsGathered tx child old supply end made out
      → HoldsGathered tx child new supply end (made + arriving) (with_read gone out) × FillsColumn s j more first len (map (edited out.edits ((tx.meaning child).line supply)) (range_with_len out.read gone)) column
  gathered_holds supply end made out column held fills was =
      let line : ℕ → Bool = edited out.edits ((tx.meaning child).line supply) in
      let enough : gone ≤ length (waiting_in old) = omega (arith, fill_is, held, length-drop old.gone old.bits.bits) in (
        record {
          quiet = was.quiet;
          made_for = was.made_for;
          holds = subst (λ (l : List Bool). IsPart line l (out.read + gone)) (sym waits) (part_drop line (waiting_in old) out.read gone enough was.holds);
          ahead = λ k.
              let here : out.read + gone + new.fill + k ≡ out.read + old.fill + (arriving + k) = omega (arith, fill_is) in
              let there : made + (arriving + k) ≡ made + arriving + k = omega arith in
              ap line here ∙ was.ahead (arriving + k) ∙ ap ((tx.meaning child).line supply) there;
        },
        fills_part s j more first len gone line (waiting_in old) column out.read (carried_is s j more first len) enough was.holds fills,
      )

-- ---- the store has what is left of the queue

module _ {C : Type 0} (tx : Ghosts C) (old new : Tributary C) (queue : Queue) (same_child : new.child ≡ old.child) (store : new.store ≡ waiting_in queue) (all : queue.gone + queue.fill ≡ length queue.bits.bits) where
  left_long : length new.store ≡ queue.fill
  left_long = omega (arith, ap length store, length-drop queue.gone queue.bits.bits, all)

  pub scattered_placed : (plan : Plan) (end made : ℕ) (out : Readout) → IsGathered tx old.child queue plan end made out → (end ≡ made) × placed_in tx new plan made out
  scattered_placed plan end made out was =
      let here : end ≡ made = omega (arith, was.rest, all) in (
        here,
        record {
          runs = ap tx.is_stopped same_child ∙ was.runs;
          idles = ap tx.says same_child ∙ was.idles;
          place = subst (λ (c : C). tx.stands_at c plan made) (sym same_child) (subst (λ n. tx.stands_at old.child plan n) here was.place);
          count = omega (arith, was.count, left_long);
        },
      )

  pub scattered_held : (supply : Supply) (end made : ℕ) (out : Readout) → end ≡ made → HoldsGathered tx old.child queue supply end made out → held_in tx new supply made out
  scattered_held supply end made out here was =
      let P : C → Type 0 = λ c. Held tx.stands_for tx.meaning c new.store supply made out in
      subst P (sym same_child)
      (record {
        quiet = was.quiet;
        made_for = subst (λ n. tx.stands_for old.child supply n) here was.made_for;
        holds = subst (λ (l : List Bool). IsPart (edited out.edits ((tx.meaning old.child).line supply)) l out.read) (sym store) was.holds;
        ahead = λ k. ap (edited out.edits ((tx.meaning old.child).line supply)) (omega (arith, left_long)) ∙ was.ahead k;
      })

-- ---- the queue has what the store held, and behind it what the child gave

pub gathers : {C : Type 0} (tx : Ghosts C) (old new : Tributary C) (queue : Queue) (plan : Plan) (count at_once made : ℕ) (out : Readout) (a b : Inputs) (bits : List Bool)
    → tx.meaning new.child ≡ tx.meaning old.child → tx.says new.child ≡ tx.says old.child → tx.is_stopped new.child ≡ false → queue.bits.bits ≡ old.store ++ bits → queue.gone ≡ 0 → queue.fill ≡ length old.store + at_once → length bits ≡ count → at_once ≤ count
    → placed_in tx old plan made out → MakesAll (tx.meaning old.child) (tx.says old.child) (tx.stands_at new.child plan) (tx.stands_for old.child) (tx.stands_for new.child) plan made (made + count) bits a b
    → GathersBits tx old new queue plan count at_once made out a b
gathers tx old new queue plan count at_once made out a b bits same says runs is none fill_is long few was makes =
    let waits : waiting_in queue ≡ old.store ++ bits = ap (λ n. drop n queue.bits.bits) none ∙ is in
    let whole_long = length-append old.store bits in
    record {
      placed = record {
        runs = runs;
        idles = says ∙ was.idles;
        place = makes.place;
        within = omega (arith, none, fill_is, ap length is, whole_long, long, few);
        rest = omega (arith, none, fill_is, ap length is, whole_long, long);
        count = omega (arith, put-more out.edits made at_once, was.count, fill_is);
      };
      gains = record {
        given = makes.given;
        takes = makes.gives.takes;
        others = makes.gives.others;
        exact = makes.gives.exact;
        onward = λ supply plan_is held agrees.
            let own : ℕ → Bool = (tx.meaning new.child).line supply in
            let line : ℕ → Bool = edited out.edits own in
            let next = makes.onward supply (record { plan_is = plan_is; said = λ y l h n e. held.quiet n ∙ sym was.idles; stands = held.made_for; agrees = agrees }) in
            let P : Meaning → Type 0 = λ m. IsPart (edited out.edits (m.line supply)) old.store out.read in
            let Q : Meaning → Type 0 = λ m. IsPart (m.line supply) bits made in
            let A : Meaning → Type 0 = λ m. (k : ℕ) → edited out.edits (m.line supply) (out.read + length old.store + k) ≡ m.line supply (made + k) in
            let ahead : A (tx.meaning new.child) = subst A (sym same) held.ahead in
            let part : IsPart line bits (out.read + length old.store) = part_of line bits (out.read + length old.store) false (λ v h. part_at own bits made v false (subst Q (sym same) next.0) h ∙ sym (ahead v)) in
            let whole : IsPart line (old.store ++ bits) out.read = part_then line old.store bits out.read (out.read + length old.store) refl (subst P (sym same) held.holds) part in
            record {
              quiet = held.quiet;
              made_for = next.1;
              holds = subst (λ (l : List Bool). IsPart line l out.read) (sym waits) whole;
              ahead = λ k.
                  let here : out.read + queue.fill + k ≡ out.read + length old.store + (at_once + k) = omega (arith, fill_is) in
                  let there : made + (at_once + k) ≡ made + at_once + k = omega arith in
                  ap line here ∙ ahead (at_once + k) ∙ ap own there;
            };
      };
    }
