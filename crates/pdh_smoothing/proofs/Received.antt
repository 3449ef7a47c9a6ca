-- What a node of far stores puts to a port that keeps its marks.
use Rattle.std.proofs.Common.{◌≡◌, ◌⊎◌, inl, inr, ℕ, suc, ◌+◌, ◌-◌, ◌<◌, ◌≤◌, cond, nat_lt, leb, ltb, eqb, ◌&&◌, ◌||◌, Bool, true, false, List, [], ◌∷◌, ◌++◌, length, take, replicate, Option, Some, None, refl, sym, ap, subst, ◌∙◌, arith, append_assoc}
use Rattle.std.specs.Prelude.{IsTrue}
use Rattle.std.proofs.lemmas.Bool.{cases_lt, lt-ltb, le-ltb, le-leb, lt-leb, ltb-true, ne_eqb, eq-eqb}
use Rattle.std.proofs.lemmas.List.{take_all, append-nil, length-replicate}
use Rattle.pdh_shape.specs.Frame.{FrameShape, IsFrame}
use Rattle.pdh_line.specs.Paths.{top}
use Rattle.pdh_line.proofs.RightLines.{received-short}
use Rattle.pdh_bits.specs.Bits.{bits_of}
use Rattle.pdh_edge.specs.declared.mem_port.MemPort.{MemPort}
use Rattle.pdh_edge.specs.MemLists.{bits_held, room_of, StaysInRoom}
use Rattle.pdh_edge.specs.Ports.{Inputs, Outputs, Takes, PrefixOf, after, for_leaf}
use Rattle.pdh_edge.proofs.InRoom.{puts_in_room}
use Rattle.pdh_watch.specs.declared.event.Event.{Event}
use Rattle.pdh_rx.specs.Meaning.{Meaning, Gains, GainsPart}
use Rattle.pdh_chain.specs.Muxing.{as_line}
use Rattle.pdh_chain.specs.Demuxing.{Receives, ReceivesFewer, ReceivesPart, IsReceiveStop}
use Rattle.pdh_chain.specs.declared.stop.DemuxStop.{DemuxStop}
use Rattle.pdh_chain.specs.declared.stop.DemuxStop.TheVariants.{Memory, Ended, ReadFailed, WriteFailed}
use Rattle.pdh_chain.proofs.Lists.{takes_no_line}
use Rattle.pdh_desync.specs.FarStore.{smooth, marks}
use Rattle.pdh_desync.specs.Smooth.{is_from, smooth_meaning}
use Rattle.pdh_desync.proofs.SmoothSteps.{marks_none}
use Rattle.pdh_smoothing.specs.Split.{split_outputs, both_faults}
use Rattle.pdh_smoothing.specs.Again.{lists_in, schedule_again}
use Rattle.pdh_smoothing.specs.Smoothing.{lists_put, put_by, SmoothsFewer, SmoothsPart, IsSmoothStop}
use Rattle.pdh_smoothing.specs.Steps.{HasMarkLists, received_by, TakesLine}
use Rattle.pdh_smoothing.proofs.Told.{first_is, second_is, after_then, prefix_then, prefix_whole, prefix_none, held_few, empty_at, rose_of_both}
use Rattle.pdh_smoothing.proofs.Marked.{marks_few}

-- ---- what its lists get

-- the lists from 0 on what comes out of the far stores, and those behind the schedule's the marks
abbrev pub meaning_of : FrameShape → Meaning
meaning_of s = smooth_meaning s top 0 (suc s.tribs)

from-is : (first count k : ℕ) → first ≤ k → k < first + count → is_from first count k ≡ true
from-is first count k h h' = ap (λ b. b && ltb k (first + count)) (le-leb first k h) ∙ lt-ltb k (first + count) h'

from-past : (first count k : ℕ) → first + count ≤ k → is_from first count k ≡ false
from-past first count k h = ap (λ b. leb first k && b) (le-ltb k (first + count) h) ∙ none (leb first k)
  where
    none : (b : Bool) → (b && false) ≡ false
    none true = refl
    none false = refl

from-before : (first count k : ℕ) → k < first → is_from first count k ≡ false
from-before first count k h = ap (λ b. b && ltb k (first + count)) (lt-leb first k h)

-- a tributary's, one behind them, and a mark's
got_first : (s : FrameShape) (line : List Bool) (k : ℕ) → k < s.tribs → (meaning_of s).got line k ≡ smooth s k line
got_first s line k known =
    let at : k - 0 ≡ k = omega arith in
    ap (λ b. cond b (smooth s (k - 0) line) (cond (is_from (suc s.tribs) s.tribs k) (marks s (k - suc s.tribs) line) [])) (from-is 0 s.tribs k (omega arith) (omega (arith, known))) ∙ ap (λ j. smooth s j line) at

got_behind : (s : FrameShape) (line : List Bool) → (meaning_of s).got line s.tribs ≡ []
got_behind s line =
    let k : ℕ = s.tribs in
    ap (λ b. cond b (smooth s (k - 0) line) (cond (is_from (suc s.tribs) s.tribs k) (marks s (k - suc s.tribs) line) [])) (from-past 0 s.tribs k (omega arith))
    ∙ ap (λ b. cond b (marks s (k - suc s.tribs) line) []) (from-before (suc s.tribs) s.tribs k (omega arith))

got_mark : (s : FrameShape) (line : List Bool) (j : ℕ) → j < s.tribs → (meaning_of s).got line (j + suc s.tribs) ≡ marks s j line
got_mark s line j known =
    let k : ℕ = j + suc s.tribs in
    let at : k - suc s.tribs ≡ j = omega arith in
    ap (λ b. cond b (smooth s (k - 0) line) (cond (is_from (suc s.tribs) s.tribs k) (marks s (k - suc s.tribs) line) [])) (from-past 0 s.tribs k (omega arith))
    ∙ ap (λ b. cond b (marks s (k - suc s.tribs) line) []) (from-is (suc s.tribs) s.tribs k (omega arith) (omega (arith, known)))
    ∙ ap (λ i. marks s i line) at

-- so the first ones get
pub got_is : (s : FrameShape) (line : List Bool) (k : ℕ) → k < suc s.tribs → (meaning_of s).got line k ≡ received_by s line k
got_is s line k known = elim (cases_lt k s.tribs) [
  | inl first ↦ got_first s line k first ∙ ap (λ b. cond b (smooth s k line) []) (sym (lt-ltb k s.tribs first))
  | inr past ↦
      let at : s.tribs ≡ k = omega (arith, known, past) in
      ap ((meaning_of s).got line) (sym at) ∙ got_behind s line ∙ ap (λ b. cond b (smooth s k line) []) (sym (le-ltb k s.tribs past))
]

-- nothing before the first bit
smooth_none : (s : FrameShape) (j : ℕ) → IsFrame s → smooth s j [] ≡ []
unfolding smooth
smooth_none s j shape = ap (take _) (received-short s j [] shape (omega (arith, shape.some_slots))) ∙ take_all _ [] (omega arith)

got_none : (s : FrameShape) (k : ℕ) → IsFrame s → (meaning_of s).got [] k ≡ []
got_none s k shape =
    let a : Bool = is_from 0 s.tribs k in
    let b : Bool = is_from (suc s.tribs) s.tribs k in
    ap (λ v. cond a v (cond b (marks s (k - suc s.tribs) []) [])) (smooth_none s (k - 0) shape) ∙ ap (λ v. cond a [] (cond b v [])) (marks_none s (k - suc s.tribs) shape) ∙ none a b
  where
    none : (a b : Bool) → cond {A = List Bool} a [] (cond b [] []) ≡ []
    none true b = refl
    none false true = refl
    none false false = refl

-- a leaf is one of these lists
pub leaf_is : (s : FrameShape) (k : ℕ) → (meaning_of s).leaves k ≡ true → (k < s.tribs) ⊎ ((j : ℕ) × (j < s.tribs) × (k ≡ j + suc s.tribs))
leaf_is s k is = elim (cases_lt k s.tribs) [
  | inl first ↦ inl first
  | inr past ↦ elim (cases_lt k (suc s.tribs)) [
    | inl at ↦ absurd (no (sym is ∙ neither (from-past 0 s.tribs k (omega (arith, past))) (from-before (suc s.tribs) s.tribs k at)))
    | inr behind ↦ elim (cases_lt k (suc s.tribs + s.tribs)) [
      | inl inside ↦ inr (k - suc s.tribs, omega (arith, behind, inside), omega (arith, behind))
      | inr far ↦ absurd (no (sym is ∙ neither (from-past 0 s.tribs k (omega (arith, past))) (from-past (suc s.tribs) s.tribs k far)))
    ]
  ]
]
  where
    no : true ≡ false → ⊥
    no e = cc

    neither : is_from 0 s.tribs k ≡ false → is_from (suc s.tribs) s.tribs k ≡ false → (meaning_of s).leaves k ≡ false
    neither a b = ap (λ v. v || is_from (suc s.tribs) s.tribs k) a ∙ b

-- ---- the lists for marks

pub marks_held : (s : FrameShape) (bits : ℕ) (kept : MemPort) → HasMarkLists s bits kept → (j : ℕ) → j < s.tribs → IsTrue ((lists_in kept).holds j)
marks_held s bits kept has j known = ap (λ (o : Outputs). o.holds j) has.lists ∙ lt-ltb j (length (replicate s.tribs [])) (omega (arith, known, length-replicate {A = List Bool} s.tribs []))

-- ---- what is told of the lists then

module _ (s : FrameShape) (shape : IsFrame s) (given : List Bool) (old new : Outputs) where
  more_is : (more : List Bool) (k : ℕ) → (meaning_of s).got given k ≡ (meaning_of s).got [] k ++ more → more ≡ (meaning_of s).got given k
  more_is more k gained = sym (ap (λ l. l ++ more) (got_none s k shape)) ∙ sym gained

  all_told : Gains ((meaning_of s).got []) ((meaning_of s).got given) old new → (k : ℕ) → new.told k ≡ after ((meaning_of s).got given k) (old.told k)
  all_told gains k = gains.puts k ∙ ap (λ bits. after bits (old.told k)) (more_is (gains.more k) k (gains.gained k))

  part_told : GainsPart ((meaning_of s).got []) ((meaning_of s).got given) old new → (k : ℕ) → PrefixOf ((meaning_of s).got given k) (old.told k) (new.told k)
  part_told gains k = subst (λ bits. PrefixOf bits (old.told k) (new.told k)) (more_is (gains.more k) k (gains.gained k)) (gains.puts k)

-- the lists of the port and those that are kept
module _ (s : FrameShape) (shape : IsFrame s) (bits : ℕ) (first first' : Outputs) (kept kept' : MemPort) (has : HasMarkLists s bits kept) where
  abbrev before : Outputs
  before = split_outputs (suc s.tribs) first (lists_in kept)

  abbrev now : Outputs
  now = split_outputs (suc s.tribs) first' (lists_in kept')

  kept_empty : (j : ℕ) → j < s.tribs → (lists_in kept).told j ≡ Some []
  kept_empty j known = ap (λ (o : Outputs). o.told j) has.lists ∙ empty_at s.tribs j [] known

  kept_held : (lists_in kept').holds ≡ (lists_in kept).holds → (j : ℕ) → j < s.tribs → IsTrue ((lists_in kept').holds j)
  kept_held same j known = ap (λ h. h j) same ∙ marks_held s bits kept has j known

  first_told : (given : List Bool) → ((k : ℕ) → now.told k ≡ after ((meaning_of s).got given k) (before.told k)) → (k : ℕ) → k < suc s.tribs → first'.told k ≡ after (received_by s given k) (first.told k)
  first_told given told k known =
      sym (first_is (suc s.tribs) first'.told (lists_in kept').told k known) ∙ told k ∙ ap (after ((meaning_of s).got given k)) (first_is (suc s.tribs) first.told (lists_in kept).told k known)
      ∙ ap (λ xs. after xs (first.told k)) (got_is s given k known)

  first_part : (given : List Bool) → ((k : ℕ) → PrefixOf ((meaning_of s).got given k) (before.told k) (now.told k)) → (k : ℕ) → k < suc s.tribs → PrefixOf (received_by s given k) (first.told k) (first'.told k)
  first_part given told k known =
      subst (λ xs. PrefixOf xs (first.told k) (first'.told k)) (got_is s given k known)
      (subst (λ was. PrefixOf ((meaning_of s).got given k) was (first'.told k)) (first_is (suc s.tribs) first.told (lists_in kept).told k known)
      (subst (λ is. PrefixOf ((meaning_of s).got given k) (before.told k) is) (first_is (suc s.tribs) first'.told (lists_in kept').told k known) (told k)))

  kept_told : (given : List Bool) → ((k : ℕ) → now.told k ≡ after ((meaning_of s).got given k) (before.told k)) → (j : ℕ) → j < s.tribs → (lists_in kept').told j ≡ Some (marks s j given)
  kept_told given told j known =
      sym (second_is (suc s.tribs) first'.told (lists_in kept').told j) ∙ told (j + suc s.tribs)
      ∙ ap (after ((meaning_of s).got given (j + suc s.tribs))) (second_is (suc s.tribs) first.told (lists_in kept).told j ∙ kept_empty j known)
      ∙ ap Some (got_mark s given j known)

  kept_part : (given : List Bool) → ((k : ℕ) → PrefixOf ((meaning_of s).got given k) (before.told k) (now.told k)) → (j : ℕ) → j < s.tribs → PrefixOf (marks s j given) (Some []) ((lists_in kept').told j)
  kept_part given told j known =
      subst (λ xs. PrefixOf xs (Some []) ((lists_in kept').told j)) (got_mark s given j known)
      (subst (λ was. PrefixOf ((meaning_of s).got given (j + suc s.tribs)) was ((lists_in kept').told j)) (second_is (suc s.tribs) first.told (lists_in kept).told j ∙ kept_empty j known)
      (subst (λ is. PrefixOf ((meaning_of s).got given (j + suc s.tribs)) (before.told (j + suc s.tribs)) is) (second_is (suc s.tribs) first'.told (lists_in kept').told j) (told (j + suc s.tribs))))

  -- no put of a mark failed
  kept_unfailed : (given : List Bool) → length given ≤ bits → (lists_in kept').holds ≡ (lists_in kept).holds → StaysInRoom kept.outputs.items kept'.outputs.items kept.faults kept'.faults
      → ((k : ℕ) → PrefixOf ((meaning_of s).got given k) (before.told k) (now.told k)) → kept'.faults ≡ 0
  kept_unfailed given upto same stays told = puts_in_room kept kept' stays few ∙ has.unfailed
    where
      known_of : (k : ℕ) → IsTrue ((lists_in kept').holds k) → k < s.tribs
      known_of k held =
          let inside : k < length (replicate s.tribs []) = ltb-true k (length (replicate s.tribs [])) (sym (ap (λ (o : Outputs). o.holds k) has.lists) ∙ sym (ap (λ h. h k) same) ∙ held) in
          omega (arith, inside, length-replicate {A = List Bool} s.tribs [])

      few : (k : ℕ) → IsTrue ((lists_in kept').holds k) → bits_held (lists_in kept') k < room_of kept k
      few k held =
          let known = known_of k held in
          omega (arith, held_few (marks s k given) ((lists_in kept').told k) (kept_part given told k known), marks_few s k bits given shape upto, has.room k known)

  -- ---- a line that came

  pub line_taken : (stands : List Bool → Type 0) (sees : List Event → Type 0) (inputs inputs_now : Inputs) → (lists_in kept').holds ≡ (lists_in kept).holds
      → Receives (meaning_of s) stands sees bits inputs inputs_now before now → TakesLine s bits stands (lists_in kept') inputs inputs_now first first'
  line_taken stands sees inputs inputs_now same receives =
      let told = all_told s shape receives.given before now receives.gains in
      record {
        given = receives.given;
        count = receives.count;
        stood = receives.stood;
        takes = receives.takes;
        puts = first_told receives.given told;
        held = kept_held same;
        marked = kept_told receives.given told;
      }

  pub whole_unfailed : (stands : List Bool → Type 0) (sees : List Event → Type 0) (inputs inputs_now : Inputs) → (lists_in kept').holds ≡ (lists_in kept).holds
      → StaysInRoom kept.outputs.items kept'.outputs.items kept.faults kept'.faults → Receives (meaning_of s) stands sees bits inputs inputs_now before now → kept'.faults ≡ 0
  whole_unfailed stands sees inputs inputs_now same stays receives =
      kept_unfailed receives.given (omega (arith, receives.count)) same stays (λ k. prefix_whole _ _ _ (all_told s shape receives.given before now receives.gains k))

  -- ---- or didn't

  -- short of its end nothing is put behind the tributaries' lists
  short_list : (given : List Bool) (k : ℕ) → length given < bits → put_by s bits given k ≡ received_by s given k
  short_list given k short = ap (λ b. cond (nat_lt k s.tribs) (smooth s k given) (cond b (bits_of (schedule_again s given)) [])) (ne_eqb (length given) bits (λ e. omega (arith, e, short)))

  pub fewer_taken : (sees : List Event → Type 0) (inputs inputs_now : Inputs) → ReceivesFewer (meaning_of s) sees bits inputs inputs_now before now → SmoothsFewer (s ∷ []) bits inputs inputs_now first first'
  fewer_taken sees inputs inputs_now receives =
      let told = all_told s shape receives.given before now receives.gains in
      record {
        given = receives.given;
        fewer = receives.fewer;
        line = record {
          takes = receives.takes;
          puts = λ k known. first_told receives.given told k (omega (arith, known)) ∙ ap (λ xs. after xs (first.told k)) (sym (short_list receives.given k receives.fewer));
        };
      }

  -- what was put is a prefix of what the lists get, also where all bits came
  longer_list : (given : List Bool) (k : ℕ) (told now : Option (List Bool)) → k < suc s.tribs → PrefixOf (received_by s given k) told now → PrefixOf (put_by s bits given k) told now
  longer_list given k told now known h = elim (cases_lt k s.tribs) [
    | inl first ↦
        let same : received_by s given k ≡ put_by s bits given k = ap (λ b. cond b (smooth s k given) []) (lt-ltb k s.tribs first) ∙ sym (ap (λ b. cond b (smooth s k given) (cond (eqb (length given) bits) (bits_of (schedule_again s given)) [])) (lt-ltb k s.tribs first)) in
        subst (λ xs. PrefixOf xs told now) same h
    | inr past ↦
        let none : received_by s given k ≡ [] = ap (λ b. cond b (smooth s k given) []) (le-ltb k s.tribs past) in
        longer_none (put_by s bits given k) told now (subst (λ xs. PrefixOf xs told now) none h)
  ]
    where
      longer_none : (xs : List Bool) (told now : Option (List Bool)) → PrefixOf [] told now → PrefixOf xs told now
      longer_none xs None None h = tt
      longer_none xs None (Some now) h = h
      longer_none xs (Some list) None h = h
      longer_none xs (Some list) (Some now) h = (h.0 ++ xs, sym (ap (λ v. v ++ xs) (append-nil list)) ∙ ap (λ v. v ++ xs) h.1 ∙ append_assoc now h.0 xs)

  pub part_taken : (sees : List Event → Type 0) (inputs inputs_now : Inputs) → ReceivesPart (meaning_of s) sees bits inputs inputs_now before now → SmoothsPart (s ∷ []) bits inputs inputs_now first first'
  part_taken sees inputs inputs_now receives =
      let told = part_told s shape receives.given before now receives.gains in
      record {
        given = receives.given;
        upto = receives.upto;
        takes = receives.takes;
        puts = λ k known. longer_list receives.given k (first.told k) (first'.told k) (omega (arith, known)) (first_part receives.given told k (omega (arith, known)));
      }

  -- why it didn't, by the counts of the port and of both
  pub stop_taken : (sees : List Event → Type 0) (inputs inputs_now : Inputs) (reads reads_now a b : ℕ) (stop : DemuxStop) → (lists_in kept').holds ≡ (lists_in kept).holds
      → StaysInRoom kept.outputs.items kept'.outputs.items kept.faults kept'.faults
      → IsReceiveStop (meaning_of s) sees bits inputs inputs_now before now reads reads_now (both_faults a kept.faults) (both_faults b kept'.faults) stop
      → IsSmoothStop (s ∷ []) bits inputs inputs_now first first' reads reads_now a b stop × (kept'.faults ≡ 0)
  stop_taken sees inputs inputs_now reads reads_now a b Memory same stays why = absurd why
  stop_taken sees inputs inputs_now reads reads_now a b Ended same stays why = (
    (why.0, why.1, fewer_taken sees inputs inputs_now why.2),
    kept_unfailed why.2.given (omega (arith, why.2.fewer)) same stays (λ k. prefix_whole _ _ _ (all_told s shape why.2.given before now why.2.gains k)),
  )
  stop_taken sees inputs inputs_now reads reads_now a b ReadFailed same stays why = (
    (why.0, fewer_taken sees inputs inputs_now why.1),
    kept_unfailed why.1.given (omega (arith, why.1.fewer)) same stays (λ k. prefix_whole _ _ _ (all_told s shape why.1.given before now why.1.gains k)),
  )
  stop_taken sees inputs inputs_now reads reads_now a b WriteFailed same stays why =
      let unfailed = kept_unfailed why.1.given why.1.upto same stays (part_told s shape why.1.given before now why.1.gains) in
      ((rose_of_both a b kept.faults kept'.faults has.unfailed unfailed why.0, part_taken sees inputs inputs_now why.1), unfailed)

-- nothing was taken or put
pub nothing_taken : (s : FrameShape) (bits : ℕ) (inputs inputs_now : Inputs) (outputs outputs_now : Outputs) → inputs_now ≡ inputs → ((k : ℕ) → k < lists_put (s ∷ []) → outputs_now.told k ≡ outputs.told k) → SmoothsPart (s ∷ []) bits inputs inputs_now outputs outputs_now
nothing_taken s bits inputs inputs_now outputs outputs_now same told = record {
  given = [];
  upto = omega arith;
  takes = subst (Takes (as_line []) inputs) (sym same) (takes_no_line inputs);
  puts = λ k known. subst (λ now. PrefixOf (put_by s bits [] k) (outputs.told k) now) (sym (told k known)) (prefix_none (put_by s bits [] k) (outputs.told k));
}

-- ---- and then the schedule

-- what the lists get in all
whole_list : (s : FrameShape) (bits : ℕ) (given : List Bool) (k : ℕ) → length given ≡ bits → k < suc s.tribs → received_by s given k ++ for_leaf s.tribs (bits_of (schedule_again s given)) k ≡ put_by s bits given k
whole_list s bits given k count known = elim (cases_lt k s.tribs) [
  | inl first ↦
      let other : for_leaf s.tribs (bits_of (schedule_again s given)) k ≡ [] = ap (λ b. cond b (bits_of (schedule_again s given)) []) (ne_eqb k s.tribs (λ e. omega (arith, e, first))) in
      ap (λ xs. received_by s given k ++ xs) other ∙ append-nil (received_by s given k) ∙ ap (λ b. cond b (smooth s k given) []) (lt-ltb k s.tribs first)
      ∙ sym (ap (λ b. cond b (smooth s k given) (cond (eqb (length given) bits) (bits_of (schedule_again s given)) [])) (lt-ltb k s.tribs first))
  | inr past ↦
      let at : k ≡ s.tribs = omega (arith, known, past) in
      ap (λ b. cond b (smooth s k given) [] ++ for_leaf s.tribs (bits_of (schedule_again s given)) k) (le-ltb k s.tribs past)
      ∙ ap (λ b. cond b (bits_of (schedule_again s given)) []) (eq-eqb k s.tribs at)
      ∙ sym (ap (λ b. cond b (smooth s k given) (cond (eqb (length given) bits) (bits_of (schedule_again s given)) [])) (le-ltb k s.tribs past)
      ∙ ap (λ b. cond b (bits_of (schedule_again s given)) []) (eq-eqb (length given) bits count))
]

pub all_put : (s : FrameShape) (bits : ℕ) (given : List Bool) (k : ℕ) (was mid last : Option (List Bool)) → length given ≡ bits → k < suc s.tribs → mid ≡ after (received_by s given k) was
    → last ≡ after (for_leaf s.tribs (bits_of (schedule_again s given)) k) mid → last ≡ after (put_by s bits given k) was
all_put s bits given k was mid last count known first then =
    then ∙ ap (after (for_leaf s.tribs (bits_of (schedule_again s given)) k)) first ∙ after_then (received_by s given k) (for_leaf s.tribs (bits_of (schedule_again s given)) k) was
    ∙ ap (λ xs. after xs was) (whole_list s bits given k count known)

pub part_put : (s : FrameShape) (bits : ℕ) (given : List Bool) (k : ℕ) (was mid last : Option (List Bool)) → length given ≡ bits → k < suc s.tribs → mid ≡ after (received_by s given k) was
    → PrefixOf (for_leaf s.tribs (bits_of (schedule_again s given)) k) mid last → PrefixOf (put_by s bits given k) was last
part_put s bits given k was mid last count known first then =
    subst (λ xs. PrefixOf xs was last) (whole_list s bits given k count known)
    (prefix_then (received_by s given k) (for_leaf s.tribs (bits_of (schedule_again s given)) k) was last (subst (λ t. PrefixOf (for_leaf s.tribs (bits_of (schedule_again s given)) k) t last) first then))
